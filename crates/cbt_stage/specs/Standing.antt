-- What the calls of a put are, newest first, as far as it has come.
use Rattle.std.specs.Prelude.{◌≡◌, ℕ, suc, ◌+◌, ◌%◌, ◌≤◌, ◌⊎◌, true, false, List, [], ◌∷◌, count_by, length, Some, None}
use Rattle.cbt_base.specs.Ids.{fnv_1a}
use Rattle.cbt_model.specs.declared.entries.Entry.{Entry}
use Rattle.cbt_model.specs.declared.events.Made.{Made}
use Rattle.cbt_book.specs.Calls.{reads_doc, reads_entry, adds_entry, writes_doc, MayWrite, WriteTerms}
use Rattle.cbt_book.specs.Outcomes.{AskedFourTimes, DoneAt, EndsFailed, is_refusal}
use Rattle.cbt_book.specs.OwnLists.{Once, Each}
use Rattle.cbt_book.specs.Shown.{ReadsEntry, FindsNoEntry, AddsEntry}
use Rattle.cbt_book.specs.declared.operations.When.TheVariants as when
use Rattle.cbt_stage.specs.OpenPuts.{LeavesOpen}
use Rattle.cbt_stage.specs.Phases.{calls_left, end_in, end_of}
use Rattle.cbt_stage.specs.Tasks.{stages}
use Rattle.cbt_stage.specs.declared.ends.PutEnd.{PutEnd}
use Rattle.cbt_stage.specs.declared.ends.PutEnd.TheVariants.{Staged, Unstaged, Blocked, Moved, CallFailed}
use Rattle.cbt_stage.specs.declared.phases.Phase.{Phase}
use Rattle.cbt_stage.specs.declared.phases.Phase.TheVariants.{Asking, Adding, Staging, Ended}
use Rattle.cbt_stage.specs.declared.puts.Put.{Put}
use Rattle.cbt_stage.specs.declared.tasks.Task.{Task}

-- a task is of an attempt that writes under these terms
pub record IsUnder (t : WriteTerms) (o : Task) : Type 0 where
  pub id_is : o.attempt ≡ t.id
  pub hold_is : o.exp ≡ t.hold
  pub atr_is : o.sent ≡ false → o.atr ≡ fnv_1a o.doc % t.atrs

-- the write of attempt `by` waited in the document when it was read, and its entry may still have been there
pub record Waits (o : Task) (r by : ℕ) : Type 0 where
  pub staged_by : o.seen.by ≡ Some (r, by)
  pub there : o.seen.gone ≡ false

-- each call was a reading of that entry that showed it, and it may be shown `left` times more before the put ends
pub record WasAsked (o : Task) (r by left : ℕ) (mine : List Made) : Type 0 where
  pub waits : Waits o r by
  pub shown : Each (λ m _. (e : Entry) × ReadsEntry r by e m) mine
  pub count : length mine + left ≡ 3

-- nobody is in the way: the entry of an attempt whose write waited in the document was found to be gone
abbrev pub IsFree : Task → List Made → Type 0
IsFree o mine = (r by : ℕ) → Waits o r by → Once (λ m _. FindsNoEntry r by m) mine

-- nobody is in the way, and the attempt has sent no entry
pub record MayEnter (o : Task) (mine : List Made) : Type 0 where
  pub unsent : o.sent ≡ false
  pub free : IsFree o mine

-- nobody is in the way, and the attempt's entry was sent before or is there by an own call
pub record HasEntered (o : Task) (mine : List Made) : Type 0 where
  pub entered : (o.sent ≡ true) ⊎ Once (λ m _. AddsEntry o.atr o.attempt m) mine
  pub free : IsFree o mine

-- the newest call was the staging of the write, and was answered so
pub record EndsStaging (o : Task) (P : Made → Type 0) (mine : List Made) : Type 0 where
  pub newest : Made
  pub older : List Made
  pub calls_are : mine ≡ newest ∷ older
  pub stages_write : newest.step ≡ stages o
  pub answered : P newest

-- four calls showed the entry of `by`, whose write waited in the document, and there were no others
pub record EndsBlocked (o : Task) (by : ℕ) (mine : List Made) : Type 0 where
  pub atr : ℕ
  pub waits : Waits o atr by
  pub asked : AskedFourTimes atr by [] mine

-- a put ended so by its calls
abbrev pub EndsBy : Task → PutEnd → List Made → Type 0
EndsBy o (Staged place base) mine = (base ≡ when.At o.seen.moment) × EndsStaging o (DoneAt place) mine
EndsBy o (Unstaged place) mine = ⊥
EndsBy o (Blocked by) mine = EndsBlocked o by mine
EndsBy o Moved mine = EndsStaging o (λ m. is_refusal m.answer.reply ≡ true) mine
EndsBy o (CallFailed place) mine = EndsFailed place mine

-- what a phase tells of the calls
abbrev pub Knows : Task → Phase → List Made → Type 0
Knows o (Asking r by left) mine = WasAsked o r by left mine
Knows o Adding mine = MayEnter o mine
Knows o Staging mine = HasEntered o mine
Knows o (Ended end) mine = EndsBy o end mine

-- how many readings of an entry a phase leaves
abbrev pub entries_left : Phase → ℕ
entries_left (Asking r by left) = suc left
entries_left _ = 0

-- how many own entries a phase leaves to be sent
abbrev pub adds_left : Phase → ℕ
adds_left (Asking r by left) = 1
adds_left Adding = 1
adds_left _ = 0

-- the calls are those of a put, with room for those that a phase leaves
pub record HasRoom (t : WriteTerms) (d : List ℕ) (p : Phase) (mine : List Made) : Type 0 where
  pub only : Each (λ m _. MayWrite t d m.step) mine
  pub unread : Each (λ m _. reads_doc m.step ≡ false) mine
  pub entries : count_by (λ m. reads_entry m.step) mine + entries_left p ≤ 4
  pub added : count_by (λ m. adds_entry m.step) mine + adds_left p ≤ 1
  pub written_last : Each (λ m before. ¬ Once (λ n _. writes_doc n.step ≡ true) before) mine
  pub unwritten : end_in p ≡ None → ¬ Once (λ n _. writes_doc n.step ≡ true) mine

-- these are the calls of a put of an attempt that writes under these terms
pub record StandsFor (t : WriteTerms) (put : Put) (mine : List Made) : Type 0 where
  pub under : IsUnder t put.task
  pub knows : Knows put.task put.phase mine
  pub room : HasRoom t put.task.doc put.phase mine
  pub few : length mine + calls_left put ≤ 6
  pub going : end_of put ≡ None → Each (λ m _. LeavesOpen put.task m) mine
