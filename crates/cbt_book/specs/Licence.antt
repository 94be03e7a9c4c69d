-- The licence: which step an actor may make next, by its own list alone. "Shown" means by an earlier answer in this list; an
-- answer Failed shows nothing. Readings need no licence.
use Rattle.std.specs.Prelude.{◌≡◌, ◌≢◌, ℕ, ◌≤◌, ◌⊎◌, ◌↔◌, true, false, List, [], ◌∷◌, length, Option, Some, None}
use Rattle.std.specs.List.Sorted.{IsStrictlyIncreasing}
use Rattle.cbt_json.specs.declared.value.Json.{Json}
use Rattle.cbt_model.specs.History.{is_done, commits}
use Rattle.cbt_model.specs.View.{IsExpired}
use Rattle.cbt_model.specs.declared.documents.OpKind.{OpKind}
use Rattle.cbt_model.specs.declared.documents.OpKind.TheVariants.{Insert, Replace, Remove}
use Rattle.cbt_model.specs.declared.documents.Stage.{Stage}
use Rattle.cbt_model.specs.declared.entries.ClientRow.{ClientRow}
use Rattle.cbt_model.specs.declared.entries.Entry.{Entry}
use Rattle.cbt_model.specs.declared.entries.EntryState.TheVariants.{Committed}
use Rattle.cbt_model.specs.declared.entries.Lists.{Lists}
use Rattle.cbt_model.specs.declared.events.Made.{Made}
use Rattle.cbt_model.specs.declared.steps.Expect.{Expect}
use Rattle.cbt_model.specs.declared.steps.Expect.TheVariants as expect
use Rattle.cbt_model.specs.declared.steps.Reply.TheVariants as reply
use Rattle.cbt_model.specs.declared.steps.Step.{Step}
use Rattle.cbt_model.specs.declared.steps.Step.TheVariants as step
use Rattle.cbt_book.specs.Numbers.{Identity, client_of}
use Rattle.cbt_book.specs.OwnLists.{Once, Kept, In}
use Rattle.cbt_book.specs.Shares.{inactive}
use Rattle.cbt_book.specs.Shown.{ReadsDoc, FindsNoDoc, StagesAt, ShowsStaged, ReadsEntry, FindsNoEntry, ReadsRecord, ShowsCommitted, ShowsAborted, adds, aborts, decides, AddsEntry}

-- the documents that lists name under a kind of write
abbrev pub listed : OpKind → Lists → List (List ℕ)
listed Insert lists = lists.ins
listed Replace lists = lists.rep
listed Remove lists = lists.rem

-- lists name a document, under some kind
abbrev pub IsListed : List ℕ → Lists → Type 0
IsListed d lists = (k : OpKind) × In d (listed k lists)

-- document d is shown staged by attempt a at CAS x
abbrev pub WasStaged : ℕ → List ℕ → ℕ → List Made → Type 0
WasStaged a d x past = Once (λ m _. (stage : Stage) × (stage.attempt ≡ a) × ShowsStaged d x stage m) past

-- a step that takes a staging off document d, over CAS x
pub data Unstages (d : List ℕ) (x : ℕ) (st : Step) : Type 0 where
  publishes : (body : Json) → st ≡ step.Publish d x body → Unstages d x st
  deletes : st ≡ step.Delete d x → Unstages d x st
  unsticks : st ≡ step.Unstick d x → Unstages d x st

-- a staging of document d by attempt a, with this kind
abbrev pub StagesFor : ℕ → OpKind → List ℕ → Made → Type 0
StagesFor a k d m = (e : Expect) × (stage : Stage) × (m.step ≡ step.Stage d e stage) × (stage.attempt ≡ a) × (stage.kind ≡ k)

-- a staging of document d by attempt a that is in the document, or may be: it was answered Done or Failed
abbrev pub MayHaveStaged : ℕ → List ℕ → Made → Type 0
MayHaveStaged a d m = ((k : OpKind) × StagesFor a k d m) × ((is_done m.answer.reply ≡ true) ⊎ (m.answer.reply ≡ reply.Failed))

-- a staging of document d by attempt a, or an unstick of what a staged there
pub data WritesFor (a : ℕ) (d : List ℕ) (m : Made) (past : List Made) : Type 0 where
  stages : (k : OpKind) → StagesFor a k d m → WritesFor a d m past
  unsticks_own : (x : ℕ) → m.step ≡ step.Unstick d x → WasStaged a d x past → WritesFor a d m past

-- the same, answered otherwise than Done
abbrev pub WritesInVain : ℕ → Made → List Made → Type 0
WritesInVain a m past = ((d : List ℕ) × WritesFor a d m past) × (is_done m.answer.reply ≡ false)

-- an entry may be added once, for an own attempt
pub record MayAdd (who : Identity) (past : List Made) (a : ℕ) : Type 0 where
  pub own : client_of a ≡ who.number
  pub first : ¬ Once (λ m _. adds m.step ≡ Some a) past

-- what a staging may stand over: nothing; a CAS that was shown without a staging; a CAS of its own attempt's staging; or a CAS
-- that was shown staged by an attempt whose entry was not there afterwards
pub data MayStand (past : List Made) (d : List ℕ) (a : ℕ) (e : Expect) : Type 0 where
  on_nothing : e ≡ expect.New → MayStand past d a e
  on_unstaged : (x : ℕ) → e ≡ expect.Cas x → Once (λ m _. (body : Option Json) × ReadsDoc d x body None m) past → MayStand past d a e
  on_own : (x : ℕ) → e ≡ expect.Cas x → Once (λ m _. (stage : Stage) × (stage.attempt ≡ a) × StagesAt d x stage m) past → MayStand past d a e
  on_dead : (x : ℕ) (stage : Stage) → e ≡ expect.Cas x
      → Once (λ m before. FindsNoEntry stage.atr stage.attempt m × Once (λ n _. (body : Option Json) × ReadsDoc d x body (Some stage) n) before) past
      → MayStand past d a e

-- a document may be staged while the attempt's entry stands in the same record, and before it is decided
pub record MayStage (past : List Made) (d : List ℕ) (e : Expect) (stage : Stage) : Type 0 where
  pub added : Once (λ m _. AddsEntry stage.atr stage.attempt m) past
  pub undecided : ¬ Once (λ m _. decides m.step ≡ Some stage.attempt) past
  pub over : MayStand past d stage.attempt e

-- each own commit of the attempt was answered Failed or Decided, and its entry, read after the last of them, is not committed
pub record CommitsUnsettled (past : List Made) (r a : ℕ) : Type 0 where
  pub unanswered : ¬ Once (λ m _. (commits m.step ≡ Some a) × (m.answer.reply ≢ reply.Failed) × (m.answer.reply ≢ reply.Decided)) past
  pub read : Once (λ m _. commits m.step ≡ Some a) past
      → Kept (λ m _. (e : Entry) × ReadsEntry r a e m × (e.state ≢ Committed)) (λ m _. commits m.step ≡ Some a) past

-- an attempt may be committed where its entry was added, all that it wrote since was answered Done, and the lists name by kind
-- exactly the documents whose last write is a staging
pub record MayCommit (past : List Made) (r a : ℕ) (lists : Lists) : Type 0 where
  pub written : Kept (λ m _. AddsEntry r a m) (WritesInVain a) past
  pub unaborted : ¬ Once (λ m _. aborts m.step ≡ Some a) past
  pub named : (k : OpKind) (d : List ℕ) → In d (listed k lists) ↔ Kept (λ m _. StagesFor a k d m) (WritesFor a d) past
  pub again : CommitsUnsettled past r a

-- an attempt may be aborted once, where its entry was sent, and the lists name each document that it staged or may have staged
-- and has not unstuck since
pub record MayAbort (past : List Made) (r a : ℕ) (lists : Lists) : Type 0 where
  pub sent : Once (λ m _. (exp : ℕ) × (m.step ≡ step.AddEntry r a exp)) past
  pub first : ¬ Once (λ m _. aborts m.step ≡ Some a) past
  pub named : (d : List ℕ) → Kept (λ m _. MayHaveStaged a d m) (λ m _. (x : ℕ) × (m.step ≡ step.Unstick d x) × (is_done m.answer.reply ≡ true)) past
      → IsListed d lists
  pub after_commits : CommitsUnsettled past r a

-- a staging may be made the document's body once its attempt is shown committed: over the CAS at which it was shown, with just
-- its content
pub record MayResolve (past : List Made) (d : List ℕ) (x : ℕ) (content : Option Json) : Type 0 where
  pub stage : Stage
  pub staged : Once (λ m _. ShowsStaged d x stage m) past
  pub content_is : stage.content ≡ content
  pub committed : Once (λ m _. (lists : Lists) × ShowsCommitted stage.atr stage.attempt lists m) past

-- a staging may be taken away by its owner before the decision, and by anybody once its attempt is shown aborted
pub data MayUnstick (past : List Made) (d : List ℕ) (x : ℕ) : Type 0 where
  before_decision : (stage : Stage) → Once (λ m _. StagesAt d x stage m) past → ¬ Once (λ m _. decides m.step ≡ Some stage.attempt) past → MayUnstick past d x
  after_abort : (stage : Stage) → Once (λ m _. ShowsStaged d x stage m) past
      → Once (λ m _. (lists : Lists) × ShowsAborted stage.atr stage.attempt lists m) past → MayUnstick past d x

-- a pending entry may be dropped, by a guarded drop, where its record was shown with it and it had expired by then
abbrev pub MayEvict : List Made → ℕ → ℕ → Type 0
MayEvict past r a = Once (λ m _. (entries : List (ℕ × Entry)) × (e : Entry) × ReadsRecord r entries m × In (a, e) entries × IsExpired e m.answer.now) past

-- attempt a is shown decided in record r, with these lists
abbrev pub ShowsDecided : ℕ → ℕ → Lists → Made → Type 0
ShowsDecided r a lists m = ShowsCommitted r a lists m ⊎ ShowsAborted r a lists m

-- the documents that have to be cleared before the entry goes: those of the last own commit or abort, or else those shown
pub data IsDue (past : List Made) (a : ℕ) (shown due : Lists) : Type 0 where
  of_own : Kept (λ m _. (r : ℕ) × ((m.step ≡ step.Commit r a due) ⊎ (m.step ≡ step.Abort r a due))) (λ m _. decides m.step ≡ Some a) past → IsDue past a shown due
  of_shown : ¬ Once (λ m _. decides m.step ≡ Some a) past → due ≡ shown → IsDue past a shown due

-- after a showing that attempt a is decided, this step tells that document d is no longer staged by a
pub data Clears (a : ℕ) (showing : Made) (d : List ℕ) (m : Made) (before : List Made) : Type 0 where
  -- what a staged was taken off
  unstaged : (x : ℕ) → Unstages d x m.step → is_done m.answer.reply ≡ true → WasStaged a d x before → Clears a showing d m before
  -- the document is not there, not staged, or staged by another
  absent : FindsNoDoc d m → Clears a showing d m before
  free : (x : ℕ) (body : Option Json) → ReadsDoc d x body None m → Clears a showing d m before
  of_another : (x : ℕ) (body : Option Json) (stage : Stage) → ReadsDoc d x body (Some stage) m → stage.attempt ≢ a → Clears a showing d m before
  -- it is staged under another record than the one in which a is shown decided, which never comes
  elsewhere : (r x : ℕ) (shown : Lists) (body : Option Json) (stage : Stage) → ShowsDecided r a shown showing → ReadsDoc d x body (Some stage) m → stage.atr ≢ r
      → Clears a showing d m before
  -- it has another CAS than the one at which it was read staged by a, after the showing
  moved_on : (x have : ℕ) → Unstages d x m.step → m.answer.reply ≡ reply.CasMismatch have
      → Once (λ n earlier. (body : Option Json) × (stage : Stage) × ReadsDoc d x body (Some stage) n × (stage.attempt ≡ a) × In showing earlier) before
      → Clears a showing d m before
  -- it has another CAS than that of a's own last staging
  moved_from_own : (x have : ℕ) → Unstages d x m.step → m.answer.reply ≡ reply.CasMismatch have
      → Kept (λ n _. (stage : Stage) × (stage.attempt ≡ a) × StagesAt d x stage n) (λ n _. MayHaveStaged a d n) before
      → Clears a showing d m before

-- an entry may be dropped where it was shown decided, and each document that is due has been cleared since
pub record MayDrop (past : List Made) (r a : ℕ) : Type 0 where
  pub showing : Made
  pub shown : Lists
  pub due : Lists
  pub earlier : In showing past
  pub decided : ShowsDecided r a shown showing
  pub due_is : IsDue past a shown due
  pub cleared : (d : List ℕ) → IsListed d due → Once (λ m before. In showing before × Clears a showing d m before) past

-- a cleaner may write its own row and remove up to 12 rows, rising, that one reading of the client record showed inactive
pub record MayBeat (who : Identity) (past : List Made) (me : ℕ) (gone : List ℕ) : Type 0 where
  pub own : me ≡ who.cleaner
  pub few : length gone ≤ 12
  pub rising : IsStrictlyIncreasing gone
  pub read : Once (λ m _. (rows : List (ℕ × ClientRow)) × (m.step ≡ step.ReadClients) × (m.answer.reply ≡ reply.Clients rows)
      × ((id : ℕ) → In id gone → In id (inactive rows me m.answer.now))) past

-- the step that an actor with this own list may make next
abbrev pub MayTake : Identity → List Made → Step → Type 0
MayTake who past (step.ReadDoc d) = Unit {0}
MayTake who past (step.Stage d e stage) = MayStage past d e stage
MayTake who past (step.Publish d x body) = MayResolve past d x (Some body)
MayTake who past (step.Delete d x) = MayResolve past d x None
MayTake who past (step.Unstick d x) = MayUnstick past d x
MayTake who past (step.ReadEntry r a) = Unit {0}
MayTake who past (step.AddEntry r a exp) = MayAdd who past a
MayTake who past (step.Commit r a lists) = MayCommit past r a lists
MayTake who past (step.Abort r a lists) = MayAbort past r a lists
MayTake who past (step.DropEntry r a true) = MayEvict past r a
MayTake who past (step.DropEntry r a false) = MayDrop past r a
MayTake who past (step.ReadAtr r) = Unit {0}
MayTake who past step.ReadClients = Unit {0}
MayTake who past (step.Beat me expires num_atrs gone) = MayBeat who past me gone

-- each step of an own list was one that its actor might make
abbrev pub IsLicensed : Identity → List Made → Type 0
IsLicensed who [] = Unit {0}
IsLicensed who (m ∷ past) = MayTake who past m.step × IsLicensed who past
