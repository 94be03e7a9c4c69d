-- The calls of a get and of a write: of which kinds they are, and how many there may be.
use Rattle.std.specs.Prelude.{◌≡◌, ℕ, suc, ◌+◌, ◌%◌, ◌≤◌, Bool, true, false, ◌==◌, not, if◌then◌else◌, List, [], ◌∷◌, count_by, Option, Some, None}
use Rattle.std.specs.List.{filter_map}
use Rattle.cbt_base.specs.Ids.{fnv_1a}
use Rattle.cbt_model.specs.declared.events.Made.{Made}
use Rattle.cbt_model.specs.declared.steps.Reply.{Reply}
use Rattle.cbt_model.specs.declared.steps.Reply.TheVariants as reply
use Rattle.cbt_model.specs.declared.steps.Step.{Step}
use Rattle.cbt_model.specs.declared.steps.Step.TheVariants as step
use Rattle.cbt_book.specs.OwnLists.{Once, Each}

-- whether a step reads a document
abbrev pub reads_doc : Step → Bool
reads_doc (step.ReadDoc d) = true
reads_doc _ = false

-- whether a step reads an entry
abbrev pub reads_entry : Step → Bool
reads_entry (step.ReadEntry r a) = true
reads_entry _ = false

-- whether a step adds an entry
abbrev pub adds_entry : Step → Bool
adds_entry (step.AddEntry r a exp) = true
adds_entry _ = false

-- whether a step stages a document or takes a staging back
abbrev pub writes_doc : Step → Bool
writes_doc (step.Stage d e stage) = true
writes_doc (step.Unstick d x) = true
writes_doc _ = false

-- the CAS that a reading shows, where it shows a staged document
abbrev pub staged_cas : Reply → Option ℕ
staged_cas (reply.Doc x body (Some stage)) = Some x
staged_cas _ = None

-- the CAS that a reading shows
abbrev pub shown_cas : Reply → Option ℕ
shown_cas (reply.Doc x body stage) = Some x
shown_cas _ = None

-- whether a CAS is there and is this one
abbrev pub is_cas : ℕ → Option ℕ → Bool
is_cas x None = false
is_cas x (Some y) = y == x

-- whether a reading shows its document staged, and is the first or shows another CAS than the reading before
abbrev pub is_met_anew : Option ℕ → List Reply → Bool
is_met_anew None before = false
is_met_anew (Some x) [] = true
is_met_anew (Some x) (r ∷ before) = not (is_cas x (shown_cas r))

-- how many of these answers to readings of a document, newest first, do so
abbrev pub count_met : List Reply → ℕ
count_met [] = 0
count_met (r ∷ before) = (if is_met_anew (staged_cas r) before then 1 else 0) + count_met before

-- the answer to a reading of a document
abbrev pub doc_reply : Made → Option Reply
doc_reply m = if reads_doc m.step then Some m.answer.reply else None

-- how many changed stagings the calls of an operation met
abbrev pub stagings_met : List Made → ℕ
stagings_met calls = count_met (filter_map doc_reply calls)

-- a get reads its document, and entries
abbrev pub MayGet : List ℕ → Step → Type 0
MayGet d (step.ReadDoc q) = q ≡ d
MayGet d (step.ReadEntry r a) = Unit {0}
MayGet d _ = ⊥

-- under what an attempt writes: its identifier, the number of transaction records, and how long its entry is held
pub record WriteTerms : Type 0 where
  pub id : ℕ
  pub atrs : ℕ
  pub hold : ℕ

-- a write does so too, and adds its attempt's entry to the record of its document, stages it, or takes an own staging back
abbrev pub MayWrite : WriteTerms → List ℕ → Step → Type 0
MayWrite t d (step.ReadDoc q) = q ≡ d
MayWrite t d (step.ReadEntry r a) = Unit {0}
MayWrite t d (step.AddEntry r a exp) = (a ≡ t.id) × (r ≡ fnv_1a d % t.atrs) × (exp ≡ t.hold)
MayWrite t d (step.Stage q e stage) = (q ≡ d) × (stage.attempt ≡ t.id)
MayWrite t d (step.Unstick q x) = q ≡ d
MayWrite t d _ = ⊥

-- the calls of a get are bounded by what it met
pub record GetCalls (d : List ℕ) (calls : List Made) : Type 0 where
  pub only : Each (λ m _. MayGet d m.step) calls
  pub readings : count_by (λ m. reads_doc m.step) calls ≤ suc (stagings_met calls)
  pub entries : count_by (λ m. reads_entry m.step) calls ≤ stagings_met calls

-- so are those of a write, which may wait for an entry four times, and writes by its last call
pub record WriteCalls (t : WriteTerms) (d : List ℕ) (calls : List Made) : Type 0 where
  pub only : Each (λ m _. MayWrite t d m.step) calls
  pub readings : count_by (λ m. reads_doc m.step) calls ≤ suc (stagings_met calls)
  pub entries : count_by (λ m. reads_entry m.step) calls ≤ stagings_met calls + 4
  pub added : count_by (λ m. adds_entry m.step) calls ≤ 1
  pub written_last : Each (λ m before. ¬ Once (λ n _. writes_doc n.step ≡ true) before) calls
