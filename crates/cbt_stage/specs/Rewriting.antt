-- What the one call of a write over an own write is, and what its client's own list has to show before.
use Rattle.std.specs.Prelude.{◌≡◌, ◌+◌, ◌≤◌, true, false, List, [], ◌∷◌, length, Option, Some, None}
use Rattle.cbt_model.specs.declared.documents.Stage.{Stage}
use Rattle.cbt_model.specs.declared.events.Made.{Made}
use Rattle.cbt_model.specs.declared.steps.Reply.TheVariants as reply
use Rattle.cbt_book.specs.Calls.{WriteCalls, WriteTerms}
use Rattle.cbt_book.specs.Outcomes.{DoneAt, is_refusal}
use Rattle.cbt_book.specs.OwnLists.{Once}
use Rattle.cbt_book.specs.Shown.{decides, AddsEntry, StagesAt}
use Rattle.cbt_book.specs.declared.operations.When.TheVariants as when
use Rattle.cbt_stage.specs.Rewrites.{call_left, call_of}
use Rattle.cbt_stage.specs.declared.agains.Again.{Again}
use Rattle.cbt_stage.specs.declared.ends.PutEnd.{PutEnd}
use Rattle.cbt_stage.specs.declared.ends.PutEnd.TheVariants.{Staged, Unstaged, Blocked, Moved, CallFailed}
use Rattle.cbt_stage.specs.declared.rewrites.Rewrite.{Rewrite}

-- the one call made the write, and was answered so
pub record EndsWriting (o : Rewrite) (P : Made → Type 0) (mine : List Made) : Type 0 where
  pub call : Made
  pub calls_are : mine ≡ call ∷ []
  pub makes_write : call.step ≡ call_of o
  pub answered : P call

-- a write over an own write ended so by its call
abbrev pub EndsOnce : Rewrite → PutEnd → List Made → Type 0
EndsOnce o (Staged place base) mine = (o.back ≡ false) × (base ≡ when.Own) × EndsWriting o (DoneAt place) mine
EndsOnce o (Unstaged place) mine = (o.back ≡ true) × EndsWriting o (DoneAt place) mine
EndsOnce o (Blocked by) mine = ⊥
EndsOnce o Moved mine = EndsWriting o (λ m. is_refusal m.answer.reply ≡ true) mine
EndsOnce o (CallFailed place) mine = EndsWriting o (λ m. (m.answer.reply ≡ reply.Failed) × (m.answer.place ≡ place)) mine

-- what its end tells of its calls
abbrev pub KnowsOnce : Rewrite → Option PutEnd → List Made → Type 0
KnowsOnce o None mine = mine ≡ []
KnowsOnce o (Some end) mine = EndsOnce o end mine

-- these are the calls of a write over an own write, of an attempt that writes under these terms
pub record StandsOnce (t : WriteTerms) (again : Again) (mine : List Made) : Type 0 where
  pub id_is : again.task.attempt ≡ t.id
  pub knows : KnowsOnce again.task again.end mine
  pub calls : WriteCalls t again.task.doc mine
  pub few : length mine + call_left again ≤ 1

-- the attempt's entry stands in its record, and it was not decided; and the document was staged by the attempt at the own write's CAS
pub record IsWritten (o : Rewrite) (l0 : List Made) : Type 0 where
  pub entered : Once (λ m _. AddsEntry o.atr o.attempt m) l0
  pub undecided : ¬ Once (λ m _. decides m.step ≡ Some o.attempt) l0
  pub stage : Stage
  pub own : stage.attempt ≡ o.attempt
  pub staged : Once (λ m _. StagesAt o.doc o.cas stage m) l0
