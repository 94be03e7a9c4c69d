-- How a fitting answer takes a rollback from one phase to the next.
use Rattle.std.proofs.Common.{◌≡◌, ◌≢◌, ℕ, ◌+◌, false, List, slice_get, Option, Some, None}
use Rattle.cbt_json.specs.declared.value.Json.{Json}
use Rattle.cbt_model.specs.declared.documents.Stage.{Stage}
use Rattle.cbt_model.specs.declared.events.Made.{Made}
use Rattle.cbt_model.specs.declared.steps.Reply.{Reply}
use Rattle.cbt_model.specs.declared.steps.Reply.TheVariants as reply
use Rattle.cbt_model.specs.declared.steps.Step.TheVariants as step
use Rattle.cbt_book.specs.Passes.{IsDropped}
use Rattle.cbt_book.specs.Shown.{ReadsDoc, FindsNoDoc, ShowsAborted}
use Rattle.cbt_rollback.specs.Phases.{Work, Task, step_for}
use Rattle.cbt_rollback.specs.declared.phases.Phase.{Phase}
use Rattle.cbt_rollback.specs.declared.phases.Phase.TheVariants.{Aborting, Going, Taking, Ended}
use Rattle.cbt_rollback.specs.declared.phases.UndoEnd.TheVariants.{RolledBack, Incomplete}

-- an unstick took the staging off, or found that the document has another CAS
pub data IsTakenOff (r : Reply) : Type 0 where
  by_it : (c : ℕ) → r ≡ reply.Done c → IsTakenOff r
  before_it : (have : ℕ) → r ≡ reply.CasMismatch have → IsTakenOff r

-- a reading finds no staging of the attempt in its record
pub data FindsOff (t : Task) (d : List ℕ) (m : Made) : Type 0 where
  absent : FindsNoDoc d m → FindsOff t d m
  unstaged : (x : ℕ) (body : Option Json) → ReadsDoc d x body None m → FindsOff t d m
  of_another : (x : ℕ) (body : Option Json) (stage : Stage) → ReadsDoc d x body (Some stage) m → stage.attempt ≢ t.attempt → FindsOff t d m
  elsewhere : (x : ℕ) (body : Option Json) (stage : Stage) → ReadsDoc d x body (Some stage) m → stage.atr ≢ t.atr → FindsOff t d m

-- the call, with its answer, takes the rollback from one phase to the next
pub data Moves (t : Task) (m : Made) : Phase → Phase → Type 0 where
  finds_no_entry : m.step ≡ step.Abort t.atr t.attempt t.lists → m.answer.reply ≡ reply.NoEntry → Moves t m Aborting (Ended RolledBack)
  is_aborted : m.step ≡ step.Abort t.atr t.attempt t.lists → ShowsAborted t.atr t.attempt t.lists m → m.answer.reply ≢ reply.Failed → Moves t m Aborting (Going 0)
  unsticks : (at x : ℕ) (w : Work) → slice_get t.works at ≡ Some w → w.1 ≡ Some x → m.step ≡ step.Unstick w.0 x → IsTakenOff m.answer.reply
      → Moves t m (Going at) (Going (at + 1))
  finds_off : (at : ℕ) (w : Work) → slice_get t.works at ≡ Some w → w.1 ≡ None → m.step ≡ step.ReadDoc w.0 → FindsOff t w.0 m → Moves t m (Going at) (Going (at + 1))
  finds_staged : (at x : ℕ) (w : Work) (body : Option Json) (stage : Stage) → slice_get t.works at ≡ Some w → w.1 ≡ None → ReadsDoc w.0 x body (Some stage) m
      → stage.atr ≡ t.atr → stage.attempt ≡ t.attempt → Moves t m (Going at) (Taking at x)
  takes : (at x : ℕ) (w : Work) → slice_get t.works at ≡ Some w → m.step ≡ step.Unstick w.0 x → IsTakenOff m.answer.reply → Moves t m (Taking at x) (Going (at + 1))
  drops : (at : ℕ) → slice_get t.works at ≡ None → m.step ≡ step.DropEntry t.atr t.attempt false → IsDropped m.answer.reply → Moves t m (Going at) (Ended RolledBack)
  fails : (p : Phase) → step_for t p ≡ Some m.step → m.answer.reply ≡ reply.Failed → Moves t m p (Ended (Incomplete m.answer.place))
