-- The rules of a rollback, as a pure machine: what a phase asks for, and which phase follows an answer.
use Rattle.std.specs.Prelude.{ℕ, false, ◌+◌, ◌-◌, ◌*◌, ◌==◌, ◌&&◌, if◌then◌else◌, List, length, slice_get, Option, Some, None}
use Rattle.cbt_model.specs.declared.entries.Lists.{Lists}
use Rattle.cbt_model.specs.declared.steps.Reply.{Reply}
use Rattle.cbt_model.specs.declared.steps.Reply.TheVariants as reply
use Rattle.cbt_model.specs.declared.steps.Step.{Step}
use Rattle.cbt_model.specs.declared.steps.Step.TheVariants as step
use Rattle.cbt_rollback.specs.declared.phases.Phase.{Phase}
use Rattle.cbt_rollback.specs.declared.phases.Phase.TheVariants.{Aborting, Going, Taking, Ended}
use Rattle.cbt_rollback.specs.declared.phases.UndoEnd.{UndoEnd}
use Rattle.cbt_rollback.specs.declared.phases.UndoEnd.TheVariants.{RolledBack, Incomplete}
use Rattle.cbt_rollback.specs.declared.undos.Undo.{Undo}

-- the document of an own write, and the CAS of its staging where it is known
abbrev pub Work : Type 0
Work = List ℕ × Option ℕ

-- what a rollback was begun with: the attempt, the record of its entry, the lists of its own writes, and these in their order
pub record Task : Type 0 where
  pub attempt : ℕ
  pub atr : ℕ
  pub lists : Lists
  pub works : List Work

abbrev pub task_of : Undo → Task
task_of undo = record { attempt = undo.attempt; atr = undo.atr; lists = undo.lists; works = undo.works.entries }

-- an own write is taken off over its CAS, and read where that is not known
abbrev pub take_off : List ℕ → Option ℕ → Step
take_off d None = step.ReadDoc d
take_off d (Some x) = step.Unstick d x

-- past the last own write the entry is dropped
abbrev pub going_step : Task → Option Work → Step
going_step t None = step.DropEntry t.atr t.attempt false
going_step t (Some w) = take_off w.0 w.1

abbrev pub taking_step : ℕ → Option Work → Option Step
taking_step x None = None
taking_step x (Some w) = Some (step.Unstick w.0 x)

-- the call that a phase asks for
abbrev pub step_for : Task → Phase → Option Step
step_for t Aborting = Some (step.Abort t.atr t.attempt t.lists)
step_for t (Going at) = Some (going_step t (slice_get t.works at))
step_for t (Taking at x) = taking_step x (slice_get t.works at)
step_for t (Ended end) = None

-- the call that a rollback asks for
abbrev pub step_of : Undo → Option Step
step_of undo = step_for (task_of undo) undo.phase

-- how a phase says that the rollback has ended
abbrev pub end_in : Phase → Option UndoEnd
end_in Aborting = None
end_in (Going at) = None
end_in (Taking at x) = None
end_in (Ended end) = Some end

-- how a rollback has ended
abbrev pub end_of : Undo → Option UndoEnd
end_of undo = end_in undo.phase

-- how many calls a phase leaves at most
abbrev pub left_in : Task → Phase → ℕ
left_in t Aborting = 2 * length t.works + 2
left_in t (Going at) = 2 * (length t.works - at) + 1
left_in t (Taking at x) = 2 * (length t.works - at)
left_in t (Ended end) = 0

-- how many calls a rollback has left at most
abbrev pub calls_left : Undo → ℕ
calls_left undo = left_in (task_of undo) undo.phase

abbrev pub failed : ℕ → Phase
failed place = Ended (Incomplete place)

-- the entry was to be aborted
abbrev pub after_abort : ℕ → Reply → Phase
after_abort place reply.NoEntry = Ended RolledBack
after_abort place (reply.Done c) = Going 0
after_abort place reply.Decided = Going 0
after_abort place _ = failed place

-- an own write was to be taken off
abbrev pub after_unstick : ℕ → ℕ → Reply → Phase
after_unstick at place (reply.Done c) = Going (at + 1)
after_unstick at place (reply.CasMismatch have) = Going (at + 1)
after_unstick at place _ = failed place

-- the document of an own write was read
abbrev pub after_reading : ℕ → ℕ → ℕ → ℕ → Reply → Phase
after_reading r a at place reply.Absent = Going (at + 1)
after_reading r a at place (reply.Doc x body None) = Going (at + 1)
after_reading r a at place (reply.Doc x body (Some stage)) = if (stage.atr == r) && (stage.attempt == a) then Taking at x else Going (at + 1)
after_reading r a at place _ = failed place

-- the entry was to be dropped
abbrev pub after_drop : ℕ → Reply → Phase
after_drop place (reply.Done c) = Ended RolledBack
after_drop place reply.NoEntry = Ended RolledBack
after_drop place _ = failed place

abbrev pub after_work : Task → ℕ → Option ℕ → ℕ → Reply → Phase
after_work t at None place r = after_reading t.atr t.attempt at place r
after_work t at (Some x) place r = after_unstick at place r

abbrev pub after_going : Task → ℕ → Option Work → ℕ → Reply → Phase
after_going t at None place r = after_drop place r
after_going t at (Some w) place r = after_work t at w.1 place r

-- the phase after this one, where the call that it asks for had this reply at this place
abbrev pub after : Task → Phase → ℕ → Reply → Phase
after t Aborting place r = after_abort place r
after t (Going at) place r = after_going t at (slice_get t.works at) place r
after t (Taking at x) place r = after_unstick at place r
after t (Ended end) place r = Ended end
