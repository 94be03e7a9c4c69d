-- With what a try is closed, once no operation goes on.
use Rattle.std.specs.Prelude.{◌≡◌, ℕ, ◌≤◌, Bool, true, false, List, [], length, Option, Some, None}
use Rattle.cbt_model.specs.declared.events.Made.{Made}
use Rattle.cbt_model.specs.declared.steps.Reply.{Reply}
use Rattle.cbt_book.specs.declared.clients.AttemptEnd.{AttemptEnd}
use Rattle.cbt_book.specs.declared.clients.AttemptEnd.TheVariants as attempt_end
use Rattle.cbt_attempt.specs.OwnWrites.{noted}
use Rattle.cbt_attempt.specs.declared.attempt.Attempt.{Attempt}
use Rattle.cbt_commit.specs.Phases as finish
use Rattle.cbt_commit.specs.Ready as finish_ready
use Rattle.cbt_commit.specs.Standing as finish_stands
use Rattle.cbt_commit.specs.declared.finishes.Finish.{Finish}
use Rattle.cbt_commit.specs.declared.phases.FinishEnd.{FinishEnd}
use Rattle.cbt_commit.specs.declared.phases.FinishEnd.TheVariants as finish_end
use Rattle.cbt_rollback.specs.Phases as undo
use Rattle.cbt_rollback.specs.Ready as undo_ready
use Rattle.cbt_rollback.specs.Standing as undo_stands
use Rattle.cbt_rollback.specs.declared.phases.UndoEnd.{UndoEnd}
use Rattle.cbt_rollback.specs.declared.phases.UndoEnd.TheVariants as undo_end
use Rattle.cbt_rollback.specs.declared.undos.Undo.{Undo}
use Rattle.cbt_txn.specs.declared.operations.Operations.{Operations}
use Rattle.cbt_txn.specs.declared.operations.Work.{Work}
use Rattle.cbt_txn.specs.declared.operations.Work.TheVariants as work
use Rattle.cbt_txn.specs.declared.tries.Closing.{Closing}
use Rattle.cbt_txn.specs.declared.tries.Closing.TheVariants as closing

-- whether no operation goes on
abbrev pub is_over : Work → Bool
is_over work.Done = true
is_over work.Refused = true
is_over (work.Late now) = true
is_over _ = false

abbrev pub IsOver : Work → Type 0
IsOver w = is_over w ≡ true

-- whether what the operations wrote is to be committed: all were answered, and the plan keeps it
abbrev pub is_kept : Bool → Work → Bool
is_kept keep work.Done = keep
is_kept keep _ = false

-- a commit of this attempt, that has made no call
pub record BeginsFinish (a : Attempt) (f : Finish) : Type 0 where
  pub attempt : f.attempt ≡ a.id
  pub sent : a.sent ≡ Some f.atr
  pub going : finish.end_of f ≡ None
  pub few : length f.works.entries ≤ length a.writes
  pub stands : finish_stands.StandsFor f []
  pub ready : (l : List Made) → finish_ready.GoesWell (noted a.writes) f.atr f.attempt l → finish_ready.IsReady (finish.task_of f) l

-- a rollback of it
pub record BeginsUndo (a : Attempt) (u : Undo) : Type 0 where
  pub attempt : u.attempt ≡ a.id
  pub sent : a.sent ≡ Some u.atr
  pub going : undo.end_of u ≡ None
  pub own : undo_ready.IsOf (noted a.writes) (undo.task_of u)
  pub few : length u.works.entries ≤ length a.writes
  pub stands : undo_stands.StandsFor u []
  pub ready : (l : List Made) → undo_ready.IsAbortable a.id u.atr (noted a.writes) l → undo_ready.IsReady (undo.task_of u) l

-- an attempt that has sent no entry wrote nothing
pub data Commits (a : Attempt) : Closing → Type 0 where
  nothing : a.sent ≡ None → Commits a (closing.Ended attempt_end.Empty)
  finishes : (f : Finish) → BeginsFinish a f → Commits a (closing.Finish f)

pub data RollsBack (a : Attempt) : Closing → Type 0 where
  nothing : a.sent ≡ None → RollsBack a (closing.Ended attempt_end.RolledBack)
  undoes : (u : Undo) → BeginsUndo a u → RollsBack a (closing.Undo u)

-- how operations are followed, where the plan keeps what they wrote or not
pub data Closed (keep : Bool) (c : Operations) : Closing → Type 0 where
  open_yet : is_over c.work ≡ false → Closed keep c closing.Open
  commits : (next : Closing) → is_kept keep c.work ≡ true → Commits c.attempt next → Closed keep c next
  rolls_back : (next : Closing) → is_over c.work ≡ true → is_kept keep c.work ≡ false → RollsBack c.attempt next → Closed keep c next

-- how a commit ended; one in vain is none of these
abbrev pub ended_by : FinishEnd → AttemptEnd
ended_by (finish_end.Committed place complete) = attempt_end.Committed place complete
ended_by (finish_end.EntryLost place) = attempt_end.EntryLost place
ended_by (finish_end.Unknown commit reading) = attempt_end.Unknown commit reading
ended_by (finish_end.NotCommitted place) = attempt_end.Stopped

abbrev pub vain_end : Option FinishEnd → Bool
vain_end (Some (finish_end.NotCommitted place)) = true
vain_end _ = false

-- whether the third commit was in vain
abbrev pub is_in_vain : Finish → Bool
is_in_vain f = vain_end (finish.end_of f)

-- how a commit is followed
pub data Finished (a : Attempt) (f : Finish) : Closing → Type 0 where
  goes_on : finish.end_of f ≡ None → Finished a f (closing.Finish f)
  ended : (end : FinishEnd) → finish.end_of f ≡ Some end → is_in_vain f ≡ false → Finished a f (closing.Ended (ended_by end))
  in_vain : (next : Closing) → is_in_vain f ≡ true → RollsBack a next → Finished a f next

abbrev pub undone_by : UndoEnd → AttemptEnd
undone_by undo_end.RolledBack = attempt_end.RolledBack
undone_by (undo_end.Incomplete place) = attempt_end.Incomplete place

-- how a rollback is followed
abbrev pub undone_in : Undo → Option UndoEnd → Closing
undone_in u None = closing.Undo u
undone_in u (Some end) = closing.Ended (undone_by end)

abbrev pub undone : Undo → Closing
undone u = undone_in u (undo.end_of u)

-- a commit, and a rollback, whose call had this reply at this place
abbrev pub finish_after : Finish → ℕ → Reply → Finish
finish_after f place r = record f { phase = finish.after (finish.task_of f) f.phase place r }

abbrev pub undo_after : Undo → ℕ → Reply → Undo
undo_after u place r = record u { phase = undo.after (undo.task_of u) u.phase place r }
