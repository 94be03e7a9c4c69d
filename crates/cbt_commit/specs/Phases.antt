-- The rules of a commit, as a pure machine: what a phase asks for, and which phase follows an answer.
use Rattle.std.specs.Prelude.{ℕ, zero, suc, true, false, ◌+◌, ◌-◌, ◌*◌, List, length, slice_get, Option, Some, None}
use Rattle.cbt_json.specs.declared.value.Json.{Json}
use Rattle.cbt_model.specs.declared.entries.EntryState.{EntryState}
use Rattle.cbt_model.specs.declared.entries.EntryState.TheVariants.{Pending, Committed, Aborted}
use Rattle.cbt_model.specs.declared.entries.Lists.{Lists}
use Rattle.cbt_model.specs.declared.steps.Reply.{Reply}
use Rattle.cbt_model.specs.declared.steps.Reply.TheVariants as reply
use Rattle.cbt_model.specs.declared.steps.Step.{Step}
use Rattle.cbt_model.specs.declared.steps.Step.TheVariants as step
use Rattle.cbt_commit.specs.Written.{Written}
use Rattle.cbt_commit.specs.declared.finishes.Finish.{Finish}
use Rattle.cbt_commit.specs.declared.phases.FinishEnd.{FinishEnd}
use Rattle.cbt_commit.specs.declared.phases.FinishEnd.TheVariants as finish_end
use Rattle.cbt_commit.specs.declared.phases.Phase.{Phase}
use Rattle.cbt_commit.specs.declared.phases.Phase.TheVariants.{Sending, Reading, Going, Ended}

-- what a commit was begun with: the attempt, the record of its entry, the lists of its own writes, and these by document in
-- their order
pub record Task : Type 0 where
  pub attempt : ℕ
  pub atr : ℕ
  pub lists : Lists
  pub works : List (List ℕ × Written)

abbrev pub task_of : Finish → Task
task_of finish = record { attempt = finish.attempt; atr = finish.atr; lists = finish.lists; works = finish.works.entries }

-- a content becomes the body, and without one the document goes
abbrev pub unstage_with : List ℕ → ℕ → Option Json → Step
unstage_with d x None = step.Delete d x
unstage_with d x (Some body) = step.Publish d x body

-- what was staged of a document is made of it, over the CAS of the staging
abbrev pub unstage : List ℕ → Written → Step
unstage d w = unstage_with d w.cas w.content

-- past the last own write the entry is dropped
abbrev pub going_step : Task → Option (List ℕ × Written) → Step
going_step t None = step.DropEntry t.atr t.attempt false
going_step t (Some w) = unstage w.0 w.1

-- the call that a phase asks for
abbrev pub step_for : Task → Phase → Option Step
step_for t (Sending left) = Some (step.Commit t.atr t.attempt t.lists)
step_for t (Reading left commit) = Some (step.ReadEntry t.atr t.attempt)
step_for t (Going commit at) = Some (going_step t (slice_get t.works at))
step_for t (Ended end) = None

-- the call that a commit asks for
abbrev pub step_of : Finish → Option Step
step_of finish = step_for (task_of finish) finish.phase

-- how a phase says that the commit has ended
abbrev pub end_in : Phase → Option FinishEnd
end_in (Sending left) = None
end_in (Reading left commit) = None
end_in (Going commit at) = None
end_in (Ended end) = Some end

-- how a commit has ended
abbrev pub end_of : Finish → Option FinishEnd
end_of finish = end_in finish.phase

-- how many calls a phase leaves at most
abbrev pub left_in : Task → Phase → ℕ
left_in t (Sending left) = 2 * left + (length t.works + 3)
left_in t (Reading left commit) = 2 * left + (length t.works + 2)
left_in t (Going commit at) = (length t.works - at) + 1
left_in t (Ended end) = 0

-- how many calls a commit has left at most
abbrev pub calls_left : Finish → ℕ
calls_left finish = left_in (task_of finish) finish.phase

-- the commit was sent
abbrev pub after_commit : ℕ → ℕ → Reply → Phase
after_commit left place (reply.Done c) = Going place 0
after_commit left place reply.NoEntry = Ended (finish_end.EntryLost place)
after_commit left place _ = Reading left place

-- the commit took no effect: it is sent again, where it may be
abbrev pub again : ℕ → ℕ → Phase
again zero commit = Ended (finish_end.NotCommitted commit)
again (suc left) commit = Sending left

-- an entry in this state was read
abbrev pub decided : ℕ → ℕ → EntryState → Phase
decided left commit Committed = Going commit 0
decided left commit Pending = again left commit
decided left commit Aborted = again left commit

-- the entry was read
abbrev pub after_reading : ℕ → ℕ → ℕ → Reply → Phase
after_reading left commit place (reply.Entry e) = decided left commit e.state
after_reading left commit place _ = Ended (finish_end.Unknown commit place)

-- an own write was to be published
abbrev pub after_unstage : ℕ → ℕ → Reply → Phase
after_unstage commit at (reply.Done c) = Going commit (at + 1)
after_unstage commit at (reply.CasMismatch have) = Going commit (at + 1)
after_unstage commit at _ = Ended (finish_end.Committed commit false)

-- the entry was to be dropped
abbrev pub after_drop : ℕ → Reply → Phase
after_drop commit (reply.Done c) = Ended (finish_end.Committed commit true)
after_drop commit reply.NoEntry = Ended (finish_end.Committed commit true)
after_drop commit _ = Ended (finish_end.Committed commit false)

abbrev pub after_going : ℕ → ℕ → Option (List ℕ × Written) → Reply → Phase
after_going commit at None r = after_drop commit r
after_going commit at (Some w) r = after_unstage commit at r

-- the phase after this one, where the call that it asks for had this reply at this place
abbrev pub after : Task → Phase → ℕ → Reply → Phase
after t (Sending left) place r = after_commit left place r
after t (Reading left commit) place r = after_reading left commit place r
after t (Going commit at) place r = after_going commit at (slice_get t.works at) r
after t (Ended end) place r = Ended end
