-- The rules of a put, as a pure machine: what a phase asks for, and which phase follows an answer.
use Rattle.std.specs.Prelude.{ℕ, zero, suc, ◌+◌, Bool, true, false, Option, Some, None}
use Rattle.cbt_model.specs.declared.steps.Reply.{Reply}
use Rattle.cbt_model.specs.declared.steps.Reply.TheVariants as reply
use Rattle.cbt_model.specs.declared.steps.Step.{Step}
use Rattle.cbt_model.specs.declared.steps.Step.TheVariants as step
use Rattle.cbt_book.specs.declared.operations.When.TheVariants as when
use Rattle.cbt_stage.specs.Tasks.{adds, stages}
use Rattle.cbt_stage.specs.declared.ends.PutEnd.{PutEnd}
use Rattle.cbt_stage.specs.declared.ends.PutEnd.TheVariants.{Staged, Blocked, Moved, CallFailed}
use Rattle.cbt_stage.specs.declared.phases.Phase.{Phase}
use Rattle.cbt_stage.specs.declared.phases.Phase.TheVariants.{Asking, Adding, Staging, Ended}
use Rattle.cbt_stage.specs.declared.puts.Put.{Put}
use Rattle.cbt_stage.specs.declared.tasks.Task.{Task}

-- the call that a phase asks for
abbrev pub step_for : Task → Phase → Option Step
step_for o (Asking r by left) = Some (step.ReadEntry r by)
step_for o Adding = Some (adds o)
step_for o Staging = Some (stages o)
step_for o (Ended end) = None

-- the call that a put asks for
abbrev pub step_of : Put → Option Step
step_of put = step_for put.task put.phase

-- how a phase says that the put has ended
abbrev pub end_in : Phase → Option PutEnd
end_in (Asking r by left) = None
end_in Adding = None
end_in Staging = None
end_in (Ended end) = Some end

-- how a put has ended
abbrev pub end_of : Put → Option PutEnd
end_of put = end_in put.phase

-- how many calls a phase leaves at most
abbrev pub left_in : Phase → ℕ
left_in (Asking r by left) = left + 3
left_in Adding = 2
left_in Staging = 1
left_in (Ended end) = 0

-- how many calls a put has left at most
abbrev pub calls_left : Put → ℕ
calls_left put = left_in put.phase

abbrev pub failed : ℕ → Phase
failed place = Ended (CallFailed place)

-- the entry is added where it was not sent, and else the write is staged
abbrev pub entered : Bool → Phase
entered true = Staging
entered false = Adding

-- nobody is in the way
abbrev pub entering : Task → Phase
entering o = entered o.sent

-- the first phase, by the attempt whose write waits in the document, and by whether its entry was not there
abbrev pub first : Task → Option (ℕ × ℕ) → Bool → Phase
first o None gone = entering o
first o (Some by) true = entering o
first o (Some by) false = Asking by.0 by.1 3

abbrev pub start : Task → Phase
start o = first o o.seen.by o.seen.gone

-- the entry was shown: it is asked for again, unless it was shown too often
abbrev pub again : ℕ → ℕ → ℕ → Phase
again r by zero = Ended (Blocked by)
again r by (suc left) = Asking r by left

-- the entry of the attempt whose write waits was asked for
abbrev pub after_entry : Task → ℕ → ℕ → ℕ → ℕ → Reply → Phase
after_entry o r by left place reply.NoEntry = entering o
after_entry o r by left place (reply.Entry e) = again r by left
after_entry o r by left place _ = failed place

-- the attempt's entry was sent
abbrev pub after_adding : ℕ → Reply → Phase
after_adding place (reply.Done c) = Staging
after_adding place reply.Exists = Staging
after_adding place _ = failed place

-- the write was sent
abbrev pub after_staging : Task → ℕ → Reply → Phase
after_staging o place (reply.Done c) = Ended (Staged place (when.At o.seen.moment))
after_staging o place reply.Failed = failed place
after_staging o place _ = Ended Moved

-- the phase after this one, where the call that it asks for had this reply at this place
abbrev pub after : Task → Phase → ℕ → Reply → Phase
after o (Asking r by left) place answer = after_entry o r by left place answer
after o Adding place answer = after_adding place answer
after o Staging place answer = after_staging o place answer
after o (Ended end) place answer = Ended end
