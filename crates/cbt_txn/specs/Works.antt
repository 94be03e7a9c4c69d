-- Which call the operation under way asks for, and what the end of a write is.
use Rattle.std.specs.Prelude.{ℕ, Bool, true, false, List, Option, Some, None}
use Rattle.cbt_model.specs.declared.steps.Reply.{Reply}
use Rattle.cbt_model.specs.declared.steps.Reply.TheVariants as reply
use Rattle.cbt_model.specs.declared.steps.Step.{Step}
use Rattle.cbt_book.specs.declared.operations.OpAnswer.{OpAnswer}
use Rattle.cbt_book.specs.declared.operations.OpAnswer.TheVariants as answer
use Rattle.cbt_attempt.specs.OwnWrites.{with_noted, without_noted}
use Rattle.cbt_attempt.specs.declared.attempt.Attempt.{Attempt}
use Rattle.cbt_attempt.specs.declared.own.Own.{Own}
use Rattle.cbt_read.specs.Phases as get
use Rattle.cbt_stage.specs.Phases as put
use Rattle.cbt_stage.specs.Rewrites.{asked_by}
use Rattle.cbt_stage.specs.declared.ends.PutEnd.{PutEnd}
use Rattle.cbt_stage.specs.declared.ends.PutEnd.TheVariants as put_end
use Rattle.cbt_stage.specs.declared.tasks.Task.{Task}
use Rattle.cbt_txn.specs.declared.operations.Work.{Work}
use Rattle.cbt_txn.specs.declared.operations.Work.TheVariants as work

-- the call that the work asks for
abbrev pub step_of : Work → Option Step
step_of (work.Get reads write) = get.step_of reads
step_of (work.Put it) = put.step_of it
step_of (work.Again it) = asked_by it
step_of work.Done = None
step_of work.Refused = None
step_of (work.Late now) = None

-- the answer of a write that has ended so
abbrev pub answer_of : PutEnd → OpAnswer
answer_of (put_end.Staged place base) = answer.Staged place base
answer_of (put_end.Unstaged place) = answer.Unstaged place
answer_of (put_end.Blocked by) = answer.Blocked by
answer_of put_end.Moved = answer.Moved
answer_of (put_end.CallFailed place) = answer.CallFailed place

-- the CAS that a call was answered with
abbrev pub stamp_in : Reply → Option ℕ
stamp_in (reply.Done c) = Some c
stamp_in _ = None

-- an attempt that notes what became of a write
abbrev pub written : Attempt → List ℕ → Own → PutEnd → Option ℕ → Attempt
written a d write (put_end.Staged place base) stamp =
    record a { writes = with_noted a.writes d (record { kind = write.kind; content = write.content; cas = stamp }) }
written a d write (put_end.Unstaged place) stamp = record a { writes = without_noted a.writes d; seen = without_noted a.seen d }
written a d write (put_end.CallFailed place) stamp = record a { writes = with_noted a.writes d write }
written a d write (put_end.Blocked by) stamp = a
written a d write put_end.Moved stamp = a

-- an attempt that notes what became of a put, where its last call staged
abbrev pub put_noted : Attempt → Task → Bool → PutEnd → Option ℕ → Attempt
put_noted a task true end stamp = written a task.doc task.write end stamp
put_noted a task false end stamp = a
