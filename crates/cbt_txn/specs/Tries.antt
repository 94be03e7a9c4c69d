-- Which call a try asks for, and what follows it.
use Rattle.std.specs.Prelude.{◌-◌, Bool, true, false, List, length, slice_get, Option, Some, None}
use Rattle.cbt_model.specs.declared.steps.Step.{Step}
use Rattle.cbt_book.specs.declared.clients.AttemptEnd.{AttemptEnd}
use Rattle.cbt_book.specs.declared.clients.AttemptEnd.TheVariants as attempt_end
use Rattle.cbt_book.specs.declared.clients.TxnEnd.TheVariants as txn_end
use Rattle.cbt_book.specs.declared.clients.Why.TheVariants as why
use Rattle.cbt_book.specs.declared.operations.OpAnswer.{OpAnswer}
use Rattle.cbt_book.specs.declared.operations.OpAnswer.TheVariants as answer
use Rattle.cbt_book.specs.declared.operations.OpLog.{OpLog}
use Rattle.cbt_commit.specs.Phases as finish
use Rattle.cbt_rollback.specs.Phases as undo
use Rattle.cbt_txn.specs.Works.{step_of}
use Rattle.cbt_txn.specs.declared.operations.Operations.{Operations}
use Rattle.cbt_txn.specs.declared.tries.Closing.{Closing}
use Rattle.cbt_txn.specs.declared.tries.Closing.TheVariants as closing
use Rattle.cbt_txn.specs.declared.operations.Work.{Work}
use Rattle.cbt_txn.specs.declared.operations.Work.TheVariants as work
use Rattle.cbt_txn.specs.declared.tries.Outcome.{Outcome}
use Rattle.cbt_txn.specs.declared.tries.Outcome.TheVariants.{Again, Ends}
use Rattle.cbt_txn.specs.declared.tries.Try.{Try}

abbrev pub step_in : Operations → Closing → Option Step
step_in o closing.Open = step_of o.work
step_in o (closing.Finish it) = finish.step_of it
step_in o (closing.Undo it) = undo.step_of it
step_in o (closing.Ended end) = None

-- the call that a try asks for
abbrev pub step_now : Try → Option Step
step_now it = step_in it.operations it.closing

-- what follows a try that was rolled back for this answer of an operation
abbrev pub after_answer : OpAnswer → Outcome
after_answer (answer.DocNotFound read) = Ends (txn_end.Failed why.NotFound)
after_answer (answer.DocExists read) = Ends (txn_end.Failed why.Exists)
after_answer answer.NeedFalse = Ends (txn_end.Failed why.NeedFalse)
after_answer (answer.BadValue part) = Ends (txn_end.Failed why.BadValue)
after_answer _ = Again

abbrev pub after_log : Option OpLog → Outcome
after_log None = Ends txn_end.RolledBack
after_log (Some log) = after_answer log.answer

-- for the last of these answers
abbrev pub after_last : List OpLog → Outcome
after_last logs = after_log (slice_get logs (length logs - 1))

-- what follows a try that was rolled back: by its commits in vain, or by what its operations came to
abbrev pub after_rollback : Bool → Work → List OpLog → Outcome
after_rollback true w logs = Again
after_rollback false (work.Late now) logs = Ends (txn_end.Expired now)
after_rollback false work.Refused logs = after_last logs
after_rollback false _ logs = Ends txn_end.RolledBack

abbrev pub after_end : Try → AttemptEnd → Outcome
after_end it (attempt_end.Committed place complete) = Ends (txn_end.Committed complete)
after_end it attempt_end.Empty = Ends txn_end.Empty
after_end it attempt_end.RolledBack = after_rollback it.not_committed it.operations.work it.operations.logs
after_end it (attempt_end.EntryLost place) = Again
after_end it (attempt_end.Unknown commit reading) = Ends txn_end.Unknown
after_end it (attempt_end.Incomplete place) = Ends (txn_end.CallFailed place)
after_end it attempt_end.Stopped = Ends txn_end.Stopped

abbrev pub outcome_in : Try → Closing → Option Outcome
outcome_in it closing.Open = None
outcome_in it (closing.Finish finish) = None
outcome_in it (closing.Undo undo) = None
outcome_in it (closing.Ended end) = Some (after_end it end)

-- what follows a try, once it has ended
abbrev pub outcome : Try → Option Outcome
outcome it = outcome_in it it.closing
