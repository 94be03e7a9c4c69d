-- How many calls a try has left at most: a number that falls at each answer.
use Rattle.std.specs.Prelude.{ℕ, suc, ◌+◌, ◌-◌, ◌*◌, max, if◌then◌else◌, List, length, Some, None}
use Rattle.cbt_expr.specs.declared.plans.Op.{Op}
use Rattle.cbt_read.specs.Phases as get
use Rattle.cbt_stage.specs.Phases as put
use Rattle.cbt_stage.specs.Rewrites as again
use Rattle.cbt_commit.specs.Phases as finish
use Rattle.cbt_commit.specs.declared.finishes.Finish.{Finish}
use Rattle.cbt_commit.specs.declared.phases.Phase as finish_phase
use Rattle.cbt_commit.specs.declared.phases.Phase.TheVariants.{Sending, Reading}
use Rattle.cbt_rollback.specs.Phases as undo
use Rattle.cbt_txn.specs.Deciding.{is_over}
use Rattle.cbt_txn.specs.declared.operations.Fed.{Fed}
use Rattle.cbt_txn.specs.declared.operations.Fed.TheVariants as fed
use Rattle.cbt_txn.specs.declared.operations.Operations.{Operations}
use Rattle.cbt_txn.specs.declared.operations.Work.{Work}
use Rattle.cbt_txn.specs.declared.operations.Work.TheVariants as work
use Rattle.cbt_txn.specs.declared.tries.Closing.{Closing}
use Rattle.cbt_txn.specs.declared.tries.Closing.TheVariants as closing
use Rattle.cbt_txn.specs.declared.tries.Try.{Try}

-- the operation under way: a write has a put of 6 calls behind its read, and 2 that close what it wrote
abbrev pub work_left : Work → ℕ
work_left (work.Get it None) = get.calls_left it
work_left (work.Get it (Some write)) = get.calls_left it + 8
work_left (work.Put it) = put.calls_left it + 2
work_left (work.Again it) = again.call_left it + 2
work_left work.Done = 0
work_left work.Refused = 0
work_left (work.Late now) = 0

-- the operation, once its work has taken an answer in
abbrev pub fed_left : Fed → ℕ
fed_left (fed.Going w) = work_left w
fed_left (fed.Read d None end) = 0
fed_left (fed.Read d (Some write) end) = 8
fed_left (fed.Written end) = 0

-- so many operations that are to begin, each of 25 calls at most, and what closes a try of so many own writes
abbrev pub left_for : ℕ → ℕ → ℕ
left_for due writes = 25 * due + 2 * writes + 8

-- all but the operation under way
abbrev pub rest_left : List Op → Operations → ℕ
rest_left ops c = left_for (length ops - suc (length c.logs)) (length c.attempt.writes)

-- where the next operation is to begin
abbrev pub due_left : List Op → Operations → ℕ
due_left ops c = left_for (length ops - length c.logs) (length c.attempt.writes)

-- the operations, and what closes the try
abbrev pub open_left : List Op → Operations → ℕ
open_left ops c = work_left c.work + rest_left ops c

-- a commit that may be in vain: the rollback behind it takes so many own writes back
abbrev pub settling_left : finish.Task → ℕ → finish_phase.Phase → ℕ
settling_left t writes (Sending left) = 2 * left + 4 + max (length t.works) (2 * writes)
settling_left t writes (Reading left commit) = 2 * left + 3 + max (length t.works) (2 * writes)
settling_left t writes p = finish.left_in t p

-- a commit, with that rollback
abbrev pub finish_left : Finish → ℕ → ℕ
finish_left f writes = settling_left (finish.task_of f) writes f.phase

-- what follows the operations, or these where they go on
abbrev pub left_in : List Op → Operations → Closing → ℕ
left_in ops c closing.Open = if is_over c.work then 0 else open_left ops c
left_in ops c (closing.Finish it) = finish_left it (length c.attempt.writes)
left_in ops c (closing.Undo it) = undo.calls_left it
left_in ops c (closing.Ended end) = 0

-- how many calls a try of these operations has left at most
abbrev pub try_left : List Op → Try → ℕ
try_left ops it = left_in ops it.operations it.closing
