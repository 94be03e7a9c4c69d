use Rattle.std.proofs.Common.{◌≤◌}
use Rattle.cbt_machine_rows.proofs.tries.drive.Given as goal

-- the number of records stays
abbrev pub invariant-loop-call : goal.invariant-loop-call
invariant-loop-call l = (1 ≤ l.it.operations.attempt.atrs) × (l.it.operations.attempt.atrs ≤ 1024)
