use Rattle.cbt_node_rows.specs.Fresh.{AreFresh}
use Rattle.cbt_node_rows.proofs.drives.workers_of.Given as goal

-- the workers so far have made no call
abbrev pub invariant-loop : goal.invariant-loop
invariant-loop l = AreFresh l.workers

abbrev pub invariant-loop-word : goal.invariant-loop-word
invariant-loop-word l = AreFresh l.workers
