use Rattle.cbt_rollback.proofs.Works.{CopiedUpTo}
use Rattle.cbt_rollback.proofs.undos.works_of.Given as goal

abbrev pub invariant-loop-at : goal.invariant-loop-at
invariant-loop-at l = CopiedUpTo l.attempt.writes l.at l.works.entries
