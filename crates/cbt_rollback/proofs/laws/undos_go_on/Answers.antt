use Rattle.cbt_rollback.specs.Phases.{task_of}
use Rattle.cbt_rollback.proofs.Ends.{goes_on_asking, asks_no_more}
use Rattle.cbt_rollback.proofs.laws.undos_go_on.Goals as goal

pub returns-clause-ended : goal.returns-clause-ended
returns-clause-ended c undo ended = asks_no_more (task_of undo) undo.phase ended

pub returns-clause-asks : goal.returns-clause-asks
returns-clause-asks c undo mine stands going = goes_on_asking (task_of undo) undo.phase mine stands going
