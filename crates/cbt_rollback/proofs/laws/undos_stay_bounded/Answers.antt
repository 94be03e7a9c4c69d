use Rattle.cbt_rollback.specs.Phases.{task_of}
use Rattle.cbt_rollback.proofs.Bounds.{few_calls, none_left, asks_none}
use Rattle.cbt_rollback.proofs.laws.undos_stay_bounded.Goals as goal

pub returns-clause-few : goal.returns-clause-few
returns-clause-few c undo mine stands = few_calls (task_of undo) undo.phase mine stands

pub returns-clause-at_end : goal.returns-clause-at_end
returns-clause-at_end c undo none = none_left (task_of undo) undo.phase none

pub returns-clause-asks : goal.returns-clause-asks
returns-clause-asks c undo none = asks_none (task_of undo) undo.phase none
