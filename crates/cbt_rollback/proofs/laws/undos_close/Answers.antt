use Rattle.cbt_rollback.specs.Phases.{task_of}
use Rattle.cbt_rollback.proofs.Closes.{closes, asks_closing}
use Rattle.cbt_rollback.proofs.laws.undos_close.Goals as goal

pub returns-clause-calls : goal.returns-clause-calls
returns-clause-calls c undo own mine commits stands is_of before = closes own (task_of undo) is_of commits before undo.phase mine stands

pub returns-clause-asked : goal.returns-clause-asked
returns-clause-asked c undo own mine commits s stands is_of before asked = asks_closing own (task_of undo) is_of commits before undo.phase mine s stands asked
