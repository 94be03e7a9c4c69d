use Rattle.cbt_rollback.specs.Phases.{task_of}
use Rattle.cbt_rollback.proofs.Ends.{undone, unfailed, ends_failed, failed_aborted}
use Rattle.cbt_rollback.proofs.laws.undos_end_right.Goals as goal

pub returns-clause-undone : goal.returns-clause-undone
returns-clause-undone c undo mine calls stands is = undone (task_of undo) undo.phase mine stands calls is

pub returns-clause-unfailed : goal.returns-clause-unfailed
returns-clause-unfailed c undo mine stands is = unfailed (task_of undo) undo.phase mine stands is

pub returns-clause-failed : goal.returns-clause-failed
returns-clause-failed c undo mine place stands is = ends_failed (task_of undo) undo.phase mine stands place is

pub returns-clause-aborted : goal.returns-clause-aborted
returns-clause-aborted c undo mine place stands is = failed_aborted (task_of undo) undo.phase mine stands place is
