use Rattle.cbt_rollback.specs.Phases.{task_of}
use Rattle.cbt_rollback.proofs.Ends.{undone_after, fine_after, failed_after}
use Rattle.cbt_rollback.proofs.laws.undos_end_attempts.Goals as goal

pub returns-clause-undone : goal.returns-clause-undone
returns-clause-undone c undo mine commits calls stands is = undone_after (task_of undo) undo.phase mine stands commits calls is

pub returns-clause-unfailed : goal.returns-clause-unfailed
returns-clause-unfailed c undo mine commits stands before is = fine_after (task_of undo) undo.phase mine stands commits before is

pub returns-clause-failed : goal.returns-clause-failed
returns-clause-failed c undo mine commits place stands is = failed_after (task_of undo) undo.phase mine stands commits place is
