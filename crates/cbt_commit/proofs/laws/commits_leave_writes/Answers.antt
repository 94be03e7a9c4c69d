use Rattle.cbt_commit.specs.Phases.{task_of}
use Rattle.cbt_commit.proofs.Licensing.{all_quiet_calls, none_aborts, unsettled}
use Rattle.cbt_commit.proofs.laws.commits_leave_writes.Goals as goal

pub returns-clause-quiet : goal.returns-clause-quiet
returns-clause-quiet c finish mine stands = all_quiet_calls (task_of finish) finish.phase mine stands.runs

pub returns-clause-unaborted : goal.returns-clause-unaborted
returns-clause-unaborted c finish mine stands = none_aborts (task_of finish) finish.phase mine stands.runs

pub returns-clause-unsettled : goal.returns-clause-unsettled
returns-clause-unsettled c finish l0 mine place ready stands ended = unsettled (task_of finish) l0 mine finish.phase place ready stands.runs ended
