use Rattle.cbt_commit.specs.Phases.{task_of}
use Rattle.cbt_commit.proofs.ClosingCalls.{all_close}
use Rattle.cbt_commit.proofs.laws.commits_close.Goals as goal

pub returns : goal.returns
returns c finish mine stands = all_close (task_of finish) finish.phase mine stands.listed stands.runs
