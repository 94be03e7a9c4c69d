use Rattle.cbt_commit.specs.Phases.{task_of}
use Rattle.cbt_commit.proofs.Licensing.{licensed}
use Rattle.cbt_commit.proofs.laws.commits_are_licensed.Goals as goal

pub returns : goal.returns
returns c who finish l0 mine s ready stands asked = licensed (task_of finish) who l0 mine finish.phase s ready stands.runs asked
