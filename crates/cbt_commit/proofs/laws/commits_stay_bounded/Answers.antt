use Rattle.cbt_commit.specs.Phases.{task_of}
use Rattle.cbt_commit.proofs.Bounds.{few_calls, none_left, none_asked}
use Rattle.cbt_commit.proofs.laws.commits_stay_bounded.Goals as goal

pub returns-clause-few : goal.returns-clause-few
returns-clause-few c finish mine stands = few_calls (task_of finish) finish.phase mine stands.runs

pub returns-clause-at_end : goal.returns-clause-at_end
returns-clause-at_end c finish none = none_left (task_of finish) finish.phase none

pub returns-clause-ended : goal.returns-clause-ended
returns-clause-ended c finish none = none_asked (task_of finish) finish.phase none
