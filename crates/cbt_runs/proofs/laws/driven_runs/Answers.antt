use Rattle.cbt_runs.proofs.Running.{are_licensed, logs_follow}
use Rattle.cbt_runs.proofs.laws.driven_runs.Goals as goal

pub returns-clause-licensed : goal.returns-clause-licensed
returns-clause-licensed g c case book workers worked sweep swept all driven promise =
    are_licensed g.A.Actor case book workers worked sweep swept all driven promise

pub returns-clause-follow : goal.returns-clause-follow
returns-clause-follow g c case book workers worked sweep swept all driven promise =
    logs_follow g.A.Actor case book workers worked sweep swept all driven promise
