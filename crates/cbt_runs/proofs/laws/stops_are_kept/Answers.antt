use Rattle.cbt_runs.proofs.Running.{stops_kept}
use Rattle.cbt_runs.proofs.laws.stops_are_kept.Goals as goal

pub returns : goal.returns
returns g c case book workers worked sweep swept all driven within stopped promise =
    stops_kept g.A.Actor case book workers worked sweep swept all driven within stopped promise
