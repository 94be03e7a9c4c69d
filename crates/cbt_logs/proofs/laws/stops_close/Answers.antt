use Rattle.cbt_logs.proofs.Closed.{closed_by_stop}
use Rattle.cbt_logs.proofs.laws.stops_close.Goals as goal

pub returns : goal.returns
returns c = closed_by_stop
