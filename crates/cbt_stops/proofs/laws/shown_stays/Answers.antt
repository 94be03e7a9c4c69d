use Rattle.cbt_stops.proofs.Staying.{run_stays}
use Rattle.cbt_stops.proofs.laws.shown_stays.Goals as goal

pub returns : goal.returns
returns c = run_stays
