use Rattle.cbt_script.proofs.Fresh.{openings-fresh}
use Rattle.cbt_script.proofs.laws.openings_are_fresh.Goals as goal

pub returns : goal.returns
returns c = openings-fresh
