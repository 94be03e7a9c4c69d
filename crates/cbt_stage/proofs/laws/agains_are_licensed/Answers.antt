use Rattle.cbt_stage.proofs.Rewriting.{licensed}
use Rattle.cbt_stage.proofs.laws.agains_are_licensed.Goals as goal

pub returns : goal.returns
returns c who t again mine l0 s stands written asked = licensed who again mine l0 s stands.knows written asked
