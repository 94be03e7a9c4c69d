use Rattle.cbt_clean.proofs.Licensed.{licensed}
use Rattle.cbt_clean.proofs.laws.passes_are_licensed.Goals as goal

pub returns : goal.returns
returns c who pass mine before s stands ready asked = licensed who pass.atr before ready pass.phase mine s stands asked
