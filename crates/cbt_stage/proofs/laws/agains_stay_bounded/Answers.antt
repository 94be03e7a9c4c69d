use Rattle.cbt_stage.proofs.Rewriting.{made_none}
use Rattle.cbt_stage.proofs.laws.agains_stay_bounded.Goals as goal

pub returns-clause-first : goal.returns-clause-first
returns-clause-first c t again mine s stands asked = made_none again mine s asked stands.knows
