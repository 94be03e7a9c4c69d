use Rattle.cbt_base.proofs.Maps.{at_key-without_key, rises-without_key}
use Rattle.cbt_base.proofs.laws.get_after_remove.Goals as goal

pub returns-clause-value : goal.returns-clause-value
returns-clause-value g c m k q = at_key-without_key g.K.Ord.cmp g.met.K.Ord.total m k q

pub returns-clause-rises : goal.returns-clause-rises
returns-clause-rises g c m k = rises-without_key g.K.Ord.cmp g.met.K.Ord.total m k
