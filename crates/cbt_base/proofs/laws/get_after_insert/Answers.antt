use Rattle.cbt_base.proofs.Maps.{at_key-with_pair, rises-with_pair}
use Rattle.cbt_base.proofs.laws.get_after_insert.Goals as goal

pub returns-clause-value : goal.returns-clause-value
returns-clause-value g c m k q v = at_key-with_pair g.K.Ord.cmp g.met.K.Ord.total m k v q

pub returns-clause-rises : goal.returns-clause-rises
returns-clause-rises g c m k v = rises-with_pair g.K.Ord.cmp g.met.K.Ord.total m k v
