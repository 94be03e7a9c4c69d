use Rattle.cbt_shape.proofs.Behind.{stripped}
use Rattle.cbt_shape.proofs.names.behind.Goals as goal

pub returns : goal.returns
returns c = stripped _ _ _ c.strip_prefix.ensures.cases
