use Rattle.cbt_syntax.proofs.Behind.{stripped}
use Rattle.cbt_syntax.proofs.pieces.behind.Goals as goal

pub returns : goal.returns
returns c = stripped _ _ _ c.strip_prefix.ensures.cases
