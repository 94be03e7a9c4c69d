use Rattle.cbt_syntax.proofs.WellRead.{expr_of-rules}
use Rattle.cbt_syntax.proofs.laws.read_expressions_keep_rules.Goals as goal

pub returns : goal.returns
returns c = expr_of-rules
