use Rattle.cbt_syntax.proofs.WellRead.{cond_of-rules}
use Rattle.cbt_syntax.proofs.laws.read_conditions_keep_rules.Goals as goal

pub returns : goal.returns
returns c = cond_of-rules
