use Rattle.cbt_syntax.proofs.ReadBack.{expr_of-text}
use Rattle.cbt_syntax.proofs.laws.expr_text_reads_back.Goals as goal

pub returns : goal.returns
returns c = expr_of-text
