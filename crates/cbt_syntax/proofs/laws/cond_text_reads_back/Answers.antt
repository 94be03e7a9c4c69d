use Rattle.cbt_syntax.proofs.ReadBack.{cond_of-text}
use Rattle.cbt_syntax.proofs.laws.cond_text_reads_back.Goals as goal

pub returns : goal.returns
returns c = cond_of-text
