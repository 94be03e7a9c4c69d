use Rattle.cbt_script.proofs.ReadsAgain.{reads_again}
use Rattle.cbt_script.proofs.RulesOfScripts.{read_keeps_rules}
use Rattle.cbt_script.proofs.laws.text_reads_back.Goals as goal

pub returns : goal.returns
returns c = λ bytes s is utf8. reads_again s (read_keeps_rules bytes s is) utf8
