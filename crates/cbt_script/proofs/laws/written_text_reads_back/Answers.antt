use Rattle.std.proofs.Common.{IsUtf8, subst, ap, ◌∙◌}
use Rattle.cbt_script.specs.Reading.{script_of}
use Rattle.cbt_script.proofs.ReadsAgain.{reads_again}
use Rattle.cbt_script.proofs.laws.written_text_reads_back.Goals as goal

pub returns : goal.returns
returns c = λ is. ap script_of c.requires ∙ reads_again c.args.script.now is (subst IsUtf8 c.requires c.utf8.text)
