use Rattle.cbt_script.proofs.RulesOfScripts.{read_keeps_rules}
use Rattle.cbt_script.proofs.laws.scripts_keep_rules.Goals as goal

pub returns : goal.returns
returns c = read_keeps_rules
