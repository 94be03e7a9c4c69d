use Rattle.std.proofs.Common.{IsUtf8, subst}
use Rattle.cbt_history.proofs.GoesOn.{lines_go_on}
use Rattle.cbt_history.proofs.OnlyFronts.{only_fronts}
use Rattle.cbt_history.proofs.laws.canonical_lines_go_on.Goals as goal

pub returns-clause-each : goal.returns-clause-each
returns-clause-each c = λ n is. lines_go_on c.args.script.now is (subst IsUtf8 c.requires c.utf8.text) n

pub returns-clause-no_other : goal.returns-clause-no_other
returns-clause-no_other c = only_fronts
