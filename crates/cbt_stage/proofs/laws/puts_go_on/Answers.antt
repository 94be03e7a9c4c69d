use Rattle.std.proofs.Common.{subst}
use Rattle.cbt_stage.specs.Standing.{Knows}
use Rattle.cbt_stage.proofs.Counting.{none_left, none_asked}
use Rattle.cbt_stage.proofs.laws.puts_go_on.Goals as goal

pub returns-clause-none_left : goal.returns-clause-none_left
returns-clause-none_left c put = (none_left put.task put.phase, none_asked put.task put.phase)

pub returns-clause-waits : goal.returns-clause-waits
returns-clause-waits c t put mine r by left stands is = subst (λ p. Knows put.task p mine) is stands.knows

pub returns-clause-leaves_open : goal.returns-clause-leaves_open
returns-clause-leaves_open c t put mine stands going = stands.going going
