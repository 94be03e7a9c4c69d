use Rattle.cbt_stage.proofs.Licensing.{licensed}
use Rattle.cbt_stage.proofs.laws.puts_are_licensed.Goals as goal

pub returns : goal.returns
returns c who t put mine l0 s stands ready asked = licensed who t put.task put.phase mine l0 s stands.knows stands.room ready asked
