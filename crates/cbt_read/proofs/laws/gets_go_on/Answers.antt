use Rattle.cbt_read.proofs.Knowing.{left_open}
use Rattle.cbt_read.proofs.laws.gets_go_on.Goals as goal

pub returns-clause-leaves_open : goal.returns-clause-leaves_open
returns-clause-leaves_open c get newest older stands going = left_open get.doc get.phase newest older stands.knows going
