use Rattle.cbt_meta.proofs.Back.{read-written}
use Rattle.cbt_meta.proofs.laws.stagings_read_back.Goals as goal

pub returns : goal.returns
returns c = read-written
