use Rattle.cbt_atr.proofs.Back.{read-written}
use Rattle.cbt_atr.proofs.laws.entries_read_back.Goals as goal

pub returns : goal.returns
returns c = read-written
