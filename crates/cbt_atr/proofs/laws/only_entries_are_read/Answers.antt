use Rattle.cbt_atr.proofs.Only.{only-read}
use Rattle.cbt_atr.proofs.laws.only_entries_are_read.Goals as goal

pub returns : goal.returns
returns c = only-read
