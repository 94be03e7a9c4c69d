use Rattle.cbt_meta.proofs.Only.{only-read}
use Rattle.cbt_meta.proofs.laws.only_stagings_are_read.Goals as goal

pub returns : goal.returns
returns c = only-read
