use Rattle.std.proofs.Common.{refl}
use Rattle.cbt_rows.proofs.Never.{differ}
use Rattle.cbt_rows.proofs.unplanned.clients_that_do_otherwise.Goals as goal

pub returns : goal.returns
returns c = record { miscounted = λ it. differ 5 6 refl it.counted; stopped = λ on. on refl }
