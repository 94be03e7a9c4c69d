use Rattle.std.proofs.Common.{refl}
use Rattle.cbt_txn.proofs.clients.Client.set_txn.Goals as goal

pub returns : goal.returns
returns c = refl
