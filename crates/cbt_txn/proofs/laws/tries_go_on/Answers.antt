use Rattle.cbt_txn.proofs.Asking.{try_asks}
use Rattle.cbt_txn.proofs.laws.tries_go_on.Goals as goal

pub returns : goal.returns
returns c t it l0 mine follows going = try_asks t it l0 mine follows going
