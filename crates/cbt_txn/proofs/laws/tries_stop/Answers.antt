use Rattle.cbt_txn.proofs.Halting.{try_halts}
use Rattle.cbt_txn.proofs.laws.tries_stop.Goals as goal

pub returns : goal.returns
returns c t it l0 mine falls id follows = try_halts t it l0 mine falls id follows
