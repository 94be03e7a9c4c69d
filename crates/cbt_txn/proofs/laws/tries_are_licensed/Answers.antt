use Rattle.cbt_txn.proofs.TryLicensing.{try_licensed}
use Rattle.cbt_txn.proofs.laws.tries_are_licensed.Goals as goal

pub returns : goal.returns
returns c who it l s may asked = try_licensed who it l it.closing s may asked
