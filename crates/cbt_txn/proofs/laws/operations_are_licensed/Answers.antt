use Rattle.cbt_txn.proofs.Licensing.{work_licensed}
use Rattle.cbt_txn.proofs.laws.operations_are_licensed.Goals as goal

pub returns : goal.returns
returns c who it l s may asked = work_licensed who it.attempt l it.work s may.owns may.works asked
