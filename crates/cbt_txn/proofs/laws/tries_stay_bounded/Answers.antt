use Rattle.cbt_txn.proofs.BoundsClosing.{none_left}
use Rattle.cbt_txn.proofs.laws.tries_stay_bounded.Goals as goal

pub returns : goal.returns
returns c = record { at_end = λ ops it none. none_left ops it.operations it.closing none }
