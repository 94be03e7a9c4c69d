use Rattle.cbt_txn.proofs.Halting.{follows_halt}
use Rattle.cbt_txn.proofs.Outcomes.{err_always}
use Rattle.cbt_txn.proofs.tries.Try.learn_open.Goals as goal

-- no memory was found for what follows the operations
pub returns-in_err-self-clause-halts : goal.returns-in_err-self-clause-halts
returns-in_err-self-clause-halts c t l0 mine s ops late asked falls old =
    err_always _ _ (follows_halt t _ l0 _ (c.in_ok-learn.ensures.follows t l0 mine s ops late asked falls old))
