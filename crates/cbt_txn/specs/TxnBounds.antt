-- How many calls a transaction has left at most.
use Rattle.std.specs.Prelude.{ℕ, ◌+◌, ◌*◌, ◌-◌, List, length}
use Rattle.cbt_expr.specs.declared.plans.Op.{Op}
use Rattle.cbt_expr.specs.declared.plans.TxnPlan.{TxnPlan}
use Rattle.cbt_txn.specs.Bounds.{try_left}
use Rattle.cbt_txn.specs.declared.transactions.Transaction.{Transaction}

-- one try of these operations
abbrev pub try_most : List Op → ℕ
try_most ops = 25 * length ops + 10

-- a transaction that was not begun
abbrev pub txn_most : TxnPlan → ℕ
txn_most plan = plan.tries * try_most plan.ops

-- one that is under way: its try, and those that are left
abbrev pub txn_left : TxnPlan → Transaction → ℕ
txn_left plan txn = try_left plan.ops txn.trying.it + (plan.tries - length txn.attempts) * try_most plan.ops
