-- What the transactions of a client have come to, on its own list.
use Rattle.std.specs.Prelude.{◌≡◌, ◌≢◌, ℕ, suc, List, [], ◌∷◌, length, drop}
use Rattle.cbt_expr.specs.declared.plans.ClientPlan.{ClientPlan}
use Rattle.cbt_expr.specs.declared.plans.TxnPlan.{TxnPlan}
use Rattle.cbt_model.specs.declared.events.Made.{Made}
use Rattle.cbt_book.specs.Spans.{past_of}
use Rattle.cbt_book.specs.declared.clients.TxnEnd.TheVariants as txn_end
use Rattle.cbt_book.specs.declared.clients.TxnLog.{TxnLog}
use Rattle.cbt_core.specs.Clients.{TxnsFollow, txns_end}
use Rattle.cbt_core.specs.Transactions.{TxnTerms}

-- none of these transactions was stopped
abbrev pub AllRun : List TxnLog → Type 0
AllRun [] = Unit {0}
AllRun (log ∷ logs) = (log.end ≢ txn_end.Stopped) × AllRun logs

-- the transactions that have ended follow the plan
pub record Ran (client atrs : ℕ) (plan : ClientPlan) (before : List Made) (txns : List TxnLog) : Type 0 where
  pub follow : TxnsFollow client atrs before 0 1 plan.txns txns
  pub run : AllRun txns
  pub reach : txns_end 0 txns ≡ past_of before

-- under what the next transaction is made
abbrev pub terms_next : ℕ → ℕ → TxnPlan → List TxnLog → TxnTerms
terms_next client atrs plan txns = record { client = client; number = suc (length txns); plan = plan; atrs = atrs }

-- this transaction comes next
pub record IsNextTxn (plan : ClientPlan) (txns : List TxnLog) (this : TxnPlan) : Type 0 where
  pub rest : List TxnPlan
  pub left : drop (length txns) plan.txns ≡ this ∷ rest
