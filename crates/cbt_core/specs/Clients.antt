-- What it is that a client's log follows its plan, by the client's own list.
use Rattle.std.specs.Prelude.{◌≡◌, ◌≢◌, ℕ, suc, ◌<◌, ◌⊎◌, List, [], ◌∷◌, length}
use Rattle.cbt_expr.specs.declared.plans.ClientPlan.{ClientPlan}
use Rattle.cbt_expr.specs.declared.plans.TxnPlan.{TxnPlan}
use Rattle.cbt_model.specs.declared.events.Made.{Made}
use Rattle.cbt_book.specs.OwnLists.{Each}
use Rattle.cbt_book.specs.declared.clients.ClientLog.{ClientLog}
use Rattle.cbt_book.specs.declared.clients.TxnEnd.TheVariants as txn_end
use Rattle.cbt_book.specs.declared.clients.TxnLog.{TxnLog}
use Rattle.cbt_core.specs.Transactions.{TxnFollows, attempts_end}

-- one past the last place of transactions that begin at `at`
abbrev pub txns_end : ℕ → List TxnLog → ℕ
txns_end at [] = at
txns_end at (log ∷ logs) = txns_end (attempts_end at log.attempts) logs

-- a transaction that was stopped is the last
abbrev pub RunsOn : TxnLog → List TxnLog → Type 0
RunsOn log [] = Unit {0}
RunsOn log (next ∷ logs) = log.end ≢ txn_end.Stopped

-- all of the plan's transactions have a log, or the last that has one was stopped
abbrev pub IsWhole : List TxnPlan → List TxnLog → Type 0
IsWhole [] [] = Unit {0}
IsWhole (plan ∷ plans) [] = ⊥
IsWhole [] (log ∷ logs) = ⊥
IsWhole (plan ∷ plans) (log ∷ []) = (plans ≡ []) ⊎ (log.end ≡ txn_end.Stopped)
IsWhole (plan ∷ plans) (log ∷ next ∷ logs) = IsWhole plans (next ∷ logs)

-- the transactions of a client, in their order, from the n-th on
abbrev pub TxnsFollow : ℕ → ℕ → List Made → ℕ → ℕ → List TxnPlan → List TxnLog → Type 0
TxnsFollow client atrs l at n plans [] = Unit {0}
TxnsFollow client atrs l at n [] (log ∷ logs) = ⊥
TxnsFollow client atrs l at n (plan ∷ plans) (log ∷ logs) =
    TxnFollows (record { client = client; number = n; plan = plan; atrs = atrs }) l at log × RunsOn log logs
    × TxnsFollow client atrs l (attempts_end at log.attempts) (suc n) plans logs

-- the log of the client with this number
pub record FollowsPlan (client atrs : ℕ) (plan : ClientPlan) (l : List Made) (log : ClientLog) : Type 0 where
  pub txns : TxnsFollow client atrs l 0 1 plan.txns log.txns
  pub whole : IsWhole plan.txns log.txns
  -- each of its calls lies in an attempt, and all are counted
  pub inside : Each (λ m _. m.answer.place < txns_end 0 log.txns) l
  pub counted : log.calls ≡ length l
