-- The write sets of attempts, by their logs.
use Rattle.std.specs.Prelude.{ℕ, zero, suc, List, Option, Some, None, slice_get, option_and_then}
use Rattle.std.specs.Option.{option_map}
use Rattle.cbt_json.specs.declared.value.Json.{Json}
use Rattle.cbt_expr.specs.declared.plans.ClientPlan.{ClientPlan}
use Rattle.cbt_expr.specs.declared.plans.Op.{Op}
use Rattle.cbt_expr.specs.declared.plans.TxnPlan.{TxnPlan}
use Rattle.cbt_book.specs.Numbers.{client_of, txn_of, try_of}
use Rattle.cbt_book.specs.declared.clients.AttemptLog.{AttemptLog}
use Rattle.cbt_book.specs.declared.clients.ClientLog.{ClientLog}
use Rattle.cbt_book.specs.declared.clients.TxnLog.{TxnLog}
use Rattle.cbt_book.specs.declared.operations.OpLog.{OpLog}
use Rattle.cbt_core.specs.Walk.{OwnWrite, nothing_yet, walked}

-- the own writes that stand after these answers: what is staged counts from then on, until it is taken back
abbrev pub own_writes : List Op → List OpLog → List ℕ → Option OwnWrite
own_writes ops logs d = (walked ops logs nothing_yet).own d

-- the n-th of a list, from 1
abbrev pub numbered : {X : Type 0} → List X → ℕ → Option X
numbered xs zero = None
numbered xs (suc n) = slice_get xs n

-- the plan of a client's transaction, by their numbers
abbrev pub plan_at : List ClientPlan → ℕ → ℕ → Option TxnPlan
plan_at plans client txn = option_and_then (λ p. numbered p.txns txn) (numbered plans client)

-- the log of a client's transaction, by their numbers
abbrev pub txn_at : List ClientLog → ℕ → ℕ → Option TxnLog
txn_at logs client txn = option_and_then (λ c. numbered c.txns txn) (numbered logs client)

-- the log of a try of it
abbrev pub attempt_at : List ClientLog → ℕ → ℕ → ℕ → Option AttemptLog
attempt_at logs client txn try_no = option_and_then (λ t. numbered t.attempts try_no) (txn_at logs client txn)

-- the plan of an attempt's transaction, by the numbers in its identifier
abbrev pub plan_of : List ClientPlan → ℕ → Option TxnPlan
plan_of plans a = plan_at plans (client_of a) (txn_of a)

-- the log of an attempt, by the numbers in its identifier
abbrev pub log_of : List ClientLog → ℕ → Option AttemptLog
log_of logs a = attempt_at logs (client_of a) (txn_of a) (try_of a)

-- the own writes of an attempt with this plan and this log; without them it has none
abbrev pub own_writes_by : Option TxnPlan → Option AttemptLog → List ℕ → Option OwnWrite
own_writes_by (Some plan) (Some log) d = own_writes plan.ops log.ops d
own_writes_by _ _ d = None

-- the own writes of an attempt of a run
abbrev pub own_writes_of : List ClientPlan → List ClientLog → ℕ → List ℕ → Option OwnWrite
own_writes_of plans logs a d = own_writes_by (plan_of plans a) (log_of logs a) d

-- the write set of an attempt of a run: for each document that it wrote, the content, or none for a remove
abbrev pub write_set : List ClientPlan → List ClientLog → ℕ → List ℕ → Option (Option Json)
write_set plans logs a d = option_map (λ w. w.content) (own_writes_of plans logs a d)
