-- The clients of a script and their transactions.
use Rattle.std.specs.Prelude.{ℕ, ◌+◌, Bool, ◌||◌, if◌then◌else◌, is_some, nat_lt, nat_le, List, [], ◌∷◌, ◌++◌, length, Option, Some, None, Result, Ok, Err, codes}
use Rattle.cbt_base.specs.Keyed.{with_pair}
use Rattle.cbt_expr.specs.declared.plans.ClientPlan.{ClientPlan}
use Rattle.cbt_expr.specs.declared.plans.Op.{Op}
use Rattle.cbt_expr.specs.declared.plans.Op.TheVariants as op
use Rattle.cbt_expr.specs.declared.plans.TxnPlan.{TxnPlan}
use Rattle.cbt_model.specs.Keys.{doc_cmp}
use Rattle.cbt_script.specs.declared.cause.Cause.{Cause}
use Rattle.cbt_script.specs.declared.cause.Cause.TheVariants.{Word, Limit}
use Rattle.cbt_script.specs.declared.clients.Clients.{Clients}
use Rattle.cbt_script.specs.declared.clients.Terms.{Terms}
use Rattle.cbt_script.specs.declared.keywords.Operation.{Operation}
use Rattle.cbt_script.specs.Causes.{◌>>=◌, require}
use Rattle.cbt_script.specs.Fields.{option_field, end_field}
use Rattle.cbt_script.specs.Operations.{op_field}
use Rattle.cbt_script.specs.Settings.{max_time}

abbrev pub no_clients : Clients
no_clients = record { done = []; last = None; txns = []; under_way = None; ops = []; bound = []; tried = 0 }

-- whether a transaction is under way
abbrev pub is_inside : Clients → Bool
is_inside c = is_some c.under_way

-- some clients, and a last one with these transactions
abbrev pub last_done : Option (List ℕ) → List TxnPlan → List (List ℕ × ClientPlan) → List (List ℕ × ClientPlan)
last_done None txns done = done
last_done (Some name) txns done = done ++ (name, record { txns = txns }) ∷ []

-- a further client, which has no transactions yet
abbrev pub with_client : List ℕ → Clients → Clients
with_client name c = record c { done = last_done c.last c.txns c.done; last = Some name; txns = [] }

-- the terms of a transaction, with the script's expiry and tries where it names none; its hold is at most its expiry
unfoldable pub terms_field : ℕ → ℕ → List ℕ → Result Terms Cause
terms_field expiry tries rest = do
  e ← option_field (codes "expiry") max_time expiry rest
  h ← option_field (codes "hold") e.0 e.0 e.1
  t ← option_field (codes "tries") 16 tries h.1
  _ ← end_field t.1
  Ok (record { expiry = e.0; hold = h.0; tries = t.0 })

-- `begin`, behind a client
unfoldable pub begin_txn : ℕ → ℕ → Clients → List ℕ → Result Clients Cause
begin_txn expiry tries c rest = do
  _ ← require (is_some c.last) Word
  terms ← terms_field expiry tries rest
  _ ← require (nat_lt (length c.txns) 1024) Limit
  Ok (record c { under_way = Some terms; ops = []; bound = [] })

-- the terms of the transaction under way
abbrev pub terms_in : Option Terms → Result Terms Cause
terms_in (Some terms) = Ok terms
terms_in None = Err Word

abbrev pub open_terms : Clients → Result Terms Cause
open_terms c = terms_in c.under_way

-- the names that are bound behind an operation
abbrev pub bound_by : Op → List (List ℕ × Unit {0}) → List (List ℕ × Unit {0})
bound_by (op.Get d name) bound = with_pair doc_cmp bound name tt
bound_by _ bound = bound

-- a further operation of a transaction with so many tries
abbrev pub with_operation : ℕ → Op → Clients → Result Clients Cause
with_operation tries o c =
    if nat_le 256 (length c.ops) || nat_lt 16384 (c.tried + tries) then Err Limit
    else Ok (record c { ops = c.ops ++ o ∷ []; bound = bound_by o c.bound; tried = c.tried + tries })

-- an operation of the transaction under way
unfoldable pub add_operation : Operation → Clients → List ℕ → Result Clients Cause
add_operation which c rest = do
  terms ← open_terms c
  o ← op_field which c.bound rest
  with_operation terms.tries o c

-- the transaction under way as a plan
abbrev pub plan_of : Terms → List Op → Bool → TxnPlan
plan_of terms ops keep = record { ops = ops; expiry = terms.expiry; hold = terms.hold; tries = terms.tries; keep = keep }

-- `commit` or `rollback`
unfoldable pub end_txn : Bool → Clients → List ℕ → Result Clients Cause
end_txn keep c rest = do
  terms ← open_terms c
  _ ← end_field rest
  Ok (record c { under_way = None; ops = []; txns = c.txns ++ plan_of terms c.ops keep ∷ [] })
