-- Transfers: transactions that move an amount from one account to another.
use Rattle.std.specs.Prelude.{ℕ, ◌+◌, ◌-◌, ◌%◌, pos, true, List, [], ◌∷◌, Some, codes}
use Rattle.cbt_expr.specs.declared.expressions.Cmp.TheVariants.{Ge}
use Rattle.cbt_expr.specs.declared.expressions.Cond.TheVariants.{Compare}
use Rattle.cbt_expr.specs.declared.expressions.Expr.{Expr}
use Rattle.cbt_expr.specs.declared.expressions.Sign.{Sign}
use Rattle.cbt_expr.specs.declared.expressions.Sign.TheVariants.{Plus, Minus}
use Rattle.cbt_expr.specs.declared.expressions.Term.{Term}
use Rattle.cbt_expr.specs.declared.expressions.Term.TheVariants.{Plain, Members, Ref}
use Rattle.cbt_expr.specs.declared.plans.Op.{Op}
use Rattle.cbt_expr.specs.declared.plans.Op.TheVariants.{Get, Need, Replace}
use Rattle.cbt_expr.specs.declared.plans.TxnPlan.{TxnPlan}
use Rattle.cbt_expr.specs.Literals.{alone}
use Rattle.cbt_json.specs.declared.tree.Tree.TheVariants.{Whole}
use Rattle.cbt_subdoc.specs.declared.path.Part.TheVariants.{Name}
use Rattle.cbt_gen.specs.declared.transfers.Transfer.{Transfer}
use Rattle.cbt_gen.specs.Draws.{Drawn, draw, give, ◌>>=◌}
use Rattle.cbt_gen.specs.Names.{account_id}

-- ---- what is drawn

-- a transfer between two of so many accounts
abbrev pub transfer : ℕ → Drawn Transfer
transfer accounts = do
  i ← draw accounts
  further ← draw (accounts - 1)
  m ← draw 100
  give (record { from = i + 1; to = (i + 1 + further) % accounts + 1; amount = 1 + m })

-- ---- its transaction

-- a whole number
abbrev pub number_term : ℕ → Term
number_term n = Plain (Whole (pos n))

-- `@NAME.n`
abbrev pub amount_in : List ℕ → Term
amount_in name = Ref name (Some (Name (codes "n") ∷ []))

-- `@NAME.n+M` or `@NAME.n-M`
abbrev pub changed : List ℕ → Sign → ℕ → Expr
changed name sign m = record { first = amount_in name; rest = (sign, number_term m) ∷ [] }

-- `{"n":EXPR}`
abbrev pub body_with : Expr → Expr
body_with e = alone (Members ((codes "n", e) ∷ []))

-- both accounts are got, the first has to have the amount, and both are replaced
abbrev pub operations : Transfer → List Op
operations t =
    Get (account_id t.from) (codes "x")
    ∷ Get (account_id t.to) (codes "y")
    ∷ Need (Compare (alone (amount_in (codes "x"))) Ge (alone (number_term t.amount)))
    ∷ Replace (account_id t.from) (body_with (changed (codes "x") Minus t.amount))
    ∷ Replace (account_id t.to) (body_with (changed (codes "y") Plus t.amount))
    ∷ []

-- under the expiry and the tries of the script
abbrev pub plan_of : Transfer → TxnPlan
plan_of t = record { ops = operations t; expiry = 2000; hold = 2000; tries = 8; keep = true }

-- the transaction of a transfer that is drawn
abbrev pub transaction : ℕ → Drawn TxnPlan
transaction accounts = do
  t ← transfer accounts
  give (plan_of t)
