-- The expression or the condition that a text is, or why it is none.
use Rattle.std.specs.Prelude.{ℕ, Bool, true, List, Ok, Err}
use Rattle.cbt_expr.specs.declared.expressions.Expr.{Expr}
use Rattle.cbt_expr.specs.declared.expressions.Cond.{Cond}
use Rattle.cbt_syntax.specs.declared.fault.SyntaxFault.TheVariants.{Unbound}
use Rattle.cbt_syntax.specs.Readings.{Outcome}
use Rattle.cbt_syntax.specs.Conditions.{whole_expr, whole_cond}

-- what decides where a name is not bound: a fault of the reading in which every name counts as bound, and else the name
abbrev pub unbound_or : {A : Type 0} → Outcome A → Outcome A
unbound_or (Ok x) = Err Unbound
unbound_or (Err fault) = Err fault

-- a reading, where an unbound name counts only if the text reads when every name counts as bound
abbrev pub decided : {A : Type 0} → Outcome A → Outcome A → Outcome A
decided (Ok x) freely = Ok x
decided (Err Unbound) freely = unbound_or freely
decided (Err fault) freely = Err fault

-- every name counts as bound
abbrev pub any_name : List ℕ → Bool
any_name name = true

-- the expression that a text is, by the test which names are bound
abbrev pub expr_of : (List ℕ → Bool) → List ℕ → Outcome Expr
expr_of bound text = decided (whole_expr bound text) (whole_expr any_name text)

-- the condition that a text is
abbrev pub cond_of : (List ℕ → Bool) → List ℕ → Outcome Cond
cond_of bound text = decided (whole_cond bound text) (whole_cond any_name text)
