-- Conditions, which are whole texts.
use Rattle.std.specs.Prelude.{ℕ, Bool, if◌then◌else◌, List, [], ◌∷◌, codes, Option, Some, None, Ok, Err}
use Rattle.cbt_lex.specs.Lines.{skip_spaces}
use Rattle.cbt_lex.specs.Names.{is_name}
use Rattle.cbt_expr.specs.declared.expressions.Expr.{Expr}
use Rattle.cbt_expr.specs.declared.expressions.Cmp.{Cmp}
use Rattle.cbt_expr.specs.declared.expressions.Cmp.TheVariants.{Eq, Ne, Lt, Le, Gt, Ge}
use Rattle.cbt_expr.specs.declared.expressions.Cond.{Cond}
use Rattle.cbt_expr.specs.declared.expressions.Cond.TheVariants.{Compare, Has, Lacks}
use Rattle.cbt_syntax.specs.declared.fault.SyntaxFault.TheVariants.{Malformed, Unbound}
use Rattle.cbt_syntax.specs.Readings.{Outcome, Read, ◌>>=◌}
use Rattle.cbt_syntax.specs.Pieces.{behind}
use Rattle.cbt_syntax.specs.Terms.{expr_at}

-- ---- whole texts

-- what is read, where nothing stands behind it
abbrev pub nothing_behind : {A : Type 0} → A × List ℕ → Outcome A
nothing_behind (x, []) = Ok x
nothing_behind (x, b ∷ bs) = Err Malformed

-- ---- comparisons

-- an operator, and what stands behind it and the spaces that follow it, or what is read otherwise
abbrev pub cmp_or : Cmp → Option (List ℕ) → Read Cmp → Read Cmp
cmp_or cmp None other = other
cmp_or cmp (Some rest) other = Ok (cmp, skip_spaces rest)

-- the operator of a comparison
unfoldable pub cmp_at : List ℕ → Read Cmp
cmp_at text =
    cmp_or Eq (behind (codes "==") text)
    (cmp_or Ne (behind (codes "!=") text)
    (cmp_or Le (behind (codes "<=") text)
    (cmp_or Lt (behind (codes "<") text)
    (cmp_or Ge (behind (codes ">=") text)
    (cmp_or Gt (behind (codes ">") text)
    (Err Malformed))))))

-- how many levels of lists and objects may nest
abbrev pub max_levels : ℕ
max_levels = 127

module _ (bound : List ℕ → Bool) where
  -- an expression and nothing more
  unfoldable pub whole_expr : List ℕ → Outcome Expr
  whole_expr text = do
    x ← expr_at bound max_levels text
    nothing_behind x

  -- two expressions with an operator between them
  unfoldable pub comparison : List ℕ → Outcome Cond
  comparison text = do
    left ← expr_at bound max_levels text
    cmp ← cmp_at left.1
    right ← whole_expr cmp.1
    Ok (Compare left.0 cmp.0 right)

  -- a name and nothing more, which has to be bound
  unfoldable pub whole_name : List ℕ → Outcome (List ℕ)
  whole_name text = if is_name text then (if bound text then Ok text else Err Unbound) else Err Malformed

  -- a document was there at the get of a name
  abbrev pub has : List ℕ → Outcome Cond
  has text = do
    name ← whole_name (skip_spaces text)
    Ok (Has name)

  -- no document was there
  abbrev pub lacks : List ℕ → Outcome Cond
  lacks text = do
    name ← whole_name (skip_spaces text)
    Ok (Lacks name)

  -- by the word in front
  abbrev pub asked : Option (List ℕ) → (List ℕ → Outcome Cond) → Outcome Cond → Outcome Cond
  asked None of_name other = other
  asked (Some rest) of_name other = of_name rest

  -- `some` and `none` ask for a name, which a space parts from them; all else compares
  unfoldable pub whole_cond : List ℕ → Outcome Cond
  whole_cond text = asked (behind (codes "some ") text) has (asked (behind (codes "none ") text) lacks (comparison text))
