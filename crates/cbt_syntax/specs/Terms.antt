-- Terms and expressions at the front of a text.
use Rattle.std.specs.Prelude.{ℕ, zero, suc, Bool, true, false, ◌==◌, if◌then◌else◌, List, [], ◌∷◌, ◌++◌, length, codes, Option, Some, None, Ok, Err}
use Rattle.std.specs.Ordering.{nat_cmp}
use Rattle.std.specs.Cmp.Lexicographic.{slice_cmp}
use Rattle.cbt_base.specs.Keyed.{with_pair}
use Rattle.cbt_lex.specs.Decimals.{is_digit}
use Rattle.cbt_lex.specs.Lines.{skip_spaces}
use Rattle.cbt_json.specs.declared.tree.Tree.{Tree}
use Rattle.cbt_json.specs.declared.tree.Tree.TheVariants as tree
use Rattle.cbt_expr.specs.declared.expressions.Expr.{Expr, roll-Expr}
use Rattle.cbt_expr.specs.declared.expressions.Term.{Term}
use Rattle.cbt_expr.specs.declared.expressions.Term.TheVariants as term
use Rattle.cbt_expr.specs.declared.expressions.Sign.{Sign}
use Rattle.cbt_expr.specs.declared.expressions.Sign.TheVariants.{Plus, Minus}
use Rattle.cbt_syntax.specs.declared.fault.SyntaxFault.TheVariants.{Malformed}
use Rattle.cbt_syntax.specs.Readings.{Outcome, Read, ◌>>=◌}
use Rattle.cbt_syntax.specs.Pieces.{behind}
use Rattle.cbt_syntax.specs.Strings.{string_at}
use Rattle.cbt_syntax.specs.Numbers.{number_at}
use Rattle.cbt_syntax.specs.References.{name_at, path_at}

-- ---- terms without terms in them

-- a fixed word, or what is read otherwise
abbrev pub word_or : Tree → Option (List ℕ) → Read Tree → Read Tree
word_or value None other = other
word_or value (Some rest) other = Ok (value, rest)

-- `null`, `true` or `false`
unfoldable pub word_at : List ℕ → Read Tree
word_at text =
    word_or tree.Null (behind (codes "null") text)
    (word_or (tree.Bool true) (behind (codes "true") text)
    (word_or (tree.Bool false) (behind (codes "false") text)
    (Err Malformed)))

-- a string as a value
abbrev pub text_at : List ℕ → Read Tree
text_at text = do
  s ← string_at text
  Ok (tree.Text s.0, s.1)

-- a whole number as a value
abbrev pub whole_at : List ℕ → Read Tree
whole_at text = do
  z ← number_at text
  Ok (tree.Whole z.0, z.1)

-- a string, a whole number, or a fixed word
unfoldable pub scalar_at : List ℕ → Read Tree
scalar_at [] = Err Malformed
scalar_at (b ∷ bs) =
    if b == 34 then text_at (b ∷ bs)
    else (if b == 45 then whole_at (b ∷ bs)
    else (if is_digit b then whole_at (b ∷ bs)
    else word_at (b ∷ bs)))

-- a scalar with the spaces behind it
unfoldable pub plain_at : List ℕ → Read Term
plain_at text = do
  x ← scalar_at text
  Ok (term.Plain x.0, skip_spaces x.1)

-- a reference behind its `@`
unfoldable pub reference_at : (List ℕ → Bool) → List ℕ → Read Term
reference_at bound text = do
  name ← name_at bound text
  path ← path_at name.1
  Ok (term.Ref name.0 path.0, skip_spaces path.1)

-- ---- what parts terms

-- what stands behind this byte and the spaces that follow it
abbrev pub past : ℕ → List ℕ → Outcome (List ℕ)
past b [] = Err Malformed
past b (c ∷ cs) = if c == b then Ok (skip_spaces cs) else Err Malformed

-- behind an item: whether a comma tells of another, or this byte closes them
abbrev pub after_item : ℕ → List ℕ → Read Bool
after_item close [] = Err Malformed
after_item close (b ∷ bs) =
    if b == 44 then Ok (true, skip_spaces bs)
    else (if b == close then Ok (false, skip_spaces bs)
    else Err Malformed)

-- a sign at the front, where there is one, and what stands behind it and its spaces
abbrev pub sign_at : List ℕ → Option (Sign × List ℕ)
sign_at [] = None
sign_at (b ∷ bs) =
    if b == 43 then Some (Plus, skip_spaces bs)
    else (if b == 45 then Some (Minus, skip_spaces bs)
    else None)

-- by a sign, where there is one
abbrev pub by_sign : {A : Type 0} → Option (Sign × List ℕ) → A → (Sign × List ℕ → A) → A
by_sign None none some = none
by_sign (Some x) none some = some x

-- ---- lists and objects, by the reading of an expression. A count of turns bounds how many parts there may be; each
-- part has a byte at least, so the count of the bytes is enough

module _ (expr : List ℕ → Read Expr) where
  -- further items behind those found, up to the closing bracket
  unfoldable pub items_from : ℕ → List Expr → List ℕ → Read (List Expr)
  items_from zero found text = Err Malformed
  items_from (suc n) found text = do
    item ← expr text
    next ← after_item 93 item.1
    if next.0 then items_from n (found ++ item.0 ∷ []) next.1 else Ok (found ++ item.0 ∷ [], next.1)

  -- a list behind its bracket
  unfoldable pub list_at : List ℕ → Read Term
  list_at [] = Err Malformed
  list_at (b ∷ bs) =
      if b == 93 then Ok (term.Items [], skip_spaces bs)
      else (do
        items ← items_from (length (b ∷ bs)) [] (b ∷ bs)
        Ok (term.Items items.0, items.1))

  -- a name, a colon and an expression
  unfoldable pub member_at : List ℕ → Read (List ℕ × Expr)
  member_at text = do
    name ← string_at text
    value ← past 58 (skip_spaces name.1)
    x ← expr value
    Ok ((name.0, x.0), x.1)

  -- of equal names the last counts, and the names rise by bytes
  unfoldable pub members_from : ℕ → List (List ℕ × Expr) → List ℕ → Read (List (List ℕ × Expr))
  members_from zero found text = Err Malformed
  members_from (suc n) found text = do
    m ← member_at text
    next ← after_item 125 m.1
    if next.0
        then members_from n (with_pair (slice_cmp nat_cmp) found m.0.0 m.0.1) next.1
        else Ok (with_pair (slice_cmp nat_cmp) found m.0.0 m.0.1, next.1)

  -- an object behind its bracket
  unfoldable pub object_at : List ℕ → Read Term
  object_at [] = Err Malformed
  object_at (b ∷ bs) =
      if b == 125 then Ok (term.Members [], skip_spaces bs)
      else (do
        ms ← members_from (length (b ∷ bs)) [] (b ∷ bs)
        Ok (term.Members ms.0, ms.1))

-- ---- expressions, by the reading of a term

module _ (term_in : List ℕ → Read Term) where
  -- the terms that are joined to those before them
  unfoldable pub joined_from : ℕ → List (Sign × Term) → List ℕ → Read (List (Sign × Term))
  joined_from zero found text = Ok (found, text)
  joined_from (suc n) found text = by_sign (sign_at text) (Ok (found, text)) (λ x. do
    t ← term_in x.1
    joined_from n (found ++ (x.0, t.0) ∷ []) t.1)

  -- an expression at the front: a term, and those joined to it
  unfoldable pub expr_by : List ℕ → Read Expr
  expr_by text = do
    first ← term_in text
    rest ← joined_from (length first.1) [] first.1
    Ok (roll-Expr (record { first = first.0; rest = rest.0 }), rest.1)

-- ---- terms, by the readings behind an opening bracket

module _ (bound : List ℕ → Bool) where
  -- a term, by what its first byte is
  unfoldable pub term_by : (List ℕ → Read Term) → (List ℕ → Read Term) → List ℕ → Read Term
  term_by list object [] = Err Malformed
  term_by list object (b ∷ bs) =
      if b == 91 then list (skip_spaces bs)
      else (if b == 123 then object (skip_spaces bs)
      else (if b == 64 then reference_at bound bs
      else plain_at (b ∷ bs)))

  -- a bracket where no further level may nest
  abbrev pub too_deep : List ℕ → Read Term
  too_deep text = Err Malformed

  -- a term in which so many levels of lists and objects may nest
  unfoldable pub term_at : ℕ → List ℕ → Read Term
  term_at zero = term_by too_deep too_deep
  term_at (suc n) = term_by (list_at (expr_by (term_at n))) (object_at (expr_by (term_at n)))

  -- an expression in which so many levels may nest
  abbrev pub expr_at : ℕ → List ℕ → Read Expr
  expr_at levels = expr_by (term_at levels)
