-- The members of an object, in the order of a text and by their names.
use Rattle.std.specs.Prelude.{ℕ, Bool, true, ◌&&◌, List, [], ◌∷◌, fold}
use Rattle.std.specs.Ordering.{nat_cmp, is_lt}
use Rattle.std.specs.Cmp.Lexicographic.{slice_cmp}
use Rattle.cbt_base.specs.Keyed.{with_pair}
use Rattle.cbt_expr.specs.declared.expressions.Expr.{Expr}

-- a further member: of equal names the last counts, and the names rise by bytes
abbrev pub with_member : List (List ℕ × Expr) → List ℕ × Expr → List (List ℕ × Expr)
with_member found m = with_pair (slice_cmp nat_cmp) found m.0 m.1

-- the members by name
unfoldable pub by_name : List (List ℕ × Expr) → List (List ℕ × Expr)
by_name ms = fold with_member [] ms

-- whether the names rise, from this one on
abbrev pub rise_after : List ℕ → List (List ℕ × Expr) → Bool
rise_after name [] = true
rise_after name (m ∷ ms) = is_lt (slice_cmp nat_cmp name m.0) && rise_after m.0 ms

abbrev pub names_rise : List (List ℕ × Expr) → Bool
names_rise [] = true
names_rise (m ∷ ms) = rise_after m.0 ms
