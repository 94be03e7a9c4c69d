-- Which names count as bound.
use Rattle.std.specs.Prelude.{ℕ, Bool, ◌||◌, List, is_some}
use Rattle.std.specs.Ordering.{nat_cmp}
use Rattle.std.specs.Cmp.Lexicographic.{slice_cmp}
use Rattle.cbt_base.specs.Keyed.{at_key}

-- whether a name is a key of a map
abbrev pub is_bound_in : {V : Type 0} → List (List ℕ × V) → List ℕ → Bool
is_bound_in m name = is_some (at_key (slice_cmp nat_cmp) m name)

-- every name counts as bound, or the keys of a map alone
abbrev pub is_taken : {V : Type 0} → Bool → List (List ℕ × V) → List ℕ → Bool
is_taken every m name = every || is_bound_in m name
