-- The members of an object, whose names rise by bytes.
use Rattle.std.specs.Prelude.{◌≡◌, ℕ, suc, List, [], ◌∷◌, Option, Some, None, Result, Ok, Err}
use Rattle.std.specs.declared.cmp.Ordering.{Ordering}
use Rattle.std.specs.Ordering.{nat_cmp, match_ordering}
use Rattle.std.specs.Cmp.Lexicographic.{slice_cmp}
use Rattle.cbt_base.specs.Keyed.{at_key, with_pair, without_key}
use Rattle.cbt_json.specs.declared.tree.Tree.{Tree}

-- the order of names
abbrev pub name_cmp : List ℕ → List ℕ → Ordering
name_cmp = slice_cmp nat_cmp

abbrev pub Members : Type 0
Members = List (List ℕ × Tree)

-- the value of a name, where the object has it
abbrev pub member : List ℕ → Members → Option Tree
member name [] = None
member name (m ∷ ms) = match_ordering (name_cmp name m.0) None (Some m.1) (member name ms)

-- the members with this value for a name
abbrev pub with_member : List ℕ → Tree → Members → Members
with_member name value ms = with_pair name_cmp ms name value

-- the members without a name
abbrev pub without_member : List ℕ → Members → Members
without_member name [] = []
without_member name (m ∷ ms) = match_ordering (name_cmp name m.0) (m ∷ ms) ms (m ∷ without_member name ms)

-- one place further
abbrev pub further_on : Result ℕ ℕ → Result ℕ ℕ
further_on (Ok at) = Ok (suc at)
further_on (Err at) = Err (suc at)

-- the place of a name, or else the place at which it would stand
abbrev pub seat : List ℕ → Members → Result ℕ ℕ
seat name [] = Err 0
seat name (m ∷ ms) = match_ordering (name_cmp name m.0) (Err 0) (Ok 0) (further_on (seat name ms))

-- a name is found, and taken away, as a key of a map
pub record IsKeyed (name : List ℕ) (ms : Members) : Type 0 where
  pub value : member name ms ≡ at_key name_cmp ms name
  pub left : without_member name ms ≡ without_key name_cmp ms name
