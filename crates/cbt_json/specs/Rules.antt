-- The rules that a JSON value keeps, and the rule of a body.
use Rattle.std.specs.Prelude.{◌≤◌, ℕ, ℤ, pos, negsuc, ◌^◌, List, length, Bool, true, false, ◌&&◌, nat_lt, IsTrue}
use Rattle.std.specs.Ordering.{nat_cmp, is_lt}
use Rattle.std.specs.Cmp.Lexicographic.{slice_cmp}
use Rattle.serde_json.specs.Data.{Num, unsigned, negative, float, Data, null, boolean, number, string, array, object, Items, no_items, item, Members, no_members, member}
use Rattle.cbt_json.specs.declared.tree.Tree.{Tree}
use Rattle.cbt_json.specs.Trees.{data_of, levels, text_of}

-- from -2^63 to 2^64-1
abbrev pub is_in_range : ℤ → Bool
is_in_range (pos n) = nat_lt n (2 ^ 64)
is_in_range (negsuc n) = nat_lt n (2 ^ 63)

-- a whole number in the range
abbrev pub is_whole : Num → Bool
is_whole (unsigned n) = is_in_range (pos n)
is_whole (negative (pos n)) = false
is_whole (negative (negsuc n)) = is_in_range (negsuc n)
is_whole (float x) = false

-- the first of the names, where there is one, stands after `name` by bytes
abbrev pub rises_from : List ℕ → Members → Bool
rises_from name no_members = true
rises_from name (member next d ms) = is_lt (slice_cmp nat_cmp name next)

-- the names of one object rise by bytes
abbrev pub names_rise : Members → Bool
names_rise no_members = true
names_rise (member name d ms) = rises_from name ms && names_rise ms

-- whole numbers in the range, and names that rise, at every level
abbrev mutual
  pub is_regular : Data → Bool
  is_regular null = true
  is_regular (boolean b) = true
  is_regular (number n) = is_whole n
  is_regular (string s) = true
  is_regular (array ds) = items_are_regular ds
  is_regular (object ms) = names_rise ms && members_are_regular ms

  pub items_are_regular : Items → Bool
  items_are_regular no_items = true
  items_are_regular (item d ds) = is_regular d && items_are_regular ds

  pub members_are_regular : Members → Bool
  members_are_regular no_members = true
  members_are_regular (member name d ms) = is_regular d && members_are_regular ms

-- how many levels a JSON value may have
abbrev pub max_levels : ℕ
max_levels = 127

-- the rules of a JSON value: at most 127 levels, whole numbers in the range, names that rise
abbrev pub IsJson : Tree → Type 0
IsJson t = (levels t ≤ max_levels) × IsTrue (is_regular (data_of t))

-- how long the text of a body may be
abbrev pub max_body_bytes : ℕ
max_body_bytes = 4096

-- how many levels a body may have
abbrev pub max_body_levels : ℕ
max_body_levels = 100

-- a fit body: its text has at most 4,096 bytes, and it has at most 100 levels
abbrev pub BodyFits : Tree → Type 0
BodyFits t = (length (text_of t) ≤ max_body_bytes) × (levels t ≤ max_body_levels)
