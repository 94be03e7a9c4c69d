-- What a tree stands for: serde_json's data, and the text and the levels of that.
use Rattle.std.specs.Prelude.{ℕ, ℤ, pos, negsuc, List, [], ◌∷◌, map}
use Rattle.serde_json.specs.Data.{Num, unsigned, negative, Data, null, boolean, number, string, array, object, Items, Members, no_members, member, depth}
use Rattle.serde_json.specs.View.{items_of}
use Rattle.serde_json.specs.Written.{compact_text}
use Rattle.cbt_json.specs.declared.tree.Tree.{Tree, fold-Tree}
use Rattle.cbt_json.specs.declared.tree.Tree.TheOpen.{Tree-F}

-- a whole number as serde_json keeps it
abbrev pub number_of_whole : ℤ → Num
number_of_whole (pos n) = unsigned n
number_of_whole (negsuc n) = negative (negsuc n)

-- the members of an object, each a name and a value
abbrev pub members_of : List (List ℕ × Data) → Members
members_of [] = no_members
members_of (m ∷ ms) = member m.0 m.1 (members_of ms)

-- one level of a tree, with each tree inside already seen as its data
abbrev pub data_step : Tree-F Data → Data
data_step Tree-F.Null = null
data_step (Tree-F.Bool b) = boolean b
data_step (Tree-F.Whole z) = number (number_of_whole z)
data_step (Tree-F.Text s) = string s
data_step (Tree-F.List ds) = array (items_of ds)
data_step (Tree-F.Object ms) = object (members_of ms)

-- the data that a tree stands for
abbrev pub data_of : Tree → Data
data_of = fold-Tree Data data_step

-- the data of a list's trees
abbrev pub items_data : List Tree → Items
items_data ts = items_of (map data_of ts)

-- the data of an object's names and trees
abbrev pub members_data : List (List ℕ × Tree) → Members
members_data ms = members_of (map (λ m. (m.0, data_of m.1)) ms)

-- how deep lists and objects nest: a scalar has 0 levels, an empty list 1
abbrev pub levels : Tree → ℕ
levels t = depth (data_of t)

-- the compact canonical text, with no space
abbrev pub text_of : Tree → List ℕ
text_of t = compact_text (data_of t)
