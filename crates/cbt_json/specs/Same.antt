-- The test whether two trees are the same, over what they stand for.
use Rattle.std.specs.Prelude.{◌==◌, Bool, true, false, ◌&&◌}
use Rattle.std.specs.Bool.{beq}
use Rattle.std.specs.Ordering.{int_eq}
use Rattle.std.specs.Cmp.Lexicographic.{pointwise}
use Rattle.serde_json.specs.Data.{Num, unsigned, negative, Data, null, boolean, number, string, array, object, Items, no_items, item, Members, no_members, member}
use Rattle.cbt_json.specs.declared.tree.Tree.{Tree}
use Rattle.cbt_json.specs.Trees.{data_of}

-- no float is the same as any number, and a tree has none
abbrev pub num_eq : Num → Num → Bool
num_eq (unsigned m) (unsigned n) = m == n
num_eq (negative x) (negative y) = int_eq x y
num_eq _ _ = false

abbrev mutual
  pub data_eq : Data → Data → Bool
  data_eq null null = true
  data_eq (boolean a) (boolean b) = beq a b
  data_eq (number m) (number n) = num_eq m n
  data_eq (string s) (string u) = pointwise ◌==◌ s u
  data_eq (array xs) (array ys) = items_eq xs ys
  data_eq (object xs) (object ys) = members_eq xs ys
  data_eq _ _ = false

  pub items_eq : Items → Items → Bool
  items_eq no_items no_items = true
  items_eq (item x xs) (item y ys) = data_eq x y && items_eq xs ys
  items_eq _ _ = false

  pub members_eq : Members → Members → Bool
  members_eq no_members no_members = true
  members_eq (member k x xs) (member l y ys) = pointwise ◌==◌ k l && (data_eq x y && members_eq xs ys)
  members_eq _ _ = false

abbrev pub tree_eq : Tree → Tree → Bool
tree_eq x y = data_eq (data_of x) (data_of y)
