-- What bytes read as.
use Rattle.std.specs.Prelude.{ℕ, pos, List, [], ◌∷◌, Option, Some, None, Result, Ok, Err, if◌then◌else◌}
use Rattle.serde_json.specs.Data.{Num, unsigned, negative, float, Data, null, boolean, number, string, array, object, Items, no_items, item, Members, no_members, member}
use Rattle.serde_json.specs.Read.{read}
use Rattle.serde_json.specs.Written.{has_float}
use Rattle.cbt_json.specs.declared.fault.JsonFault.{JsonFault}
use Rattle.cbt_json.specs.declared.fault.JsonFault.TheVariants.{NotJson, NotWhole}
use Rattle.cbt_json.specs.declared.tree.Tree.{Tree}
use Rattle.cbt_json.specs.declared.tree.Tree.TheVariants as t

-- the reading of serde_json within 127 levels, where the text has one
abbrev pub reading : List ℕ → Option Data
reading = read

-- the whole number that serde_json's number is; a float is none
abbrev pub whole_of : Num → Tree
whole_of (unsigned n) = t.Whole (pos n)
whole_of (negative z) = t.Whole z
whole_of (float x) = t.Null

-- the tree that data without floats stands for
abbrev mutual
  pub tree_of : Data → Tree
  tree_of null = t.Null
  tree_of (boolean b) = t.Bool b
  tree_of (number n) = whole_of n
  tree_of (string s) = t.Text s
  tree_of (array ds) = t.List (trees_of ds)
  tree_of (object ms) = t.Object (named_trees_of ms)

  pub trees_of : Items → List Tree
  trees_of no_items = []
  trees_of (item d ds) = tree_of d ∷ trees_of ds

  pub named_trees_of : Members → List (List ℕ × Tree)
  named_trees_of no_members = []
  named_trees_of (member k d ms) = (k, tree_of d) ∷ named_trees_of ms

-- what a reading gives: its tree, or why there is none
abbrev pub given : Option Data → Result Tree JsonFault
given None = Err NotJson
given (Some d) = if has_float d then Err NotWhole else Ok (tree_of d)

-- the tree that a text is, or why it is none
abbrev pub json_of : List ℕ → Result Tree JsonFault
json_of text = given (reading text)
