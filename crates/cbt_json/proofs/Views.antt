-- The data of each kind of tree.
use Rattle.std.proofs.Common.{◌≡◌, ℕ, ℤ, Bool, List, rules}
use Rattle.serde_json.specs.Data.{null, boolean, number, string, array, object}
use Rattle.cbt_json.specs.declared.tree.Tree.{Tree, the_lemmas}
use Rattle.cbt_json.specs.declared.tree.Tree.TheVariants as t
use Rattle.cbt_json.specs.Trees.{data_of, items_data, members_data, number_of_whole}

pub data_of-Null : data_of t.Null ≡ null
data_of-Null = search (rules, the_lemmas)

pub data_of-Bool : (b : Bool) → data_of (t.Bool b) ≡ boolean b
data_of-Bool b = search (rules, the_lemmas)

pub data_of-Whole : (z : ℤ) → data_of (t.Whole z) ≡ number (number_of_whole z)
data_of-Whole z = search (rules, the_lemmas)

pub data_of-Text : (s : List ℕ) → data_of (t.Text s) ≡ string s
data_of-Text s = search (rules, the_lemmas)

pub data_of-List : (ts : List Tree) → data_of (t.List ts) ≡ array (items_data ts)
data_of-List ts = search (rules, the_lemmas)

pub data_of-Object : (ms : List (List ℕ × Tree)) → data_of (t.Object ms) ≡ object (members_data ms)
data_of-Object ms = search (rules, the_lemmas)
