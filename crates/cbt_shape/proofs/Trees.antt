-- What a tree is, by its first level.
use Rattle.std.proofs.Common.{◌≡◌, ℕ, ℤ, List, sym, ap, ◌∙◌, rules}
use Rattle.serde_json.specs.Data.{Data}
use Rattle.cbt_json.specs.declared.tree.Tree.{Tree, out-Tree, map-Tree, the_lemmas}
use Rattle.cbt_json.specs.declared.tree.Tree.TheOpen.{Tree-F}
use Rattle.cbt_json.specs.declared.tree.Tree.TheVariants as tree
use Rattle.cbt_json.specs.Reading.{tree_of}
use Rattle.cbt_json.specs.Trees.{data_of, data_step}
use Rattle.cbt_json.proofs.Inverse.{tree_of-data_of}
use Rattle.cbt_json.proofs.Views.{data_of-Whole, data_of-Text, data_of-List, data_of-Object}
use Rattle.cbt_subdoc.specs.Members.{Members}
use Rattle.cbt_subdoc.proofs.Inside.{opened}

pub out-Whole : (z : ℤ) → out-Tree (tree.Whole z) ≡ Tree-F.Whole z
out-Whole z = search (rules, the_lemmas)

pub out-Text : (text : List ℕ) → out-Tree (tree.Text text) ≡ Tree-F.Text text
out-Text text = search (rules, the_lemmas)

pub out-List : (ts : List Tree) → out-Tree (tree.List ts) ≡ Tree-F.List ts
out-List ts = search (rules, the_lemmas)

pub out-Object : (ms : Members) → out-Tree (tree.Object ms) ≡ Tree-F.Object ms
out-Object ms = search (rules, the_lemmas)

same_data : (x y : Tree) → data_of x ≡ data_of y → x ≡ y
same_data x y same = sym (tree_of-data_of x) ∙ ap tree_of same ∙ tree_of-data_of y

level_data : (t : Tree) (y : Tree-F Tree) → out-Tree t ≡ y → data_of t ≡ data_step (map-Tree Tree Data data_of y)
level_data t y is = opened t ∙ ap (λ z. data_step (map-Tree Tree Data data_of z)) is

pub is-Whole : (t : Tree) (z : ℤ) → out-Tree t ≡ Tree-F.Whole z → t ≡ tree.Whole z
is-Whole t z is = same_data t (tree.Whole z) (level_data t (Tree-F.Whole z) is ∙ sym (data_of-Whole z))

pub is-Text : (t : Tree) (text : List ℕ) → out-Tree t ≡ Tree-F.Text text → t ≡ tree.Text text
is-Text t text is = same_data t (tree.Text text) (level_data t (Tree-F.Text text) is ∙ sym (data_of-Text text))

pub is-List : (t : Tree) (ts : List Tree) → out-Tree t ≡ Tree-F.List ts → t ≡ tree.List ts
is-List t ts is = same_data t (tree.List ts) (level_data t (Tree-F.List ts) is ∙ sym (data_of-List ts))

pub is-Object : (t : Tree) (ms : Members) → out-Tree t ≡ Tree-F.Object ms → t ≡ tree.Object ms
is-Object t ms is = same_data t (tree.Object ms) (level_data t (Tree-F.Object ms) is ∙ sym (data_of-Object ms))
