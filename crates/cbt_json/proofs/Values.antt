-- From the members of a read object to those of a tree.
use Rattle.std.proofs.Common.{◌≡◌, ℕ, List, [], ◌∷◌, ◌++◌, String, Global, string_bytes, map, refl, sym, ap, ◌∙◌, append-nil}
use Rattle.serde_json.specs.Data.{Data, member}
use Rattle.serde_json.specs.View.{view, members_view}
use Rattle.serde_json.specs.declared.value.Value.{Value}
use Rattle.cbt_json.specs.declared.tree.Tree.{Tree}
use Rattle.cbt_json.specs.Trees.{data_of, members_of, members_data}

-- each name with the data of its value
abbrev pub read_pairs : List (String Global × Value) → List (List ℕ × Data)
read_pairs es = map (λ e. (string_bytes e.0, view e.1)) es

abbrev pub tree_pairs : List (List ℕ × Tree) → List (List ℕ × Data)
tree_pairs ms = map (λ m. (m.0, data_of m.1)) ms

pub members_view-read_pairs : (es : List (String Global × Value)) → members_of (read_pairs es) ≡ members_view es
members_view-read_pairs [] = refl
members_view-read_pairs (e ∷ es) = ap (member (string_bytes e.0) (view e.1)) (members_view-read_pairs es)

pub members_read : (ms : List (List ℕ × Tree)) (es : List (String Global × Value)) → tree_pairs ms ++ read_pairs [] ≡ read_pairs es → members_data ms ≡ members_view es
members_read ms es done = ap members_of (sym (append-nil (tree_pairs ms)) ∙ done) ∙ members_view-read_pairs es
