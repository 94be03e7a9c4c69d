-- The test whether two trees are the same is the one of cbt_json's definitions.
use Rattle.std.proofs.Common.{◌≡◌, Bool, true, false, IsTrue, refl, sym}
use Rattle.std.specs.Prelude.{◌↔◌}
use Rattle.cbt_json.specs.declared.tree.Tree.{Tree}
use Rattle.cbt_json.specs.Same.{tree_eq}
use Rattle.cbt_json.proofs.Alike.{tree_eq-Decides}

alike : (P : Type 0) (a b : Bool) → (a ≡ true ↔ P) → (b ≡ true → P) × (P → b ≡ true) → a ≡ b
alike P true b test other = sym (other.1 (test.0 refl))
alike P false true test other = let h = test.1 (other.0 refl) in cc
alike P false false test other = refl

pub same-tree_eq : (x y : Tree) (b : Bool) → (IsTrue b ↔ (x ≡ y)) → b ≡ tree_eq x y
same-tree_eq x y b test = alike (x ≡ y) b (tree_eq x y) test (tree_eq-Decides x y)
