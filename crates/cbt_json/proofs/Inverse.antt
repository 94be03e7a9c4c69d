-- A tree is given back by its data, and its data has no float.
use Rattle.std.proofs.Common.{◌≡◌, ℕ, ℤ, pos, negsuc, List, [], ◌∷◌, map, true, false, ◌||◌, refl, sym, ap, ap₂, ◌∙◌, subst}
use Rattle.serde_json.specs.Data.{unsigned, negative, float, Data, null, boolean, number, string, array, object, Items, no_items, item, Members, no_members, member}
use Rattle.serde_json.specs.Find.{is_float}
use Rattle.serde_json.specs.Written.{has_float, items_have_float, members_have_float}
use Rattle.cbt_json.specs.declared.tree.Tree.{Tree, roll-Tree, ind-Tree, map-Tree}
use Rattle.cbt_json.specs.declared.tree.Tree.TheVariants as t
use Rattle.cbt_json.specs.declared.tree.Tree.TheOpen.{Tree-F}
use Rattle.std.proofs.lemmas.Bool.{and_parts}
use Rattle.cbt_json.specs.Rules.{names_rise, is_regular, items_are_regular, members_are_regular}
use Rattle.cbt_json.specs.Reading.{tree_of, trees_of, named_trees_of, whole_of}
use Rattle.cbt_json.specs.Trees.{data_of, items_data, members_data, number_of_whole}
use Rattle.cbt_json.proofs.Views.{data_of-Null, data_of-Bool, data_of-Whole, data_of-Text, data_of-List, data_of-Object}

abbrev Back : Tree → Type 0
Back x = tree_of (data_of x) ≡ x

whole_back : (z : ℤ) → whole_of (number_of_whole z) ≡ t.Whole z
whole_back (pos n) = refl
whole_back (negsuc n) = refl

trees_back : (es : List ((x : Tree) × Back x)) → trees_of (items_data (map (λ e. e.0) es)) ≡ map (λ e. e.0) es
trees_back [] = refl
trees_back (e ∷ es) = ap₂ (λ x xs. x ∷ xs) e.1 (trees_back es)

named_back : (es : List (List ℕ × ((x : Tree) × Back x))) → named_trees_of (members_data (map (λ e. (e.0, e.1.0)) es)) ≡ map (λ e. (e.0, e.1.0)) es
named_back [] = refl
named_back (e ∷ es) = ap₂ (λ x xs. (e.0, x) ∷ xs) e.1.1 (named_back es)

level : (y : Tree-F ((x : Tree) × Back x)) → Back (roll-Tree (map-Tree _ Tree (λ e. e.0) y))
level Tree-F.Null = subst Back (sym t.rolls-Null) (ap tree_of data_of-Null)
level (Tree-F.Bool b) = subst Back (sym (t.rolls-Bool b)) (ap tree_of (data_of-Bool b))
level (Tree-F.Whole z) = subst Back (sym (t.rolls-Whole z)) (ap tree_of (data_of-Whole z) ∙ whole_back z)
level (Tree-F.Text s) = subst Back (sym (t.rolls-Text s)) (ap tree_of (data_of-Text s))
level (Tree-F.List es) =
    let ts = map (λ (e : (x : Tree) × Back x). e.0) es in
    subst Back (sym (t.rolls-List ts)) (ap tree_of (data_of-List ts) ∙ ap t.List (trees_back es))
level (Tree-F.Object es) =
    let ms = map (λ (e : List ℕ × ((x : Tree) × Back x)). (e.0, e.1.0)) es in
    subst Back (sym (t.rolls-Object ms)) (ap tree_of (data_of-Object ms) ∙ ap t.Object (named_back es))

pub tree_of-data_of : (x : Tree) → tree_of (data_of x) ≡ x
tree_of-data_of = ind-Tree Back (λ x y is. subst (λ z. Back (roll-Tree z)) is (level y))

-- ---- no float

abbrev Floatless : Tree → Type 0
Floatless x = has_float (data_of x) ≡ false

floatless_items : (es : List ((x : Tree) × Floatless x)) → items_have_float (items_data (map (λ e. e.0) es)) ≡ false
floatless_items [] = refl
floatless_items (e ∷ es) = ap₂ (λ a b. a || b) e.1 (floatless_items es)

floatless_members : (es : List (List ℕ × ((x : Tree) × Floatless x))) → members_have_float (members_data (map (λ e. (e.0, e.1.0)) es)) ≡ false
floatless_members [] = refl
floatless_members (e ∷ es) = ap₂ (λ a b. a || b) e.1.1 (floatless_members es)

floatless_whole : (z : ℤ) → is_float (number_of_whole z) ≡ false
floatless_whole (pos n) = refl
floatless_whole (negsuc n) = refl

floatless_level : (y : Tree-F ((x : Tree) × Floatless x)) → Floatless (roll-Tree (map-Tree _ Tree (λ e. e.0) y))
floatless_level Tree-F.Null = subst Floatless (sym t.rolls-Null) (ap has_float data_of-Null)
floatless_level (Tree-F.Bool b) = subst Floatless (sym (t.rolls-Bool b)) (ap has_float (data_of-Bool b))
floatless_level (Tree-F.Whole z) = subst Floatless (sym (t.rolls-Whole z)) (ap has_float (data_of-Whole z) ∙ floatless_whole z)
floatless_level (Tree-F.Text s) = subst Floatless (sym (t.rolls-Text s)) (ap has_float (data_of-Text s))
floatless_level (Tree-F.List es) =
    let ts = map (λ (e : (x : Tree) × Floatless x). e.0) es in
    subst Floatless (sym (t.rolls-List ts)) (ap has_float (data_of-List ts) ∙ floatless_items es)
floatless_level (Tree-F.Object es) =
    let ms = map (λ (e : List ℕ × ((x : Tree) × Floatless x)). (e.0, e.1.0)) es in
    subst Floatless (sym (t.rolls-Object ms)) (ap has_float (data_of-Object ms) ∙ floatless_members es)

pub has_float-data_of : (x : Tree) → has_float (data_of x) ≡ false
has_float-data_of = ind-Tree Floatless (λ x y is. subst (λ z. Floatless (roll-Tree z)) is (floatless_level y))

-- ---- and the data by its tree, where it keeps the rules

mutual
  pub data_of-tree_of : (d : Data) → is_regular d ≡ true → data_of (tree_of d) ≡ d
  data_of-tree_of null h = data_of-Null
  data_of-tree_of (boolean b) h = data_of-Bool b
  data_of-tree_of (number (unsigned n)) h = data_of-Whole (pos n)
  data_of-tree_of (number (negative (pos n))) h = absurd (cc)
  data_of-tree_of (number (negative (negsuc n))) h = data_of-Whole (negsuc n)
  data_of-tree_of (number (float x)) h = absurd (cc)
  data_of-tree_of (string s) h = data_of-Text s
  data_of-tree_of (array ds) h = data_of-List (trees_of ds) ∙ ap array (items_data-trees_of ds h)
  data_of-tree_of (object ms) h =
      data_of-Object (named_trees_of ms) ∙ ap object (members_data-named_trees_of ms (and_parts (names_rise ms) (members_are_regular ms) h).1)

  items_data-trees_of : (ds : Items) → items_are_regular ds ≡ true → items_data (trees_of ds) ≡ ds
  items_data-trees_of no_items h = refl
  items_data-trees_of (item d ds) h =
      let p = and_parts (is_regular d) (items_are_regular ds) h in
      ap₂ item (data_of-tree_of d p.0) (items_data-trees_of ds p.1)

  members_data-named_trees_of : (ms : Members) → members_are_regular ms ≡ true → members_data (named_trees_of ms) ≡ ms
  members_data-named_trees_of no_members h = refl
  members_data-named_trees_of (member k d ms) h =
      let p = and_parts (is_regular d) (members_are_regular ms) h in
      ap₂ (member k) (data_of-tree_of d p.0) (members_data-named_trees_of ms p.1)
