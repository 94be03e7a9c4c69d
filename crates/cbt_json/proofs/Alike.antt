-- The test of `specs/Same.antt` holds exactly where two trees are the same.
use Rattle.std.proofs.Common.{◌≡◌, ℕ, suc, ◌==◌, Bool, true, false, ◌&&◌, ◌||◌, List, [], ◌∷◌, length, refl, sym, ap, ap₂, ◌∙◌, subst, eqb-true, eq-eqb}
use Rattle.std.proofs.lemmas.Bool.{and_parts, and_from, or_parts}
use Rattle.std.specs.Prelude.{IsTrue}
use Rattle.std.specs.Bool.{Decides}
use Rattle.std.specs.Cmp.{signed_Decides, booleans_Decides}
use Rattle.std.specs.Cmp.Lexicographic.{pointwise, bytes_decides}
use Rattle.serde_json.specs.Data.{Num, unsigned, negative, float, Data, null, boolean, number, string, array, object, Items, no_items, item, Members, no_members, member}
use Rattle.serde_json.specs.Find.{is_float}
use Rattle.serde_json.specs.Written.{has_float, items_have_float, members_have_float}
use Rattle.cbt_json.specs.declared.tree.Tree.{Tree}
use Rattle.cbt_json.specs.declared.tree.Tree.TheVariants as t
use Rattle.cbt_json.specs.Trees.{data_of, items_data, members_data}
use Rattle.cbt_json.specs.Reading.{tree_of}
use Rattle.cbt_json.specs.Same.{num_eq, data_eq, items_eq, members_eq, tree_eq}
use Rattle.cbt_json.proofs.Views.{data_of-Object}
use Rattle.cbt_json.proofs.Inverse.{tree_of-data_of, has_float-data_of}

later : (a : Bool) → (a && false) ≡ false
later true = refl
later false = refl

pub items_apart : (xs ys : List Tree) → (length xs ≡ length ys → ⊥) → false ≡ items_eq (items_data xs) (items_data ys)
items_apart [] [] apart = absurd (apart refl)
items_apart [] (y ∷ ys) apart = refl
items_apart (x ∷ xs) [] apart = refl
items_apart (x ∷ xs) (y ∷ ys) apart =
    let first : Bool = data_eq (data_of x) (data_of y) in
    sym (later first) ∙ ap (λ b. first && b) (items_apart xs ys (λ e. apart (ap suc e)))

pub members_apart : (xs ys : List (List ℕ × Tree)) → (length xs ≡ length ys → ⊥) → false ≡ members_eq (members_data xs) (members_data ys)
members_apart [] [] apart = absurd (apart refl)
members_apart [] (y ∷ ys) apart = refl
members_apart (x ∷ xs) [] apart = refl
members_apart (x ∷ xs) (y ∷ ys) apart =
    let name : Bool = pointwise ◌==◌ x.0 y.0 in
    let first : Bool = data_eq (data_of x.1) (data_of y.1) in
    sym (later name) ∙ ap (λ b. name && b) (sym (later first) ∙ ap (λ b. first && b) (members_apart xs ys (λ e. apart (ap suc e))))

pub objects_eq : (x y : Tree) (xs ys : List (List ℕ × Tree)) → x ≡ t.Object xs → y ≡ t.Object ys → members_eq (members_data xs) (members_data ys) ≡ tree_eq x y
objects_eq x y xs ys e f = sym (ap₂ data_eq (ap data_of e ∙ data_of-Object xs) (ap data_of f ∙ data_of-Object ys))

-- ---- the test is exact

num_same : (m n : Num) → num_eq m n ≡ true → m ≡ n
num_same (unsigned m) (unsigned n) h = ap unsigned (eqb-true m n h)
num_same (negative x) (negative y) h = ap negative ((signed_Decides x y).0 h)
num_same _ _ h = absurd (cc)

mutual
  data_same : (x y : Data) → data_eq x y ≡ true → x ≡ y
  data_same null null h = refl
  data_same (boolean a) (boolean b) h = ap boolean ((booleans_Decides a b).0 h)
  data_same (number m) (number n) h = ap number (num_same m n h)
  data_same (string s) (string u) h = ap string ((bytes_decides s u).0 h)
  data_same (array xs) (array ys) h = ap array (items_same xs ys h)
  data_same (object xs) (object ys) h = ap object (members_same xs ys h)
  data_same _ _ h = absurd (cc)

  items_same : (xs ys : Items) → items_eq xs ys ≡ true → xs ≡ ys
  items_same no_items no_items h = refl
  items_same (item x xs) (item y ys) h = let p = and_parts (data_eq x y) (items_eq xs ys) h in ap₂ item (data_same x y p.0) (items_same xs ys p.1)
  items_same _ _ h = absurd (cc)

  members_same : (xs ys : Members) → members_eq xs ys ≡ true → xs ≡ ys
  members_same no_members no_members h = refl
  members_same (member k x xs) (member l y ys) h =
      let p = and_parts (pointwise ◌==◌ k l) (data_eq x y && members_eq xs ys) h in
      let q = and_parts (data_eq x y) (members_eq xs ys) p.1 in
      let name : k ≡ l = (bytes_decides k l).0 p.0 in
      ap₂ (λ n d. member n d xs) name (data_same x y q.0) ∙ ap (member l y) (members_same xs ys q.1)
  members_same _ _ h = absurd (cc)

number_tied : (n : Num) → is_float n ≡ false → num_eq n n ≡ true
number_tied (unsigned n) h = eq-eqb n n refl
number_tied (negative z) h = (signed_Decides z z).1 refl
number_tied (float x) h = absurd (cc)

mutual
  data_tied : (d : Data) → has_float d ≡ false → data_eq d d ≡ true
  data_tied null h = refl
  data_tied (boolean b) h = (booleans_Decides b b).1 refl
  data_tied (number n) h = number_tied n h
  data_tied (string s) h = (bytes_decides s s).1 refl
  data_tied (array ds) h = items_tied ds h
  data_tied (object ms) h = members_tied ms h

  items_tied : (ds : Items) → items_have_float ds ≡ false → items_eq ds ds ≡ true
  items_tied no_items h = refl
  items_tied (item d ds) h = let p = or_parts (has_float d) (items_have_float ds) h in and_from _ _ (data_tied d p.0) (items_tied ds p.1)

  members_tied : (ms : Members) → members_have_float ms ≡ false → members_eq ms ms ≡ true
  members_tied no_members h = refl
  members_tied (member k d ms) h =
      let p = or_parts (has_float d) (members_have_float ms) h in
      and_from _ _ ((bytes_decides k k).1 refl) (and_from _ _ (data_tied d p.0) (members_tied ms p.1))

pub tree_eq-Decides : (x y : Tree) → Decides (tree_eq x y) (x ≡ y)
tree_eq-Decides x y = (
  λ h. sym (tree_of-data_of x) ∙ ap tree_of (data_same (data_of x) (data_of y) h) ∙ tree_of-data_of y,
  λ e. subst (λ z. tree_eq x z ≡ true) e (data_tied (data_of x) (has_float-data_of x)),
)

-- an answer of the test tells whether the trees are the same
pub same_exactly : (x y : Tree) (b : Bool) → b ≡ tree_eq x y → (IsTrue b → x ≡ y) × (x ≡ y → IsTrue b)
same_exactly x y b is = (λ h. (tree_eq-Decides x y).0 (sym is ∙ h), λ e. is ∙ (tree_eq-Decides x y).1 e)
