-- What stands inside a JSON value is one.
use Rattle.std.proofs.Common.{◌≡◌, ℕ, zero, suc, ◌-◌, ◌≤◌, true, List, [], ◌∷◌, length, Option, Some, None, Result, Ok, Err, IsSome, IfNone, refl, sym, ap, ◌∙◌, subst, arith}
use Rattle.std.specs.Prelude.{slice_get}
use Rattle.std.specs.declared.cmp.Ordering.{Ordering}
use Rattle.std.specs.declared.cmp.Ordering.TheVariants.{Less, Equal, Greater}
use Rattle.std.specs.Ordering.{match_ordering}
use Rattle.std.proofs.lemmas.Bool.{and_parts}
use Rattle.serde_json.specs.Data.{Data, depth, items_depth, members_depth}
use Rattle.cbt_json.specs.declared.tree.Tree.{Tree, out-Tree, map-Tree}
use Rattle.cbt_json.specs.declared.tree.Tree.TheFolds.{fold_out-Tree}
use Rattle.cbt_json.specs.declared.tree.Tree.TheOpen.{Tree-F}
use Rattle.cbt_json.specs.Rules.{IsJson, max_levels, names_rise, is_regular, items_are_regular, members_are_regular}
use Rattle.cbt_json.specs.Trees.{data_of, data_step, items_data, members_data}
use Rattle.cbt_subdoc.specs.declared.path.Part.{Part}
use Rattle.cbt_subdoc.specs.declared.path.Part.TheVariants.{Name, Place, Last}
use Rattle.cbt_subdoc.specs.declared.reaching.Miss.{Miss}
use Rattle.cbt_subdoc.specs.Members.{Members, name_cmp, member}
use Rattle.cbt_subdoc.specs.Reach.{found, child, onward, reached}

-- the rules of a value's data
pub record IsJsonData (d : Data) : Type 0 where
  pub low : depth d ≤ max_levels
  pub regular : is_regular d ≡ true

pub opened : (t : Tree) → data_of t ≡ data_step (map-Tree Tree Data data_of (out-Tree t))
opened t = fold_out-Tree Data data_step t

pub item_inside : (ts : List Tree) (at : ℕ) (t : Tree) → slice_get ts at ≡ Some t → items_are_regular (items_data ts) ≡ true
    → (is_regular (data_of t) ≡ true) × (depth (data_of t) ≤ items_depth (items_data ts))
item_inside [] at t e regular = absurd (cc)
item_inside (x ∷ ts) zero t e regular =
    let same : x ≡ t = cc in
    let parts = and_parts (is_regular (data_of x)) (items_are_regular (items_data ts)) regular in
    (ap (λ z. is_regular (data_of z)) (sym same) ∙ parts.0, let d = ap (λ z. depth (data_of z)) same in omega (arith, d))
item_inside (x ∷ ts) (suc at) t e regular =
    let parts = and_parts (is_regular (data_of x)) (items_are_regular (items_data ts)) regular in
    let tail = item_inside ts at t e parts.1 in
    (tail.0, let d = tail.1 in omega (arith, d))

abbrev InMembers : Tree → Members → Type 0
InMembers t ms = (is_regular (data_of t) ≡ true) × (depth (data_of t) ≤ members_depth (members_data ms))

member_by : (name : List ℕ) (m : List ℕ × Tree) (ms : Members) (t : Tree) (o : Ordering) → (member name ms ≡ Some t → InMembers t ms)
    → match_ordering o None (Some m.1) (member name ms) ≡ Some t → is_regular (data_of m.1) ≡ true → InMembers t (m ∷ ms)
member_by name m ms t Less tail e regular = absurd (cc)
member_by name m ms t Equal tail e regular =
    let same : m.1 ≡ t = cc in
    (ap (λ z. is_regular (data_of z)) (sym same) ∙ regular, let d = ap (λ z. depth (data_of z)) same in omega (arith, d))
member_by name m ms t Greater tail e regular = let t = tail e in (t.0, let d = t.1 in omega (arith, d))

pub member_inside : (name : List ℕ) (ms : Members) (t : Tree) → member name ms ≡ Some t → members_are_regular (members_data ms) ≡ true → InMembers t ms
member_inside name [] t e regular = absurd (cc)
member_inside name (m ∷ ms) t e regular =
    let parts = and_parts (is_regular (data_of m.1)) (members_are_regular (members_data ms)) regular in
    member_by name m ms t (name_cmp name m.0) (λ f. member_inside name ms t f parts.1) e parts.0

found_is : (o : Option Tree) (t : Tree) → found o ≡ Ok t → o ≡ Some t
found_is (Some x) t e = cc
found_is None t e = absurd (cc)

-- one level, opened
abbrev Level : Tree-F Tree → Type 0
Level y = IsJsonData (data_step (map-Tree Tree Data data_of y))

in_list : (ts : List Tree) (at : ℕ) (t : Tree) → found (slice_get ts at) ≡ Ok t → Level (Tree-F.List ts) → IsJsonData (data_of t)
in_list ts at t e is =
    let p = item_inside ts at t (found_is (slice_get ts at) t e) is.regular in
    record { low = (let low = is.low in let d = p.1 in omega (arith, low, d)); regular = p.0 }

in_object : (name : List ℕ) (ms : Members) (t : Tree) → found (member name ms) ≡ Ok t → Level (Tree-F.Object ms) → IsJsonData (data_of t)
in_object name ms t e is =
    let parts = and_parts (names_rise (members_data ms)) (members_are_regular (members_data ms)) is.regular in
    let p = member_inside name ms t (found_is (member name ms) t e) parts.1 in
    record { low = (let low = is.low in let d = p.1 in omega (arith, low, d)); regular = p.0 }

child_inside : (part : Part) (y : Tree-F Tree) (t : Tree) → child part y ≡ Ok t → Level y → IsJsonData (data_of t)
child_inside (Name name) (Tree-F.Object ms) t e is = in_object name ms t e is
child_inside (Place at) (Tree-F.List ts) t e is = in_list ts at t e is
child_inside Last (Tree-F.List ts) t e is = in_list ts (length ts - 1) t e is
child_inside _ _ t e is = absurd (cc)

reached_by : (parts : List Part) (r : Result Tree Miss) (t : Tree) → ((x : Tree) → r ≡ Ok x → IsJsonData (data_of x))
    → ((x : Tree) → IsJsonData (data_of x) → reached parts x ≡ Ok t → IsJsonData (data_of t)) → onward (reached parts) r ≡ Ok t → IsJsonData (data_of t)
reached_by parts (Ok x) t first next e = next x (first x refl) e
reached_by parts (Err miss) t first next e = absurd (cc)

reached_inside : (parts : List Part) (x t : Tree) → IsJsonData (data_of x) → reached parts x ≡ Ok t → IsJsonData (data_of t)
reached_inside [] x t is e = let same : x ≡ t = cc in subst (λ z. IsJsonData (data_of z)) same is
reached_inside (part ∷ parts) x t is e =
    reached_by parts (child part (out-Tree x)) t (λ y f. child_inside part (out-Tree x) y f (subst IsJsonData (opened x) is)) (λ y k f. reached_inside parts y t k f) e

pub IsJson-reached : (parts : List Part) (x t : Tree) → IsJson x → reached parts x ≡ Ok t → IsJson t
IsJson-reached parts x t is e =
    let low : depth (data_of x) ≤ max_levels = is.0 in
    let inner = reached_inside parts x t (record { low = low; regular = is.1 }) e in
    (inner.low, inner.regular)

-- so the value that is made of it is there
pub IsSome-json : (o : Option Tree) (t : Tree) → IfNone o (¬ IsJson t) → IsJson t → IsSome o
IsSome-json (Some x) t none is = refl
IsSome-json None t none is = absurd (none is)
