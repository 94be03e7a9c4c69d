-- An object whose names are known is what its fields are, in their order.
use Rattle.std.proofs.Common.{◌≡◌, ℕ, Bool, true, false, ◌&&◌, ◌||◌, ◌⊎◌, inl, inr, List, [], ◌∷◌, Option, Some, None, bytes_eq, refl, sym, ap, ap₂, ◌∙◌, subst}
use Rattle.std.proofs.lemmas.Bool.{and_parts, and_from}
use Rattle.std.proofs.lemmas.Slice.Eq.{bytes_eq-Decides}
use Rattle.std.specs.declared.cmp.Ordering.{Ordering}
use Rattle.std.specs.declared.cmp.Ordering.TheVariants.{Less, Equal, Greater}
use Rattle.std.specs.Ordering.{match_ordering, is_lt, ordering_reverse}
use Rattle.std.specs.Cmp.Lexicographic.{nat_list_cmp_total}
use Rattle.cbt_json.specs.declared.tree.Tree.{Tree}
use Rattle.cbt_json.specs.declared.tree.Tree.TheVariants as tree
use Rattle.cbt_json.specs.Rules.{IsJson, rises_from, names_rise, is_regular, members_are_regular}
use Rattle.cbt_json.specs.Trees.{members_data}
use Rattle.cbt_json.proofs.Proper.{less as less_is}
use Rattle.cbt_json.proofs.Views.{data_of-Object}
use Rattle.cbt_subdoc.specs.Members.{Members, name_cmp, member}
use Rattle.cbt_subdoc.proofs.Keeps.{further}
use Rattle.cbt_shape.specs.Objects.{is_among, has_only}

abbrev pub Rise : Members → Type 0
Rise ms = names_rise (members_data ms) ≡ true

pub rise-json : (ms : Members) → IsJson (tree.Object ms) → Rise ms
rise-json ms is =
    (and_parts (names_rise (members_data ms)) (members_are_regular (members_data ms)) (ap is_regular (sym (data_of-Object ms)) ∙ is.1)).0

-- a field in front of others, where it is there
abbrev pub with_field : List ℕ → Option Tree → Members → Members
with_field name (Some t) ms = (name, t) ∷ ms
with_field name None ms = ms

-- the fields of these names that are there
abbrev pub fields_of : List (List ℕ) → Members → Members
fields_of [] ms = []
fields_of (name ∷ names) ms = with_field name (member name ms) (fields_of names ms)

-- names that rise
abbrev pub names_are_rising : List (List ℕ) → Bool
names_are_rising [] = true
names_are_rising (name ∷ []) = true
names_are_rising (name ∷ next ∷ names) = is_lt (name_cmp name next) && names_are_rising (next ∷ names)

-- a name is below all of these
abbrev IsBelow : List ℕ → List (List ℕ) → Type 0
IsBelow name [] = Unit {0}
IsBelow name (n ∷ names) = (name_cmp name n ≡ Less) × IsBelow name names

lower : (a b : List ℕ) (names : List (List ℕ)) → name_cmp a b ≡ Less → IsBelow b names → IsBelow a names
lower a b [] low below = tt
lower a b (n ∷ names) low below = (nat_list_cmp_total.trans a b n low below.0, lower a b names low below.1)

first_below : (name : List ℕ) (names : List (List ℕ)) → names_are_rising (name ∷ names) ≡ true → IsBelow name names × (names_are_rising names ≡ true)
first_below name [] rise = (tt, refl)
first_below name (next ∷ names) rise =
    let p = and_parts (is_lt (name_cmp name next)) (names_are_rising (next ∷ names)) rise in
    let low = less_is (name_cmp name next) p.0 in
    let tail = first_below next names p.1 in
    ((low, lower name next names low tail.0), p.1)

-- a name that is below all members has no value
above : (name : List ℕ) (ms : Members) → rises_from name (members_data ms) ≡ true → member name ms ≡ None
above name [] first = refl
above name (m ∷ ms) first = ap (λ o. match_ordering o None (Some m.1) (member name ms)) (less_is (name_cmp name m.0) first)

-- one of the names is it
which : (name : List ℕ) (n : List ℕ) (names : List (List ℕ)) → is_among (n ∷ names) name ≡ true → (n ≡ name) ⊎ (is_among names name ≡ true)
which name n names is = by (bytes_eq n name) refl is
  where
    by : (t : Bool) → bytes_eq n name ≡ t → (t || is_among names name) ≡ true → (n ≡ name) ⊎ (is_among names name ≡ true)
    by true same is = inl ((bytes_eq-Decides n name).0 same)
    by false same is = inr is

above_by : (name n other : List ℕ) (names : List (List ℕ)) → name_cmp name n ≡ Less → (is_among names other ≡ true → name_cmp name other ≡ Less)
    → (n ≡ other) ⊎ (is_among names other ≡ true) → name_cmp name other ≡ Less
above_by name n other names low rest (inl same) = ap (name_cmp name) (sym same) ∙ low
above_by name n other names low rest (inr later) = rest later

above_first : (name : List ℕ) (names : List (List ℕ)) (other : List ℕ) → IsBelow name names → is_among names other ≡ true → name_cmp name other ≡ Less
above_first name [] other below is = absurd (cc)
above_first name (n ∷ names) other below is = above_by name n other names below.0 (above_first name names other below.1) (which other n names is)

reversed : (o p : Ordering) → o ≡ ordering_reverse p → p ≡ Less → o ≡ Greater
reversed o p e is = e ∙ ap ordering_reverse is

itself : (o : Ordering) → o ≡ ordering_reverse o → o ≡ Equal
itself Less e = absurd (cc)
itself Equal e = refl
itself Greater e = absurd (cc)

-- fields above the first member do not see it
fields_behind : (m : List ℕ × Tree) (ms : Members) (names : List (List ℕ)) → IsBelow m.0 names → fields_of names (m ∷ ms) ≡ fields_of names ms
fields_behind m ms [] below = refl
fields_behind m ms (n ∷ names) below =
    ap₂ (with_field n)
    (ap (λ o. match_ordering o None (Some m.1) (member n ms)) (reversed (name_cmp n m.0) (name_cmp m.0 n) (nat_list_cmp_total.antisymm n m.0) below.0))
    (fields_behind m ms names below.1)

no_fields : (names : List (List ℕ)) → fields_of names [] ≡ []
no_fields [] = refl
no_fields (n ∷ names) = no_fields names

name-self : (name : List ℕ) → name_cmp name name ≡ Equal
name-self name = itself (name_cmp name name) (nat_list_cmp_total.antisymm name name)

apart : (n name : List ℕ) → name_cmp n name ≡ Less → n ≡ name → ⊥
apart n name low same = differ (sym (name-self n) ∙ ap (name_cmp n) same ∙ low)
  where
    differ : Equal ≡ Less → ⊥
    differ e = cc

-- where a name is below all members, they have the others alone
others : (n : List ℕ) (names : List (List ℕ)) (ms : Members) → rises_from n (members_data ms) ≡ true → Rise ms → has_only (n ∷ names) ms ≡ true → has_only names ms ≡ true
others n names [] first rise only = refl
others n names (m ∷ ms) first rise only =
    let p = and_parts (is_among (n ∷ names) m.0) (has_only (n ∷ names) ms) only in
    let r = and_parts (rises_from m.0 (members_data ms)) (names_rise (members_data ms)) rise in
    and_from _ _ (later (which m.0 n names p.0)) (others n names ms (further n m.0 ms first r.0) r.1 p.1)
  where
    later : (n ≡ m.0) ⊎ (is_among names m.0 ≡ true) → is_among names m.0 ≡ true
    later (inl same) = absurd (apart n m.0 (less_is (name_cmp n m.0) first) same)
    later (inr is) = is

known_by : (n : List ℕ) (names : List (List ℕ)) (m : List ℕ × Tree) (ms : Members) → IsBelow n names → Rise (m ∷ ms) → has_only (n ∷ names) (m ∷ ms) ≡ true
    → ((more : Members) → Rise more → has_only names more ≡ true → more ≡ fields_of names more)
    → (n ≡ m.0) ⊎ (is_among names m.0 ≡ true) → m ∷ ms ≡ fields_of (n ∷ names) (m ∷ ms)
known_by n names m ms below rise only rest (inl same) =
    let r = and_parts (rises_from m.0 (members_data ms)) (names_rise (members_data ms)) rise in
    let p = and_parts (is_among (n ∷ names) m.0) (has_only (n ∷ names) ms) only in
    let first : rises_from n (members_data ms) ≡ true = ap (λ k. rises_from k (members_data ms)) same ∙ r.0 in
    let there : member n (m ∷ ms) ≡ Some m.1 = ap (λ o. match_ordering o None (Some m.1) (member n ms)) (ap (name_cmp n) (sym same) ∙ name-self n) in
    ap (λ (k : List ℕ). (k, m.1) ∷ ms) (sym same)
    ∙ ap (λ more. (n, m.1) ∷ more) (rest ms r.1 (others n names ms first r.1 p.1) ∙ sym (fields_behind m ms names (subst (λ k. IsBelow k names) same below)))
    ∙ ap (λ o. with_field n o (fields_of names (m ∷ ms))) (sym there)
known_by n names m ms below rise only rest (inr later) =
    let low = above_first n names m.0 below later in
    let first : rises_from n (members_data (m ∷ ms)) ≡ true = ap is_lt low in
    rest (m ∷ ms) rise (others n names (m ∷ ms) first rise only) ∙ ap (λ o. with_field n o (fields_of names (m ∷ ms))) (sym (above n (m ∷ ms) first))

pub known : (names : List (List ℕ)) (ms : Members) → names_are_rising names ≡ true → Rise ms → has_only names ms ≡ true → ms ≡ fields_of names ms
known [] [] sorted rise only = refl
known [] (m ∷ ms) sorted rise only = absurd (cc)
known (n ∷ names) [] sorted rise only = sym (no_fields names)
known (n ∷ names) (m ∷ ms) sorted rise only =
    let p = first_below n names sorted in
    known_by n names m ms p.0 rise only (λ more up in_names. known names more p.1 up in_names)
    (which m.0 n names (and_parts (is_among (n ∷ names) m.0) (has_only (n ∷ names) ms) only).0)
