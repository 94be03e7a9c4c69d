-- An object with some of its members keeps the rules of a JSON value.
use Rattle.std.proofs.Common.{◌≡◌, ℕ, ◌≤◌, max, Bool, true, false, cond, List, [], ◌∷◌, Option, Some, None, IfNone, IsSome, IsTrue, refl, sym, ap, subst, arith}
use Rattle.std.proofs.lemmas.Bool.{and_parts, and_from}
use Rattle.std.specs.declared.cmp.Ordering.{Ordering}
use Rattle.std.specs.declared.cmp.Ordering.TheVariants.{Less}
use Rattle.std.specs.Cmp.Lexicographic.{slice_cmp, nat_list_cmp_total}
use Rattle.std.specs.List.{AllByRecursion}
use Rattle.std.specs.Ordering.{nat_cmp, is_lt}
use Rattle.serde_json.specs.Data.{Data, object, depth, members_depth}
use Rattle.cbt_json.proofs.Proper.{less as less_is}
use Rattle.cbt_json.proofs.Views.{data_of-Object}
use Rattle.cbt_json.specs.Rules.{IsJson, max_levels, rises_from, names_rise, members_are_regular, is_regular}
use Rattle.cbt_json.specs.Trees.{data_of, members_data}
use Rattle.cbt_json.specs.declared.tree.Tree.{Tree}
use Rattle.cbt_json.specs.declared.tree.Tree.TheVariants as tree
use Rattle.cbt_json.specs.Attributes.{kept_members, begins_with_underscore}

abbrev Members : Type 0
Members = List (List ℕ × Tree)

-- all names stand after this one
abbrev AllAbove : List ℕ → Members → Type 0
AllAbove name ms = AllByRecursion (λ (m : List ℕ × Tree). slice_cmp nat_cmp name m.0 ≡ Less) ms

further : (name next : List ℕ) (ms : Members) → slice_cmp nat_cmp name next ≡ Less → AllAbove next ms → AllAbove name ms
further name next [] less all = tt
further name next (m ∷ ms) less all = (nat_list_cmp_total.trans name next m.0 less all.0, further name next ms less all.1)

-- names that rise stand after the first
above-all : (name : List ℕ) (ms : Members) → rises_from name (members_data ms) ≡ true → names_rise (members_data ms) ≡ true → AllAbove name ms
above-all name [] first rise = tt
above-all name (m ∷ ms) first rise =
    let less : slice_cmp nat_cmp name m.0 ≡ Less = less_is (slice_cmp nat_cmp name m.0) first in
    let parts = and_parts (rises_from m.0 (members_data ms)) (names_rise (members_data ms)) rise in
    (less, further name m.0 ms less (above-all m.0 ms parts.0 parts.1))

above-kept : (name : List ℕ) (ms : Members) → AllAbove name ms → rises_from name (members_data (kept_members ms)) ≡ true
above-kept name [] all = refl
above-kept name (m ∷ ms) all = go (begins_with_underscore m.0) (above-kept name ms all.1)
  where
    go : (b : Bool) → rises_from name (members_data (kept_members ms)) ≡ true → rises_from name (members_data (cond b (m ∷ kept_members ms) (kept_members ms))) ≡ true
    go true tail = ap is_lt all.0
    go false tail = tail

kept-rise : (ms : Members) → names_rise (members_data ms) ≡ true → names_rise (members_data (kept_members ms)) ≡ true
kept-rise [] rise = refl
kept-rise (m ∷ ms) rise = go (begins_with_underscore m.0) (kept-rise ms parts.1)
  where
    parts : (rises_from m.0 (members_data ms) ≡ true) × (names_rise (members_data ms) ≡ true)
    parts = and_parts (rises_from m.0 (members_data ms)) (names_rise (members_data ms)) rise

    go : (b : Bool) → names_rise (members_data (kept_members ms)) ≡ true → names_rise (members_data (cond b (m ∷ kept_members ms) (kept_members ms))) ≡ true
    go true tail = and_from _ _ (above-kept m.0 ms (above-all m.0 ms parts.0 parts.1)) tail
    go false tail = tail

kept-regular : (ms : Members) → members_are_regular (members_data ms) ≡ true → members_are_regular (members_data (kept_members ms)) ≡ true
kept-regular [] regular = refl
kept-regular (m ∷ ms) regular = go (begins_with_underscore m.0) (kept-regular ms parts.1)
  where
    parts : (is_regular (data_of m.1) ≡ true) × (members_are_regular (members_data ms) ≡ true)
    parts = and_parts (is_regular (data_of m.1)) (members_are_regular (members_data ms)) regular

    go : (b : Bool) → members_are_regular (members_data (kept_members ms)) ≡ true
        → members_are_regular (members_data (cond b (m ∷ kept_members ms) (kept_members ms))) ≡ true
    go true tail = and_from _ _ parts.0 tail
    go false tail = tail

kept-depth : (ms : Members) → members_depth (members_data (kept_members ms)) ≤ members_depth (members_data ms)
kept-depth [] = omega arith
kept-depth (m ∷ ms) = go (begins_with_underscore m.0) (kept-depth ms)
  where
    go : (b : Bool) → members_depth (members_data (kept_members ms)) ≤ members_depth (members_data ms)
        → members_depth (members_data (cond b (m ∷ kept_members ms) (kept_members ms))) ≤ max (depth (data_of m.1)) (members_depth (members_data ms))
    go true tail = omega arith
    go false tail = omega arith

-- the rules of an object's data
abbrev IsJsonData : Data → Type 0
IsJsonData d = (depth d ≤ max_levels) × IsTrue (is_regular d)

kept-data : (ms : Members) → IsJsonData (object (members_data ms)) → IsJsonData (object (members_data (kept_members ms)))
kept-data ms is =
    let parts = and_parts (names_rise (members_data ms)) (members_are_regular (members_data ms)) is.1 in
    let low : members_depth (members_data (kept_members ms)) ≤ members_depth (members_data ms) = kept-depth ms in
    (omega (arith, is.0), and_from _ _ (kept-rise ms parts.0) (kept-regular ms parts.1))

IsJson-kept : (ms : Members) → IsJson (tree.Object ms) → IsJson (tree.Object (kept_members ms))
IsJson-kept ms is = subst IsJsonData (sym (data_of-Object (kept_members ms))) (kept-data ms (subst IsJsonData (data_of-Object ms) is))

-- so the tree of what is kept is one of a JSON value
pub kept-IsSome : (o : Option Tree) (t : Tree) (members kept : Members) → IfNone o (¬ IsJson (tree.Object kept)) → kept ≡ kept_members members
    → t ≡ tree.Object members → IsJson t → IsSome o
kept-IsSome (Some x) t members kept none same at is = refl
kept-IsSome None t members kept none same at is =
    absurd (none (subst (λ ms. IsJson (tree.Object ms)) (sym same) (IsJson-kept members (subst IsJson at is))))
