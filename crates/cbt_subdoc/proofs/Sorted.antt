-- In an object whose names rise, a name is found, and taken away, as in any map.
use Rattle.std.proofs.Common.{◌≡◌, ℕ, true, cond, List, [], ◌∷◌, Some, None, refl, sym, ap, ◌∙◌}
use Rattle.std.specs.declared.cmp.Ordering.{Ordering}
use Rattle.std.specs.declared.cmp.Ordering.TheVariants.{Less, Equal, Greater}
use Rattle.std.specs.Ordering.{match_ordering, is_eq, is_lt}
use Rattle.std.proofs.lemmas.Bool.{and_parts}
use Rattle.cbt_base.specs.Keyed.{at_key, without_key}
use Rattle.cbt_json.specs.declared.tree.Tree.{Tree}
use Rattle.cbt_json.specs.declared.tree.Tree.TheVariants as tree
use Rattle.cbt_json.specs.Rules.{IsJson, rises_from, names_rise, is_regular, members_are_regular}
use Rattle.cbt_json.specs.Trees.{members_data}
use Rattle.cbt_json.proofs.Views.{data_of-Object}
use Rattle.cbt_subdoc.specs.Members.{Members, name_cmp, member, without_member, IsKeyed}
use Rattle.cbt_json.proofs.Proper.{less as less_is}
use Rattle.cbt_subdoc.proofs.Keeps.{further}

abbrev Rise : Members → Type 0
Rise ms = names_rise (members_data ms) ≡ true

rest_rises : (m : List ℕ × Tree) (ms : Members) → Rise (m ∷ ms) → (rises_from m.0 (members_data ms) ≡ true) × Rise ms
rest_rises m ms rise = and_parts (rises_from m.0 (members_data ms)) (names_rise (members_data ms)) rise

-- a name below all has no value, and nothing goes
none_above : (name : List ℕ) (ms : Members) → rises_from name (members_data ms) ≡ true → Rise ms → (at_key name_cmp ms name ≡ None) × (without_key name_cmp ms name ≡ ms)
none_above name [] first rise = (refl, refl)
none_above name (m ∷ ms) first rise =
    let less : name_cmp name m.0 ≡ Less = less_is (name_cmp name m.0) first in
    let p = rest_rises m ms rise in
    let tail = none_above name ms (further name m.0 ms first p.0) p.1 in (
      ap (λ o. cond (is_eq o) (Some m.1) (at_key name_cmp ms name)) less ∙ tail.0,
      ap (λ o. cond (is_eq o) ms (m ∷ without_key name_cmp ms name)) less ∙ ap (λ t. m ∷ t) tail.1,
    )

found_by : (name : List ℕ) (m : List ℕ × Tree) (ms : Members) (o : Ordering) → name_cmp name m.0 ≡ o → Rise (m ∷ ms) → (member name ms ≡ at_key name_cmp ms name)
    → match_ordering o None (Some m.1) (member name ms) ≡ cond (is_eq o) (Some m.1) (at_key name_cmp ms name)
found_by name m ms Less at rise tail = let p = rest_rises m ms rise in sym (none_above name ms (further name m.0 ms (ap is_lt at) p.0) p.1).0
found_by name m ms Equal at rise tail = refl
found_by name m ms Greater at rise tail = tail

found-at : (name : List ℕ) (ms : Members) → Rise ms → member name ms ≡ at_key name_cmp ms name
found-at name [] rise = refl
found-at name (m ∷ ms) rise = found_by name m ms (name_cmp name m.0) refl rise (found-at name ms (rest_rises m ms rise).1)

gone_by : (name : List ℕ) (m : List ℕ × Tree) (ms : Members) (o : Ordering) → name_cmp name m.0 ≡ o → Rise (m ∷ ms) → without_member name ms ≡ without_key name_cmp ms name
    → match_ordering o (m ∷ ms) ms (m ∷ without_member name ms) ≡ cond (is_eq o) ms (m ∷ without_key name_cmp ms name)
gone_by name m ms Less at rise tail = let p = rest_rises m ms rise in ap (λ t. m ∷ t) (sym (none_above name ms (further name m.0 ms (ap is_lt at) p.0) p.1).1)
gone_by name m ms Equal at rise tail = refl
gone_by name m ms Greater at rise tail = ap (λ t. m ∷ t) tail

gone-at : (name : List ℕ) (ms : Members) → Rise ms → without_member name ms ≡ without_key name_cmp ms name
gone-at name [] rise = refl
gone-at name (m ∷ ms) rise = gone_by name m ms (name_cmp name m.0) refl rise (gone-at name ms (rest_rises m ms rise).1)

pub keyed : (name : List ℕ) (ms : Members) → IsJson (tree.Object ms) → IsKeyed name ms
keyed name ms is =
    let regular = ap is_regular (sym (data_of-Object ms)) ∙ is.1 in
    let rise : Rise ms = (and_parts (names_rise (members_data ms)) (members_are_regular (members_data ms)) regular).0 in
    record { value = found-at name ms rise; left = gone-at name ms rise }
