-- What stands in the parts of a JSON value is one.
use Rattle.std.proofs.Common.{◌≡◌, ℕ, List, [], ◌∷◌, Option, Some, None, Ok, refl, ap, ◌∙◌}
use Rattle.cbt_json.specs.declared.tree.Tree.{Tree, out-Tree}
use Rattle.cbt_json.specs.declared.tree.Tree.TheOpen.{Tree-F}
use Rattle.cbt_json.specs.declared.tree.Tree.TheVariants as tree
use Rattle.cbt_json.specs.Rules.{IsJson}
use Rattle.cbt_subdoc.specs.declared.path.Part.TheVariants.{Name}
use Rattle.cbt_subdoc.specs.Members.{Members, member}
use Rattle.cbt_subdoc.specs.Reach.{child, found, onward, reached}
use Rattle.cbt_subdoc.proofs.Inside.{IsJson-reached}
use Rattle.cbt_shape.proofs.Trees.{is-Object}
use Rattle.cbt_shape.specs.Objects.{members_of, inside, inside_maybe, part}

in_level : (name : List ℕ) (t x : Tree) (y : Tree-F Tree) → out-Tree t ≡ y → IsJson t → member name (inside y) ≡ Some x → IsJson x
in_level name t x (Tree-F.Object ms) at is there =
    IsJson-reached (Name name ∷ []) t x is (ap (λ y. onward (reached []) (child (Name name) y)) at ∙ ap (λ o. onward (reached []) (found o)) there)
in_level name t x _ at is there = absurd (cc)

in_part : (name : List ℕ) (x : Tree) (o : Option Tree) → ((t : Tree) → o ≡ Some t → IsJson t) → member name (inside_maybe o) ≡ Some x → IsJson x
in_part name x (Some t) is there = in_level name t x (out-Tree t) refl (is t refl) there
in_part name x None is there = absurd (cc)

in_whole : (name : List ℕ) (t x : Tree) (ms : Members) (y : Tree-F Tree) → out-Tree t ≡ y → IsJson t → members_of y ≡ Ok ms → member name ms ≡ Some x → IsJson x
in_whole name t x ms (Tree-F.Object all) at is found there =
    let same : all ≡ ms = cc in
    in_level name t x (Tree-F.Object all) at is (ap (member name) same ∙ there)
in_whole name t x ms _ at is found there = absurd (cc)

-- the member of a part
pub json-inner : (outer name : List ℕ) (t x : Tree) (ms : Members) → IsJson t → members_of (out-Tree t) ≡ Ok ms → member name (part outer ms) ≡ Some x → IsJson x
json-inner outer name t x ms is found there = in_part name x (member outer ms) (λ u at. in_whole outer t u ms (out-Tree t) refl is found at) there

-- the member of the whole
pub json-member : (name : List ℕ) (t x : Tree) (ms : Members) → IsJson t → members_of (out-Tree t) ≡ Ok ms → member name ms ≡ Some x → IsJson x
json-member name t x ms is found there = in_whole name t x ms (out-Tree t) refl is found there

whole_by : (t : Tree) (ms : Members) (y : Tree-F Tree) → out-Tree t ≡ y → members_of y ≡ Ok ms → t ≡ tree.Object ms
whole_by t ms (Tree-F.Object all) at found = let same : all ≡ ms = cc in is-Object t all at ∙ ap tree.Object same
whole_by t ms _ at found = absurd (cc)

-- what has members is their object
pub object-is : (t : Tree) (ms : Members) → members_of (out-Tree t) ≡ Ok ms → t ≡ tree.Object ms
object-is t ms found = whole_by t ms (out-Tree t) refl found

inside_by : (name : List ℕ) (t x : Tree) (y : Tree-F Tree) → out-Tree t ≡ y → member name (inside y) ≡ Some x → t ≡ tree.Object (inside y)
inside_by name t x (Tree-F.Object ms) at there = is-Object t ms at
inside_by name t x _ at there = absurd (cc)

part_by : (name : List ℕ) (x : Tree) (o : Option Tree) → member name (inside_maybe o) ≡ Some x → o ≡ Some (tree.Object (inside_maybe o))
part_by name x (Some t) there = ap Some (inside_by name t x (out-Tree t) refl there)
part_by name x None there = absurd (cc)

-- a part that has a member is there
pub part-is : (outer name : List ℕ) (x : Tree) (ms : Members) → member name (part outer ms) ≡ Some x → member outer ms ≡ Some (tree.Object (part outer ms))
part-is outer name x ms there = part_by name x (member outer ms) there
