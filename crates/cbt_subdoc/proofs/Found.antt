-- A value that was set is what a look along the same path finds.
use Rattle.std.proofs.Common.{◌≡◌, ℕ, zero, suc, ◌-◌, Bool, true, false, cond, ◌&&◌, List, [], ◌∷◌, length, Option, Some, None, Result, Ok, Err, refl, ap, ◌∙◌, subst, rules}
use Rattle.std.specs.Prelude.{slice_get, slice_set, nat_le}
use Rattle.std.specs.declared.cmp.Ordering.{Ordering}
use Rattle.std.specs.declared.cmp.Ordering.TheVariants.{Less, Equal, Greater}
use Rattle.std.specs.Ordering.{match_ordering, ordering_reverse}
use Rattle.std.specs.Cmp.Lexicographic.{nat_list_cmp_total}
use Rattle.cbt_json.specs.declared.tree.Tree.{Tree, out-Tree, the_lemmas}
use Rattle.cbt_json.specs.declared.tree.Tree.TheOpen.{Tree-F}
use Rattle.cbt_json.specs.declared.tree.Tree.TheVariants as tree
use Rattle.cbt_json.specs.Rules.{max_levels}
use Rattle.cbt_json.specs.Trees.{levels}
use Rattle.cbt_subdoc.specs.declared.path.Part.{Part}
use Rattle.cbt_subdoc.specs.declared.path.Part.TheVariants.{Name, Place, Last}
use Rattle.cbt_subdoc.specs.declared.changes.Mut.{Mut}
use Rattle.cbt_subdoc.specs.declared.changes.MutOp.{MutOp}
use Rattle.cbt_subdoc.specs.declared.changes.MutOp.TheVariants.{Add, Upsert, Replace, Delete, PushFirst, PushLast, AddUnique, Counter}
use Rattle.cbt_subdoc.specs.declared.edits.Edit.{Edit}
use Rattle.cbt_subdoc.specs.declared.edits.Refusal.{Refusal}
use Rattle.cbt_subdoc.specs.declared.edits.Refusal.TheVariants.{PathNotFound, PathMismatch, TooDeep}
use Rattle.cbt_subdoc.specs.Members.{Members, name_cmp, member, with_member}
use Rattle.cbt_subdoc.specs.Edits.{Slot, sets, added, replaced, in_slot, edited_by}
use Rattle.cbt_subdoc.specs.Values.{value_of}
use Rattle.cbt_subdoc.specs.Along.{in_object, in_list, item_changed, part_changed, is_name, slot_changed, tree_changed, is_senseless, within_levels, edit_of, changed}
use Rattle.cbt_subdoc.specs.Reach.{child, found, onward, reached}

out-List : (ts : List Tree) → out-Tree (tree.List ts) ≡ Tree-F.List ts
out-List ts = search (rules, the_lemmas)

out-Object : (ms : Members) → out-Tree (tree.Object ms) ≡ Tree-F.Object ms
out-Object ms = search (rules, the_lemmas)

-- ---- one slot

self_by : (o : Ordering) → o ≡ ordering_reverse o → o ≡ Equal
self_by Less e = absurd (cc)
self_by Equal e = refl
self_by Greater e = absurd (cc)

name-self : (name : List ℕ) → name_cmp name name ≡ Equal
name-self name = self_by (name_cmp name name) (nat_list_cmp_total.antisymm name name)

with_by : (name : List ℕ) (v : Tree) (m : List ℕ × Tree) (ms : Members) (o : Ordering) → name_cmp name m.0 ≡ o → member name (with_member name v ms) ≡ Some v
    → member name (match_ordering o ((name, v) ∷ m ∷ ms) ((m.0, v) ∷ ms) (m ∷ with_member name v ms)) ≡ Some v
with_by name v m ms Less at tail = ap (λ o. match_ordering o None (Some v) (member name (m ∷ ms))) (name-self name)
with_by name v m ms Equal at tail = ap (λ o. match_ordering o None (Some v) (member name ms)) at
with_by name v m ms Greater at tail = ap (λ o. match_ordering o None (Some m.1) (member name (with_member name v ms))) at ∙ tail

member-with : (name : List ℕ) (v : Tree) (ms : Members) → member name (with_member name v ms) ≡ Some v
member-with name v [] = ap (λ o. match_ordering o None (Some v) None) (name-self name)
member-with name v (m ∷ ms) = with_by name v m ms (name_cmp name m.0) refl (member-with name v ms)

get-set : (ts : List Tree) (at : ℕ) (t v : Tree) → slice_get ts at ≡ Some t → slice_get (slice_set ts at v) at ≡ Some v
get-set [] at t v e = absurd (cc)
get-set (x ∷ ts) zero t v e = refl
get-set (x ∷ ts) (suc at) t v e = get-set ts at t v e

length-set : (ts : List Tree) (at : ℕ) (v : Tree) → length (slice_set ts at v) ≡ length ts
length-set [] at v = refl
length-set (x ∷ ts) zero v = refl
length-set (x ∷ ts) (suc at) v = ap suc (length-set ts at v)

-- ---- the end of the path

-- a slot whose value the rest of the path leads through to v
abbrev LeadsTo : List Part → Tree → Slot → Type 0
LeadsTo path v slot = (t : Tree) × ((slot ≡ Some t) × (reached path t ≡ Ok v))

abbrev LeadsWhereOk : List Part → Tree → Result Slot Refusal → Type 0
LeadsWhereOk path v (Ok slot) = LeadsTo path v slot
LeadsWhereOk path v (Err why) = Unit {0}

added-leads : (v : Tree) (slot : Slot) → LeadsWhereOk [] v (added v slot)
added-leads v None = (v, (refl, refl))
added-leads v (Some t) = tt

replaced-leads : (v : Tree) (slot : Slot) → LeadsWhereOk [] v (replaced (Some v) slot)
replaced-leads v None = tt
replaced-leads v (Some t) = (v, (refl, refl))

edited-leads : (op : MutOp) (parents : Bool) (v : Tree) (slot : Slot) → sets op ≡ true → LeadsWhereOk [] v (edited_by op parents v slot)
edited-leads Add parents v slot is = added-leads v slot
edited-leads Upsert parents v slot is = (v, (refl, refl))
edited-leads Replace parents v slot is = replaced-leads v slot
edited-leads Delete parents v slot is = absurd (cc)
edited-leads PushFirst parents v slot is = absurd (cc)
edited-leads PushLast parents v slot is = absurd (cc)
edited-leads AddUnique parents v slot is = absurd (cc)
edited-leads Counter parents v slot is = absurd (cc)

-- ---- along the path

abbrev Leads : List Part → Tree → (Slot → Result Slot Refusal) → Type 0
Leads path v change = (slot : Slot) → LeadsWhereOk path v (change slot)

abbrev ReachesWhereOk : List Part → Tree → Result Tree Refusal → Type 0
ReachesWhereOk path v (Ok t) = reached path t ≡ Ok v
ReachesWhereOk path v (Err why) = Unit {0}

object-reaches : (name : List ℕ) (path : List Part) (v : Tree) (ms : Members) (slot : Slot) → LeadsTo path v slot → ReachesWhereOk (Name name ∷ path) v (in_object name ms (Ok slot))
object-reaches name path v ms None leads = absurd (let e = leads.1.0 in cc)
object-reaches name path v ms (Some c) leads =
    let same : c ≡ leads.0 = (let e = leads.1.0 in cc) in
    ap (λ y. onward (reached path) (child (Name name) y)) (out-Object (with_member name c ms))
    ∙ ap (λ o. onward (reached path) (found o)) (member-with name c ms) ∙ ap (reached path) same ∙ leads.1.1

in_object-reaches : (name : List ℕ) (path : List Part) (v : Tree) (ms : Members) (r : Result Slot Refusal) → LeadsWhereOk path v r → ReachesWhereOk (Name name ∷ path) v (in_object name ms r)
in_object-reaches name path v ms (Ok slot) leads = object-reaches name path v ms slot leads
in_object-reaches name path v ms (Err why) leads = tt

-- a part that names this place of lists of this length
abbrev Names : Part → ℕ → ℕ → Type 0
Names part at len = (ts : List Tree) → length ts ≡ len → child part (Tree-F.List ts) ≡ found (slice_get ts at)

list-reaches : (part : Part) (path : List Part) (v : Tree) (at : ℕ) (ts : List Tree) (old : Tree) (slot : Slot) → Names part at (length ts) → slice_get ts at ≡ Some old → LeadsTo path v slot
    → ReachesWhereOk (part ∷ path) v (in_list at ts (Ok slot))
list-reaches part path v at ts old None names there leads = absurd (let e = leads.1.0 in cc)
list-reaches part path v at ts old (Some c) names there leads =
    let same : c ≡ leads.0 = (let e = leads.1.0 in cc) in
    ap (λ y. onward (reached path) (child part y)) (out-List (slice_set ts at c))
    ∙ ap (onward (reached path)) (names (slice_set ts at c) (length-set ts at c) ∙ ap found (get-set ts at old c there)) ∙ ap (reached path) same ∙ leads.1.1

in_list-reaches : (part : Part) (path : List Part) (v : Tree) (at : ℕ) (ts : List Tree) (old : Tree) (r : Result Slot Refusal) → Names part at (length ts) → slice_get ts at ≡ Some old
    → LeadsWhereOk path v r → ReachesWhereOk (part ∷ path) v (in_list at ts r)
in_list-reaches part path v at ts old (Ok slot) names there leads = list-reaches part path v at ts old slot names there leads
in_list-reaches part path v at ts old (Err why) names there leads = tt

item-reaches : (part : Part) (path : List Part) (v : Tree) (change : Slot → Result Slot Refusal) (at : ℕ) (ts : List Tree) (o : Option Tree) → Names part at (length ts) → slice_get ts at ≡ o
    → Leads path v change → ReachesWhereOk (part ∷ path) v (item_changed change at ts o)
item-reaches part path v change at ts None names there leads = tt
item-reaches part path v change at ts (Some old) names there leads = in_list-reaches part path v at ts old (change (Some old)) names there (leads (Some old))

part-reaches : (part : Part) (path : List Part) (v : Tree) (change : Slot → Result Slot Refusal) (y : Tree-F Tree) → Leads path v change
    → ReachesWhereOk (part ∷ path) v (part_changed change part y)
part-reaches (Name name) path v change (Tree-F.Object ms) leads = in_object-reaches name path v ms (change (member name ms)) (leads (member name ms))
part-reaches (Place at) path v change (Tree-F.List ts) leads = item-reaches (Place at) path v change at ts (slice_get ts at) (λ us len. refl) refl leads
part-reaches Last path v change (Tree-F.List ts) leads =
    item-reaches Last path v change (length ts - 1) ts (slice_get ts (length ts - 1)) (λ us len. ap (λ n. found (slice_get us (n - 1))) len) refl leads
part-reaches _ path v change _ leads = tt

in_slot-leads : (path : List Part) (v : Tree) (r : Result Tree Refusal) → ReachesWhereOk path v r → LeadsWhereOk path v (in_slot r)
in_slot-leads path v (Ok t) reaches = (t, (refl, reaches))
in_slot-leads path v (Err why) reaches = tt

made-leads : (path : List Part) (v : Tree) (r : Result Tree Refusal) (t : Bool) → ReachesWhereOk path v r → LeadsWhereOk path v (cond t (in_slot r) (Err PathNotFound))
made-leads path v r true reaches = in_slot-leads path v r reaches
made-leads path v r false reaches = tt

slot-leads : (edit : Edit) (path : List Part) → sets edit.op ≡ true → Leads path edit.value (slot_changed edit path)
slot-leads edit [] is slot = edited-leads edit.op edit.parents edit.value slot is
slot-leads edit (part ∷ path) is (Some t) =
    in_slot-leads (part ∷ path) edit.value (part_changed (slot_changed edit path) part (out-Tree t))
    (part-reaches part path edit.value (slot_changed edit path) (out-Tree t) (slot-leads edit path is))
slot-leads edit (part ∷ path) is None =
    made-leads (part ∷ path) edit.value (part_changed (slot_changed edit path) part (Tree-F.Object [])) (edit.parents && is_name part)
    (part-reaches part path edit.value (slot_changed edit path) (Tree-F.Object []) (slot-leads edit path is))

tree-reaches : (edit : Edit) (path : List Part) (t : Tree) → sets edit.op ≡ true → ReachesWhereOk path edit.value (tree_changed edit path t)
tree-reaches edit [] t is = tt
tree-reaches edit (part ∷ path) t is = part-reaches part path edit.value (slot_changed edit path) (out-Tree t) (slot-leads edit path is)

within_by : (path : List Part) (v t : Tree) (b : Bool) → reached path t ≡ Ok v → ReachesWhereOk path v (cond b (Ok t) (Err TooDeep))
within_by path v t true reaches = reaches
within_by path v t false reaches = tt

within-reaches : (path : List Part) (v : Tree) (r : Result Tree Refusal) → ReachesWhereOk path v r → ReachesWhereOk path v (within_levels r)
within-reaches path v (Ok t) reaches = within_by path v t (nat_le (levels t) max_levels) reaches
within-reaches path v (Err why) reaches = tt

sense_by : (path : List Part) (v : Tree) (r : Result Tree Refusal) (b : Bool) → ReachesWhereOk path v r → ReachesWhereOk path v (cond b (Err PathMismatch) r)
sense_by path v r true reaches = tt
sense_by path v r false reaches = reaches

pub set-found : (cas : ℕ) (change : Mut) (t after : Tree) → sets change.op ≡ true → changed cas change t ≡ Ok after → reached change.path after ≡ Ok (value_of cas change.value)
set-found cas change t after is e =
    let r = within_levels (tree_changed (edit_of cas change) change.path t) in
    let all : ReachesWhereOk change.path (value_of cas change.value) r = within-reaches change.path (value_of cas change.value) (tree_changed (edit_of cas change) change.path t) (tree-reaches (edit_of cas change) change.path t is) in
    subst (ReachesWhereOk change.path (value_of cas change.value)) e (sense_by change.path (value_of cas change.value) r (is_senseless change.op change.path (value_of cas change.value)) all)
