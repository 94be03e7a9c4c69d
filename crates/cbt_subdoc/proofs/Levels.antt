-- How deep a change can make a tree: no deeper than it was, or than the value at the end of the path.
use Rattle.std.proofs.Common.{◌≡◌, ℕ, ℤ, zero, suc, ◌+◌, ◌-◌, ◌≤◌, Bool, true, false, cond, ◌&&◌, List, [], ◌∷◌, ◌++◌, length, Some, None, Result, Ok, Err, refl, sym, ap, ap₂, ◌∙◌, subst, arith}
use Rattle.std.specs.Prelude.{slice_get, slice_set, remove, ◌+ℤ◌}
use Rattle.std.specs.declared.cmp.Ordering.{Ordering}
use Rattle.std.specs.declared.cmp.Ordering.TheVariants.{Less, Equal, Greater}
use Rattle.std.specs.Ordering.{match_ordering}
use Rattle.std.proofs.lemmas.Bool.{le-leb}
use Rattle.cbt_json.specs.Rules.{max_levels}
use Rattle.serde_json.specs.Data.{Data, depth, items_depth, members_depth}
use Rattle.cbt_json.specs.declared.tree.Tree.{Tree, out-Tree, map-Tree}
use Rattle.cbt_json.specs.declared.tree.Tree.TheOpen.{Tree-F}
use Rattle.cbt_json.specs.declared.tree.Tree.TheVariants as tree
use Rattle.cbt_json.specs.Trees.{data_of, data_step, items_data, members_data, levels}
use Rattle.cbt_json.proofs.Views.{data_of-Whole, data_of-List, data_of-Object}
use Rattle.cbt_subdoc.specs.declared.path.Part.{Part}
use Rattle.cbt_subdoc.specs.declared.path.Part.TheVariants.{Name, Place, Last}
use Rattle.cbt_subdoc.specs.declared.changes.Mut.{Mut}
use Rattle.cbt_subdoc.specs.declared.changes.MutOp.{MutOp}
use Rattle.cbt_subdoc.specs.declared.changes.MutOp.TheVariants.{Add, Upsert, Replace, Delete, PushFirst, PushLast, AddUnique, Counter}
use Rattle.cbt_subdoc.specs.declared.edits.Edit.{Edit}
use Rattle.cbt_subdoc.specs.declared.edits.Refusal.{Refusal}
use Rattle.cbt_subdoc.specs.declared.edits.Refusal.TheVariants.{PathNotFound, PathExists, PathMismatch, CounterRange, TooDeep}
use Rattle.cbt_subdoc.specs.Members.{Members, name_cmp, member, with_member, without_member}
use Rattle.cbt_subdoc.specs.Edits.{Slot, added, replaced, counter, counted_on, counted, in_counter_range, whole, in_slot, items_of, list_in, with_item, has_container, has_item, list_slot, onto, edited_by}
use Rattle.cbt_subdoc.specs.Along.{with_slot, in_object, with_item_at, in_list, item_changed, part_changed, is_name, slot_changed, tree_changed, is_senseless, within_levels, changed}
use Rattle.cbt_subdoc.specs.Values.{value_of}
use Rattle.cbt_subdoc.proofs.Inside.{opened}

-- at most n levels, of a tree, of what a slot holds, of one opened level
abbrev Low : ℕ → Tree → Type 0
Low n t = depth (data_of t) ≤ n

abbrev LowSlot : ℕ → Slot → Type 0
LowSlot n None = Unit {0}
LowSlot n (Some t) = Low n t

abbrev LowLevel : ℕ → Tree-F Tree → Type 0
LowLevel n y = depth (data_step (map-Tree Tree Data data_of y)) ≤ n

abbrev LowItems : ℕ → List Tree → Type 0
LowItems n ts = items_depth (items_data ts) ≤ n

abbrev LowMembers : ℕ → Members → Type 0
LowMembers n ms = members_depth (members_data ms) ≤ n

open_level : (n : ℕ) (t : Tree) → Low n t → LowLevel n (out-Tree t)
open_level n t low = subst (λ d. depth d ≤ n) (opened t) low

close_list : (n : ℕ) (ts : List Tree) → 1 ≤ n → LowItems (n - 1) ts → Low n (tree.List ts)
close_list n ts some low = let e = ap depth (data_of-List ts) in omega (arith, e, low)

close_object : (n : ℕ) (ms : Members) → 1 ≤ n → LowMembers (n - 1) ms → Low n (tree.Object ms)
close_object n ms some low = let e = ap depth (data_of-Object ms) in omega (arith, e, low)

-- ---- items

low_push : (n : ℕ) (ts : List Tree) (v : Tree) → LowItems n ts → Low n v → LowItems n (ts ++ v ∷ [])
low_push n [] v low value = omega arith
low_push n (t ∷ ts) v low value = let tail = low_push n ts v (omega (arith, low)) value in omega (arith, low, tail)

low_get : (n : ℕ) (ts : List Tree) (at : ℕ) (t : Tree) → slice_get ts at ≡ Some t → LowItems n ts → Low n t
low_get n [] at t e low = absurd (cc)
low_get n (x ∷ ts) zero t e low = let same : x ≡ t = cc in let d = ap (λ z. depth (data_of z)) same in omega (arith, d, low)
low_get n (x ∷ ts) (suc at) t e low = low_get n ts at t e (omega (arith, low))

low_set : (n : ℕ) (ts : List Tree) (at : ℕ) (v : Tree) → LowItems n ts → Low n v → LowItems n (slice_set ts at v)
low_set n [] at v low value = low
low_set n (t ∷ ts) zero v low value = omega (arith, low, value)
low_set n (t ∷ ts) (suc at) v low value = let tail = low_set n ts at v (omega (arith, low)) value in omega (arith, low, tail)

low_remove : (n : ℕ) (ts : List Tree) (at : ℕ) → LowItems n ts → LowItems n (remove ts at)
low_remove n [] zero low = low
low_remove n [] (suc at) low = low
low_remove n (t ∷ ts) zero low = omega (arith, low)
low_remove n (t ∷ ts) (suc at) low = let tail = low_remove n ts at (omega (arith, low)) in omega (arith, low, tail)

low_slot : (n : ℕ) (ts : List Tree) (at : ℕ) (slot : Slot) → LowItems n ts → LowSlot n slot → LowItems n (with_item_at at slot ts)
low_slot n ts at (Some v) low value = low_set n ts at v low value
low_slot n ts at None low value = low_remove n ts at low

-- ---- members

low_member_by : (n : ℕ) (name : List ℕ) (m : List ℕ × Tree) (ms : Members) (t : Tree) (o : Ordering) → (member name ms ≡ Some t → Low n t)
    → match_ordering o None (Some m.1) (member name ms) ≡ Some t → LowMembers n (m ∷ ms) → Low n t
low_member_by n name m ms t Less tail e low = absurd (cc)
low_member_by n name m ms t Equal tail e low = let same : m.1 ≡ t = cc in let d = ap (λ z. depth (data_of z)) same in omega (arith, d, low)
low_member_by n name m ms t Greater tail e low = tail e

low_member : (n : ℕ) (name : List ℕ) (ms : Members) (t : Tree) → member name ms ≡ Some t → LowMembers n ms → Low n t
low_member n name [] t e low = absurd (cc)
low_member n name (m ∷ ms) t e low = low_member_by n name m ms t (name_cmp name m.0) (λ f. low_member n name ms t f (omega (arith, low))) e low

low_with_by : (n : ℕ) (name : List ℕ) (v : Tree) (m : List ℕ × Tree) (ms : Members) (o : Ordering) → LowMembers n (m ∷ ms) → Low n v → LowMembers n (with_member name v ms)
    → LowMembers n (match_ordering o ((name, v) ∷ m ∷ ms) ((m.0, v) ∷ ms) (m ∷ with_member name v ms))
low_with_by n name v m ms Less low value tail = omega (arith, low, value)
low_with_by n name v m ms Equal low value tail = omega (arith, low, value)
low_with_by n name v m ms Greater low value tail = omega (arith, low, tail)

low_with : (n : ℕ) (name : List ℕ) (v : Tree) (ms : Members) → LowMembers n ms → Low n v → LowMembers n (with_member name v ms)
low_with n name v [] low value = omega (arith, value)
low_with n name v (m ∷ ms) low value = low_with_by n name v m ms (name_cmp name m.0) low value (low_with n name v ms (omega (arith, low)) value)

low_without_by : (n : ℕ) (name : List ℕ) (m : List ℕ × Tree) (ms : Members) (o : Ordering) → LowMembers n (m ∷ ms) → LowMembers n (without_member name ms)
    → LowMembers n (match_ordering o (m ∷ ms) ms (m ∷ without_member name ms))
low_without_by n name m ms Less low tail = low
low_without_by n name m ms Equal low tail = omega (arith, low)
low_without_by n name m ms Greater low tail = omega (arith, low, tail)

low_without : (n : ℕ) (name : List ℕ) (ms : Members) → LowMembers n ms → LowMembers n (without_member name ms)
low_without n name [] low = low
low_without n name (m ∷ ms) low = low_without_by n name m ms (name_cmp name m.0) low (low_without n name ms (omega (arith, low)))

low_with_slot : (n : ℕ) (name : List ℕ) (slot : Slot) (ms : Members) → LowMembers n ms → LowSlot n slot → LowMembers n (with_slot name slot ms)
low_with_slot n name (Some v) ms low value = low_with n name v ms low value
low_with_slot n name None ms low value = low_without n name ms low

-- ---- the edit of a slot

abbrev LowKept : ℕ → Result Slot Refusal → Type 0
LowKept n (Ok slot) = LowSlot n slot
LowKept n (Err why) = Unit {0}

abbrev LowTree : ℕ → Result Tree Refusal → Type 0
LowTree n (Ok t) = Low n t
LowTree n (Err why) = Unit {0}

abbrev LowList : ℕ → Result (List Tree) Refusal → Type 0
LowList n (Ok ts) = LowItems n ts
LowList n (Err why) = Unit {0}

kept_slot : (n : ℕ) (r : Result Tree Refusal) → LowTree n r → LowKept n (in_slot r)
kept_slot n (Ok t) low = low
kept_slot n (Err why) low = tt

kept_range : (n : ℕ) (z : ℤ) (t : Bool) → LowTree n (cond t (Ok (tree.Whole z)) (Err CounterRange))
kept_range n z true = let e = ap depth (data_of-Whole z) in omega (arith, e)
kept_range n z false = tt

kept_counted : (n : ℕ) (y : Tree-F Tree) (delta : ℤ) → LowTree n (counted_on y delta)
kept_counted n (Tree-F.Whole z) delta = kept_range n (z +ℤ delta) (in_counter_range (z +ℤ delta))
kept_counted n _ delta = tt

kept_items_of : (n : ℕ) (y : Tree-F Tree) → LowLevel n y → LowList (n - 1) (items_of y)
kept_items_of n (Tree-F.List ts) low = omega (arith, low)
kept_items_of n _ low = tt

kept_list_in : (n : ℕ) (parents : Bool) (slot : Slot) → LowSlot n slot → LowList (n - 1) (list_in parents slot)
kept_list_in n true None low = omega arith
kept_list_in n false None low = tt
kept_list_in n parents (Some t) low = kept_items_of n (out-Tree t) (open_level n t low)

kept_unique : (n : ℕ) (ts : List Tree) (v : Tree) (a b : Bool) → LowItems n (ts ++ v ∷ []) → LowList n (cond a (Err PathMismatch) (cond b (Err PathExists) (Ok (ts ++ v ∷ []))))
kept_unique n ts v true b low = tt
kept_unique n ts v false true low = tt
kept_unique n ts v false false low = low

kept_with_item : (n : ℕ) (op : MutOp) (ts : List Tree) (v : Tree) → LowItems n ts → Low n v → LowList n (with_item op ts v)
kept_with_item n PushFirst ts v low value = omega (arith, low, value)
kept_with_item n AddUnique ts v low value = kept_unique n ts v (has_container ts) (has_item v ts) (low_push n ts v low value)
kept_with_item n _ ts v low value = low_push n ts v low value

kept_list_slot : (n : ℕ) (r : Result (List Tree) Refusal) → 1 ≤ n → LowList (n - 1) r → LowKept n (list_slot r)
kept_list_slot n (Ok ts) some low = close_list n ts some low
kept_list_slot n (Err why) some low = tt

kept_onto : (n : ℕ) (op : MutOp) (v : Tree) (r : Result (List Tree) Refusal) → 1 ≤ n → LowList (n - 1) r → Low (n - 1) v → LowKept n (onto op v r)
kept_onto n op v (Ok ts) some low value = kept_list_slot n (with_item op ts v) some (kept_with_item (n - 1) op ts v low value)
kept_onto n op v (Err why) some low value = tt

kept_added : (n : ℕ) (v : Tree) (slot : Slot) → Low n v → LowKept n (added v slot)
kept_added n v None value = value
kept_added n v (Some t) value = tt

kept_replaced : (n : ℕ) (after slot : Slot) → LowSlot n after → LowKept n (replaced after slot)
kept_replaced n after None low = tt
kept_replaced n after (Some t) low = low

kept_counter : (n : ℕ) (v : Tree) (slot : Slot) → Low n v → LowKept n (counter v slot)
kept_counter n v None value = value
kept_counter n v (Some t) value = kept_slot n (counted t v) (kept_counted n (out-Tree t) (whole (out-Tree v)))

kept_edited_by : (n : ℕ) (op : MutOp) (parents : Bool) (v : Tree) (slot : Slot) → 1 ≤ n → Low (n - 1) v → LowSlot n slot → LowKept n (edited_by op parents v slot)
kept_edited_by n Add parents v slot some value low = kept_added n v slot (omega (arith, value))
kept_edited_by n Upsert parents v slot some value low = omega (arith, value)
kept_edited_by n Replace parents v slot some value low = kept_replaced n (Some v) slot (omega (arith, value))
kept_edited_by n Delete parents v slot some value low = kept_replaced n None slot tt
kept_edited_by n Counter parents v slot some value low = kept_counter n v slot (omega (arith, value))
kept_edited_by n PushFirst parents v slot some value low = kept_onto n PushFirst v (list_in parents slot) some (kept_list_in n parents slot low) value
kept_edited_by n PushLast parents v slot some value low = kept_onto n PushLast v (list_in parents slot) some (kept_list_in n parents slot low) value
kept_edited_by n AddUnique parents v slot some value low = kept_onto n AddUnique v (list_in parents slot) some (kept_list_in n parents slot low) value

-- ---- along the path

abbrev KeepsLow : ℕ → (Slot → Result Slot Refusal) → Type 0
KeepsLow n change = (slot : Slot) → LowSlot n slot → LowKept n (change slot)

kept_object : (n : ℕ) (name : List ℕ) (ms : Members) (r : Result Slot Refusal) → 1 ≤ n → LowMembers (n - 1) ms → LowKept (n - 1) r → LowTree n (in_object name ms r)
kept_object n name ms (Ok slot) some low kept = close_object n (with_slot name slot ms) some (low_with_slot (n - 1) name slot ms low kept)
kept_object n name ms (Err why) some low kept = tt

kept_list : (n at : ℕ) (ts : List Tree) (r : Result Slot Refusal) → 1 ≤ n → LowItems (n - 1) ts → LowKept (n - 1) r → LowTree n (in_list at ts r)
kept_list n at ts (Ok slot) some low kept = close_list n (with_item_at at slot ts) some (low_slot (n - 1) ts at slot low kept)
kept_list n at ts (Err why) some low kept = tt

low_member_slot : (n : ℕ) (name : List ℕ) (ms : Members) (slot : Slot) → member name ms ≡ slot → LowMembers n ms → LowSlot n slot
low_member_slot n name ms None at low = tt
low_member_slot n name ms (Some t) at low = low_member n name ms t at low

kept_item : (n : ℕ) (change : Slot → Result Slot Refusal) (at : ℕ) (ts : List Tree) (slot : Slot) → slice_get ts at ≡ slot → 1 ≤ n → KeepsLow (n - 1) change → LowItems (n - 1) ts
    → LowTree n (item_changed change at ts slot)
kept_item n change at ts None there some keeps low = tt
kept_item n change at ts (Some t) there some keeps low = kept_list n at ts (change (Some t)) some low (keeps (Some t) (low_get (n - 1) ts at t there low))

kept_part : (n : ℕ) (change : Slot → Result Slot Refusal) (part : Part) (y : Tree-F Tree) → 1 ≤ n → KeepsLow (n - 1) change → LowLevel n y → LowTree n (part_changed change part y)
kept_part n change (Name name) (Tree-F.Object ms) some keeps low =
    let inner : LowMembers (n - 1) ms = omega (arith, low) in
    kept_object n name ms (change (member name ms)) some inner (keeps (member name ms) (low_member_slot (n - 1) name ms (member name ms) refl inner))
kept_part n change (Place at) (Tree-F.List ts) some keeps low = kept_item n change at ts (slice_get ts at) refl some keeps (omega (arith, low))
kept_part n change Last (Tree-F.List ts) some keeps low = kept_item n change (length ts - 1) ts (slice_get ts (length ts - 1)) refl some keeps (omega (arith, low))
kept_part n change _ _ some keeps low = tt

kept_made : (n : ℕ) (r : Result Tree Refusal) (t : Bool) → LowTree n r → LowKept n (cond t (in_slot r) (Err PathNotFound))
kept_made n r true low = kept_slot n r low
kept_made n r false low = tt

keeps_low : (n : ℕ) (edit : Edit) (path : List Part) → length path + 1 + levels edit.value ≤ n → KeepsLow n (slot_changed edit path)
keeps_low n edit [] deep slot low = kept_edited_by n edit.op edit.parents edit.value slot (omega (arith, deep)) (omega (arith, deep)) low
keeps_low n edit (part ∷ path) deep (Some t) low =
    kept_slot n (part_changed (slot_changed edit path) part (out-Tree t))
    (kept_part n (slot_changed edit path) part (out-Tree t) (omega (arith, deep)) (keeps_low (n - 1) edit path (omega (arith, deep))) (open_level n t low))
keeps_low n edit (part ∷ path) deep None low =
    kept_made n (part_changed (slot_changed edit path) part (Tree-F.Object [])) (edit.parents && is_name part)
    (kept_part n (slot_changed edit path) part (Tree-F.Object []) (omega (arith, deep)) (keeps_low (n - 1) edit path (omega (arith, deep))) (omega (arith, deep)))

kept_tree : (n : ℕ) (edit : Edit) (path : List Part) (t : Tree) → length path + 1 + levels edit.value ≤ n → Low n t → LowTree n (tree_changed edit path t)
kept_tree n edit [] t deep low = tt
kept_tree n edit (part ∷ path) t deep low =
    kept_part n (slot_changed edit path) part (out-Tree t) (omega (arith, deep)) (keeps_low (n - 1) edit path (omega (arith, deep))) (open_level n t low)

-- a shallow value at the end of a short path makes no tree deeper than this
pub levels-changed : (n : ℕ) (edit : Edit) (path : List Part) (t after : Tree) → length path + 1 + levels edit.value ≤ n → levels t ≤ n → tree_changed edit path t ≡ Ok after → levels after ≤ n
levels-changed n edit path t after deep low e = subst (LowTree n) e (kept_tree n edit path t deep low)

-- ---- so a change is made

pub changed-Ok : (cas : ℕ) (change : Mut) (path : List Part) (v t after : Tree) → change.path ≡ path → v ≡ value_of cas change.value → is_senseless change.op path v ≡ false
    → tree_changed (record { op = change.op; parents = change.parents; value = v }) path t ≡ Ok after → levels after ≤ max_levels → changed cas change t ≡ Ok after
changed-Ok cas change path v t after path-is value-is sense e low =
    ap₂ (λ p x. cond (is_senseless change.op p x) (Err PathMismatch) (within_levels (tree_changed (record { op = change.op; parents = change.parents; value = x }) p t))) path-is (sym value-is)
    ∙ ap (λ b. cond b (Err PathMismatch) (within_levels (tree_changed (record { op = change.op; parents = change.parents; value = v }) path t))) sense
    ∙ ap within_levels e
    ∙ ap (λ b. cond b (Ok after) (Err TooDeep)) (le-leb (levels after) max_levels low)
