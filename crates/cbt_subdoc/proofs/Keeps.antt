-- A change keeps the numbers in their range and the names rising, at every level.
use Rattle.std.proofs.Common.{◌≡◌, ℕ, ℤ, pos, negsuc, zero, suc, ◌-◌, ◌^◌, Bool, true, false, cond, ◌&&◌, List, [], ◌∷◌, ◌++◌, length, Some, None, Result, Ok, Err, refl, ap, ◌∙◌, subst, arith}
use Rattle.std.specs.Prelude.{slice_get, slice_set, remove, nat_lt, ◌+ℤ◌}
use Rattle.std.specs.declared.cmp.Ordering.{Ordering}
use Rattle.std.specs.declared.cmp.Ordering.TheVariants.{Less, Equal, Greater}
use Rattle.std.specs.Ordering.{match_ordering, ordering_reverse, is_lt}
use Rattle.std.specs.Cmp.Lexicographic.{nat_list_cmp_total}
use Rattle.std.proofs.lemmas.Bool.{and_parts, and_from}
use Rattle.std.proofs.lemmas.Bool.Decides.{nat_tests}
use Rattle.serde_json.specs.Data.{Data}
use Rattle.cbt_json.proofs.Proper.{less as less_is}
use Rattle.cbt_json.specs.declared.tree.Tree.{Tree, out-Tree, map-Tree}
use Rattle.cbt_json.specs.declared.tree.Tree.TheOpen.{Tree-F}
use Rattle.cbt_json.specs.declared.tree.Tree.TheVariants as tree
use Rattle.cbt_json.specs.Rules.{rises_from, names_rise, is_regular, items_are_regular, members_are_regular}
use Rattle.cbt_json.specs.Trees.{data_of, data_step, items_data, members_data}
use Rattle.cbt_json.proofs.Views.{data_of-Whole, data_of-List, data_of-Object}
use Rattle.cbt_subdoc.specs.declared.path.Part.{Part}
use Rattle.cbt_subdoc.specs.declared.path.Part.TheVariants.{Name, Place, Last}
use Rattle.cbt_subdoc.specs.declared.changes.MutOp.{MutOp}
use Rattle.cbt_subdoc.specs.declared.changes.MutOp.TheVariants.{Add, Upsert, Replace, Delete, PushFirst, PushLast, AddUnique, Counter}
use Rattle.cbt_subdoc.specs.declared.edits.Edit.{Edit}
use Rattle.cbt_subdoc.specs.declared.edits.Refusal.{Refusal}
use Rattle.cbt_subdoc.specs.declared.edits.Refusal.TheVariants.{PathNotFound, PathExists, PathMismatch, CounterRange}
use Rattle.cbt_subdoc.specs.Members.{Members, name_cmp, member, with_member, without_member}
use Rattle.cbt_subdoc.specs.Edits.{Slot, added, replaced, counter, counted_on, counted, in_counter_range, whole, in_slot, items_of, list_in, with_item, has_container, has_item, list_slot, onto, edited_by}
use Rattle.cbt_subdoc.specs.Along.{with_slot, in_object, with_item_at, in_list, item_changed, part_changed, is_name, slot_changed, tree_changed}
use Rattle.cbt_subdoc.proofs.Inside.{opened, item_inside, member_inside}

abbrev pub IsRegular : Tree → Type 0
IsRegular t = is_regular (data_of t) ≡ true

abbrev pub IsRegularSlot : Slot → Type 0
IsRegularSlot None = Unit {0}
IsRegularSlot (Some t) = IsRegular t

abbrev AreItems : List Tree → Type 0
AreItems ts = items_are_regular (items_data ts) ≡ true

abbrev AreValues : Members → Type 0
AreValues ms = members_are_regular (members_data ms) ≡ true

abbrev Rise : Members → Type 0
Rise ms = names_rise (members_data ms) ≡ true

-- one level, opened
abbrev IsRegularLevel : Tree-F Tree → Type 0
IsRegularLevel y = is_regular (data_step (map-Tree Tree Data data_of y)) ≡ true

open_level : (t : Tree) → IsRegular t → IsRegularLevel (out-Tree t)
open_level t is = subst (λ d. is_regular d ≡ true) (opened t) is

close_list : (ts : List Tree) → AreItems ts → IsRegular (tree.List ts)
close_list ts is = ap is_regular (data_of-List ts) ∙ is

close_object : (ms : Members) → Rise ms → AreValues ms → IsRegular (tree.Object ms)
close_object ms rise is = ap is_regular (data_of-Object ms) ∙ and_from (names_rise (members_data ms)) (members_are_regular (members_data ms)) rise is

-- ---- items

items_push : (ts : List Tree) (v : Tree) → AreItems ts → IsRegular v → AreItems (ts ++ v ∷ [])
items_push [] v is value = and_from (is_regular (data_of v)) true value refl
items_push (t ∷ ts) v is value =
    let p = and_parts (is_regular (data_of t)) (items_are_regular (items_data ts)) is in
    and_from (is_regular (data_of t)) (items_are_regular (items_data (ts ++ v ∷ []))) p.0 (items_push ts v p.1 value)

items_set : (ts : List Tree) (at : ℕ) (v : Tree) → AreItems ts → IsRegular v → AreItems (slice_set ts at v)
items_set [] at v is value = is
items_set (t ∷ ts) zero v is value =
    let p = and_parts (is_regular (data_of t)) (items_are_regular (items_data ts)) is in
    and_from (is_regular (data_of v)) (items_are_regular (items_data ts)) value p.1
items_set (t ∷ ts) (suc at) v is value =
    let p = and_parts (is_regular (data_of t)) (items_are_regular (items_data ts)) is in
    and_from (is_regular (data_of t)) (items_are_regular (items_data (slice_set ts at v))) p.0 (items_set ts at v p.1 value)

items_remove : (ts : List Tree) (at : ℕ) → AreItems ts → AreItems (remove ts at)
items_remove [] zero is = is
items_remove [] (suc at) is = is
items_remove (t ∷ ts) zero is = (and_parts (is_regular (data_of t)) (items_are_regular (items_data ts)) is).1
items_remove (t ∷ ts) (suc at) is =
    let p = and_parts (is_regular (data_of t)) (items_are_regular (items_data ts)) is in
    and_from (is_regular (data_of t)) (items_are_regular (items_data (remove ts at))) p.0 (items_remove ts at p.1)

items_slot : (ts : List Tree) (at : ℕ) (slot : Slot) → AreItems ts → IsRegularSlot slot → AreItems (with_item_at at slot ts)
items_slot ts at (Some v) is value = items_set ts at v is value
items_slot ts at None is value = items_remove ts at is

-- ---- the values of members

values_with_by : (name : List ℕ) (v : Tree) (m : List ℕ × Tree) (ms : Members) (o : Ordering) → AreValues (m ∷ ms) → IsRegular v → AreValues (with_member name v ms)
    → AreValues (match_ordering o ((name, v) ∷ m ∷ ms) ((m.0, v) ∷ ms) (m ∷ with_member name v ms))
values_with_by name v m ms Less is value tail = and_from (is_regular (data_of v)) (members_are_regular (members_data (m ∷ ms))) value is
values_with_by name v m ms Equal is value tail =
    and_from (is_regular (data_of v)) (members_are_regular (members_data ms)) value (and_parts (is_regular (data_of m.1)) (members_are_regular (members_data ms)) is).1
values_with_by name v m ms Greater is value tail =
    and_from (is_regular (data_of m.1)) (members_are_regular (members_data (with_member name v ms))) (and_parts (is_regular (data_of m.1)) (members_are_regular (members_data ms)) is).0 tail

values_with : (name : List ℕ) (v : Tree) (ms : Members) → AreValues ms → IsRegular v → AreValues (with_member name v ms)
values_with name v [] is value = and_from (is_regular (data_of v)) true value refl
values_with name v (m ∷ ms) is value =
    values_with_by name v m ms (name_cmp name m.0) is value (values_with name v ms (and_parts (is_regular (data_of m.1)) (members_are_regular (members_data ms)) is).1 value)

values_without_by : (name : List ℕ) (m : List ℕ × Tree) (ms : Members) (o : Ordering) → AreValues (m ∷ ms) → AreValues (without_member name ms)
    → AreValues (match_ordering o (m ∷ ms) ms (m ∷ without_member name ms))
values_without_by name m ms Less is tail = is
values_without_by name m ms Equal is tail = (and_parts (is_regular (data_of m.1)) (members_are_regular (members_data ms)) is).1
values_without_by name m ms Greater is tail =
    and_from (is_regular (data_of m.1)) (members_are_regular (members_data (without_member name ms))) (and_parts (is_regular (data_of m.1)) (members_are_regular (members_data ms)) is).0 tail

values_without : (name : List ℕ) (ms : Members) → AreValues ms → AreValues (without_member name ms)
values_without name [] is = is
values_without name (m ∷ ms) is =
    values_without_by name m ms (name_cmp name m.0) is (values_without name ms (and_parts (is_regular (data_of m.1)) (members_are_regular (members_data ms)) is).1)

values_slot : (name : List ℕ) (slot : Slot) (ms : Members) → AreValues ms → IsRegularSlot slot → AreValues (with_slot name slot ms)
values_slot name (Some v) ms is value = values_with name v ms is value
values_slot name None ms is value = values_without name ms is

-- ---- the names of members

first_with_by : (low name : List ℕ) (v : Tree) (m : List ℕ × Tree) (ms : Members) (o : Ordering) → name_cmp low name ≡ Less → is_lt (name_cmp low m.0) ≡ true
    → rises_from low (members_data (match_ordering o ((name, v) ∷ m ∷ ms) ((m.0, v) ∷ ms) (m ∷ with_member name v ms))) ≡ true
first_with_by low name v m ms Less below first = ap is_lt below
first_with_by low name v m ms Equal below first = first
first_with_by low name v m ms Greater below first = first

first_with : (low name : List ℕ) (v : Tree) (ms : Members) → name_cmp low name ≡ Less → rises_from low (members_data ms) ≡ true → rises_from low (members_data (with_member name v ms)) ≡ true
first_with low name v [] below first = ap is_lt below
first_with low name v (m ∷ ms) below first = first_with_by low name v m ms (name_cmp name m.0) below first

rise_with_by : (name : List ℕ) (v : Tree) (m : List ℕ × Tree) (ms : Members) (o : Ordering) → name_cmp name m.0 ≡ o → Rise (m ∷ ms) → Rise (with_member name v ms)
    → Rise (match_ordering o ((name, v) ∷ m ∷ ms) ((m.0, v) ∷ ms) (m ∷ with_member name v ms))
rise_with_by name v m ms Less at rise tail = and_from (rises_from name (members_data (m ∷ ms))) (names_rise (members_data (m ∷ ms))) (ap is_lt at) rise
rise_with_by name v m ms Equal at rise tail = rise
rise_with_by name v m ms Greater at rise tail =
    let p = and_parts (rises_from m.0 (members_data ms)) (names_rise (members_data ms)) rise in
    let below : name_cmp m.0 name ≡ Less = nat_list_cmp_total.antisymm m.0 name ∙ ap ordering_reverse at in
    and_from (rises_from m.0 (members_data (with_member name v ms))) (names_rise (members_data (with_member name v ms))) (first_with m.0 name v ms below p.0) tail

rise_with : (name : List ℕ) (v : Tree) (ms : Members) → Rise ms → Rise (with_member name v ms)
rise_with name v [] rise = refl
rise_with name v (m ∷ ms) rise =
    rise_with_by name v m ms (name_cmp name m.0) refl rise (rise_with name v ms (and_parts (rises_from m.0 (members_data ms)) (names_rise (members_data ms)) rise).1)

-- what follows a name that rises follows an earlier one
pub further : (low next : List ℕ) (ms : Members) → is_lt (name_cmp low next) ≡ true → rises_from next (members_data ms) ≡ true → rises_from low (members_data ms) ≡ true
further low next [] less first = refl
further low next (m ∷ ms) less first =
    ap is_lt (nat_list_cmp_total.trans low next m.0 (less_is (name_cmp low next) less) (less_is (name_cmp next m.0) first))

first_without_by : (low name : List ℕ) (m : List ℕ × Tree) (ms : Members) (o : Ordering) → is_lt (name_cmp low m.0) ≡ true → rises_from m.0 (members_data ms) ≡ true
    → rises_from low (members_data (match_ordering o (m ∷ ms) ms (m ∷ without_member name ms))) ≡ true
first_without_by low name m ms Less first next = first
first_without_by low name m ms Equal first next = further low m.0 ms first next
first_without_by low name m ms Greater first next = first

first_without : (low name : List ℕ) (ms : Members) → rises_from low (members_data ms) ≡ true → Rise ms → rises_from low (members_data (without_member name ms)) ≡ true
first_without low name [] first rise = refl
first_without low name (m ∷ ms) first rise =
    first_without_by low name m ms (name_cmp name m.0) first (and_parts (rises_from m.0 (members_data ms)) (names_rise (members_data ms)) rise).0

rise_without_by : (name : List ℕ) (m : List ℕ × Tree) (ms : Members) (o : Ordering) → Rise (m ∷ ms) → Rise (without_member name ms)
    → Rise (match_ordering o (m ∷ ms) ms (m ∷ without_member name ms))
rise_without_by name m ms Less rise tail = rise
rise_without_by name m ms Equal rise tail = (and_parts (rises_from m.0 (members_data ms)) (names_rise (members_data ms)) rise).1
rise_without_by name m ms Greater rise tail =
    let p = and_parts (rises_from m.0 (members_data ms)) (names_rise (members_data ms)) rise in
    and_from (rises_from m.0 (members_data (without_member name ms))) (names_rise (members_data (without_member name ms))) (first_without m.0 name ms p.0 p.1) tail

rise_without : (name : List ℕ) (ms : Members) → Rise ms → Rise (without_member name ms)
rise_without name [] rise = rise
rise_without name (m ∷ ms) rise =
    rise_without_by name m ms (name_cmp name m.0) rise (rise_without name ms (and_parts (rises_from m.0 (members_data ms)) (names_rise (members_data ms)) rise).1)

rise_slot : (name : List ℕ) (slot : Slot) (ms : Members) → Rise ms → Rise (with_slot name slot ms)
rise_slot name (Some v) ms rise = rise_with name v ms rise
rise_slot name None ms rise = rise_without name ms rise

-- ---- the edit of a slot

-- what is kept where an answer is there
abbrev Kept : Result Slot Refusal → Type 0
Kept (Ok slot) = IsRegularSlot slot
Kept (Err why) = Unit {0}

abbrev KeptTree : Result Tree Refusal → Type 0
KeptTree (Ok t) = IsRegular t
KeptTree (Err why) = Unit {0}

abbrev KeptItems : Result (List Tree) Refusal → Type 0
KeptItems (Ok ts) = AreItems ts
KeptItems (Err why) = Unit {0}

kept_slot : (r : Result Tree Refusal) → KeptTree r → Kept (in_slot r)
kept_slot (Ok t) is = is
kept_slot (Err why) is = tt

regular_whole : (z : ℤ) → in_counter_range z ≡ true → IsRegular (tree.Whole z)
regular_whole (pos n) small = ap is_regular (data_of-Whole (pos n)) ∙ (let wide : nat_lt n (2 ^ 64) ≡ true = grind (arith, nat_tests) in wide)
regular_whole (negsuc n) small = ap is_regular (data_of-Whole (negsuc n)) ∙ small

kept_range : (z : ℤ) (t : Bool) → in_counter_range z ≡ t → KeptTree (cond t (Ok (tree.Whole z)) (Err CounterRange))
kept_range z true small = regular_whole z small
kept_range z false small = tt

kept_counted : (y : Tree-F Tree) (delta : ℤ) → KeptTree (counted_on y delta)
kept_counted (Tree-F.Whole n) delta = kept_range (n +ℤ delta) (in_counter_range (n +ℤ delta)) refl
kept_counted _ delta = tt

kept_items_of : (y : Tree-F Tree) → IsRegularLevel y → KeptItems (items_of y)
kept_items_of (Tree-F.List ts) is = is
kept_items_of _ is = tt

kept_list_in : (parents : Bool) (slot : Slot) → IsRegularSlot slot → KeptItems (list_in parents slot)
kept_list_in true None is = refl
kept_list_in false None is = tt
kept_list_in parents (Some t) is = kept_items_of (out-Tree t) (open_level t is)

kept_unique : (ts : List Tree) (v : Tree) (a b : Bool) → AreItems (ts ++ v ∷ []) → KeptItems (cond a (Err PathMismatch) (cond b (Err PathExists) (Ok (ts ++ v ∷ []))))
kept_unique ts v true b is = tt
kept_unique ts v false true is = tt
kept_unique ts v false false is = is

kept_with_item : (op : MutOp) (ts : List Tree) (v : Tree) → AreItems ts → IsRegular v → KeptItems (with_item op ts v)
kept_with_item PushFirst ts v is value = and_from (is_regular (data_of v)) (items_are_regular (items_data ts)) value is
kept_with_item AddUnique ts v is value = kept_unique ts v (has_container ts) (has_item v ts) (items_push ts v is value)
kept_with_item _ ts v is value = items_push ts v is value

kept_list_slot : (r : Result (List Tree) Refusal) → KeptItems r → Kept (list_slot r)
kept_list_slot (Ok ts) is = close_list ts is
kept_list_slot (Err why) is = tt

kept_onto : (op : MutOp) (v : Tree) (r : Result (List Tree) Refusal) → KeptItems r → IsRegular v → Kept (onto op v r)
kept_onto op v (Ok ts) is value = kept_list_slot (with_item op ts v) (kept_with_item op ts v is value)
kept_onto op v (Err why) is value = tt

kept_added : (v : Tree) (slot : Slot) → IsRegular v → Kept (added v slot)
kept_added v None value = value
kept_added v (Some t) value = tt

kept_replaced : (after slot : Slot) → IsRegularSlot after → Kept (replaced after slot)
kept_replaced after None is = tt
kept_replaced after (Some t) is = is

kept_counter : (v : Tree) (slot : Slot) → IsRegular v → Kept (counter v slot)
kept_counter v None value = value
kept_counter v (Some t) value = kept_slot (counted t v) (kept_counted (out-Tree t) (whole (out-Tree v)))

kept_edited_by : (op : MutOp) (parents : Bool) (v : Tree) (slot : Slot) → IsRegular v → IsRegularSlot slot → Kept (edited_by op parents v slot)
kept_edited_by Add parents v slot value is = kept_added v slot value
kept_edited_by Upsert parents v slot value is = value
kept_edited_by Replace parents v slot value is = kept_replaced (Some v) slot value
kept_edited_by Delete parents v slot value is = kept_replaced None slot tt
kept_edited_by Counter parents v slot value is = kept_counter v slot value
kept_edited_by PushFirst parents v slot value is = kept_onto PushFirst v (list_in parents slot) (kept_list_in parents slot is) value
kept_edited_by PushLast parents v slot value is = kept_onto PushLast v (list_in parents slot) (kept_list_in parents slot is) value
kept_edited_by AddUnique parents v slot value is = kept_onto AddUnique v (list_in parents slot) (kept_list_in parents slot is) value

-- ---- along the path

abbrev KeepsSlots : (Slot → Result Slot Refusal) → Type 0
KeepsSlots change = (slot : Slot) → IsRegularSlot slot → Kept (change slot)

kept_object : (name : List ℕ) (ms : Members) (r : Result Slot Refusal) → Rise ms → AreValues ms → Kept r → KeptTree (in_object name ms r)
kept_object name ms (Ok slot) rise is kept = close_object (with_slot name slot ms) (rise_slot name slot ms rise) (values_slot name slot ms is kept)
kept_object name ms (Err why) rise is kept = tt

kept_list : (at : ℕ) (ts : List Tree) (r : Result Slot Refusal) → AreItems ts → Kept r → KeptTree (in_list at ts r)
kept_list at ts (Ok slot) is kept = close_list (with_item_at at slot ts) (items_slot ts at slot is kept)
kept_list at ts (Err why) is kept = tt

regular_member : (name : List ℕ) (ms : Members) (slot : Slot) → member name ms ≡ slot → AreValues ms → IsRegularSlot slot
regular_member name ms None at is = tt
regular_member name ms (Some t) at is = (member_inside name ms t at is).0

kept_item : (change : Slot → Result Slot Refusal) (at : ℕ) (ts : List Tree) (slot : Slot) → slice_get ts at ≡ slot → KeepsSlots change → AreItems ts
    → KeptTree (item_changed change at ts slot)
kept_item change at ts None there keeps is = tt
kept_item change at ts (Some t) there keeps is = kept_list at ts (change (Some t)) is (keeps (Some t) (item_inside ts at t there is).0)

kept_part : (change : Slot → Result Slot Refusal) (part : Part) (y : Tree-F Tree) → KeepsSlots change → IsRegularLevel y → KeptTree (part_changed change part y)
kept_part change (Name name) (Tree-F.Object ms) keeps is =
    let p = and_parts (names_rise (members_data ms)) (members_are_regular (members_data ms)) is in
    kept_object name ms (change (member name ms)) p.0 p.1 (keeps (member name ms) (regular_member name ms (member name ms) refl p.1))
kept_part change (Place at) (Tree-F.List ts) keeps is = kept_item change at ts (slice_get ts at) refl keeps is
kept_part change Last (Tree-F.List ts) keeps is = kept_item change (length ts - 1) ts (slice_get ts (length ts - 1)) refl keeps is
kept_part change _ _ keeps is = tt

kept_made : (r : Result Tree Refusal) (t : Bool) → KeptTree r → Kept (cond t (in_slot r) (Err PathNotFound))
kept_made r true is = kept_slot r is
kept_made r false is = tt

keeps_slots : (edit : Edit) (path : List Part) → IsRegular edit.value → KeepsSlots (slot_changed edit path)
keeps_slots edit [] value slot is = kept_edited_by edit.op edit.parents edit.value slot value is
keeps_slots edit (part ∷ path) value (Some t) is =
    kept_slot (part_changed (slot_changed edit path) part (out-Tree t)) (kept_part (slot_changed edit path) part (out-Tree t) (keeps_slots edit path value) (open_level t is))
keeps_slots edit (part ∷ path) value None is =
    kept_made (part_changed (slot_changed edit path) part (Tree-F.Object [])) (edit.parents && is_name part) (kept_part (slot_changed edit path) part (Tree-F.Object []) (keeps_slots edit path value) refl)

kept_tree : (edit : Edit) (path : List Part) (t : Tree) → IsRegular edit.value → IsRegular t → KeptTree (tree_changed edit path t)
kept_tree edit [] t value is = tt
kept_tree edit (part ∷ path) t value is = kept_part (slot_changed edit path) part (out-Tree t) (keeps_slots edit path value) (open_level t is)

pub IsRegular-changed : (edit : Edit) (path : List Part) (t after : Tree) → IsRegular edit.value → IsRegular t → tree_changed edit path t ≡ Ok after → IsRegular after
IsRegular-changed edit path t after value is e = subst KeptTree e (kept_tree edit path t value is)
