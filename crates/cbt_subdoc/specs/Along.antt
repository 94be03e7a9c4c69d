-- What a change makes of a tree, by cases on its path.
use Rattle.std.specs.Prelude.{ℕ, suc, ◌-◌, ◌&&◌, nat_lt, nat_le, Bool, true, false, if◌then◌else◌, List, [], ◌∷◌, length, slice_get, slice_set, remove, Option, Some, None, Result, Ok, Err}
use Rattle.cbt_json.specs.declared.tree.Tree.{Tree, out-Tree}
use Rattle.cbt_json.specs.declared.tree.Tree.TheOpen.{Tree-F}
use Rattle.cbt_json.specs.declared.tree.Tree.TheVariants as tree
use Rattle.cbt_json.specs.Rules.{max_levels}
use Rattle.cbt_json.specs.Trees.{levels}
use Rattle.cbt_subdoc.specs.declared.path.Part.{Part}
use Rattle.cbt_subdoc.specs.declared.path.Part.TheVariants.{Name, Place, Last}
use Rattle.cbt_subdoc.specs.declared.changes.Mut.{Mut}
use Rattle.cbt_subdoc.specs.declared.changes.MutOp.{MutOp}
use Rattle.cbt_subdoc.specs.declared.changes.MutOp.TheVariants.{Add, Upsert, AddUnique}
use Rattle.cbt_subdoc.specs.declared.changes.MutFault.{MutFault}
use Rattle.cbt_subdoc.specs.declared.changes.MutFault.TheVariants as fault
use Rattle.cbt_subdoc.specs.declared.edits.Edit.{Edit}
use Rattle.cbt_subdoc.specs.declared.edits.Refusal.{Refusal}
use Rattle.cbt_subdoc.specs.declared.edits.Refusal.TheVariants.{PathNotFound, PathExists, PathMismatch, CounterRange, TooDeep, NoMemory}
use Rattle.cbt_subdoc.specs.Members.{Members, member, with_member, without_member}
use Rattle.cbt_subdoc.specs.Edits.{Slot, edited, in_slot, is_container}
use Rattle.cbt_subdoc.specs.Values.{value_of}

-- ---- one part: the slot of a name or a place, changed by what stands behind it on the path

-- the members with a name's slot so
abbrev pub with_slot : List ℕ → Slot → Members → Members
with_slot name (Some t) ms = with_member name t ms
with_slot name None ms = without_member name ms

abbrev pub in_object : List ℕ → Members → Result Slot Refusal → Result Tree Refusal
in_object name ms (Ok slot) = Ok (tree.Object (with_slot name slot ms))
in_object name ms (Err why) = Err why

-- the items with a place's slot so; where an item goes the list closes up
abbrev pub with_item_at : ℕ → Slot → List Tree → List Tree
with_item_at at (Some t) ts = slice_set ts at t
with_item_at at None ts = remove ts at

abbrev pub in_list : ℕ → List Tree → Result Slot Refusal → Result Tree Refusal
in_list at ts (Ok slot) = Ok (tree.List (with_item_at at slot ts))
in_list at ts (Err why) = Err why

-- an item has to be there
abbrev pub item_changed : (Slot → Result Slot Refusal) → ℕ → List Tree → Option Tree → Result Tree Refusal
item_changed change at ts None = Err PathNotFound
item_changed change at ts (Some t) = in_list at ts (change (Some t))

-- a name leads into an object, a place into a list
abbrev pub part_changed : (Slot → Result Slot Refusal) → Part → Tree-F Tree → Result Tree Refusal
part_changed change (Name name) (Tree-F.Object ms) = in_object name ms (change (member name ms))
part_changed change (Place at) (Tree-F.List ts) = item_changed change at ts (slice_get ts at)
part_changed change Last (Tree-F.List ts) = item_changed change (length ts - 1) ts (slice_get ts (length ts - 1))
part_changed change _ _ = Err PathMismatch

-- ---- the path

abbrev pub is_name : Part → Bool
is_name (Name name) = true
is_name _ = false

-- a slot, changed at the end of what is left of the path; for a missing name an object is made where
-- `parents` is set
abbrev pub slot_changed : Edit → List Part → Slot → Result Slot Refusal
slot_changed edit [] slot = edited edit slot
slot_changed edit (part ∷ parts) (Some t) = in_slot (part_changed (slot_changed edit parts) part (out-Tree t))
slot_changed edit (part ∷ parts) None =
    if edit.parents && is_name part
    then in_slot (part_changed (slot_changed edit parts) part (Tree-F.Object []))
    else Err PathNotFound

-- a tree, changed at the end of a path, which has a part
abbrev pub tree_changed : Edit → List Part → Tree → Result Tree Refusal
tree_changed edit [] t = Err PathMismatch
tree_changed edit (part ∷ parts) t = part_changed (slot_changed edit parts) part (out-Tree t)

-- ---- a change

abbrev pub is_place : Option Part → Bool
is_place None = false
is_place (Some (Name name)) = false
is_place (Some part) = true

-- the last part is a place
abbrev pub ends_in_place : List Part → Bool
ends_in_place path = is_place (slice_get path (length path - 1))

-- a change that is refused before the way is looked at
abbrev pub is_senseless : MutOp → List Part → Tree → Bool
is_senseless Add path value = ends_in_place path
is_senseless Upsert path value = ends_in_place path
is_senseless AddUnique path value = is_container value
is_senseless _ path value = false

-- a tree has at most 127 levels
abbrev pub within_levels : Result Tree Refusal → Result Tree Refusal
within_levels (Ok t) = if nat_le (levels t) max_levels then Ok t else Err TooDeep
within_levels (Err why) = Err why

-- the operation of a change, with its value at the CAS of its call
abbrev pub edit_of : ℕ → Mut → Edit
edit_of cas change = record { op = change.op; parents = change.parents; value = value_of cas change.value }

-- the tree after a change, or why it cannot be made
abbrev pub changed : ℕ → Mut → Tree → Result Tree Refusal
changed cas change t =
    if is_senseless change.op change.path (value_of cas change.value)
    then Err PathMismatch
    else within_levels (tree_changed (edit_of cas change) change.path t)

-- ---- a call

-- the fault of a change by its place among those of the call
abbrev pub fault_at : ℕ → Refusal → MutFault
fault_at i PathNotFound = fault.PathNotFound i
fault_at i PathExists = fault.PathExists i
fault_at i PathMismatch = fault.PathMismatch i
fault_at i CounterRange = fault.CounterRange i
fault_at i TooDeep = fault.TooDeep i
fault_at i NoMemory = fault.NoMemory

abbrev pub and_then : ℕ → (Tree → Result Tree MutFault) → Result Tree Refusal → Result Tree MutFault
and_then i next (Ok t) = next t
and_then i next (Err why) = Err (fault_at i why)

-- changes in order, counted from i
abbrev pub all_changed : ℕ → ℕ → List Mut → Tree → Result Tree MutFault
all_changed cas i [] t = Ok t
all_changed cas i (change ∷ changes) t = and_then i (all_changed cas (suc i) changes) (changed cas change t)

-- the most changes of a call
abbrev pub max_changes : ℕ
max_changes = 16

-- the tree after a call's changes, or the first fault
abbrev pub mutated : ℕ → List Mut → Tree → Result Tree MutFault
mutated cas changes t =
    if nat_lt max_changes (length changes) then Err (fault.TooManyPaths (length changes))
    else all_changed cas 0 changes t
