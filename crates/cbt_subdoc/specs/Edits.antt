-- What a change makes of a slot: the place at the end of its path, which holds a value or none.
use Rattle.std.specs.Prelude.{◌≡◌, ℤ, pos, negsuc, ◌+ℤ◌, ◌^◌, nat_lt, Bool, true, false, if◌then◌else◌, List, [], ◌∷◌, ◌++◌, Option, Some, None, Result, Ok, Err}
use Rattle.std.specs.List.{list_any}
use Rattle.cbt_json.specs.declared.tree.Tree.{Tree, out-Tree}
use Rattle.cbt_json.specs.declared.tree.Tree.TheOpen.{Tree-F}
use Rattle.cbt_json.specs.declared.tree.Tree.TheVariants as tree
use Rattle.cbt_json.specs.Same.{tree_eq}
use Rattle.cbt_subdoc.specs.declared.changes.MutOp.{MutOp}
use Rattle.cbt_subdoc.specs.declared.changes.MutOp.TheVariants.{Add, Upsert, Replace, Delete, PushFirst, PushLast, AddUnique, Counter}
use Rattle.cbt_subdoc.specs.declared.edits.Edit.{Edit}
use Rattle.cbt_subdoc.specs.declared.edits.Refusal.{Refusal}
use Rattle.cbt_subdoc.specs.declared.edits.Refusal.TheVariants.{PathNotFound, PathExists, PathMismatch, CounterRange, NoMemory}

-- a value, or none
abbrev pub Slot : Type 0
Slot = Option Tree

-- ---- Add, Upsert, Replace, Delete

-- nothing may be there
abbrev pub added : Tree → Slot → Result Slot Refusal
added v None = Ok (Some v)
added v (Some t) = Err PathExists

-- something has to be there
abbrev pub replaced : Slot → Slot → Result Slot Refusal
replaced after None = Err PathNotFound
replaced after (Some t) = Ok after

-- ---- Counter

-- from -2^63 to 2^63-1
abbrev pub in_counter_range : ℤ → Bool
in_counter_range (pos n) = nat_lt n (2 ^ 63)
in_counter_range (negsuc n) = nat_lt n (2 ^ 63)

-- the whole number that a tree is; any other counts as 0
abbrev pub whole : Tree-F Tree → ℤ
whole (Tree-F.Whole n) = n
whole _ = pos 0

abbrev pub in_range : ℤ → Result Tree Refusal
in_range n = if in_counter_range n then Ok (tree.Whole n) else Err CounterRange

abbrev pub counted_on : Tree-F Tree → ℤ → Result Tree Refusal
counted_on (Tree-F.Whole n) delta = in_range (n +ℤ delta)
counted_on _ delta = Err PathMismatch

-- the number that is there, changed by another
abbrev pub counted : Tree → Tree → Result Tree Refusal
counted t delta = counted_on (out-Tree t) (whole (out-Tree delta))

abbrev pub in_slot : Result Tree Refusal → Result Slot Refusal
in_slot (Ok t) = Ok (Some t)
in_slot (Err why) = Err why

abbrev pub counter : Tree → Slot → Result Slot Refusal
counter delta None = Ok (Some delta)
counter delta (Some t) = in_slot (counted t delta)

-- ---- PushFirst, PushLast, AddUnique

abbrev pub items_of : Tree-F Tree → Result (List Tree) Refusal
items_of (Tree-F.List ts) = Ok ts
items_of _ = Err PathMismatch

-- the items of the list that is there; where nothing is there and `parents` is set, those of a new one
abbrev pub list_in : Bool → Slot → Result (List Tree) Refusal
list_in parents None = if parents then Ok [] else Err PathNotFound
list_in parents (Some t) = items_of (out-Tree t)

abbrev pub is_container_level : Tree-F Tree → Bool
is_container_level (Tree-F.List ts) = true
is_container_level (Tree-F.Object ms) = true
is_container_level _ = false

-- a list or an object
abbrev pub is_container : Tree → Bool
is_container t = is_container_level (out-Tree t)

abbrev pub has_container : List Tree → Bool
has_container ts = list_any is_container ts

abbrev pub has_item : Tree → List Tree → Bool
has_item v ts = list_any (λ t. tree_eq t v) ts

-- a list with a further item
abbrev pub with_item : MutOp → List Tree → Tree → Result (List Tree) Refusal
with_item PushFirst ts v = Ok (v ∷ ts)
with_item AddUnique ts v =
    if has_container ts then Err PathMismatch
    else (if has_item v ts then Err PathExists
    else Ok (ts ++ v ∷ []))
with_item _ ts v = Ok (ts ++ v ∷ [])

abbrev pub list_slot : Result (List Tree) Refusal → Result Slot Refusal
list_slot (Ok ts) = Ok (Some (tree.List ts))
list_slot (Err why) = Err why

abbrev pub onto : MutOp → Tree → Result (List Tree) Refusal → Result Slot Refusal
onto op v (Ok ts) = list_slot (with_item op ts v)
onto op v (Err why) = Err why

-- ---- any operation

abbrev pub edited_by : MutOp → Bool → Tree → Slot → Result Slot Refusal
edited_by Add parents v slot = added v slot
edited_by Upsert parents v slot = Ok (Some v)
edited_by Replace parents v slot = replaced (Some v) slot
edited_by Delete parents v slot = replaced None slot
edited_by Counter parents v slot = counter v slot
edited_by PushFirst parents v slot = onto PushFirst v (list_in parents slot)
edited_by PushLast parents v slot = onto PushLast v (list_in parents slot)
edited_by AddUnique parents v slot = onto AddUnique v (list_in parents slot)

-- the operations that set the value at the end of their path
abbrev pub sets : MutOp → Bool
sets Add = true
sets Upsert = true
sets Replace = true
sets _ = false

-- the slot after an edit
abbrev pub edited : Edit → Slot → Result Slot Refusal
edited e slot = edited_by e.op e.parents e.value slot

-- ---- how a function's answer stands to the right one; want of memory is free

abbrev pub Does : {A : Type 0} → Result A Refusal → Result A Refusal → Type 0
Does (Ok x) right = right ≡ Ok x
Does (Err NoMemory) right = Unit {0}
Does (Err why) right = right ≡ Err why
