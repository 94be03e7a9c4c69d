-- One slot of an object or a list, taken out, changed and put back.
use Rattle.std.proofs.Common.{◌≡◌, ℕ, zero, suc, List, [], ◌∷◌, Some, None, Result, Ok, Err, MatchOption, refl, sym, ap, ◌∙◌, subst}
use Rattle.std.specs.Prelude.{slice_get, slice_set, insert, remove}
use Rattle.std.proofs.lemmas.Option.{get_or_from_slice_get}
use Rattle.cbt_json.specs.declared.tree.Tree.{Tree}
use Rattle.cbt_json.specs.declared.tree.Tree.TheVariants as tree
use Rattle.cbt_subdoc.specs.declared.edits.Refusal.{Refusal}
use Rattle.cbt_subdoc.specs.declared.edits.Refusal.TheVariants.{PathNotFound, PathExists, PathMismatch, CounterRange, TooDeep, NoMemory}
use Rattle.cbt_subdoc.specs.Members.{Members, member, with_member, without_member}
use Rattle.cbt_subdoc.specs.Edits.{Slot, Does}
use Rattle.cbt_subdoc.specs.Along.{with_slot, in_object, with_item_at, in_list, item_changed}
use Rattle.cbt_subdoc.proofs.Seats.{IsSeat, IsGap}

pub set_twice : {X : Type 0} (xs : List X) (at : ℕ) (x y : X) → slice_set (slice_set xs at x) at y ≡ slice_set xs at y
set_twice [] at x y = refl
set_twice (z ∷ xs) zero x y = refl
set_twice (z ∷ xs) (suc at) x y = ap (λ l. z ∷ l) (set_twice xs at x y)

pub remove_set : {X : Type 0} (xs : List X) (at : ℕ) (x : X) → remove (slice_set xs at x) at ≡ remove xs at
remove_set [] at x = refl
remove_set (z ∷ xs) zero x = refl
remove_set (z ∷ xs) (suc at) x = ap (λ l. z ∷ l) (remove_set xs at x)

abbrev Change : Type 0
Change = Slot → Result Slot Refusal

-- a member that was there
put_seated : (name old : List ℕ) (ms mid new : Members) (at : ℕ) (child : Tree) (hole : List ℕ × Tree) (slot : Slot)
    → IsSeat ms at (member name ms) (λ v. with_member name v ms) (without_member name ms) → slice_get ms at ≡ Some (old, child) → mid ≡ slice_set ms at hole
    → MatchOption slot (new ≡ remove mid at) (λ value. new ≡ slice_set mid at (old, value)) → with_slot name slot ms ≡ new
put_seated name old ms mid new at child hole (Some v) seat here taken put =
    let pair = get_or_from_slice_get ms at (old, child) hole here in
    seat.sets hole v ∙ ap (λ (p : List ℕ × Tree). slice_set ms at (p.0, v)) pair
    ∙ sym (put ∙ ap (λ m. slice_set m at (old, v)) taken ∙ set_twice ms at hole (old, v))
put_seated name old ms mid new at child hole None seat here taken put = seat.removes ∙ sym (put ∙ ap (λ m. remove m at) taken ∙ remove_set ms at hole)

pub member_put : (change : Change) (name old : List ℕ) (ms mid new : Members) (at : ℕ) (child : Tree) (hole : List ℕ × Tree) (slot : Slot)
    → IsSeat ms at (member name ms) (λ v. with_member name v ms) (without_member name ms) → slice_get ms at ≡ Some (old, child) → mid ≡ slice_set ms at hole
    → change (Some child) ≡ Ok slot → MatchOption slot (new ≡ remove mid at) (λ value. new ≡ slice_set mid at (old, value))
    → in_object name ms (change (member name ms)) ≡ Ok (tree.Object new)
member_put change name old ms mid new at child hole slot seat here taken changed put =
    let pair = get_or_from_slice_get ms at (old, child) hole here in
    let there : member name ms ≡ Some child = seat.found hole ∙ ap (λ (p : List ℕ × Tree). Some p.1) pair in
    ap (in_object name ms) (ap change there ∙ changed) ∙ ap (λ m. Ok (tree.Object m)) (put_seated name old ms mid new at child hole slot seat here taken put)

pub member_stuck : (change : Change) (name old : List ℕ) (ms : Members) (at : ℕ) (child : Tree) (why : Refusal)
    → IsSeat ms at (member name ms) (λ v. with_member name v ms) (without_member name ms) → slice_get ms at ≡ Some (old, child)
    → change (Some child) ≡ Err why → in_object name ms (change (member name ms)) ≡ Err why
member_stuck change name old ms at child why seat here refused =
    let pair = get_or_from_slice_get ms at (old, child) (old, child) here in
    let there : member name ms ≡ Some child = seat.found (old, child) ∙ ap (λ (p : List ℕ × Tree). Some p.1) pair in
    ap (in_object name ms) (ap change there ∙ refused)

-- a member that was not there
put_new : (name : List ℕ) (ms new : Members) (at : ℕ) (slot : Slot)
    → IsGap name ms at (member name ms) (λ v. with_member name v ms) (without_member name ms)
    → MatchOption slot (new ≡ ms) (λ value. new ≡ insert ms at (name, value)) → with_slot name slot ms ≡ new
put_new name ms new at (Some v) gap put = gap.inserts v ∙ sym put
put_new name ms new at None gap put = gap.same ∙ sym put

pub member_added : (change : Change) (name : List ℕ) (ms new : Members) (at : ℕ) (slot : Slot)
    → IsGap name ms at (member name ms) (λ v. with_member name v ms) (without_member name ms) → change None ≡ Ok slot
    → MatchOption slot (new ≡ ms) (λ value. new ≡ insert ms at (name, value)) → in_object name ms (change (member name ms)) ≡ Ok (tree.Object new)
member_added change name ms new at slot gap changed put =
    ap (in_object name ms) (ap change gap.none ∙ changed) ∙ ap (λ m. Ok (tree.Object m)) (put_new name ms new at slot gap put)

pub member_not_added : (change : Change) (name : List ℕ) (ms : Members) (at : ℕ) (why : Refusal)
    → IsGap name ms at (member name ms) (λ v. with_member name v ms) (without_member name ms) → change None ≡ Err why
    → in_object name ms (change (member name ms)) ≡ Err why
member_not_added change name ms at why gap refused = ap (in_object name ms) (ap change gap.none ∙ refused)

-- an item
back : (ts mid : List Tree) (at : ℕ) (hole : Tree) (slot : Slot) → mid ≡ slice_set ts at hole → with_item_at at slot mid ≡ with_item_at at slot ts
back ts mid at hole (Some t) taken = ap (λ m. slice_set m at t) taken ∙ set_twice ts at hole t
back ts mid at hole None taken = ap (λ m. remove m at) taken ∙ remove_set ts at hole

pub item_put : (change : Change) (ts mid new : List Tree) (at : ℕ) (child hole : Tree) (slot : Slot) → slice_get ts at ≡ Some child → mid ≡ slice_set ts at hole
    → change (Some child) ≡ Ok slot → new ≡ with_item_at at slot mid → item_changed change at ts (slice_get ts at) ≡ Ok (tree.List new)
item_put change ts mid new at child hole slot here taken changed put =
    ap (item_changed change at ts) here ∙ ap (in_list at ts) changed ∙ ap (λ l. Ok (tree.List l)) (sym (put ∙ back ts mid at hole slot taken))

-- ---- the exit of a change that was refused in a part of it

stopped : {A B : Type 0} (why : Refusal) (from : Result A Refusal) (to : Result B Refusal) → Does (Err why) from → (from ≡ Err why → to ≡ Err why) → Does (Err why) to
stopped NoMemory from to does along = tt
stopped PathNotFound from to does along = along does
stopped PathExists from to does along = along does
stopped PathMismatch from to does along = along does
stopped CounterRange from to does along = along does
stopped TooDeep from to does along = along does

pub refused_along : {A B : Type 0} (why : Refusal) (r : Result B Refusal) (from : Result A Refusal) (to : Result B Refusal) → r ≡ Err why → Does (Err why) from
    → (from ≡ Err why → to ≡ Err why) → Does r to
refused_along {A} {B} why r from to is does along =
    let P : Result B Refusal → Type 0 = λ x. Does x to in subst P (sym is) (stopped why from to does along)
