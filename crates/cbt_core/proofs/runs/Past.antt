-- The words on own lists, as places of the history.
use Rattle.std.proofs.Common.{◌≡◌, ℕ, zero, suc, ◌<◌, ◌≤◌, Bool, true, false, cond, nat_eq, ◌⊎◌, inl, inr, ⊎_elim, List, [], ◌∷◌, slice_get, Option, Some, None, refl, sym, ap, ◌∙◌, subst, arith}
use Rattle.std.proofs.lemmas.Bool.{cases_lt, eqb-true, eq-eqb}
use Rattle.std.proofs.lemmas.Option.{none-some}
use Rattle.cbt_model.specs.History.{own, own_more, made_at}
use Rattle.cbt_model.specs.declared.events.Event.{Event}
use Rattle.cbt_model.specs.declared.events.Made.{Made}
use Rattle.cbt_model.specs.declared.states.State.{State}
use Rattle.cbt_book.specs.Licence.{MayTake, IsLicensed}
use Rattle.cbt_book.specs.Numbers.{Identity}
use Rattle.cbt_book.specs.OwnLists.{Once, Kept, In, Descends}

pub some_same : {X : Type 0} {x y : X} → Some x ≡ Some y → x ≡ y
some_same both = cc

-- one event stands at a place
pub one_event : (h : List Event) (i : ℕ) (e f : Event) → slice_get h i ≡ Some e → slice_get h i ≡ Some f → e ≡ f
one_event h i e f at there = some_same (sym at ∙ there)

pub below_next : (j i : ℕ) → j < suc i → (j < i) ⊎ (j ≡ i)
below_next j i low = ⊎_elim (λ (l : j < i). inl l) (λ (g : i ≤ j). inr (omega arith)) (cases_lt j i)

-- which of two places comes first
pub data Order (i j : ℕ) : Type 0 where
  first : i < j → Order i j
  equal : i ≡ j → Order i j
  after : j < i → Order i j

pub order : (i j : ℕ) → Order i j
order i j = ⊎_elim (λ (l : i < j). first l) (λ (g : j ≤ i). ⊎_elim (λ (b : j < i). after b) (λ (s : i ≤ j). equal (omega arith)) (cases_lt j i)) (cases_lt i j)

true-false : true ≡ false → ⊥
true-false e = cc

module _ (s0 : State) (h : List Event) where
  -- whose event stands at a place
  pub data Whose (actor i : ℕ) : Type 0 where
    mine : (e : Event) → slice_get h i ≡ Some e → e.actor ≡ actor → own s0 h actor (suc i) ≡ made_at s0 h i e ∷ own s0 h actor i → Whose actor i
    other : own s0 h actor (suc i) ≡ own s0 h actor i → ((e : Event) → slice_get h i ≡ Some e → e.actor ≡ actor → ⊥) → Whose actor i

  pub whose : (actor i : ℕ) → Whose actor i
  whose actor i = go (slice_get h i) refl
    where
      by_test : (e : Event) → slice_get h i ≡ Some e → (b : Bool) → nat_eq e.actor actor ≡ b → Whose actor i
      by_test e at true is =
          mine e at (eqb-true e.actor actor is)
          (ap (λ o. own_more s0 h actor i o (own s0 h actor i)) at ∙ ap (λ b. cond b (made_at s0 h i e ∷ own s0 h actor i) (own s0 h actor i)) is)
      by_test e at false is =
          other (ap (λ o. own_more s0 h actor i o (own s0 h actor i)) at ∙ ap (λ b. cond b (made_at s0 h i e ∷ own s0 h actor i) (own s0 h actor i)) is)
          (λ x there by. true-false (sym (eq-eqb e.actor actor (ap (λ (y : Event). y.actor) (one_event h i e x at there) ∙ by)) ∙ is))

      go : (o : Option Event) → slice_get h i ≡ o → Whose actor i
      go None at = other (ap (λ o. own_more s0 h actor i o (own s0 h actor i)) at) (λ x there by. none-some x (sym at ∙ there))
      go (Some e) at = by_test e at (nat_eq e.actor actor) refl

  -- P was so of an event of the actor before place i
  pub record Earlier (P : Made → List Made → Type 0) (actor i : ℕ) : Type 0 where
    pub place : ℕ
    pub event : Event
    pub before : place < i
    pub is : slice_get h place ≡ Some event
    pub by : event.actor ≡ actor
    pub holds : P (made_at s0 h place event) (own s0 h actor place)

  abbrev later : (P : Made → List Made → Type 0) (actor i : ℕ) → Earlier P actor i → Earlier P actor (suc i)
  later P actor i it = record { place = it.place; event = it.event; before = let low = it.before in omega arith; is = it.is; by = it.by; holds = it.holds }

  once_next : (P : Made → List Made → Type 0) (actor i : ℕ) → Whose actor i → (Once P (own s0 h actor i) → Earlier P actor i)
      → Once P (own s0 h actor (suc i)) → Earlier P actor (suc i)
  once_next P actor i (mine e at by is) ih once =
      ⊎_elim (λ (here : P (made_at s0 h i e) (own s0 h actor i)). record { place = i; event = e; before = omega arith; is = at; by = by; holds = here })
      (λ past. later P actor i (ih past)) (subst (λ l. Once P l) is once)
  once_next P actor i (other is none) ih once = later P actor i (ih (subst (λ l. Once P l) is once))

  pub once_at : (P : Made → List Made → Type 0) (actor i : ℕ) → Once P (own s0 h actor i) → Earlier P actor i
  once_at P actor zero once = absurd once
  once_at P actor (suc i) once = once_next P actor i (whose actor i) (λ past. once_at P actor i past) once

  at_once_next : (P : Made → List Made → Type 0) (actor i j : ℕ) (e : Event) → Whose actor i → (j < i → Once P (own s0 h actor i)) → j < suc i
      → slice_get h j ≡ Some e → e.actor ≡ actor → P (made_at s0 h j e) (own s0 h actor j) → Once P (own s0 h actor (suc i))
  at_once_next P actor i j e (mine f there its is) ih low at by holds =
      subst (λ l. Once P l) (sym is)
      (⊎_elim (λ (l : j < i). inr (ih l))
      (λ (s : j ≡ i). inl (subst (λ x. P (made_at s0 h i x) (own s0 h actor i)) (one_event h i e f (subst (λ n. slice_get h n ≡ Some e) s at) there)
      (subst (λ n. P (made_at s0 h n e) (own s0 h actor n)) s holds)))
      (below_next j i low))
  at_once_next P actor i j e (other is none) ih low at by holds =
      subst (λ l. Once P l) (sym is)
      (⊎_elim (λ (l : j < i). ih l) (λ (s : j ≡ i). absurd (none e (subst (λ n. slice_get h n ≡ Some e) s at) by)) (below_next j i low))

  pub at_once : (P : Made → List Made → Type 0) (actor i j : ℕ) (e : Event) → j < i → slice_get h j ≡ Some e → e.actor ≡ actor
      → P (made_at s0 h j e) (own s0 h actor j) → Once P (own s0 h actor i)
  at_once P actor zero j e low at by holds = absurd (omega arith)
  at_once P actor (suc i) j e low at by holds = at_once_next P actor i j e (whose actor i) (λ l. at_once P actor i j e l at by holds) low at by holds

  -- P was so of an event of the actor before place i, and U of none since
  pub record Standing (P U : Made → List Made → Type 0) (actor i : ℕ) : Type 0 where
    pub place : ℕ
    pub event : Event
    pub before : place < i
    pub is : slice_get h place ≡ Some event
    pub by : event.actor ≡ actor
    pub holds : P (made_at s0 h place event) (own s0 h actor place)
    pub since : (k : ℕ) (e : Event) → place < k → k < i → slice_get h k ≡ Some e → e.actor ≡ actor → U (made_at s0 h k e) (own s0 h actor k) → ⊥

  kept_next : (P U : Made → List Made → Type 0) (actor i : ℕ) → Whose actor i → (Kept P U (own s0 h actor i) → Standing P U actor i)
      → Kept P U (own s0 h actor (suc i)) → Standing P U actor (suc i)
  kept_next P U actor i (mine e at by is) ih kept =
      ⊎_elim (λ (here : P (made_at s0 h i e) (own s0 h actor i)).
      record { place = i; event = e; before = omega arith; is = at; by = by; holds = here; since = λ k f from low there its u. absurd (omega arith) })
      (λ (past : (¬ U (made_at s0 h i e) (own s0 h actor i)) × Kept P U (own s0 h actor i)).
      let it = ih past.1 in
      record {
        place = it.place;
        event = it.event;
        before = let low = it.before in omega arith;
        is = it.is;
        by = it.by;
        holds = it.holds;
        since = λ k f from low there its u. ⊎_elim (λ (l : k < i). it.since k f from l there its u)
            (λ (s : k ≡ i). past.0 (subst (λ x. U (made_at s0 h i x) (own s0 h actor i)) (one_event h i f e (subst (λ n. slice_get h n ≡ Some f) s there) at)
            (subst (λ n. U (made_at s0 h n f) (own s0 h actor n)) s u))) (below_next k i low);
      })
      (subst (λ l. Kept P U l) is kept)
  kept_next P U actor i (other is none) ih kept =
      let it = ih (subst (λ l. Kept P U l) is kept) in
      record {
        place = it.place;
        event = it.event;
        before = let low = it.before in omega arith;
        is = it.is;
        by = it.by;
        holds = it.holds;
        since = λ k f from low there its u. ⊎_elim (λ (l : k < i). it.since k f from l there its u)
            (λ (s : k ≡ i). none f (subst (λ n. slice_get h n ≡ Some f) s there) its) (below_next k i low);
      }

  pub kept_at : (P U : Made → List Made → Type 0) (actor i : ℕ) → Kept P U (own s0 h actor i) → Standing P U actor i
  kept_at P U actor zero kept = absurd kept
  kept_at P U actor (suc i) kept = kept_next P U actor i (whose actor i) (λ past. kept_at P U actor i past) kept

  at_kept_next : (P U : Made → List Made → Type 0) (actor i j : ℕ) (e : Event) → Whose actor i → (j < i → Kept P U (own s0 h actor i)) → j < suc i
      → slice_get h j ≡ Some e → e.actor ≡ actor → P (made_at s0 h j e) (own s0 h actor j)
      → ((k : ℕ) (f : Event) → j < k → k < suc i → slice_get h k ≡ Some f → f.actor ≡ actor → U (made_at s0 h k f) (own s0 h actor k) → ⊥)
      → Kept P U (own s0 h actor (suc i))
  at_kept_next P U actor i j e (mine f there its is) ih low at by holds since =
      subst (λ l. Kept P U l) (sym is)
      (⊎_elim (λ (l : j < i). inr (since i f l (omega arith) there its, ih l))
      (λ (s : j ≡ i). inl (subst (λ x. P (made_at s0 h i x) (own s0 h actor i)) (one_event h i e f (subst (λ n. slice_get h n ≡ Some e) s at) there)
      (subst (λ n. P (made_at s0 h n e) (own s0 h actor n)) s holds)))
      (below_next j i low))
  at_kept_next P U actor i j e (other is none) ih low at by holds since =
      subst (λ l. Kept P U l) (sym is)
      (⊎_elim (λ (l : j < i). ih l) (λ (s : j ≡ i). absurd (none e (subst (λ n. slice_get h n ≡ Some e) s at) by)) (below_next j i low))

  pub at_kept : (P U : Made → List Made → Type 0) (actor i j : ℕ) (e : Event) → j < i → slice_get h j ≡ Some e → e.actor ≡ actor
      → P (made_at s0 h j e) (own s0 h actor j)
      → ((k : ℕ) (f : Event) → j < k → k < i → slice_get h k ≡ Some f → f.actor ≡ actor → U (made_at s0 h k f) (own s0 h actor k) → ⊥)
      → Kept P U (own s0 h actor i)
  at_kept P U actor zero j e low at by holds since = absurd (omega arith)
  at_kept P U actor (suc i) j e low at by holds since =
      at_kept_next P U actor i j e (whose actor i) (λ l. at_kept P U actor i j e l at by holds (λ k f from under. since k f from (let low2 = under in omega arith))) low at by holds since

  -- a member of an own list is what its event made
  pub record Member (m : Made) (actor i : ℕ) : Type 0 where
    pub place : ℕ
    pub event : Event
    pub before : place < i
    pub is : slice_get h place ≡ Some event
    pub by : event.actor ≡ actor
    pub made : m ≡ made_at s0 h place event

  in_once : (m : Made) (l : List Made) → In m l → Once (λ n _. m ≡ n) l
  in_once m [] there = absurd there
  in_once m (n ∷ past) there = ⊎_elim (λ (here : m ≡ n). inl here) (λ (past_in : In m past). inr (in_once m past past_in)) there

  pub in_at : (m : Made) (actor i : ℕ) → In m (own s0 h actor i) → Member m actor i
  in_at m actor i there =
      let it = once_at (λ n _. m ≡ n) actor i (in_once m (own s0 h actor i) there) in
      record { place = it.place; event = it.event; before = it.before; is = it.is; by = it.by; made = it.holds }

  -- the licence of an event, by what its actor had seen
  licensed_next : (who : Identity) (actor i n : ℕ) (e : Event) → Whose actor n → (IsLicensed who (own s0 h actor n) → i < n → MayTake who (own s0 h actor i) e.step)
      → IsLicensed who (own s0 h actor (suc n)) → i < suc n → slice_get h i ≡ Some e → e.actor ≡ actor → MayTake who (own s0 h actor i) e.step
  licensed_next who actor i n e (mine f there its is) ih licensed low at by =
      let parts = subst (λ l. IsLicensed who l) is licensed in
      ⊎_elim (λ (l : i < n). ih parts.1 l)
      (λ (s : i ≡ n). subst (λ k. MayTake who (own s0 h actor k) e.step) (sym s)
      (subst (λ (x : Event). MayTake who (own s0 h actor n) x.step) (sym (one_event h n e f (subst (λ k. slice_get h k ≡ Some e) s at) there)) parts.0))
      (below_next i n low)
  licensed_next who actor i n e (other is none) ih licensed low at by =
      ⊎_elim (λ (l : i < n). ih (subst (λ l. IsLicensed who l) is licensed) l)
      (λ (s : i ≡ n). absurd (none e (subst (λ k. slice_get h k ≡ Some e) s at) by)) (below_next i n low)

  pub licensed_at : (who : Identity) (actor i n : ℕ) (e : Event) → IsLicensed who (own s0 h actor n) → i < n → slice_get h i ≡ Some e → e.actor ≡ actor
      → MayTake who (own s0 h actor i) e.step
  licensed_at who actor i zero e licensed low at by = absurd (omega arith)
  licensed_at who actor i (suc n) e licensed low at by =
      licensed_next who actor i n e (whose actor n) (λ l under. licensed_at who actor i n e l under at by) licensed low at by

-- the places of an own list fall
pub own_descends : (s0 : State) (h : List Event) (actor i : ℕ) → Descends (own s0 h actor i)
own_descends s0 h actor zero = tt
own_descends s0 h actor (suc i) = go (whose s0 h actor i) (own_descends s0 h actor i)
  where
    go : Whose s0 h actor i → Descends (own s0 h actor i) → Descends (own s0 h actor (suc i))
    go (mine e at by is) before =
        subst (λ l. Descends l) (sym is)
        ((λ n there. let it = in_at s0 h n actor i there in subst (λ k. k < i) (sym (ap (λ (m : Made). m.answer.place) it.made)) it.before), before)
    go (other is none) before = subst (λ l. Descends l) (sym is) before
