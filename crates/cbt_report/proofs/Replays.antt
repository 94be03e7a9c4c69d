-- A history that happens again, event by event: the state and the commits after one event more.
use Rattle.std.proofs.Common.{◌≡◌, ℕ, zero, suc, ◌+◌, ◌-◌, ◌^◌, ◌<◌, ◌≤◌, Bool, cond, List, [], ◌∷◌, ◌++◌, length, get_or, slice_get, Option, Some, None, is_some, sym, ap, ◌∙◌, arith, add-one}
use Rattle.std.specs.Option.{option_to_list}
use Rattle.cbt_base.specs.Clock.{clock_of}
use Rattle.cbt_base.proofs.Stamps.{clock_of-le}
use Rattle.cbt_model.specs.History.{happens, happens_maybe, after, committed_by, commits_below}
use Rattle.cbt_model.specs.declared.events.Event.{Event}
use Rattle.cbt_model.specs.declared.states.State.{State}

-- the item that a loop over the list is at
pub item-is : (h : List Event) (i : ℕ) (e : Event) → i < length h → e ≡ get_or h i e → slice_get h i ≡ Some e
item-is [] i e low is = absurd (omega arith)
item-is (x ∷ h) zero e low is = ap Some (sym is)
item-is (x ∷ h) (suc i) e low is = item-is h i e (omega arith) is

-- one event more
pub after-next : (s0 : State) (h : List Event) (i : ℕ) (e : Event) (s next : State) → slice_get h i ≡ Some e → s ≡ after s0 h i → next ≡ happens s e → next ≡ after s0 h (i + 1)
after-next s0 h i e s next there at is =
    rw add-one (is ∙ (ap (λ x. happens x e) at ∙ ap (λ o. happens_maybe (after s0 h i) o) (sym there)))

taken : (o : Option ℕ) (xs : List ℕ) (n : ℕ) (b : Bool) → b ≡ is_some o → n ≡ length xs → cond b (n + 1) n ≡ length (option_to_list o ++ xs)
taken None xs n b is counted = rw is counted
taken (Some a) xs n b is counted = rw is (omega arith)

-- one commit more where the event is one that takes effect
pub commits-next : (s0 : State) (h : List Event) (i : ℕ) (e : Event) (s : State) (b : Bool) (n : ℕ) → slice_get h i ≡ Some e → s ≡ after s0 h i
    → b ≡ is_some (committed_by s (Some e)) → n ≡ length (commits_below s0 h i) → cond b (n + 1) n ≡ length (commits_below s0 h (i + 1))
commits-next s0 h i e s b n there at is counted =
    rw (add-one i)
    (taken (committed_by (after s0 h i) (slice_get h i)) (commits_below s0 h i) n b
    (is ∙ (ap (λ x. is_some (committed_by x (Some e))) at ∙ ap (λ o. is_some (committed_by (after s0 h i) o)) (sym there)))
    counted)

-- the clock of a copy of an opening whose clock is not far past the last reading
pub opening-clock : (s t : State) → s ≡ t → t.last ≤ clock_of (2 ^ 43 - 1) + 2 ^ 32 → s.last ≤ 2 ^ 63 + 2 ^ 32
opening-clock s t same low =
    let e : s.last ≡ t.last = ap (λ x. x.last) same in
    let most : clock_of (2 ^ 43 - 1) ≤ 2 ^ 63 = clock_of-le (2 ^ 43 - 1) in
    omega arith
