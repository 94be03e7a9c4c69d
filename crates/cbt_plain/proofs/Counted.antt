-- Counts by actor, after a value was set through a loan or put in.
use Rattle.std.proofs.Common.{◌≡◌, ◌≢◌, ℕ, zero, suc, ◌≤◌, Bool, true, false, cond, nat_eq, ⊎_elim, List, [], ◌∷◌, Option, Some, None, unwrap_or, refl, sym, ap, ◌∙◌, subst, arith, slice_get}
use Rattle.std.specs.Prelude.{IsSome}
use Rattle.std.specs.Ordering.{nat_cmp, is_eq}
use Rattle.std.specs.BTreeMap.{is_at}
use Rattle.std.specs.Map.{set_value}
use Rattle.cbt_base.specs.Keyed.{at_key, with_pair}
use Rattle.cbt_model.specs.Legal.{calls_below, one_of}
use Rattle.cbt_model.specs.declared.events.Event.{Event}
use Rattle.cbt_model.proofs.Lookups.{set_there, set_elsewhere}
use Rattle.cbt_model.proofs.Orders.{id_order, key_cases}
use Rattle.cbt_plain.specs.Counts.{count_of}

-- the test of a key by its order says whether it is the same
same-key : (k q : ℕ) → is_eq (nat_cmp k q) ≡ true → k ≡ q
same-key k q at = ⊎_elim
    (λ (l : (is_eq (nat_cmp k q) ≡ true) × (k ≡ q)). l.1)
    (λ (r : (is_eq (nat_cmp k q) ≡ false) × (k ≢ q)). let clash : true ≡ false = sym at ∙ r.0 in absurd (cc))
    (key_cases id_order k q)

other-key : (k q : ℕ) → k ≢ q → is_eq (nat_cmp k q) ≡ false
other-key k q apart = ⊎_elim
    (λ (l : (is_eq (nat_cmp k q) ≡ true) × (k ≡ q)). absurd (apart l.1))
    (λ (r : (is_eq (nat_cmp k q) ≡ false) × (k ≢ q)). r.0)
    (key_cases id_order k q)

-- the key whose value was set has it
pub value-there : (es : List (ℕ × ℕ)) (k w : ℕ) → IsSome (at_key nat_cmp es k) → at_key nat_cmp (set_value (is_at (nat_cmp k)) es w) k ≡ Some w
value-there [] k w there = absurd (no-some there)
  where
    no-some : IsSome {T = ℕ} None → ⊥
    no-some some = cc
value-there (e ∷ es) k w there = step (is_eq (nat_cmp k e.0)) refl there (value-there es k w)
  where
    step : (b : Bool) → is_eq (nat_cmp k e.0) ≡ b → IsSome (cond b (Some e.1) (at_key nat_cmp es k))
        → (IsSome (at_key nat_cmp es k) → at_key nat_cmp (set_value (is_at (nat_cmp k)) es w) k ≡ Some w)
        → at_key nat_cmp (cond b ((e.0, w) ∷ es) (e ∷ set_value (is_at (nat_cmp k)) es w)) k ≡ Some w
    step true at there before = ap (λ b. cond b (Some w) (at_key nat_cmp es k)) at
    step false at there before =
        ap (λ b. cond b (Some e.1) (at_key nat_cmp (set_value (is_at (nat_cmp k)) es w) k)) at ∙ before there

-- each other key has what it had
pub value-elsewhere : (es : List (ℕ × ℕ)) (k q w : ℕ) → q ≢ k → at_key nat_cmp (set_value (is_at (nat_cmp k)) es w) q ≡ at_key nat_cmp es q
value-elsewhere [] k q w apart = refl
value-elsewhere (e ∷ es) k q w apart = step (is_eq (nat_cmp k e.0)) refl (value-elsewhere es k q w apart)
  where
    no-key : is_eq (nat_cmp k e.0) ≡ true → is_eq (nat_cmp q e.0) ≡ false
    no-key at = other-key q e.0 (λ same. apart (same ∙ sym (same-key k e.0 at)))

    step : (b : Bool) → is_eq (nat_cmp k e.0) ≡ b → at_key nat_cmp (set_value (is_at (nat_cmp k)) es w) q ≡ at_key nat_cmp es q
        → at_key nat_cmp (cond b ((e.0, w) ∷ es) (e ∷ set_value (is_at (nat_cmp k)) es w)) q ≡ at_key nat_cmp (e ∷ es) q
    step true at before =
        ap (λ b. cond b (Some w) (at_key nat_cmp es q)) (no-key at) ∙ sym (ap (λ b. cond b (Some e.1) (at_key nat_cmp es q)) (no-key at))
    step false at before = ap (λ o. cond (is_eq (nat_cmp q e.0)) (Some e.1) o) before

-- a count of zero that is put in changes none
pub zero-in : (es : List (ℕ × ℕ)) (k a : ℕ) → at_key nat_cmp es k ≡ None → count_of (with_pair nat_cmp es k 0) a ≡ count_of es a
zero-in es k a none = ⊎_elim
    (λ (l : (is_eq (nat_cmp a k) ≡ true) × (a ≡ k)).
    ap (λ x. count_of (with_pair nat_cmp es k 0) x) l.1 ∙ ap (λ o. unwrap_or o 0) (set_there id_order es k 0)
    ∙ sym (ap (λ o. unwrap_or o 0) none) ∙ ap (λ x. count_of es x) (sym l.1))
    (λ (r : (is_eq (nat_cmp a k) ≡ false) × (a ≢ k)). ap (λ o. unwrap_or o 0) (set_elsewhere id_order es k a 0 r.1))
    (key_cases id_order a k)

-- what was put in is there
pub is-in : (es : List (ℕ × ℕ)) (k w : ℕ) (new : List (ℕ × ℕ)) → new ≡ with_pair nat_cmp es k w → IsSome (at_key nat_cmp new k)
is-in es k w new made = subst (λ o. IsSome o) (sym (ap (λ m. at_key nat_cmp m k) made ∙ set_there id_order es k w)) refl

-- an actor has at most as many calls as there are events
pub calls_below-le : (h : List Event) (a i : ℕ) → calls_below h a i ≤ i
calls_below-le h a zero = omega arith
calls_below-le h a (suc i) = let before = calls_below-le h a i in let one = one-le a (slice_get h i) in omega arith
  where
    choice : (b : Bool) → cond b 1 0 ≤ 1
    choice true = omega arith
    choice false = omega arith

    one-le : (a : ℕ) (o : Option Event) → one_of a o ≤ 1
    one-le a None = omega arith
    one-le a (Some e) = choice (nat_eq e.actor a)
