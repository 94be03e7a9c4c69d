-- Calls of one actor in a row, as they are made.
use Rattle.std.proofs.Common.{◌≡◌, ◌≢◌, ℕ, zero, suc, ◌+◌, ◌-◌, ◌≤◌, inl, inr, Bool, true, false, not, nat_eq, List, [], ◌∷◌, ◌++◌, append_assoc, Option, Some, None, refl, sym, ap, ◌∙◌, arith, replicate}
use Rattle.std.specs.Option.{option_map, option_eq}
use Rattle.std.proofs.lemmas.List.{append-nil, replicate_more}
use Rattle.cbt_sched.specs.Driving.{Called, Idle, Visits}

-- so many calls were made of what the limit allows, and so many are left
pub record IsVisiting (number : ℕ) (limit left : Option ℕ) (old now : List ℕ) (before asking : Bool) : Type 0 where
  pub calls : ℕ
  pub added : now ≡ old ++ replicate calls number
  pub remaining : limit ≡ option_map (λ k. k + calls) left
  pub ended : before ≡ false → (calls ≡ 0) × (asking ≡ false)

-- one call more
pub visiting-next : (number : ℕ) (limit left left' : Option ℕ) (old now next : List ℕ) (before asking after : Bool)
    → IsVisiting number limit left old now before asking → Called number now next asking → left ≢ Some 0 → left' ≡ option_map (λ k. k - 1) left
    → IsVisiting number limit left' old next before after
visiting-next number limit left left' old now next before asking after so_far call some fewer = record {
  calls = so_far.calls + 1;
  added = call.added ∙ ap (λ xs. xs ++ number ∷ []) so_far.added ∙ append_assoc old (replicate so_far.calls number) (number ∷ [])
      ∙ ap (λ xs. old ++ xs) (replicate_more so_far.calls number);
  remaining = so_far.remaining ∙ shift left some ∙ ap (λ o. option_map (λ k. k + (so_far.calls + 1)) o) (sym fewer);
  ended = λ none. absurd (clash (so_far.ended none).1);
}
  where
    clash : asking ≡ false → ⊥
    clash none = let both : true ≡ false = sym call.asked ∙ none in cc

    shift-one : (k : ℕ) → Some k ≢ Some 0 → k + so_far.calls ≡ (k - 1) + (so_far.calls + 1)
    shift-one zero apart = absurd (apart refl)
    shift-one (suc k) apart = omega arith

    shift : (o : Option ℕ) → o ≢ Some 0 → option_map (λ k. k + so_far.calls) o ≡ option_map (λ k. k + (so_far.calls + 1)) (option_map (λ k. k - 1) o)
    shift None apart = refl
    shift (Some k) apart = ap (λ n. Some n) (shift-one k apart)

-- a turn is a visit of one call
pub visits-one : (number : ℕ) (old new : List ℕ) (before after : Bool) → Called number old new before → Visits number (Some 1) old new before after
visits-one number old new before after call = record {
  calls = 1;
  added = call.added;
  within = λ k is. at_most k is;
  full = inl refl;
  ended = λ none. absurd (let clash : true ≡ false = sym call.asked ∙ none in cc);
}
  where
    at_most : (k : ℕ) → Some 1 ≡ Some k → 1 ≤ k
    at_most k is = let same : 1 ≡ k = cc in omega arith

pub visits-none : (number : ℕ) (old new : List ℕ) (before after : Bool) → Idle old new after → Visits number (Some 1) old new before after
visits-none number old new before after idle = record {
  calls = 0;
  added = idle.same ∙ sym (append-nil old);
  within = λ k is. omega arith;
  full = inr idle.ended;
  ended = λ none. (refl, idle.ended);
}

-- a limit that is not spent, as it is tested
pub not-spent : (left : Option ℕ) → true ≡ not (option_eq nat_eq left (Some 0)) → left ≢ Some 0
not-spent None test spent = let clash : ◌≡◌ {A = Option ℕ} None (Some 0) = spent in cc
not-spent (Some k) test spent = let clash : true ≡ false = test ∙ ap (λ o. not (option_eq nat_eq o (Some 0))) spent in cc
