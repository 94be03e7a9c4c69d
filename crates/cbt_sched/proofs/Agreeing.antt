-- What numbers of calls that agree with the end of a visit say of its beginning.
use Rattle.std.proofs.Common.{◌≡◌, ◌≢◌, ℕ, ◌+◌, ◌≤◌, ◌⊎◌, inl, inr, ⊎_elim, Bool, false, List, Option, Some, sym, ap, ◌∙◌, arith}
use Rattle.cbt_sched.specs.Driving.{Agrees, Visits}
use Rattle.cbt_sched.specs.Turns.{calls_of, left_after}
use Rattle.cbt_sched.proofs.Counting.{same_or_apart, counted-there, counted-elsewhere}

module _ (number : ℕ) (limit : Option ℕ) (old new : List ℕ) (asking asking' : ℕ → Bool)
    (visit : Visits number limit old new (asking number) (asking' number)) (others : (b : ℕ) → b ≢ number → asking' b ≡ asking b)
    (n : ℕ → ℕ) (agreed : Agrees new asking' n) where
  there : calls_of new number ≡ calls_of old number + visit.calls
  there = counted-there number visit.calls old new visit.added

  elsewhere : (a : ℕ) → a ≢ number → calls_of new a ≡ calls_of old a
  elsewhere a apart = counted-elsewhere number visit.calls old new a apart visit.added

  least-here : calls_of old number ≤ n number
  least-here = let least = agreed.least number in let grown = there in omega arith

  least-at : (a : ℕ) → calls_of old a ≤ n a
  least-at a =
      ⊎_elim (λ (same : a ≡ number). (let here = least-here in let calls = ap (λ x. calls_of old x) same in let most = ap n same in omega arith))
      (λ (apart : a ≢ number). (let least = agreed.least a in let stays = elsewhere a apart in omega arith)) (same_or_apart a number)

  exact-at : (a : ℕ) → asking a ≡ false → n a ≡ calls_of old a
  exact-at a none =
      ⊎_elim (λ (same : a ≡ number).
      (let over = visit.ended (ap asking (sym same) ∙ none) in let exact = agreed.exact number over.1 in let grown = there in
      let calls = ap (λ x. calls_of old x) same in let most = ap n same in let zero_calls = over.0 in omega arith))
      (λ (apart : a ≢ number). agreed.exact a (others a apart ∙ none) ∙ elsewhere a apart) (same_or_apart a number)

  pub visit-agrees : Agrees old asking n
  visit-agrees = record { least = least-at; exact = exact-at }

  -- the actor made all that it has left, or as many as the limit allows
  pub visit-made : (visit.calls ≡ left_after n old number) ⊎ (limit ≡ Some visit.calls)
  visit-made = ⊎_elim (λ (full : limit ≡ Some visit.calls). inr full)
      (λ (ended : asking' number ≡ false). inl (let exact = agreed.exact number ended in let grown = there in omega arith)) visit.full

  pub visit-within : visit.calls ≤ left_after n old number
  visit-within = let least = agreed.least number in let grown = there in omega arith
