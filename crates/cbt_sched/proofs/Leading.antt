-- The table of positions, as it is made and as actors end.
use Rattle.std.proofs.Common.{◌≡◌, ◌≢◌, ℕ, zero, suc, ◌+◌, ◌-◌, ◌<◌, ◌≤◌, ◌⊎◌, inl, inr, ⊎_elim, Bool, true, false, List, [], ◌∷◌, ◌++◌, length, Option, Some, None, unwrap_or, refl, sym, ap, ◌∙◌, subst, arith, slice_get, MatchBool}
use Rattle.std.proofs.lemmas.Bool.{cases_lt}
use Rattle.cbt_model.proofs.Longer.{get-next_cases}
use Rattle.cbt_sched.specs.Driving.{Called, Idle, InRound}
use Rattle.cbt_sched.specs.Positions.{LeadsOn, PassesOver, next_of}
use Rattle.cbt_sched.proofs.Counting.{same_or_apart}
use Rattle.cbt_sched.proofs.Rounding.{round-next}
use Rattle.std.proofs.lemmas.List.{append-nil}

-- each position is followed by the next one
pub each-next : (next next' : List ℕ) (at : ℕ) → length next ≡ at → next' ≡ next ++ (at + 1) ∷ []
    → ((i x : ℕ) → slice_get next i ≡ Some x → x ≡ i + 1) → (i x : ℕ) → slice_get next' i ≡ Some x → x ≡ i + 1
each-next next next' at so_far grown each i x there =
    ⊎_elim (λ (l : (i < length next) × (slice_get next i ≡ Some x)). each i x l.1)
    (λ (r : (i ≡ length next) × (x ≡ at + 1)). (let is = r.0 in let new = r.1 in omega arith))
    (get-next_cases next (at + 1) i x (ap (λ l. slice_get l i) (sym grown) ∙ there))

pub each-leads : (next : List ℕ) → ((i x : ℕ) → slice_get next i ≡ Some x → x ≡ i + 1) → (at : ℕ) → next_of next at ≡ at + 1
each-leads next each at = choice (slice_get next at) refl
  where
    choice : (o : Option ℕ) → slice_get next at ≡ o → unwrap_or o (at + 1) ≡ at + 1
    choice None none = refl
    choice (Some x) there = each at x there

pub leads_on-begun : (first count : ℕ) (next : List ℕ) (asking : ℕ → Bool) → ((at : ℕ) → next_of next at ≡ at + 1) → LeadsOn first count next asking
leads_on-begun first count next asking each = record {
  further = λ at low. (let is = each at in (omega arith, omega arith));
  over = λ at place low from to. absurd (let is = each at in omega arith);
}

-- places whose actors have ended need no turn
module _ (first count : ℕ) (ordered : List ℕ) (at_first : ℕ → Bool) (r : ℕ) (calls : List ℕ) (asking : ℕ → Bool) where
  skip-one : (k : ℕ) → asking (first + k) ≡ false → InRound first count ordered at_first r k calls asking
      → InRound first count ordered at_first r (k + 1) calls asking
  skip-one k still so_far = round-next first count ordered at_first r k calls calls asking asking so_far
      (record { calls = 0; added = sym (append-nil calls); within = λ m is. omega arith; full = inr still; ended = λ none. (refl, none) })
      (λ b apart. refl)

  skip-more : (k d : ℕ) → ((j : ℕ) → k ≤ j → j < k + d → asking (first + j) ≡ false) → InRound first count ordered at_first r k calls asking
      → InRound first count ordered at_first r (k + d) calls asking
  skip-more k zero still so_far = subst (λ m. InRound first count ordered at_first r m calls asking) (plus-none k) so_far
    where
      plus-none : (n : ℕ) → n ≡ n + 0
      plus-none n = omega arith
  skip-more k (suc d) still so_far =
      subst (λ m. InRound first count ordered at_first r m calls asking) (one-more k d)
      (skip-one (k + d) (still (k + d) (omega arith) (omega arith)) (skip-more k d (λ j from to. still j from (omega arith)) so_far))
    where
      one-more : (k d : ℕ) → k + d + 1 ≡ k + suc d
      one-more k d = omega arith

  pub skip : (k m : ℕ) → k ≤ m → ((j : ℕ) → k ≤ j → j < m → asking (first + j) ≡ false) → InRound first count ordered at_first r k calls asking
      → InRound first count ordered at_first r m calls asking
  skip k m low still so_far =
      subst (λ x. InRound first count ordered at_first r x calls asking) (up k m low)
      (skip-more k (m - k) (λ j from to. still j from (omega arith)) so_far)
    where
      up : (k m : ℕ) → k ≤ m → k + (m - k) ≡ m
      up k m low = omega arith

passed-here : (before at : ℕ) (old new : List ℕ) → PassesOver before at old new
    → (next_of new before ≡ next_of old before) ⊎ (next_of new before ≡ next_of old at)
passed-here before at old new pass =
    ⊎_elim (λ (room : before < length old). inr (pass.here room))
    (λ (short : length old ≤ before). inl (ap (λ x. next_of x before) (pass.short short))) (cases_lt before (length old))

-- who has ended stays so
pub stays-ended : (made : Bool) (number : ℕ) (old new : List ℕ) (before after : Bool)
    → MatchBool made (Called number old new before) (Idle old new after)
    → before ≡ false → after ≡ false
stays-ended true number old new before after turn still = absurd (let clash : true ≡ false = sym turn.asked ∙ still in cc)
stays-ended false number old new before after turn still = turn.ended

pub idle-ended : (made : Bool) (number : ℕ) (old new : List ℕ) (before after : Bool)
    → MatchBool made (Called number old new before) (Idle old new after)
    → made ≡ false → after ≡ false
idle-ended true number old new before after turn idle = absurd (cc)
idle-ended false number old new before after turn idle = turn.ended

-- after a turn at place p, whose position is p + 1
module _ (first count : ℕ) (next next' : List ℕ) (asking asking' : ℕ → Bool) (before p : ℕ) (made : Bool)
    (leads : LeadsOn first count next asking) (others : (b : ℕ) → b ≢ first + p → asking' b ≡ asking b)
    (stays : asking (first + p) ≡ false → asking' (first + p) ≡ false) (idle : made ≡ false → asking' (first + p) ≡ false)
    (low : before < p + 1) (within : p + 1 ≤ count)
    (span : (j : ℕ) → before ≤ j → j < p → asking (first + j) ≡ false)
    (called : made ≡ true → next' ≡ next) (passed : made ≡ false → PassesOver before (p + 1) next next') where
  still : (j : ℕ) → asking (first + j) ≡ false → asking' (first + j) ≡ false
  still j none =
      ⊎_elim (λ (same : j ≡ p). subst (λ i. asking' (first + i) ≡ false) (sym same) (stays (subst (λ i. asking (first + i) ≡ false) same none)))
      (λ (apart : j ≢ p). others (first + j) (λ same. apart (omega arith)) ∙ none) (same_or_apart j p)

  leads' : LeadsOn first count next asking'
  leads' = record { further = leads.further; over = λ at place l from to. still place (leads.over at place l from to) }

  over-passed : made ≡ false → PassesOver before (p + 1) next next' → LeadsOn first count next' asking'
  over-passed none pass = record {
    further = λ at l. ⊎_elim (λ (same : at ≡ before). subst (λ i. (i < next_of next' i) × (next_of next' i ≤ count + 1)) (sym same) further-here)
        (λ (apart : at ≢ before). (let is = pass.others at apart in let old = leads.further at l in
        let one = old.0 in let two = old.1 in (omega arith, omega arith))) (same_or_apart at before);
    over = λ at place l from to. ⊎_elim
        (λ (same : at ≡ before). over-here place (omega arith) (let is = ap (λ i. next_of next' i) same in omega arith))
        (λ (apart : at ≢ before). leads'.over at place l from (let is = pass.others at apart in omega arith)) (same_or_apart at before);
  }
    where
      further-here : (before < next_of next' before) × (next_of next' before ≤ count + 1)
      further-here =
          let old = leads.further before (omega arith) in let one = old.0 in let two = old.1 in
          let mid = leads.further (p + 1) within in let three = mid.0 in let four = mid.1 in
          ⊎_elim (λ (same : next_of next' before ≡ next_of next before). (omega arith, omega arith))
          (λ (far : next_of next' before ≡ next_of next (p + 1)). (omega arith, omega arith)) (passed-here before (p + 1) next next' pass)

      over-here : (place : ℕ) → before ≤ place → place + 1 < next_of next' before → asking' (first + place) ≡ false
      over-here place from to =
          ⊎_elim (λ (same : next_of next' before ≡ next_of next before). leads'.over before place (omega arith) from (omega arith))
          (λ (far : next_of next' before ≡ next_of next (p + 1)).
          ⊎_elim (λ (less : place < p). still place (span place from less))
          (λ (more : p ≤ place). ⊎_elim (λ (here : place ≡ p). subst (λ i. asking' (first + i) ≡ false) (sym here) (idle none))
          (λ (apart : place ≢ p). leads'.over (p + 1) place within (omega arith) (omega arith)) (same_or_apart place p)) (cases_lt place p))
          (passed-here before (p + 1) next next' pass)

  pub leads_on-next : LeadsOn first count next' asking'
  leads_on-next = choice made refl
    where
      choice : (b : Bool) → made ≡ b → LeadsOn first count next' asking'
      choice true is = subst (λ x. LeadsOn first count x asking') (sym (called is)) leads'
      choice false is = over-passed is (passed is)

  -- the next position to look at
  same-next : next_of next' (p + 1) ≡ next_of next (p + 1)
  same-next = choice made refl
    where
      choice : (b : Bool) → made ≡ b → next_of next' (p + 1) ≡ next_of next (p + 1)
      choice true is = ap (λ x. next_of x (p + 1)) (called is)
      choice false is = (passed is).others (p + 1) (λ same. omega arith)

  -- those before it have ended, from the last one on that called
  pub span-next : (before' : ℕ) → (made ≡ true → before' ≡ p + 1) → (made ≡ false → before' ≡ before)
      → (j : ℕ) → before' ≤ j → j + 1 < next_of next' (p + 1) → asking' (first + j) ≡ false
  span-next before' when_called when_idle j from to =
      ⊎_elim (λ (far : p + 1 ≤ j). leads'.over (p + 1) j within far (let is = same-next in omega arith))
      (λ (near : j < p + 1). choice made refl near) (cases-le (p + 1) j)
    where
      cases-le : (m n : ℕ) → (m ≤ n) ⊎ (n < m)
      cases-le m n = ⊎_elim (λ (l : n < m). inr l) (λ (r : m ≤ n). inl r) (cases_lt n m)

      choice : (b : Bool) → made ≡ b → j < p + 1 → asking' (first + j) ≡ false
      choice true is near = absurd (let at = when_called is in omega arith)
      choice false is near =
          ⊎_elim (λ (here : j ≡ p). subst (λ i. asking' (first + i) ≡ false) (sym here) (idle is))
          (λ (apart : j ≢ p). still j (span j (let at = when_idle is in omega arith) (omega arith))) (same_or_apart j p)

-- no one asks before a position where no one does before an earlier one, nor between the two
pub ended-skip : (first k m : ℕ) (asking : ℕ → Bool) → ((number : ℕ) → number < first + k → asking number ≡ false)
    → ((j : ℕ) → k ≤ j → j < m → asking (first + j) ≡ false) → (number : ℕ) → number < first + m → asking number ≡ false
ended-skip first k m asking ended between number low =
    ⊎_elim (λ (near : number < first + k). ended number near)
    (λ (far : first + k ≤ number). subst (λ i. asking i ≡ false) (from-first far) (between (number - first) (omega arith) (omega arith)))
    (cases_lt number (first + k))
  where
    from-first : first + k ≤ number → first + (number - first) ≡ number
    from-first far = omega arith
