-- How many calls of a list are an actor's.
use Rattle.std.proofs.Common.{◌≡◌, ◌≢◌, ℕ, ◌+◌, ◌*◌, ◌<◌, ◌≤◌, ◌⊎◌, inl, inr, Bool, true, false, cond, nat_eq, nat_lt, List, ◌++◌, refl, sym, ap, ◌∙◌, arith, replicate}
use Rattle.std.proofs.lemmas.Bool.{eqb-true}
use Rattle.std.proofs.lemmas.Grind.{common_steps}
use Rattle.std.proofs.lemmas.List.Sums.{sum_by-append}
use Rattle.std.proofs.lemmas.List.Folds.{sum_by-replicate}
use Rattle.cbt_sched.specs.Turns.{calls_of}

pub eq-same : (n : ℕ) → nat_eq n n ≡ true
eq-same n = grind (arith, common_steps)

pub eq-apart : (m n : ℕ) → m ≢ n → nat_eq m n ≡ false
eq-apart m n ne = grind (arith, common_steps)

pub lt-true : (m n : ℕ) → m < n → nat_lt m n ≡ true
lt-true m n low = grind (arith, common_steps)

pub lt-false : (m n : ℕ) → n ≤ m → nat_lt m n ≡ false
lt-false m n high = grind (arith, common_steps)

-- two numbers are the same or differ
pub same_or_apart : (m n : ℕ) → (m ≡ n) ⊎ (m ≢ n)
same_or_apart m n = choice (nat_eq m n) refl
  where
    choice : (b : Bool) → nat_eq m n ≡ b → (m ≡ n) ⊎ (m ≢ n)
    choice true t = inl (eqb-true m n t)
    choice false f = inr (λ same. let clash : true ≡ false = sym (eq-same n) ∙ ap (λ x. nat_eq x n) (sym same) ∙ f in cc)

-- the actor's own calls count
pub counted-there : (number j : ℕ) (old new : List ℕ) → new ≡ old ++ replicate j number → calls_of new number ≡ calls_of old number + j
counted-there number j old new added =
    ap (λ xs. calls_of xs number) added ∙ sum_by-append (λ a. cond (nat_eq a number) 1 0) old (replicate j number)
    ∙ ap (λ k. calls_of old number + k) (sum_by-replicate (λ a. cond (nat_eq a number) 1 0) j number
    ∙ ap (λ b. j * cond b 1 0) (eq-same number) ∙ times-one j)
  where
    times-one : (k : ℕ) → k * 1 ≡ k
    times-one k = omega arith

-- and no one else's
pub counted-elsewhere : (number j : ℕ) (old new : List ℕ) (other : ℕ) → other ≢ number → new ≡ old ++ replicate j number
    → calls_of new other ≡ calls_of old other
counted-elsewhere number j old new other apart added =
    ap (λ xs. calls_of xs other) added ∙ sum_by-append (λ a. cond (nat_eq a other) 1 0) old (replicate j number)
    ∙ ap (λ k. calls_of old other + k) (sum_by-replicate (λ a. cond (nat_eq a other) 1 0) j number
    ∙ ap (λ b. j * cond b 1 0) (eq-apart number other (λ same. apart (sym same))) ∙ times-none j)
    ∙ plus-none (calls_of old other)
  where
    times-none : (k : ℕ) → k * 0 ≡ 0
    times-none k = omega arith

    plus-none : (k : ℕ) → k + 0 ≡ k
    plus-none k = omega arith
