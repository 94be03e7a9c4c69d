-- Each answer leaves a transaction fewer calls: of so many tries `k` were made, each of `most` calls at most.
use Rattle.std.proofs.Common.{◌≡◌, ℕ, suc, ◌+◌, ◌*◌, ◌-◌, ◌≤◌, ◌<◌, sym, ap, ◌∙◌, subst, arith}

one_left : (tries k : ℕ) → k < tries → tries - k ≡ suc (tries - suc k)
one_left tries k less = omega arith

-- so many tries are one and the others
one_of : (tries k most : ℕ) → k < tries → (tries - k) * most ≡ most + (tries - suc k) * most
one_of tries k most less = ap (λ n. n * most) (one_left tries k less) ∙ once_more (tries - suc k)
  where
    once_more : (n : ℕ) → suc n * most ≡ most + n * most
    once_more n = grind arith

sum_at_most : (a b most rest all : ℕ) → a ≤ most → all ≡ most + rest → a + rest ≤ b + all
sum_at_most a b most rest all less is = omega arith

-- a further try is one of those that were left
pub again_left : (tries k j left now most : ℕ) → k < tries → j ≡ suc k → now ≤ most → now + (tries - j) * most ≤ left + (tries - k) * most
again_left tries k j left now most less longer few =
    subst (λ n. now + (tries - n) * most ≤ left + (tries - k) * most) (sym longer)
    (sum_at_most now left most ((tries - suc k) * most) ((tries - k) * most) few (one_of tries k most less))

at_most_all : (a most rest all : ℕ) → a ≤ most → all ≡ most + rest → a + rest ≤ all
at_most_all a most rest all less is = omega arith

none_less : (n : ℕ) → n - 0 ≡ n
none_less n = omega arith

-- the first try is one of all
pub first_left : (tries j now most : ℕ) → 1 ≤ tries → j ≡ 1 → now ≤ most → now + (tries - j) * most ≤ tries * most
first_left tries j now most some one few =
    subst (λ n. now + (tries - n) * most ≤ tries * most) (sym one)
    (at_most_all now most ((tries - 1) * most) (tries * most) few (ap (λ n. n * most) (sym (none_less tries)) ∙ one_of tries 0 most some))
