-- Sums that are held at the largest number of 64 bits, one item at a time.
use Rattle.std.proofs.Common.{◌≡◌, ℕ, ◌+◌, ◌<◌, ◌≤◌, ◌^◌, List, length, get_or, take, sum_by, sym, ap, ◌∙◌, arith}
use Rattle.std.proofs.lemmas.List.{take_all}
use Rattle.std.proofs.lemmas.List.Sums.{sum_by_more}
use Rattle.cbt_base.specs.Clock.{held}

-- a sum of held numbers, held
held-sum : (a b : ℕ) → held (held a + held b) ≡ held (a + b)
held-sum a b = omega arith

module _ {X : Type 0} (f : X → ℕ) (base : ℕ) (xs : List X) where
  -- one item more
  pub sum-next : (i : ℕ) (x : X) (sum more next : ℕ) → i < length xs → x ≡ get_or xs i x → sum ≡ held (base + sum_by f (take i xs))
      → more ≡ held (f x) → next ≡ held (sum + more) → next ≡ held (base + sum_by f (take (i + 1) xs))
  sum-next i x sum more next low is so_far told grown =
      grown ∙ ap (λ s. held (s + more)) so_far ∙ ap (λ m. held (held (base + sum_by f (take i xs)) + m)) told
      ∙ held-sum (base + sum_by f (take i xs)) (f x)
      ∙ ap held (assoc base (sum_by f (take i xs)) (f x) ∙ ap (λ y. base + (sum_by f (take i xs) + f y)) is
      ∙ ap (λ s. base + s) (sym (sum_by_more f xs i x low)))
    where
      assoc : (a b c : ℕ) → a + b + c ≡ a + (b + c)
      assoc a b c = omega arith

  -- all items
  pub sum-whole : (i : ℕ) (sum : ℕ) → length xs ≤ i → sum ≡ held (base + sum_by f (take i xs)) → sum ≡ held (base + sum_by f xs)
  sum-whole i sum all so_far = so_far ∙ ap (λ ys. held (base + sum_by f ys)) (take_all i xs all)

-- one item more, before those that are left
pub held-before : (a b c : ℕ) → held (held (a + held b) + c) ≡ held (a + (b + c))
held-before a b c = omega arith

-- a number of 64 bits is held as it is
pub held-small : (a : ℕ) → a < 2 ^ 64 → held a ≡ a
held-small a small = omega arith
