-- Items of lists, by their places.
use Rattle.std.proofs.Common.{◌≡◌, ℕ, zero, suc, ◌+◌, ◌<◌, List, [], ◌∷◌, ◌++◌, length, map, get_or, slice_get, Option, Some, None, refl, sym, ap, ◌∙◌, arith}
use Rattle.std.specs.Option.{option_map}
use Rattle.std.proofs.lemmas.Option.{none-some, slice_get-map}
use Rattle.cbt_core.specs.WriteSets.{numbered}

module _ {A : Type 0} where
  pub item-at : (xs : List A) (k : ℕ) → k < length xs → (x : A) × (slice_get xs k ≡ Some x)
  item-at [] k low = absurd (omega arith)
  item-at (x ∷ xs) zero low = (x, refl)
  item-at (x ∷ xs) (suc k) low = item-at xs k (omega arith)

  -- the item that an index gives
  pub item-is : (xs : List A) (k : ℕ) (x : A) → k < length xs → x ≡ get_or xs k x → slice_get xs k ≡ Some x
  item-is [] k x low is = absurd (omega arith)
  item-is (y ∷ xs) zero x low is = ap Some (sym is)
  item-is (y ∷ xs) (suc k) x low is = item-is xs k x (omega arith) is

  pub same-item : (x y : A) → Some x ≡ Some y → x ≡ y
  same-item x y both = cc

  pub get-behind : (xs ys : List A) (i j : ℕ) → i ≡ length xs + j → slice_get (xs ++ ys) i ≡ slice_get ys j
  get-behind [] ys i j is = ap (λ n. slice_get ys n) (omega arith)
  get-behind (x ∷ xs) ys zero j is = absurd (omega arith)
  get-behind (x ∷ xs) ys (suc i) j is = get-behind xs ys i j (omega arith)

  -- an item by its number
  pub numbered-at : (xs : List A) (n : ℕ) (x : A) → numbered xs n ≡ Some x → (k : ℕ) × (n ≡ suc k) × (slice_get xs k ≡ Some x)
  numbered-at xs zero x is = absurd (none-some x is)
  numbered-at xs (suc k) x is = (k, refl, is)

-- an item of mapped items
pub mapped-at : {A B : Type 0} (f : A → B) (xs : List A) (k : ℕ) (y : B) → slice_get (map f xs) k ≡ Some y
    → (x : A) × (slice_get xs k ≡ Some x) × (f x ≡ y)
mapped-at {A} {B} f xs k y at = of (slice_get xs k) refl
  where
    of : (o : Option A) → slice_get xs k ≡ o → (x : A) × (slice_get xs k ≡ Some x) × (f x ≡ y)
    of None there = absurd (none-some y (sym (ap (λ o. option_map f o) there) ∙ sym (slice_get-map f xs k) ∙ at))
    of (Some x) there = (x, there, same-item (f x) y (sym (ap (λ o. option_map f o) there) ∙ sym (slice_get-map f xs k) ∙ at))
