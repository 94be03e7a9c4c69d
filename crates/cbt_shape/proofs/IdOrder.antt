-- The texts of identifiers rise as their numbers do.
use Rattle.std.proofs.Common.{◌≡◌, ℕ, suc, ◌/◌, ◌%◌, ◌^◌, ◌<◌, cond, List, [], ◌∷◌, ◌++◌, length, refl, sym, ap, ap₂, ◌∙◌, arith}
use Rattle.std.specs.declared.cmp.Ordering.{Ordering}
use Rattle.std.specs.declared.cmp.Ordering.TheVariants.{Less, Equal, Greater}
use Rattle.std.specs.Ordering.{nat_cmp, ordering_then}
use Rattle.std.specs.Int.{to_be_bytes, w128}
use Rattle.std.proofs.lemmas.Bool.Decides.{nat_tests}
use Rattle.uuid.specs.Text.{by_index, hex_digit, nibble, digit_place, is_hyphen_place, lower}
use Rattle.uuid.proofs.TextLemmas.{by_index_length}
use Rattle.cbt_base.specs.Ids.{id_text}
use Rattle.cbt_subdoc.specs.Members.{name_cmp}

-- ---- one place more

then_equal : (o : Ordering) → ordering_then o Equal ≡ o
then_equal Less = refl
then_equal Equal = refl
then_equal Greater = refl

then_then : (o p q : Ordering) → ordering_then o (ordering_then p q) ≡ ordering_then (ordering_then o p) q
then_then Less p q = refl
then_then Equal p q = refl
then_then Greater p q = refl

one_more : (xs ys : List ℕ) (a b : ℕ) → length xs ≡ length ys → name_cmp (xs ++ a ∷ []) (ys ++ b ∷ []) ≡ ordering_then (name_cmp xs ys) (nat_cmp a b)
one_more [] [] a b same = then_equal (nat_cmp a b)
one_more [] (y ∷ ys) a b same = absurd (omega arith)
one_more (x ∷ xs) [] a b same = absurd (omega arith)
one_more (x ∷ xs) (y ∷ ys) a b same =
    ap (ordering_then (nat_cmp x y)) (one_more xs ys a b (omega arith)) ∙ then_then (nat_cmp x y) (name_cmp xs ys) (nat_cmp a b)

-- ---- digits

digits_rise : (a b : ℕ) → a < 16 → b < 16 → nat_cmp (hex_digit lower a) (hex_digit lower b) ≡ nat_cmp a b
digits_rise a b low_a low_b = grind (arith, nat_tests)

by_sixteen : (x y : ℕ) → ordering_then (nat_cmp (x / 16) (y / 16)) (nat_cmp (x % 16) (y % 16)) ≡ nat_cmp x y
by_sixteen x y = grind (arith, nat_tests)

same_cmp : (a b : ℕ) → a ≡ b → nat_cmp a b ≡ Equal
same_cmp a b same = grind (arith, nat_tests)

-- the digits of a byte behind what is above it
by_byte : (x y : ℕ)
    → ordering_then (ordering_then (nat_cmp (x / 256) (y / 256)) (nat_cmp (hex_digit lower (x % 256 / 16 % 16)) (hex_digit lower (y % 256 / 16 % 16))))
    (nat_cmp (hex_digit lower (x % 256 % 16)) (hex_digit lower (y % 256 % 16))) ≡ nat_cmp x y
by_byte x y =
    ap₂ (λ h l. ordering_then (ordering_then (nat_cmp (x / 256) (y / 256)) h) l)
    (digits_rise (x % 256 / 16 % 16) (y % 256 / 16 % 16) (omega arith) (omega arith)) (digits_rise (x % 256 % 16) (y % 256 % 16) (omega arith) (omega arith))
    ∙ ap (λ h. ordering_then h (nat_cmp (x % 256 % 16) (y % 256 % 16)))
    (ap₂ ordering_then (ap₂ nat_cmp (let e : x / 256 ≡ x / 16 / 16 = omega arith in e) (let e : y / 256 ≡ y / 16 / 16 = omega arith in e))
    (ap₂ nat_cmp (let e : x % 256 / 16 % 16 ≡ x / 16 % 16 = omega arith in e) (let e : y % 256 / 16 % 16 ≡ y / 16 % 16 = omega arith in e))
    ∙ by_sixteen (x / 16) (y / 16))
    ∙ ap (ordering_then (nat_cmp (x / 16) (y / 16)))
    (ap₂ nat_cmp (let e : x % 256 % 16 ≡ x % 16 = omega arith in e) (let e : y % 256 % 16 ≡ y % 16 = omega arith in e))
    ∙ by_sixteen x y

-- ---- texts

-- what stands at a place of the text of a number
abbrev text_at : ℕ → ℕ → ℕ
text_at n k = cond (is_hyphen_place k) 45 (hex_digit lower (nibble (to_be_bytes w128 n) (digit_place k)))

module _ (m n : ℕ) (m_fits : m < 2 ^ 128) (n_fits : n < 2 ^ 128) where
  -- the first j places of both compare as two numbers
  abbrev Compares : ℕ → ℕ → ℕ → Type 0
  Compares j x y = name_cmp (by_index j (text_at m)) (by_index j (text_at n)) ≡ nat_cmp x y

  place : (j : ℕ) → name_cmp (by_index (suc j) (text_at m)) (by_index (suc j) (text_at n))
      ≡ ordering_then (name_cmp (by_index j (text_at m)) (by_index j (text_at n))) (nat_cmp (text_at m j) (text_at n j))
  unfolding by_index
  place j = one_more (by_index j (text_at m)) (by_index j (text_at n)) (text_at m j) (text_at n j) (by_index_length j (text_at m) ∙ sym (by_index_length j (text_at n)))

  mark : (j x y : ℕ) → Compares j x y → text_at m j ≡ text_at n j → Compares (suc j) x y
  mark j x y before same =
      place j ∙ ap₂ ordering_then before (same_cmp (text_at m j) (text_at n j) same) ∙ then_equal (nat_cmp x y)

  byte : (j x y x' y' : ℕ) → x' ≡ x / 256 → y' ≡ y / 256 → Compares j x' y'
      → text_at m j ≡ hex_digit lower (x % 256 / 16 % 16) → text_at m (suc j) ≡ hex_digit lower (x % 256 % 16)
      → text_at n j ≡ hex_digit lower (y % 256 / 16 % 16) → text_at n (suc j) ≡ hex_digit lower (y % 256 % 16) → Compares (suc (suc j)) x y
  byte j x y x' y' above_m above_n before high_m low_m high_n low_n =
      place (suc j)
      ∙ ap₂ ordering_then (place j ∙ ap₂ ordering_then (before ∙ ap₂ nat_cmp above_m above_n) (ap₂ nat_cmp high_m high_n)) (ap₂ nat_cmp low_m low_n)
      ∙ by_byte x y

  start : Compares 0 (m / 256 ^ 16) (n / 256 ^ 16)
  unfolding by_index
  start = sym (same_cmp (m / 256 ^ 16) (n / 256 ^ 16) (omega arith))

  byte_15 : Compares 2 (m / 256 ^ 15) (n / 256 ^ 15)
  byte_15 = byte 0 (m / 256 ^ 15) (n / 256 ^ 15) (m / 256 ^ 16) (n / 256 ^ 16) (omega arith) (omega arith) start refl refl refl refl

  byte_14 : Compares 4 (m / 256 ^ 14) (n / 256 ^ 14)
  byte_14 = byte 2 (m / 256 ^ 14) (n / 256 ^ 14) (m / 256 ^ 15) (n / 256 ^ 15) (omega arith) (omega arith) byte_15 refl refl refl refl

  byte_13 : Compares 6 (m / 256 ^ 13) (n / 256 ^ 13)
  byte_13 = byte 4 (m / 256 ^ 13) (n / 256 ^ 13) (m / 256 ^ 14) (n / 256 ^ 14) (omega arith) (omega arith) byte_14 refl refl refl refl

  byte_12 : Compares 8 (m / 256 ^ 12) (n / 256 ^ 12)
  byte_12 = byte 6 (m / 256 ^ 12) (n / 256 ^ 12) (m / 256 ^ 13) (n / 256 ^ 13) (omega arith) (omega arith) byte_13 refl refl refl refl

  mark_8 : Compares 9 (m / 256 ^ 12) (n / 256 ^ 12)
  mark_8 = mark 8 (m / 256 ^ 12) (n / 256 ^ 12) byte_12 refl

  byte_11 : Compares 11 (m / 256 ^ 11) (n / 256 ^ 11)
  byte_11 = byte 9 (m / 256 ^ 11) (n / 256 ^ 11) (m / 256 ^ 12) (n / 256 ^ 12) (omega arith) (omega arith) mark_8 refl refl refl refl

  byte_10 : Compares 13 (m / 256 ^ 10) (n / 256 ^ 10)
  byte_10 = byte 11 (m / 256 ^ 10) (n / 256 ^ 10) (m / 256 ^ 11) (n / 256 ^ 11) (omega arith) (omega arith) byte_11 refl refl refl refl

  mark_13 : Compares 14 (m / 256 ^ 10) (n / 256 ^ 10)
  mark_13 = mark 13 (m / 256 ^ 10) (n / 256 ^ 10) byte_10 refl

  byte_9 : Compares 16 (m / 256 ^ 9) (n / 256 ^ 9)
  byte_9 = byte 14 (m / 256 ^ 9) (n / 256 ^ 9) (m / 256 ^ 10) (n / 256 ^ 10) (omega arith) (omega arith) mark_13 refl refl refl refl

  byte_8 : Compares 18 (m / 256 ^ 8) (n / 256 ^ 8)
  byte_8 = byte 16 (m / 256 ^ 8) (n / 256 ^ 8) (m / 256 ^ 9) (n / 256 ^ 9) (omega arith) (omega arith) byte_9 refl refl refl refl

  mark_18 : Compares 19 (m / 256 ^ 8) (n / 256 ^ 8)
  mark_18 = mark 18 (m / 256 ^ 8) (n / 256 ^ 8) byte_8 refl

  byte_7 : Compares 21 (m / 256 ^ 7) (n / 256 ^ 7)
  byte_7 = byte 19 (m / 256 ^ 7) (n / 256 ^ 7) (m / 256 ^ 8) (n / 256 ^ 8) (omega arith) (omega arith) mark_18 refl refl refl refl

  byte_6 : Compares 23 (m / 256 ^ 6) (n / 256 ^ 6)
  byte_6 = byte 21 (m / 256 ^ 6) (n / 256 ^ 6) (m / 256 ^ 7) (n / 256 ^ 7) (omega arith) (omega arith) byte_7 refl refl refl refl

  mark_23 : Compares 24 (m / 256 ^ 6) (n / 256 ^ 6)
  mark_23 = mark 23 (m / 256 ^ 6) (n / 256 ^ 6) byte_6 refl

  byte_5 : Compares 26 (m / 256 ^ 5) (n / 256 ^ 5)
  byte_5 = byte 24 (m / 256 ^ 5) (n / 256 ^ 5) (m / 256 ^ 6) (n / 256 ^ 6) (omega arith) (omega arith) mark_23 refl refl refl refl

  byte_4 : Compares 28 (m / 256 ^ 4) (n / 256 ^ 4)
  byte_4 = byte 26 (m / 256 ^ 4) (n / 256 ^ 4) (m / 256 ^ 5) (n / 256 ^ 5) (omega arith) (omega arith) byte_5 refl refl refl refl

  byte_3 : Compares 30 (m / 256 ^ 3) (n / 256 ^ 3)
  byte_3 = byte 28 (m / 256 ^ 3) (n / 256 ^ 3) (m / 256 ^ 4) (n / 256 ^ 4) (omega arith) (omega arith) byte_4 refl refl refl refl

  byte_2 : Compares 32 (m / 256 ^ 2) (n / 256 ^ 2)
  byte_2 = byte 30 (m / 256 ^ 2) (n / 256 ^ 2) (m / 256 ^ 3) (n / 256 ^ 3) (omega arith) (omega arith) byte_3 refl refl refl refl

  byte_1 : Compares 34 (m / 256 ^ 1) (n / 256 ^ 1)
  byte_1 = byte 32 (m / 256 ^ 1) (n / 256 ^ 1) (m / 256 ^ 2) (n / 256 ^ 2) (omega arith) (omega arith) byte_2 refl refl refl refl

  byte_0 : Compares 36 m n
  byte_0 = byte 34 m n (m / 256 ^ 1) (n / 256 ^ 1) (omega arith) (omega arith) byte_1 refl refl refl refl

  pub id_texts_compare : name_cmp (id_text m) (id_text n) ≡ nat_cmp m n
  id_texts_compare = byte_0
