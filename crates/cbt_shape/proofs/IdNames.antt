-- The identifier that has a text.
use Rattle.std.proofs.Common.{◌≡◌, ℕ, zero, suc, ◌%◌, ◌^◌, ◌<◌, ◌≤◌, ◌∷◌, Bool, true, false, cond, ltb, ◌&&◌, List, Option, Some, None, bytes_eq, refl, sym, ap, ap₂, ◌∙◌, arith}
use Rattle.std.proofs.lemmas.Bool.{lt-ltb, ltb-true, and_parts, and_from}
use Rattle.std.proofs.lemmas.Slice.Eq.{bytes_eq-Decides}
use Rattle.std.specs.Int.{from_be_bytes, to_be_bytes, w128, byte_at, bytes_high_first}
use Rattle.uuid.specs.Text.{parsed, hyphenated_text, lower}
use Rattle.cbt_base.specs.Ids.{id_text}
use Rattle.cbt_base.proofs.IdTexts.{parsed-id_text, number_of_text}
use Rattle.cbt_shape.specs.Names.{with_text, id_in}

abbrev pub Number : Type 0
Number = Option ℕ

named : (n : ℕ) (text : List ℕ) (bytes : List ℕ) → n < 2 ^ 128 → text ≡ id_text n → from_be_bytes w128 bytes ≡ n → with_text text (Some bytes) ≡ Some n
named n text bytes fits is number =
    ap (λ m. cond (ltb m (2 ^ 128) && bytes_eq text (id_text m)) (Some m) None) number
    ∙ ap (λ t. cond t (Some n) None) (and_from (ltb n (2 ^ 128)) (bytes_eq text (id_text n)) (lt-ltb n (2 ^ 128) fits) ((bytes_eq-Decides text (id_text n)).1 is))

-- a text that is a number's
pub id_found : (text : List ℕ) (n : ℕ) → n < 2 ^ 128 → text ≡ id_text n → id_in text ≡ Some n
id_found text n fits is =
    let reads : parsed text ≡ Some (to_be_bytes w128 n) = ap parsed is ∙ parsed-id_text n in
    ap (with_text text) reads ∙ named n text (to_be_bytes w128 n) fits is (number_of_text n text (to_be_bytes w128 n) fits is (sym reads))

none_if : (t : Bool) (n : ℕ) (text : List ℕ) → (ltb n (2 ^ 128) && bytes_eq text (id_text n)) ≡ t → ((m : ℕ) → m < 2 ^ 128 → text ≡ id_text m → ⊥)
    → ◌≡◌ {A = Number} (cond t (Some n) None) None
none_if true n text is none =
    let p = and_parts (ltb n (2 ^ 128)) (bytes_eq text (id_text n)) is in absurd (none n (ltb-true n (2 ^ 128) p.0) ((bytes_eq-Decides text (id_text n)).0 p.1))
none_if false n text is none = refl

none_of : (o : Option (List ℕ)) (text : List ℕ) → ((m : ℕ) → m < 2 ^ 128 → text ≡ id_text m → ⊥) → with_text text o ≡ None
none_of (Some bytes) text none = none_if (ltb (from_be_bytes w128 bytes) (2 ^ 128) && bytes_eq text (id_text (from_be_bytes w128 bytes))) (from_be_bytes w128 bytes) text refl none
none_of None text none = refl

-- a text that is no number's
pub id_missing : (text : List ℕ) → ((m : ℕ) → m < 2 ^ 128 → text ≡ id_text m → ⊥) → id_in text ≡ None
id_missing text none = none_of (parsed text) text none

-- a number's text shows its lowest 128 bits
module _ (n : ℕ) where
  -- each of their bytes
  each : (i : ℕ) → i < 16 → byte_at i n ≡ byte_at i (n % 2 ^ 128)
  each zero low = omega arith
  each (suc zero) low = omega arith
  each (suc (suc zero)) low = omega arith
  each (suc (suc (suc zero))) low = omega arith
  each (suc (suc (suc (suc zero)))) low = omega arith
  each (suc (suc (suc (suc (suc zero))))) low = omega arith
  each (suc (suc (suc (suc (suc (suc zero)))))) low = omega arith
  each (suc (suc (suc (suc (suc (suc (suc zero))))))) low = omega arith
  each (suc (suc (suc (suc (suc (suc (suc (suc zero)))))))) low = omega arith
  each (suc (suc (suc (suc (suc (suc (suc (suc (suc zero))))))))) low = omega arith
  each (suc (suc (suc (suc (suc (suc (suc (suc (suc (suc zero)))))))))) low = omega arith
  each (suc (suc (suc (suc (suc (suc (suc (suc (suc (suc (suc zero))))))))))) low = omega arith
  each (suc (suc (suc (suc (suc (suc (suc (suc (suc (suc (suc (suc zero)))))))))))) low = omega arith
  each (suc (suc (suc (suc (suc (suc (suc (suc (suc (suc (suc (suc (suc zero))))))))))))) low = omega arith
  each (suc (suc (suc (suc (suc (suc (suc (suc (suc (suc (suc (suc (suc (suc zero)))))))))))))) low = omega arith
  each (suc (suc (suc (suc (suc (suc (suc (suc (suc (suc (suc (suc (suc (suc (suc zero))))))))))))))) low = omega arith
  each (suc (suc (suc (suc (suc (suc (suc (suc (suc (suc (suc (suc (suc (suc (suc (suc i)))))))))))))))) low = absurd (omega arith)

  all_bytes : (k : ℕ) → k ≤ 16 → bytes_high_first k n ≡ bytes_high_first k (n % 2 ^ 128)
  all_bytes zero low = refl
  all_bytes (suc k) low = ap₂ (λ b bs. b ∷ bs) (each k (omega arith)) (all_bytes k (omega arith))

lowest : (n : ℕ) → to_be_bytes w128 n ≡ to_be_bytes w128 (n % 2 ^ 128)
lowest n = all_bytes n 16 (omega arith)

lowest_text : (n : ℕ) → id_text n ≡ id_text (n % 2 ^ 128)
lowest_text n = ap (hyphenated_text lower) (lowest n)

-- a text that is a number's of any size, where it is read as each number of 128 bits whose text it is
pub id_read : (text : List ℕ) (n : ℕ) → text ≡ id_text n → ((m : ℕ) → m < 2 ^ 128 → text ≡ id_text m → Some n ≡ Some m) → id_in text ≡ Some n
id_read text n is only =
    let fits : n % 2 ^ 128 < 2 ^ 128 = omega arith in
    let same : text ≡ id_text (n % 2 ^ 128) = is ∙ lowest_text n in
    id_found text (n % 2 ^ 128) fits same ∙ sym (only (n % 2 ^ 128) fits same)

shown : (t : Bool) (m n : ℕ) (text : List ℕ) → (ltb m (2 ^ 128) && bytes_eq text (id_text m)) ≡ t → ◌≡◌ {A = Number} (cond t (Some m) None) (Some n) → (n < 2 ^ 128) × (text ≡ id_text n)
shown true m n text holds is =
    let same : m ≡ n = cc in
    let p = and_parts (ltb m (2 ^ 128)) (bytes_eq text (id_text m)) holds in
    (let low = ltb-true m (2 ^ 128) p.0 in omega arith, (bytes_eq-Decides text (id_text m)).0 p.1 ∙ ap id_text same)
shown false m n text holds is = absurd (cc)

shown_by : (o : Option (List ℕ)) (text : List ℕ) (n : ℕ) → with_text text o ≡ Some n → (n < 2 ^ 128) × (text ≡ id_text n)
shown_by (Some bytes) text n is =
    let m = from_be_bytes w128 bytes in shown (ltb m (2 ^ 128) && bytes_eq text (id_text m)) m n text refl is
shown_by None text n is = absurd (cc)

-- the text of what is found is the text
pub id_is : (text : List ℕ) (n : ℕ) → id_in text ≡ Some n → (n < 2 ^ 128) × (text ≡ id_text n)
id_is text n is = shown_by (parsed text) text n is
