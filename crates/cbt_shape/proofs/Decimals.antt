-- A text that is read as a number is that number in decimal.
use Rattle.std.proofs.Common.{◌≡◌, ℕ, ◌+◌, ◌-◌, ◌*◌, ◌/◌, ◌%◌, ◌^◌, ◌<◌, ◌≤◌, Bool, true, false, cond, not, eqb, ltb, ◌&&◌, List, [], ◌∷◌, ◌++◌, Option, Some, None, decimal, refl, sym, ap, ap₂, ◌∙◌, arith, append_assoc, append-nil}
use Rattle.std.specs.Option.{option_and_then}
use Rattle.std.proofs.lemmas.Bool.{and_parts, ltb-true}
use Rattle.std.proofs.lemmas.Bool.Decides.{nat_tests}
use Rattle.std.proofs.lemmas.Fmt.{decimal_digit, decimal_step}
use Rattle.cbt_lex.specs.Decimals.{is_digit, one_more, digits_from, is_plain, number_of}

-- what a digit more makes of a number
record IsMore (n b m : ℕ) : Type 0 where
  pub low : 48 ≤ b
  pub high : b ≤ 57
  pub value : m ≡ n * 10 + (b - 48)
  pub fits : m < 2 ^ 64

more_by : (t : Bool) (n b m : ℕ) → (is_digit b && ltb (n * 10 + (b - 48)) (2 ^ 64)) ≡ t → cond t (Some (n * 10 + (b - 48))) None ≡ Some m → IsMore n b m
more_by true n b m holds is =
    let p = and_parts (is_digit b) (ltb (n * 10 + (b - 48)) (2 ^ 64)) holds in
    let same : n * 10 + (b - 48) ≡ m = cc in
    let room = ltb-true (n * 10 + (b - 48)) (2 ^ 64) p.1 in
    let digit = p.0 in
    record { low = grind (arith, nat_tests); high = grind (arith, nat_tests); value = sym same; fits = omega arith }
more_by false n b m holds is = absurd (cc)

more : (n b m : ℕ) → one_more n b ≡ Some m → IsMore n b m
more n b m is = more_by (is_digit b && ltb (n * 10 + (b - 48)) (2 ^ 64)) n b m refl is

-- a positive number with a digit more
grown : (n b m : ℕ) → 0 < n → IsMore n b m → decimal n ++ b ∷ [] ≡ decimal m
grown n b m some is =
    let low = is.low in let high = is.high in let value = is.value in
    sym (
    decimal_step m (omega arith) is.fits
    ∙ ap₂ (λ k d. decimal k ++ d ∷ []) (let e : m / 10 ≡ n = omega arith in e) (let e : 48 + m % 10 ≡ b = omega arith in e)
    )

by_more : (o : Option ℕ) (n b k : ℕ) (bs : List ℕ) → one_more n b ≡ o → option_and_then (λ m. digits_from m bs) o ≡ Some k
    → (m : ℕ) × (IsMore n b m) × (digits_from m bs ≡ Some k)
by_more (Some m) n b k bs at is = (m, more n b m at, is)
by_more None n b k bs at is = absurd (cc)

further : (n k : ℕ) (bs : List ℕ) → 0 < n → digits_from n bs ≡ Some k → decimal n ++ bs ≡ decimal k
further n k [] some is = let same : n ≡ k = cc in append-nil (decimal n) ∙ ap decimal same
further n k (b ∷ bs) some is =
    let it = by_more (one_more n b) n b k bs refl is in
    let value = it.1.value in
    sym (append_assoc (decimal n) (b ∷ []) bs) ∙ ap (λ ds. ds ++ bs) (grown n b it.0 some it.1) ∙ further it.0 k bs (omega arith) it.2

begun : (b m : ℕ) → IsMore 0 b m → decimal m ≡ b ∷ []
begun b m is =
    let low = is.low in let high = is.high in let value = is.value in
    decimal_digit m (omega arith) ∙ ap (λ d. d ∷ []) (let e : 48 + m ≡ b = omega arith in e)

by_plain : (t : Bool) (word : List ℕ) (k : ℕ) → is_plain word ≡ t → cond t (digits_from 0 word) None ≡ Some k → (is_plain word ≡ true) × (digits_from 0 word ≡ Some k)
by_plain true word k plain is = (plain, is)
by_plain false word k plain is = absurd (cc)

digits : (word : List ℕ) (k : ℕ) → is_plain word ≡ true → digits_from 0 word ≡ Some k → word ≡ decimal k
digits [] k plain is = absurd (cc)
digits (b ∷ []) k plain is =
    let it = by_more (one_more 0 b) 0 b k [] refl is in
    let same : it.0 ≡ k = (let e = it.2 in cc) in
    sym (begun b it.0 it.1) ∙ ap decimal same
digits (b ∷ c ∷ bs) k plain is =
    let it = by_more (one_more 0 b) 0 b k (c ∷ bs) refl is in
    let low = it.1.low in let value = it.1.value in
    ap (λ ds. ds ++ c ∷ bs) (sym (begun b it.0 it.1)) ∙ further it.0 k (c ∷ bs) (positive b it.0 plain low value) it.2
  where
    positive : (b m : ℕ) → not (eqb b 48) ≡ true → 48 ≤ b → m ≡ 0 * 10 + (b - 48) → 0 < m
    positive b m other low value = grind (arith, nat_tests)

pub number_is : (word : List ℕ) (k : ℕ) → number_of word ≡ Some k → word ≡ decimal k
number_is word k is = let p = by_plain (is_plain word) word k refl is in digits word k p.0 p.1
