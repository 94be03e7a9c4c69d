-- A number that is written in decimal is read as it, and is a word.
use Rattle.std.proofs.Common.{◌≡◌, ℕ, zero, suc, ◌+◌, ◌-◌, ◌*◌, ◌/◌, ◌%◌, ◌^◌, ◌<◌, ◌≤◌, ◌⊎◌, inl, inr, true, cond, not, ltb, List, [], ◌∷◌, ◌++◌, Some, None, decimal, refl, sym, ap, ◌∙◌, arith, append_assoc, append-nil}
use Rattle.std.specs.List.{AllByRecursion}
use Rattle.std.specs.Option.{option_and_then}
use Rattle.std.proofs.lemmas.Bool.{ne_eqb, lt-ltb, and_from}
use Rattle.std.proofs.lemmas.Bool.Decides.{nat_tests}
use Rattle.std.proofs.lemmas.Fmt.{decimal_by_steps, decimal_nonempty}
use Rattle.cbt_lex.specs.Decimals.{is_digit, digits_from, is_plain, number_of}
use Rattle.cbt_lex.proofs.ByRecursion.{all_weaker, all_behind}
use Rattle.cbt_lex.proofs.WordsBack.{IsWord}

pub digit : (n : ℕ) → n < 10 → is_digit (48 + n) ≡ true
digit n small = grind (arith, nat_tests)

-- some digits, which are read as a number
record IsNumber (n : ℕ) (ds : List ℕ) : Type 0 where
  pub first : ℕ
  pub behind : List ℕ
  pub begins : ds ≡ first ∷ behind
  pub leads : 0 < n → (first ≡ 48 → ⊥)
  pub alone : n ≡ 0 → behind ≡ []
  pub solid : AllByRecursion (λ b. is_digit b ≡ true) ds
  pub reads : n < 2 ^ 64 → (rest : List ℕ) → digits_from 0 (ds ++ rest) ≡ digits_from n rest

taken_digit : (n d m : ℕ) (rest : List ℕ) → is_digit d ≡ true → n * 10 + (d - 48) ≡ m → m < 2 ^ 64 → digits_from n (d ∷ rest) ≡ digits_from m rest
taken_digit n d m rest is value below =
    let room : ltb (n * 10 + (d - 48)) (2 ^ 64) ≡ true = lt-ltb _ _ (omega arith) in
    ap (λ t. option_and_then (λ m. digits_from m rest) (cond t (Some (n * 10 + (d - 48))) None)) (and_from (is_digit d) (ltb (n * 10 + (d - 48)) (2 ^ 64)) is room)
    ∙ ap (λ m. digits_from m rest) value

one_digit : (n : ℕ) → n < 10 → IsNumber n ((48 + n) ∷ [])
one_digit n small = record {
  first = 48 + n;
  behind = [];
  begins = refl;
  leads = λ some same. omega arith;
  alone = λ none. refl;
  solid = (digit n small, tt);
  reads = λ below rest. taken_digit 0 (48 + n) n rest (digit n small) (omega arith) below;
}

more_digit : (n : ℕ) (ds : List ℕ) → 10 ≤ n → IsNumber (n / 10) ds → IsNumber n (ds ++ (48 + n % 10) ∷ [])
more_digit n ds many before =
    let last : n % 10 < 10 = omega arith in
    let front : 0 < n / 10 = omega arith in
    record {
      first = before.first;
      behind = before.behind ++ (48 + n % 10) ∷ [];
      begins = ap (λ l. l ++ (48 + n % 10) ∷ []) before.begins;
      leads = λ some. before.leads front;
      alone = λ none. absurd (omega arith);
      solid = all_behind (λ b. is_digit b ≡ true) ds ((48 + n % 10) ∷ []) before.solid (digit (n % 10) last, tt);
      reads = λ below rest.
          ap (digits_from 0) (append_assoc ds ((48 + n % 10) ∷ []) rest) ∙ before.reads (omega arith) ((48 + n % 10) ∷ rest)
          ∙ taken_digit (n / 10) (48 + n % 10) n rest (digit (n % 10) last) (omega arith) below;
    }

number_is : (n : ℕ) → n < 2 ^ 64 → IsNumber n (decimal n)
number_is n below = decimal_by_steps IsNumber one_digit more_digit n below

plain_if : (first : ℕ) (behind : List ℕ) → (behind ≡ []) ⊎ (first ≡ 48 → ⊥) → is_plain (first ∷ behind) ≡ true
plain_if first [] known = refl
plain_if first (b ∷ bs) (inl none) = absurd (cc)
plain_if first (b ∷ bs) (inr other) = ap not (ne_eqb first 48 other)

plain_or : (n : ℕ) (ds : List ℕ) (is : IsNumber n ds) → (is.behind ≡ []) ⊎ (is.first ≡ 48 → ⊥)
plain_or zero ds is = inl (is.alone refl)
plain_or (suc n) ds is = inr (is.leads (omega arith))

pub number_of-decimal : (n : ℕ) → n < 2 ^ 64 → number_of (decimal n) ≡ Some n
number_of-decimal n below =
    let is = number_is n below in
    ap (λ t. cond t (digits_from 0 (decimal n)) None) (ap is_plain is.begins ∙ plain_if is.first is.behind (plain_or n (decimal n) is))
    ∙ ap (digits_from 0) (sym (append-nil (decimal n))) ∙ is.reads below []

pub decimal_digits : (n : ℕ) → n < 2 ^ 64 → AllByRecursion (λ b. is_digit b ≡ true) (decimal n)
decimal_digits n below = (number_is n below).solid

solid_digit : (b : ℕ) → is_digit b ≡ true → 32 < b
solid_digit b is = grind (arith, nat_tests)

pub decimal_word : (n : ℕ) → n < 2 ^ 64 → IsWord (decimal n)
decimal_word n below = record { some = decimal_nonempty n below; solid = all_weaker solid_digit (decimal n) (decimal_digits n below) }
