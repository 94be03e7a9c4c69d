-- Numbers of two and of four digits, with zeros in front, as a format writes them.
use Rattle.std.proofs.Common.{◌≡◌, ℕ, ◌+◌, ◌-◌, ◌/◌, ◌%◌, ◌^◌, ◌<◌, ◌≤◌, false, [], ◌∷◌, ◌++◌, decimal, ap, ap₂, ◌∙◌, arith, ⊎_elim}
use Rattle.std.proofs.lemmas.Bool.{cases_lt}
use Rattle.std.proofs.lemmas.Fmt.{decimal_digit, decimal_step}
use Rattle.std.specs.Fmt.{char_count, padded_integral, format_spec}
use Rattle.cbt_gen.specs.Names.{two_digits, four_digits}

-- ---- numbers as they are

two_shown : (n : ℕ) → 10 ≤ n → n < 100 → decimal n ≡ (48 + n / 10) ∷ (48 + n % 10) ∷ []
two_shown n more small = decimal_step n more (omega arith) ∙ ap (λ ds. ds ++ (48 + n % 10) ∷ []) (decimal_digit (n / 10) (omega arith))

three_shown : (n : ℕ) → 100 ≤ n → n < 1000 → decimal n ≡ (48 + n / 100) ∷ (48 + n / 10 % 10) ∷ (48 + n % 10) ∷ []
three_shown n more small =
    let first : n / 10 / 10 ≡ n / 100 = omega arith in
    decimal_step n (omega arith) (omega arith) ∙ ap (λ ds. ds ++ (48 + n % 10) ∷ []) (two_shown (n / 10) (omega arith) (omega arith))
    ∙ ap (λ d. (48 + d) ∷ (48 + n / 10 % 10) ∷ (48 + n % 10) ∷ []) first

four_shown : (n : ℕ) → 1000 ≤ n → n < 10000 → decimal n ≡ (48 + n / 1000) ∷ (48 + n / 100 % 10) ∷ (48 + n / 10 % 10) ∷ (48 + n % 10) ∷ []
four_shown n more small =
    let first : n / 10 / 100 ≡ n / 1000 = omega arith in
    let second : n / 10 / 10 ≡ n / 100 = omega arith in
    decimal_step n (omega arith) (omega arith) ∙ ap (λ ds. ds ++ (48 + n % 10) ∷ []) (three_shown (n / 10) (omega arith) (omega arith))
    ∙ ap₂ (λ d e. (48 + d) ∷ (48 + e % 10) ∷ (48 + n / 10 % 10) ∷ (48 + n % 10) ∷ []) first second

-- ---- with zeros in front

pub two_written : (n : ℕ) → n < 100 → padded_integral (format_spec 32 0 4 2 (2 ^ 64 - 1)) false [] (decimal n) ≡ two_digits n
unfolding padded_integral char_count
two_written n small = ⊎_elim
    (λ one. let high : n / 10 % 10 ≡ 0 = omega arith in let low : n % 10 ≡ n = omega arith in rw (decimal_digit n one, high, low))
    (λ more. let high : n / 10 % 10 ≡ n / 10 = omega arith in rw (two_shown n more small, high))
    (cases_lt n 10)

-- below 1000, and from there on
short_written : (n : ℕ) → n < 1000 → padded_integral (format_spec 32 0 4 4 (2 ^ 64 - 1)) false [] (decimal n) ≡ four_digits n
unfolding padded_integral char_count
short_written n small = let first : n / 1000 % 10 ≡ 0 = omega arith in ⊎_elim
    (λ one.
    let second : n / 100 % 10 ≡ 0 = omega arith in
    let third : n / 10 % 10 ≡ 0 = omega arith in
    let fourth : n % 10 ≡ n = omega arith in
    rw (decimal_digit n one, first, second, third, fourth))
    (λ more. ⊎_elim
    (λ two.
    let second : n / 100 % 10 ≡ 0 = omega arith in
    let third : n / 10 % 10 ≡ n / 10 = omega arith in
    rw (two_shown n more two, first, second, third))
    (λ three. let second : n / 100 % 10 ≡ n / 100 = omega arith in rw (three_shown n three small, first, second))
    (cases_lt n 100))
    (cases_lt n 10)

pub four_written : (n : ℕ) → n < 10000 → padded_integral (format_spec 32 0 4 4 (2 ^ 64 - 1)) false [] (decimal n) ≡ four_digits n
unfolding padded_integral char_count
four_written n small = ⊎_elim
    (short_written n)
    (λ four. let first : n / 1000 % 10 ≡ n / 1000 = omega arith in rw (four_shown n four small, first))
    (cases_lt n 1000)
