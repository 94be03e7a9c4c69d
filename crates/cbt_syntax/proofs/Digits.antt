-- The digits of a number, read one after another.
use Rattle.std.proofs.Common.{◌≡◌, ℕ, ◌+◌, ◌-◌, ◌*◌, ◌^◌, ◌<◌, true, cond, ltb, List, ◌∷◌, length, drop, get_or, Some, None, sym, ap, ◌∙◌, arith, drop-cons, add-one}
use Rattle.std.proofs.lemmas.Bool.Decides.{nat_tests}
use Rattle.std.proofs.lemmas.Str.{IsCharBoundary-after_ascii}
use Rattle.std.specs.Str.{IsCharBoundary, IsUtf8}
use Rattle.cbt_lex.specs.Decimals.{is_digit}
use Rattle.cbt_subdoc.proofs.Digits.{digit_made}
use Rattle.cbt_syntax.specs.Readings.{Read}
use Rattle.cbt_syntax.specs.Numbers.{digits}

digits-more : (n b more : ℕ) (rest : List ℕ) → is_digit b ≡ true → Some more ≡ cond (ltb (n * 10 + (b - 48)) (2 ^ 64)) (Some (n * 10 + (b - 48))) None
    → digits n (b ∷ rest) ≡ digits more rest
digits-more n b more rest is e =
    let p = digit_made (ltb (n * 10 + (b - 48)) (2 ^ 64)) more (n * 10 + (b - 48)) e in
    simp (is, p.0) (ap (λ m. digits m rest) (sym p.1))

ascii_digit : (b : ℕ) → is_digit b ≡ true → b < 128
ascii_digit b e = grind (arith, nat_tests)

pub boundary-digit : (b at : ℕ) (text : List ℕ) → IsUtf8 text → at < length text → b ≡ get_or text at 0 → is_digit b ≡ true → IsCharBoundary text (at + 1)
boundary-digit b at text utf8 within is e =
    let small : b < 128 = ascii_digit b e in
    IsCharBoundary-after_ascii text at utf8 within (omega arith)

pub step-digit : (n b more at : ℕ) (text : List ℕ) (whole : Read ℕ) → at < length text → b ≡ get_or text at 0 → is_digit b ≡ true
    → Some more ≡ cond (ltb (n * 10 + (b - 48)) (2 ^ 64)) (Some (n * 10 + (b - 48))) None → digits n (drop at text) ≡ whole → digits more (drop (at + 1) text) ≡ whole
step-digit n b more at text whole within is digit e before =
    let cut : drop at text ≡ b ∷ drop (at + 1) text = rw (is, add-one) (drop-cons text at 0 within) in
    sym (digits-more n b more (drop (at + 1) text) digit e) ∙ ap (digits n) (sym cut) ∙ before
