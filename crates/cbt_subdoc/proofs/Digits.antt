-- The digits of a place, read one after another.
use Rattle.std.proofs.Common.{◌≡◌, ℕ, ◌+◌, ◌-◌, ◌*◌, ◌<◌, Bool, true, false, cond, List, ◌∷◌, length, drop, get_or, Some, None, refl, sym, ap, ◌∙◌, arith, drop-cons, add-one}
use Rattle.std.proofs.lemmas.Bool.{and_parts}
use Rattle.std.proofs.lemmas.Bool.Decides.{nat_tests}
use Rattle.std.proofs.lemmas.Str.{IsCharBoundary-after_ascii}
use Rattle.std.specs.Str.{IsCharBoundary, IsUtf8}
use Rattle.std.specs.Char.{is_ascii_digit}
use Rattle.cbt_subdoc.specs.declared.path.Part.TheVariants.{Place}
use Rattle.cbt_subdoc.specs.Paths.{Front, closed, digits, may_follow}

-- whether a digit follows, by the number that it makes
pub digit_made : (t : Bool) (more made : ℕ) → Some more ≡ cond t (Some made) None → (t ≡ true) × (more ≡ made)
digit_made true more made e = (refl, cc)
digit_made false more made e = absurd (cc)

pub digits-more : (n b more : ℕ) (rest : List ℕ) → Some more ≡ cond (may_follow n b) (Some (n * 10 + (b - 48))) None → digits n (b ∷ rest) ≡ digits more rest
digits-more n b more rest e =
    let p = digit_made (may_follow n b) more (n * 10 + (b - 48)) e in
    ap (λ t. cond t (digits (n * 10 + (b - 48)) rest) (closed (Place n) (b ∷ rest))) p.0 ∙ ap (λ m. digits m rest) (sym p.1)

-- a digit is ASCII
ascii_digit : (b : ℕ) → is_ascii_digit b ≡ true → b < 128
ascii_digit b e = grind (arith, nat_tests)

pub boundary-more : (n b more at : ℕ) (text : List ℕ) → IsUtf8 text → at < length text → b ≡ get_or text at 0
    → Some more ≡ cond (may_follow n b) (Some (n * 10 + (b - 48))) None → IsCharBoundary text (at + 1)
boundary-more n b more at text utf8 within is e =
    let p = digit_made (may_follow n b) more (n * 10 + (b - 48)) e in
    let small : b < 128 = ascii_digit b (and_parts (is_ascii_digit b) _ p.0).0 in
    IsCharBoundary-after_ascii text at utf8 within (omega arith)

pub step-more : (n b more at : ℕ) (text : List ℕ) (whole : Front) → at < length text → b ≡ get_or text at 0
    → Some more ≡ cond (may_follow n b) (Some (n * 10 + (b - 48))) None → digits n (drop at text) ≡ whole → digits more (drop (at + 1) text) ≡ whole
step-more n b more at text whole within is e before =
    let cut : drop at text ≡ b ∷ drop (at + 1) text = rw (is, add-one) (drop-cons text at 0 within) in
    sym (digits-more n b more (drop (at + 1) text) e) ∙ ap (digits n) (sym cut) ∙ before
