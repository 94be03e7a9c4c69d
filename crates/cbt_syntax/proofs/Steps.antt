-- How far the text of a path goes, and where a string's literal ends: on the bounds of characters.
use Rattle.std.proofs.Common.{◌≡◌, ℕ, ◌+◌, ◌<◌, Bool, true, false, cond, List, ◌∷◌, length, drop, get_or, refl, sym, subst, ap, ◌∙◌, arith, drop-cons, add-one, length-drop}
use Rattle.std.proofs.lemmas.Bool.Decides.{nat_tests}
use Rattle.std.proofs.lemmas.Grind.{get_or_after_one}
use Rattle.std.proofs.lemmas.Str.{IsCharBoundary-after_ascii}
use Rattle.std.specs.Str.{IsCharBoundary, IsUtf8}
use Rattle.cbt_syntax.specs.declared.references.Within.{Within}
use Rattle.cbt_syntax.specs.declared.references.Within.TheVariants.{Steps, Ticks, Brackets}
use Rattle.cbt_syntax.specs.References.{stops, led_to, path_end}

same_steps : (t : Bool) → cond t Steps Ticks ≡ Steps → t ≡ true
same_steps true e = refl
same_steps false e = absurd (cc)

same_steps_2 : (t : Bool) → cond t Steps Brackets ≡ Steps → t ≡ true
same_steps_2 true e = refl
same_steps_2 false e = absurd (cc)

ascii_step : (within : Within) (b : ℕ) → stops within b ≡ false → led_to within b ≡ Steps → b < 128
ascii_step Steps b goes led = grind (arith, nat_tests)
ascii_step Ticks b goes led = let h = same_steps _ led in grind (arith, nat_tests)
ascii_step Brackets b goes led = let h = same_steps_2 _ led in grind (arith, nat_tests)

pub boundary-step : (within : Within) (b at : ℕ) (text : List ℕ) → IsUtf8 text → at < length text → b ≡ get_or text at 0 → stops within b ≡ false
    → led_to within b ≡ Steps → IsCharBoundary text (at + 1)
boundary-step within b at text utf8 inside is goes led =
    let small : b < 128 = ascii_step within b goes led in
    IsCharBoundary-after_ascii text at utf8 inside (omega arith)

pub path_end-step : (within next : Within) (b at place : ℕ) (text : List ℕ) → at < length text → b ≡ get_or text at 0 → stops within b ≡ false
    → next ≡ led_to within b → path_end at within (drop at text) ≡ place → path_end (at + 1) next (drop (at + 1) text) ≡ place
path_end-step within next b at place text inside is goes led before =
    let cut : drop at text ≡ b ∷ drop (at + 1) text = rw (is, add-one) (drop-cons text at 0 inside) in
    ap (λ w. path_end (at + 1) w (drop (at + 1) text)) led
    ∙ sym (ap (path_end at within) cut ∙ ap (λ t. cond t at (path_end (at + 1) (led_to within b) (drop (at + 1) text))) goes) ∙ before

pub boundary-quote : (text behind : List ℕ) (at : ℕ) → IsUtf8 text → behind ≡ drop 1 text → at < length behind → get_or behind at 0 ≡ 34 → IsCharBoundary text (at + 2)
boundary-quote text behind at utf8 is inside quote =
    let len : length behind ≡ length (drop 1 text) = ap length is in
    let there : get_or text (1 + at) 0 ≡ 34 = sym (get_or_after_one text at 0) ∙ ap (λ bs. get_or bs at 0) (sym is) ∙ quote in
    let end : IsCharBoundary text (1 + at + 1) = IsCharBoundary-after_ascii text (1 + at) utf8 (omega (arith, length-drop 1 text)) (omega arith) in
    let same : 1 + at + 1 ≡ at + 2 = omega arith in
    subst (λ n. IsCharBoundary text n) same end
