-- Lines that are put together come apart as they were.
use Rattle.std.proofs.Common.{◌≡◌, ℕ, ◌+◌, ◌<◌, cond, List, [], ◌∷◌, ◌++◌, length, get_or, take, drop, reverse, IsUtf8, refl, sym, ap, ◌∙◌, subst, arith, append_assoc, length-append, take_at}
use Rattle.std.proofs.lemmas.Bool.{ne_eqb}
use Rattle.std.proofs.lemmas.List.{reverse-append, reverse-reverse, get_or_at}
use Rattle.std.proofs.lemmas.Str.{IsUtf8-take, IsUtf8-drop, IsCharBoundary-before_ascii, IsCharBoundary-after_ascii}
use Rattle.std.specs.List.{AllByRecursion}
use Rattle.cbt_lex.specs.Lines.{skip_spaces, trimmed, past_return, without_return, ended, lines_of, lined}
use Rattle.cbt_lex.proofs.Lined.{with_feed}
use Rattle.cbt_lex.proofs.Pieces.{drop_past, Lacking, pieces_behind}
use Rattle.cbt_lex.proofs.Spaces.{IsLed, skip_led}

-- a text that ends in a byte that is neither a space nor a carriage return
pub record Closes (text : List ℕ) : Type 0 where
  pub front : List ℕ
  pub last : ℕ
  pub parts : text ≡ front ++ last ∷ []
  pub no_space : (last ≡ 32 → ⊥)
  pub no_return : (last ≡ 13 → ⊥)

pub closes_at : (front : List ℕ) (b : ℕ) → 32 < b → Closes (front ++ b ∷ [])
closes_at front b above = record { front = front; last = b; parts = refl; no_space = λ same. omega arith; no_return = λ same. omega arith }

pub closes_behind : (a b : List ℕ) → Closes b → Closes (a ++ b)
closes_behind a b c = record { front = a ++ c.front; last = c.last; parts = ap (λ x. a ++ x) c.parts ∙ sym (append_assoc a c.front (c.last ∷ [])); no_space = c.no_space; no_return = c.no_return }

pub closes_same : (a b : List ℕ) → a ≡ b → Closes b → Closes a
closes_same a b e c = record { front = c.front; last = c.last; parts = e ∙ c.parts; no_space = c.no_space; no_return = c.no_return }

closed : (front : List ℕ) (b : ℕ) → (b ≡ 32 → ⊥) → skip_spaces (reverse (front ++ b ∷ [])) ≡ reverse (front ++ b ∷ [])
closed front b other = let e = reverse-append front (b ∷ []) in ap skip_spaces e ∙ skip_led (b ∷ reverse front) other ∙ sym e

pub trimmed_is : (text : List ℕ) → IsLed text → Closes text → trimmed text ≡ text
trimmed_is text led c =
    ap (λ t. reverse (skip_spaces (reverse t))) (skip_led text led ∙ c.parts) ∙ ap reverse (closed c.front c.last c.no_space) ∙ reverse-reverse (c.front ++ c.last ∷ []) ∙ sym c.parts

unreturned : (front : List ℕ) (b : ℕ) → (b ≡ 13 → ⊥) → past_return (reverse (front ++ b ∷ [])) ≡ reverse (front ++ b ∷ [])
unreturned front b other =
    let e = reverse-append front (b ∷ []) in ap past_return e ∙ ap (λ t. cond t (reverse front) (b ∷ reverse front)) (ne_eqb b 13 other) ∙ sym e

without_return_is : (text : List ℕ) → Closes text → without_return text ≡ text
without_return_is text c = ap without_return c.parts ∙ ap reverse (unreturned c.front c.last c.no_return) ∙ reverse-reverse (c.front ++ c.last ∷ []) ∙ sym c.parts

-- no byte is a line feed
abbrev pub NoFeed : List ℕ → Type 0
NoFeed text = Lacking 10 text

-- a line that is read as it is written
abbrev pub IsPrinted : List ℕ → Type 0
IsPrinted line = IsLed line × Closes line × NoFeed line

-- a text with a first byte that is no space, and a last one that ends a line
pub record IsEdged (text : List ℕ) : Type 0 where
  pub some : 0 < length text
  pub led : IsLed text
  pub closes : Closes text

pub opened : (b : ℕ) (text : List ℕ) → 32 < b → Closes text → IsEdged (b ∷ text)
opened b text above closes = record { some = omega arith; led = λ same. omega arith; closes = closes_behind (b ∷ []) text closes }

led_append : (a b : List ℕ) → 0 < length a → IsLed a → IsLed (a ++ b)
led_append [] b some led = absurd (omega arith)
led_append (x ∷ xs) b some led = led

pub edged_append : (a b : List ℕ) → IsEdged a → Closes b → IsEdged (a ++ b)
edged_append a b edged closes = record {
  some = (let more : 0 < length a = edged.some in omega (arith, length-append a b));
  led = led_append a b edged.some edged.led;
  closes = closes_behind a b closes;
}

-- ---- all lines

-- the lines of two parts, one behind the other
pub lined_append : (a b : List (List ℕ)) → lined (a ++ b) ≡ lined a ++ lined b
lined_append [] b = refl
lined_append (line ∷ lines) b =
    let e : lined (lines ++ b) ≡ lined lines ++ lined b = lined_append lines b in
    ap (λ x. line ++ 10 ∷ [] ++ x) e ∙ sym (append_assoc (line ++ 10 ∷ []) (lined lines) (lined b))

pub lines_of-lined : (lines : List (List ℕ)) → AllByRecursion IsPrinted lines → lines_of (lined lines) ≡ lines
lines_of-lined [] printed = refl
lines_of-lined (line ∷ lines) printed =
    ap lines_of (append_assoc line (10 ∷ []) (lined lines)) ∙ ap ended (pieces_behind 10 line (lined lines) printed.0.2) ∙ with_feed line (lined lines)
    ∙ ap (λ l. l ∷ lines_of (lined lines)) (without_return_is line printed.0.1) ∙ ap (λ ls. line ∷ ls) (lines_of-lined lines printed.1)

-- ---- UTF-8

first_utf8 : (line rest : List ℕ) → IsUtf8 (line ++ 10 ∷ rest) → IsUtf8 line × IsUtf8 rest
first_utf8 line rest utf8 =
    let whole = line ++ 10 ∷ rest in
    let within : length line < length whole = omega (arith, length-append line (10 ∷ rest)) in
    let feed : get_or whole (length line) 0 ≡ 10 = get_or_at line 10 rest 0 (length line) refl in
    let small : get_or whole (length line) 0 < 128 = omega arith in
    let one : take (length line) whole ≡ line = take_at line (10 ∷ rest) (length line) refl in
    let more : drop (length line + 1) whole ≡ rest = drop_past line 10 rest (length line) refl in (
      subst IsUtf8 one (IsUtf8-take whole (length line) utf8 (IsCharBoundary-before_ascii whole (length line) within small)),
      subst IsUtf8 more (IsUtf8-drop whole (length line + 1) utf8 (IsCharBoundary-after_ascii whole (length line) utf8 within small)),
    )

pub lines_utf8 : (lines : List (List ℕ)) → IsUtf8 (lined lines) → AllByRecursion IsUtf8 lines
lines_utf8 [] utf8 = tt
lines_utf8 (line ∷ lines) utf8 =
    let p = first_utf8 line (lined lines) (subst IsUtf8 (append_assoc line (10 ∷ []) (lined lines)) utf8) in (p.0, lines_utf8 lines p.1)
