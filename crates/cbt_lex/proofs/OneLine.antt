-- Where a text has no line feed, neither have its parts; and no line of a text has one.
use Rattle.std.proofs.Common.{◌≡◌, ◌≢◌, ℕ, ◌+◌, ◌==◌, Bool, true, false, cond, List, [], ◌∷◌, take, drop, reverse, refl, sym, subst, arith}
use Rattle.std.specs.List.{All, position_or_len}
use Rattle.std.proofs.lemmas.List.Elements.{All-nil, All-cons, All-head, All-tail, All-push, All-drop}
use Rattle.std.proofs.lemmas.Bool.Decides.{nat_tests}
use Rattle.std.proofs.lemmas.Grind.{reverse_onto}
use Rattle.cbt_lex.specs.Lines.{skip_spaces, trimmed, past_return, without_return, last_line, ended, lines_of, IsOneLine}
use Rattle.cbt_lex.specs.Pieces.{in_first, pieces}
use Rattle.cbt_lex.specs.Words.{has_space, word_and_rest}
use Rattle.cbt_lex.proofs.Pieces.{Halves}

pub one_line-reversed : (text : List ℕ) → IsOneLine text → IsOneLine (reverse text)
one_line-reversed [] one = one
one_line-reversed (b ∷ bs) one = subst IsOneLine (sym (reverse_onto bs b [])) (All-push (λ x. x ≢ 10) (reverse bs) b (one_line-reversed bs (All-tail (λ x. x ≢ 10) b bs one)) (All-head (λ x. x ≢ 10) b bs one))

skipped_if : (t : Bool) (b : ℕ) (bs : List ℕ) → IsOneLine (b ∷ bs) → IsOneLine (skip_spaces bs) → IsOneLine (cond t (skip_spaces bs) (b ∷ bs))
skipped_if true b bs one ih = ih
skipped_if false b bs one ih = one

pub skipped-one_line : (text : List ℕ) → IsOneLine text → IsOneLine (skip_spaces text)
skipped-one_line [] one = one
skipped-one_line (b ∷ bs) one = skipped_if (b == 32) b bs one (skipped-one_line bs (All-tail (λ x. x ≢ 10) b bs one))

pub trimmed-one_line : (line : List ℕ) → IsOneLine line → IsOneLine (trimmed line)
trimmed-one_line line one =
    one_line-reversed (skip_spaces (reverse (skip_spaces line)))
    (skipped-one_line (reverse (skip_spaces line)) (one_line-reversed (skip_spaces line) (skipped-one_line line one)))

rest_if : (h : Bool) (n : ℕ) (text : List ℕ) → IsOneLine text → IsOneLine (cond {A = Halves} h (take n text, skip_spaces (drop (n + 1) text)) (text, [])).1
rest_if true n text one = skipped-one_line (drop (n + 1) text) (All-drop (λ x. x ≢ 10) (n + 1) text one)
rest_if false n text one = All-nil (λ x. x ≢ 10)

-- what stands behind the first word
pub rest-one_line : (text : List ℕ) → IsOneLine text → IsOneLine (word_and_rest text).1
rest-one_line text one = rest_if (has_space text) (position_or_len (λ b. b == 32) text) text one

-- ---- lines

-- each of some texts has none
abbrev Each : List (List ℕ) → Type 0
Each [] = Unit {0}
Each (text ∷ texts) = IsOneLine text × Each texts

first-each : (b : ℕ) → b ≢ 10 → (texts : List (List ℕ)) → Each texts → Each (in_first b texts)
first-each b other [] each = (All-cons (λ x. x ≢ 10) b [] other (All-nil (λ x. x ≢ 10)), tt)
first-each b other (text ∷ texts) each = (All-cons (λ x. x ≢ 10) b text other each.0, each.1)

no_feed : (b : ℕ) → (b == 10) ≡ false → b ≢ 10
no_feed b e same = grind (arith, nat_tests)

pieces_if : (t : Bool) (b : ℕ) (bs : List ℕ) → (b == 10) ≡ t → Each (pieces 10 bs) → Each (cond t ([] ∷ pieces 10 bs) (in_first b (pieces 10 bs)))
pieces_if true b bs is each = (All-nil (λ x. x ≢ 10), each)
pieces_if false b bs is each = first-each b (no_feed b is) (pieces 10 bs) each

pieces-each : (text : List ℕ) → Each (pieces 10 text)
pieces-each [] = (All-nil (λ x. x ≢ 10), tt)
pieces-each (b ∷ bs) = pieces_if (b == 10) b bs refl (pieces-each bs)

past_if : (t : Bool) (b : ℕ) (bs : List ℕ) → IsOneLine (b ∷ bs) → IsOneLine (cond t bs (b ∷ bs))
past_if true b bs one = All-tail (λ x. x ≢ 10) b bs one
past_if false b bs one = one

past-one_line : (text : List ℕ) → IsOneLine text → IsOneLine (past_return text)
past-one_line [] one = one
past-one_line (b ∷ bs) one = past_if (b == 13) b bs one

without-one_line : (line : List ℕ) → IsOneLine line → IsOneLine (without_return line)
without-one_line line one = one_line-reversed (past_return (reverse line)) (past-one_line (reverse line) (one_line-reversed line one))

last-each : (text : List ℕ) → IsOneLine text → Each (last_line text)
last-each [] one = tt
last-each (b ∷ bs) one = (one, tt)

ended-each : (texts : List (List ℕ)) → Each texts → Each (ended texts)
ended-each [] each = tt
ended-each (text ∷ []) each = last-each text each.0
ended-each (text ∷ next ∷ texts) each = (without-one_line text each.0, ended-each (next ∷ texts) each.1)

all-each : (texts : List (List ℕ)) → Each texts → All IsOneLine texts
all-each [] each = All-nil IsOneLine
all-each (text ∷ texts) each = All-cons IsOneLine text texts each.0 (all-each texts each.1)

-- no line of a text has a line feed
pub lines-one_line : (text : List ℕ) → All IsOneLine (lines_of text)
lines-one_line text = all-each (lines_of text) (ended-each (pieces 10 text) (pieces-each text))
