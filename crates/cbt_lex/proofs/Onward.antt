-- Going on behind the first word of a text.
use Rattle.std.proofs.Common.{◌≡◌, ℕ, ◌+◌, ◌<◌, ◌≤◌, Bool, true, false, ◌==◌, cond, nat_lt, List, [], ◌∷◌, length, take, drop, refl, ap, arith, length-drop}
use Rattle.std.specs.List.{position_or_len}
use Rattle.cbt_lex.specs.Lines.{skip_spaces}
use Rattle.cbt_lex.specs.Words.{word_and_rest, words_of}
use Rattle.cbt_lex.proofs.Parted.{words_begin}
use Rattle.cbt_lex.proofs.Pieces.{Halves}

shorter_if : (t : Bool) (b : ℕ) (bs : List ℕ) → length (skip_spaces bs) ≤ length bs → length (cond t (skip_spaces bs) (b ∷ bs)) ≤ length (b ∷ bs)
shorter_if true b bs ih = omega arith
shorter_if false b bs ih = omega arith

pub skipped_is_shorter : (text : List ℕ) → length (skip_spaces text) ≤ length text
skipped_is_shorter [] = omega arith
skipped_is_shorter (b ∷ bs) = shorter_if (b == 32) b bs (skipped_is_shorter bs)

again_if : (t : Bool) (b : ℕ) (bs : List ℕ) → (b == 32) ≡ t → skip_spaces (skip_spaces bs) ≡ skip_spaces bs → skip_spaces (cond t (skip_spaces bs) (b ∷ bs)) ≡ cond t (skip_spaces bs) (b ∷ bs)
again_if true b bs is ih = ih
again_if false b bs is ih = ap (λ t. cond t (skip_spaces bs) (b ∷ bs)) is

pub skipped_once : (text : List ℕ) → skip_spaces (skip_spaces text) ≡ skip_spaces text
skipped_once [] = refl
skipped_once (b ∷ bs) = again_if (b == 32) b bs refl (skipped_once bs)

led_if : (t : Bool) (b : ℕ) (bs : List ℕ) → (b == 32) ≡ t → cond t (skip_spaces bs) (b ∷ bs) ≡ b ∷ bs → (b == 32) ≡ false
led_if true b bs is same = let e = ap length same in let l = skipped_is_shorter bs in absurd (omega arith)
led_if false b bs is same = is

rest_if : (h : Bool) (n : ℕ) (text : List ℕ) → 0 < length text → length (cond {A = Halves} h (take n text, skip_spaces (drop (n + 1) text)) (text, [])).1 < length text
rest_if true n text some = let a = skipped_is_shorter (drop (n + 1) text) in omega (arith, length-drop (n + 1) text)
rest_if false n text some = some

-- what stands behind a word is shorter than the text
pub rest_is_shorter : (text : List ℕ) → 0 < length text → length (word_and_rest text).1 < length text
rest_is_shorter text some = rest_if (nat_lt (position_or_len (λ b. b == 32) text) (length text)) (position_or_len (λ b. b == 32) text) text some

led_rest_if : (h : Bool) (n : ℕ) (text : List ℕ) → skip_spaces (cond {A = Halves} h (take n text, skip_spaces (drop (n + 1) text)) (text, [])).1
    ≡ (cond {A = Halves} h (take n text, skip_spaces (drop (n + 1) text)) (text, [])).1
led_rest_if true n text = skipped_once (drop (n + 1) text)
led_rest_if false n text = refl

-- it begins with no space
pub rest_is_led : (text : List ℕ) → skip_spaces (word_and_rest text).1 ≡ (word_and_rest text).1
rest_is_led text = led_rest_if (nat_lt (position_or_len (λ b. b == 32) text) (length text)) (position_or_len (λ b. b == 32) text) text

-- the words of a text that begins with no space
pub words_onward : (text : List ℕ) → 0 < length text → skip_spaces text ≡ text → words_of text ≡ (word_and_rest text).0 ∷ words_of (word_and_rest text).1
words_onward [] some led = absurd (omega arith)
words_onward (b ∷ bs) some led = words_begin b bs (led_if (b == 32) b bs refl led)
