-- Words that are put together come apart as they were.
use Rattle.std.proofs.Common.{◌≡◌, ℕ, ◌+◌, ◌<◌, true, false, cond, ltb, ◌&&◌, Bool, nat_lt, List, [], ◌∷◌, ◌++◌, length, take, drop, sym, ap, ◌∙◌, subst, arith, append-nil, length-append, take_at}
use Rattle.std.specs.List.{AllByRecursion, position_or_len, list_all}
use Rattle.std.proofs.lemmas.Bool.{lt-ltb, le-ltb, ltb-true, and_parts}
use Rattle.cbt_lex.specs.Lines.{skip_spaces}
use Rattle.cbt_lex.specs.Words.{word_and_rest}
use Rattle.cbt_lex.proofs.ByRecursion.{all_weaker, all_pass}
use Rattle.cbt_lex.proofs.LinesBack.{Closes, closes_at, closes_behind, NoFeed, IsEdged}
use Rattle.cbt_lex.proofs.Pieces.{Halves, drop_past, is_end, Lacking, place_behind, place_past}
use Rattle.cbt_lex.proofs.Spaces.{IsLed}

-- one byte or more, and none of them a space or a control byte
pub record IsWord (word : List ℕ) : Type 0 where
  pub some : 0 < length word
  pub solid : AllByRecursion (λ b. 32 < b) word

-- a word that is written out
abbrev pub is_solid : List ℕ → Bool
is_solid word = ltb 0 (length word) && list_all (ltb 32) word

pub word_literal : (word : List ℕ) → is_solid word ≡ true → IsWord word
word_literal word is =
    let p = and_parts (ltb 0 (length word)) (list_all (ltb 32) word) is in
    record { some = ltb-true 0 (length word) p.0; solid = all_weaker (λ b above. ltb-true 32 b above) word (all_pass (ltb 32) word p.1) }

-- ---- what stands behind a word

-- no byte is a space
abbrev pub NoSpace : List ℕ → Type 0
NoSpace text = Lacking 32 text

pub no_space : (word : List ℕ) → IsWord word → NoSpace word
no_space word is = all_weaker (λ b above same. omega arith) word is.solid

-- what may stand behind a word
abbrev pub IsTail : List ℕ → Type 0
IsTail [] = Unit {0}
IsTail (b ∷ bs) = b ≡ 32

place : (word tail : List ℕ) → NoSpace word → IsTail tail → position_or_len (is_end 32) (word ++ tail) ≡ length word
place word [] none end = ap (position_or_len (is_end 32)) (append-nil word) ∙ place_past 32 word none
place word (b ∷ bs) none end = ap (λ m. position_or_len (is_end 32) (word ++ m ∷ bs)) end ∙ place_behind 32 word bs none

halves_at : (n : ℕ) (word tail : List ℕ) → n ≡ length word → IsTail tail → cond {A = Halves} (nat_lt n (length (word ++ tail))) (take n (word ++ tail), skip_spaces (drop (n + 1) (word ++ tail))) (word ++ tail, [])
    ≡ (word, skip_spaces tail)
halves_at n word [] is end =
    let none : nat_lt n (length (word ++ [])) ≡ false = le-ltb n (length (word ++ [])) (omega (arith, length-append word [])) in
    ap (λ t. cond {A = Halves} t (take n (word ++ []), skip_spaces (drop (n + 1) (word ++ []))) (word ++ [], [])) none ∙ ap (λ w. (w, [])) (append-nil word)
halves_at n word (b ∷ bs) is end =
    let some : nat_lt n (length (word ++ b ∷ bs)) ≡ true = lt-ltb n (length (word ++ b ∷ bs)) (omega (arith, length-append word (b ∷ bs))) in
    let first : take n (word ++ b ∷ bs) ≡ word = take_at word (b ∷ bs) n (sym is) in
    let more : drop (n + 1) (word ++ b ∷ bs) ≡ bs = drop_past word b bs n is in
    let skipped : skip_spaces bs ≡ skip_spaces (b ∷ bs) = ap (λ m. skip_spaces (m ∷ bs)) (sym end) in
    ap (λ t. cond {A = Halves} t (take n (word ++ b ∷ bs), skip_spaces (drop (n + 1) (word ++ b ∷ bs))) (word ++ b ∷ bs, [])) some
    ∙ ap (λ w. (w, skip_spaces (drop (n + 1) (word ++ b ∷ bs)))) first ∙ ap (λ r. (word, skip_spaces r)) more ∙ ap (λ r. (word, r)) skipped

pub word_next : (word tail : List ℕ) → NoSpace word → IsTail tail → word_and_rest (word ++ tail) ≡ (word, skip_spaces tail)
word_next word tail none end = halves_at (position_or_len (is_end 32) (word ++ tail)) word tail (place word tail none end) end

-- ---- words as the ends of lines

led_solid : (word tail : List ℕ) → 0 < length word → AllByRecursion (λ b. 32 < b) word → IsLed (word ++ tail)
led_solid [] tail some solid = absurd (omega arith)
led_solid (b ∷ bs) tail some solid = λ same. (let above : 32 < b = solid.0 in omega arith)

-- a word leads a text
pub led_word : (word tail : List ℕ) → IsWord word → IsLed (word ++ tail)
led_word word tail is = led_solid word tail is.some is.solid

pub led_last : (word : List ℕ) → IsWord word → IsLed word
led_last word is = subst IsLed (append-nil word) (led_word word [] is)

closes_solid : (text : List ℕ) → 0 < length text → AllByRecursion (λ b. 32 < b) text → Closes text
closes_solid [] some solid = absurd (omega arith)
closes_solid (b ∷ []) some solid = closes_at [] b solid.0
closes_solid (b ∷ c ∷ bs) some solid = closes_behind (b ∷ []) (c ∷ bs) (closes_solid (c ∷ bs) (omega arith) solid.1)

pub closes_word : (word : List ℕ) → IsWord word → Closes word
closes_word word is = closes_solid word is.some is.solid

pub one_line_word : (word : List ℕ) → IsWord word → NoFeed word
one_line_word word is = all_weaker (λ b above same. omega arith) word is.solid

pub word_edged : (word : List ℕ) → IsWord word → IsEdged word
word_edged word is = record { some = is.some; led = led_last word is; closes = closes_word word is }
