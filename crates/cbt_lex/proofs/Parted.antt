-- A text's words are its first word and those behind it.
use Rattle.std.proofs.Common.{◌≡◌, ℕ, suc, ◌+◌, ◌≤◌, Bool, true, false, ◌==◌, cond, nat_lt, not, List, [], ◌∷◌, length, take, drop, filter, refl, sym, ap, ap₂, ◌∙◌, subst, arith}
use Rattle.std.specs.List.{position_or_len}
use Rattle.std.proofs.lemmas.Bool.{ltb-false}
use Rattle.std.proofs.Math.Seq.{take-length}
use Rattle.std.proofs.lemmas.List.Sums.{prefix_len-le-length}
use Rattle.cbt_lex.specs.Lines.{skip_spaces}
use Rattle.cbt_lex.specs.Pieces.{pieces, in_first}
use Rattle.cbt_lex.specs.Words.{word_and_rest, is_word, words_of}
use Rattle.cbt_lex.proofs.Pieces.{Halves, is_end, first_piece}

-- spaces at the front part no words
skipped_if : (t : Bool) (b : ℕ) (bs : List ℕ) → (b == 32) ≡ t → words_of (skip_spaces bs) ≡ words_of bs → words_of (cond t (skip_spaces bs) (b ∷ bs)) ≡ words_of (b ∷ bs)
skipped_if true b bs is ih = ih ∙ ap (λ t. filter is_word (cond t ([] ∷ pieces 32 bs) (in_first b (pieces 32 bs)))) (sym is)
skipped_if false b bs is ih = refl

pub words_past_spaces : (text : List ℕ) → words_of (skip_spaces text) ≡ words_of text
words_past_spaces [] = refl
words_past_spaces (b ∷ bs) = skipped_if (b == 32) b bs refl (words_past_spaces bs)

-- a first piece that is not empty, and the words behind it
taken_if : (h : Bool) (n : ℕ) (b : ℕ) (bs : List ℕ) → nat_lt n (length (b ∷ bs)) ≡ h → n ≤ length (b ∷ bs)
    → filter is_word (cond h (pieces 32 (drop (n + 1) (b ∷ bs))) []) ≡ words_of (cond {A = Halves} h (take n (b ∷ bs), skip_spaces (drop (n + 1) (b ∷ bs))) (b ∷ bs, [])).1
taken_if true n b bs is le = sym (words_past_spaces (drop (n + 1) (b ∷ bs)))
taken_if false n b bs is le = refl

word_if : (h : Bool) (n : ℕ) (b : ℕ) (bs : List ℕ) → nat_lt n (length (b ∷ bs)) ≡ h → n ≤ length (b ∷ bs)
    → take n (b ∷ bs) ≡ (cond {A = Halves} h (take n (b ∷ bs), skip_spaces (drop (n + 1) (b ∷ bs))) (b ∷ bs, [])).0
word_if true n b bs is le = refl
word_if false n b bs is le = let k = ltb-false n (length (b ∷ bs)) is in let e : n ≡ length (b ∷ bs) = omega arith in ap (λ m. take m (b ∷ bs)) e ∙ take-length (b ∷ bs)

some_word : (n b : ℕ) (bs : List ℕ) (rest : List (List ℕ)) → filter is_word (take (1 + n) (b ∷ bs) ∷ rest) ≡ take (1 + n) (b ∷ bs) ∷ filter is_word rest
some_word n b bs rest = let e : 1 + n ≡ suc n = omega arith in rw e refl

-- a text that begins with no space begins with a word
pub words_begin : (b : ℕ) (bs : List ℕ) → (b == 32) ≡ false → words_of (b ∷ bs) ≡ (word_and_rest (b ∷ bs)).0 ∷ words_of (word_and_rest (b ∷ bs)).1
words_begin b bs other =
    let n = position_or_len (is_end 32) (b ∷ bs) in
    let le : n ≤ length (b ∷ bs) = prefix_len-le-length (λ x. not (is_end 32 x)) (b ∷ bs) in
    let place : n ≡ 1 + position_or_len (is_end 32) bs = ap (λ t. cond (not t) (1 + position_or_len (is_end 32) bs) 0) other in
    let rest = cond (nat_lt n (length (b ∷ bs))) (pieces 32 (drop (n + 1) (b ∷ bs))) [] in
    ap (filter is_word) (first_piece 32 (b ∷ bs))
    ∙ subst (λ m. filter is_word (take m (b ∷ bs) ∷ rest) ≡ take m (b ∷ bs) ∷ filter is_word rest) (sym place) (some_word (position_or_len (is_end 32) bs) b bs rest)
    ∙ ap₂ (λ (w : List ℕ) (ws : List (List ℕ)). w ∷ ws) (word_if (nat_lt n (length (b ∷ bs))) n b bs refl le) (taken_if (nat_lt n (length (b ∷ bs))) n b bs refl le)
