-- Words, which are parted by spaces.
use Rattle.std.specs.Prelude.{ℕ, Bool, true, false, ◌==◌, nat_lt, if◌then◌else◌, List, [], ◌∷◌, length, filter}
use Rattle.std.specs.List.{before_first, after_first, position_or_len}
use Rattle.cbt_lex.specs.Lines.{skip_spaces}
use Rattle.cbt_lex.specs.Pieces.{pieces}

abbrev pub has_space : List ℕ → Bool
has_space text = nat_lt (position_or_len (λ b. b == 32) text) (length text)

-- the text before the first space, and what stands behind that and further spaces
abbrev pub word_and_rest : List ℕ → List ℕ × List ℕ
word_and_rest text =
    if has_space text
    then (before_first (λ b. b == 32) text, skip_spaces (after_first (λ b. b == 32) text))
    else (text, [])

-- ---- all words

abbrev pub is_word : List ℕ → Bool
is_word [] = false
is_word (b ∷ bs) = true

-- the words of a text
abbrev pub words_of : List ℕ → List (List ℕ)
words_of text = filter is_word (pieces 32 text)
