-- The lines of a text.
use Rattle.std.specs.Prelude.{◌≢◌, ℕ, ◌+◌, ◌==◌, if◌then◌else◌, List, [], ◌∷◌, ◌++◌, take, drop, reverse, position, codes, Option, Some, None}
use Rattle.std.specs.List.{All}
use Rattle.cbt_lex.specs.Pieces.{pieces}

-- a text without the spaces at its front
abbrev pub skip_spaces : List ℕ → List ℕ
skip_spaces [] = []
skip_spaces (b ∷ bs) = if b == 32 then skip_spaces bs else b ∷ bs

-- a line without the spaces before and behind it
abbrev pub trimmed : List ℕ → List ℕ
trimmed line = reverse (skip_spaces (reverse (skip_spaces line)))

abbrev pub past_return : List ℕ → List ℕ
past_return [] = []
past_return (b ∷ bs) = if b == 13 then bs else b ∷ bs

-- a line without one carriage return at its end
abbrev pub without_return : List ℕ → List ℕ
without_return line = reverse (past_return (reverse line))

-- the text before a line feed at a place, and behind it; a last line without one is kept whole
abbrev pub cut_at : Option ℕ → List ℕ → List ℕ × List ℕ
cut_at (Some k) text = (without_return (take k text), drop (k + 1) text)
cut_at None text = (text, [])

-- the first line of a text, and what stands behind it
abbrev pub line_and_rest : List ℕ → List ℕ × List ℕ
line_and_rest text = cut_at (position (λ b. b == 10) text) text

-- ---- all lines

-- what stands behind the last line feed is a line only where something stands there
abbrev pub last_line : List ℕ → List (List ℕ)
last_line [] = []
last_line (b ∷ bs) = (b ∷ bs) ∷ []

-- the pieces of a text between line feeds as its lines
abbrev pub ended : List (List ℕ) → List (List ℕ)
ended [] = []
ended (piece ∷ []) = last_line piece
ended (piece ∷ next ∷ pieces) = without_return piece ∷ ended (next ∷ pieces)

-- the lines of a text
abbrev pub lines_of : List ℕ → List (List ℕ)
lines_of text = ended (pieces 10 text)

-- lines as a text, each ended by a line feed
abbrev pub lined : List (List ℕ) → List ℕ
lined [] = []
lined (line ∷ lines) = line ++ codes "\n" ++ lined lines

-- no byte of a text is a line feed
abbrev pub IsOneLine : List ℕ → Type 0
IsOneLine text = All (λ b. b ≢ 10) text
