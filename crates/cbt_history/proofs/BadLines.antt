-- The first line with which no canonical text goes on, looked for line by line.
use Rattle.std.proofs.Common.{◌≡◌, ℕ, ◌+◌, ◌≤◌, true, false, cond, List, [], ◌∷◌, ◌++◌, length, take, drop, Some, None, sym, ap, ap₂, ◌∙◌}
use Rattle.cbt_lex.specs.Pieces.{pieces}
use Rattle.cbt_history.specs.HistoriesRead.{ended_line}
use Rattle.cbt_history.specs.ScriptsRead.{goes_on, bad_line}
use Rattle.cbt_history.proofs.Pieces.{HasPieces, some_piece, pieces_cut, pieces_whole}
use Rattle.cbt_history.proofs.Sections.{more_is, before_is}

-- the bad line from a place on
abbrev pub bad_line_at : ℕ → List ℕ → ℕ → ℕ
bad_line_at n text at = bad_line n (take at text) (pieces 10 (drop at text))

pub bad_line-cons : (n : ℕ) (before line : List ℕ) (ps : List (List ℕ)) → HasPieces ps
    → bad_line n before (line ∷ ps) ≡ cond (goes_on (before ++ (line ++ 10 ∷ []))) (bad_line (n + 1) (before ++ (line ++ 10 ∷ [])) ps) n
bad_line-cons n before line ps has =
    ap (λ qs. bad_line n before (line ∷ qs)) has.parts
    ∙ ap (λ qs. cond (goes_on (before ++ (line ++ 10 ∷ []))) (bad_line (n + 1) (before ++ (line ++ 10 ∷ [])) qs) n) (sym has.parts)

module _ (n : ℕ) (text line more : List ℕ) (at : ℕ) (within : at ≤ length text) (is : ended_line (drop at text) ≡ Some (line, more)) where
  here : bad_line_at n text at ≡ cond (goes_on (take (at + length line + 1) text)) (bad_line_at (n + 1) text (at + length line + 1)) n
  here =
      ap (bad_line n (take at text)) (pieces_cut (drop at text) line more is) ∙ bad_line-cons n (take at text) line (pieces 10 more) (some_piece more)
      ∙ ap₂ (λ before rest. cond (goes_on before) (bad_line (n + 1) before (pieces 10 rest)) n) (sym (before_is text line more at within is)) (sym (more_is text line more at within is))

  pub goes_further : goes_on (take (at + length line + 1) text) ≡ true → bad_line_at (n + 1) text (at + length line + 1) ≡ bad_line_at n text at
  goes_further goes = sym (here ∙ ap (λ t. cond t (bad_line_at (n + 1) text (at + length line + 1)) n) goes)

  pub stops_here : goes_on (take (at + length line + 1) text) ≡ false → n ≡ bad_line_at n text at
  stops_here stops = sym (here ∙ ap (λ t. cond t (bad_line_at (n + 1) text (at + length line + 1)) n) stops)

pub ends_here : (n : ℕ) (text : List ℕ) (at : ℕ) → ended_line (drop at text) ≡ None → n ≡ bad_line_at n text at
ends_here n text at none = sym (ap (bad_line n (take at text)) (pieces_whole (drop at text) none))
