-- A text's lines are its first line and those behind it.
use Rattle.std.proofs.Common.{◌≡◌, ℕ, ◌+◌, ◌≤◌, Bool, true, false, cond, nat_lt, not, List, [], ◌∷◌, length, take, drop, Some, None, refl, sym, ap, ◌∙◌, arith}
use Rattle.std.specs.List.{position_or_len}
use Rattle.std.proofs.Math.Seq.{take-length}
use Rattle.std.proofs.lemmas.Bool.{ltb-false}
use Rattle.std.proofs.lemmas.List.Sums.{prefix_len-le-length}
use Rattle.cbt_lex.specs.Lines.{line_and_rest, cut_at, without_return, last_line, ended, lines_of}
use Rattle.cbt_lex.specs.Pieces.{pieces}
use Rattle.cbt_lex.proofs.Pieces.{is_end, first_piece}

-- a first piece with its feed, and what stands behind it
pub with_feed : (line rest : List ℕ) → ended (line ∷ pieces 10 rest) ≡ without_return line ∷ lines_of rest
with_feed line rest = let e = first_piece 10 rest in ap (λ q. ended (line ∷ q)) e ∙ ap (λ q. without_return line ∷ ended q) (sym e)

first_line_if : (h : Bool) (n b : ℕ) (bs : List ℕ) → nat_lt n (length (b ∷ bs)) ≡ h → n ≤ length (b ∷ bs)
    → ended (take n (b ∷ bs) ∷ cond h (pieces 10 (drop (n + 1) (b ∷ bs))) [])
    ≡ (cut_at (cond h (Some n) None) (b ∷ bs)).0 ∷ lines_of (cut_at (cond h (Some n) None) (b ∷ bs)).1
first_line_if true n b bs is le = with_feed (take n (b ∷ bs)) (drop (n + 1) (b ∷ bs))
first_line_if false n b bs is le =
    let k = ltb-false n (length (b ∷ bs)) is in let e : n ≡ length (b ∷ bs) = omega arith in ap (λ m. last_line (take m (b ∷ bs))) e ∙ ap last_line (take-length (b ∷ bs))

-- a text that is not empty begins with a line
pub lines_begin : (b : ℕ) (bs : List ℕ) → lines_of (b ∷ bs) ≡ (line_and_rest (b ∷ bs)).0 ∷ lines_of (line_and_rest (b ∷ bs)).1
lines_begin b bs =
    let n = position_or_len (is_end 10) (b ∷ bs) in
    ap ended (first_piece 10 (b ∷ bs)) ∙ first_line_if (nat_lt n (length (b ∷ bs))) n b bs refl (prefix_len-le-length (λ x. not (is_end 10 x)) (b ∷ bs))
