-- The first line of a text, and the lines behind it.
use Rattle.std.proofs.Common.{◌≡◌, ℕ, ◌+◌, ◌≤◌, Bool, true, false, cond, nat_lt, List, [], ◌∷◌, ◌++◌, length, get_or, take, drop, not, Some, None, refl, ap, ◌∙◌, arith}
use Rattle.std.specs.List.{position_or_len}
use Rattle.std.proofs.Math.Seq.{take-length}
use Rattle.std.proofs.lemmas.Bool.{ltb-false, ltb-true, eqb-true}
use Rattle.std.proofs.lemmas.List.Sums.{prefix_len-le-length, split_at_first}
use Rattle.std.proofs.lemmas.List.Quantifiers.{position-Some}
use Rattle.cbt_lex.specs.Pieces.{pieces}
use Rattle.cbt_lex.proofs.Pieces.{Halves, is_end, first_piece}
use Rattle.cbt_history.specs.HistoriesRead.{cut_at, ended_line}

cut_if : (t : Bool) (n : ℕ) (text line more : List ℕ) → cut_at (cond t (Some n) None) text ≡ Some (line, more)
    → take n text ∷ cond t (pieces 10 (drop (n + 1) text)) [] ≡ line ∷ pieces 10 more
cut_if true n text line more is = let e : ◌≡◌ {A = Halves} (take n text, drop (n + 1) text) (line, more) = cc in ap (λ (p : Halves). p.0 ∷ pieces 10 p.1) e
cut_if false n text line more is = absurd (cc)

-- a line with its feed
pub pieces_cut : (text line more : List ℕ) → ended_line text ≡ Some (line, more) → pieces 10 text ≡ line ∷ pieces 10 more
pieces_cut text line more is = first_piece 10 text ∙ cut_if (nat_lt (position_or_len (is_end 10) text) (length text)) (position_or_len (is_end 10) text) text line more is

whole_if : (t : Bool) (text line more : List ℕ) → nat_lt (position_or_len (is_end 10) text) (length text) ≡ t
    → cut_at (cond t (Some (position_or_len (is_end 10) text)) None) text ≡ Some (line, more) → text ≡ line ++ 10 ∷ more
whole_if true text line more low is =
    let n = position_or_len (is_end 10) text in
    let e : ◌≡◌ {A = Halves} (take n text, drop (n + 1) text) (line, more) = cc in
    let byte : get_or text n 0 ≡ 10 = eqb-true (get_or text n 0) 10 (position-Some (is_end 10) text n 0 (ap (λ t. cond t (Some n) None) low)).1 in
    split_at_first (is_end 10) text 0 (ltb-true n (length text) low)
    ∙ ap (λ b. take n text ++ (b ∷ drop (n + 1) text)) byte ∙ ap (λ (p : Halves). p.0 ++ 10 ∷ p.1) e
whole_if false text line more low is = absurd (cc)

pub whole_cut : (text line more : List ℕ) → ended_line text ≡ Some (line, more) → text ≡ line ++ 10 ∷ more
whole_cut text line more is = whole_if (nat_lt (position_or_len (is_end 10) text) (length text)) text line more refl is

none_if : (t : Bool) (n : ℕ) (text : List ℕ) → nat_lt n (length text) ≡ t → n ≤ length text → cut_at (cond t (Some n) None) text ≡ None
    → take n text ∷ cond t (pieces 10 (drop (n + 1) text)) [] ≡ text ∷ []
none_if true n text is le none = absurd (cc)
none_if false n text is le none = let k = ltb-false n (length text) is in let e : n ≡ length text = omega arith in ap (λ m. take m text ∷ []) e ∙ ap (λ t. t ∷ []) (take-length text)

-- what no feed ends
pub pieces_whole : (text : List ℕ) → ended_line text ≡ None → pieces 10 text ≡ text ∷ []
pieces_whole text none =
    first_piece 10 text
    ∙ none_if (nat_lt (position_or_len (is_end 10) text) (length text)) (position_or_len (is_end 10) text) text refl (prefix_len-le-length (λ x. not (is_end 10 x)) text) none

-- there is a first piece
pub record HasPieces (ps : List (List ℕ)) : Type 0 where
  pub first : List ℕ
  pub behind : List (List ℕ)
  pub parts : ps ≡ first ∷ behind

pub some_piece : (text : List ℕ) → HasPieces (pieces 10 text)
some_piece text =
    let n = position_or_len (is_end 10) text in
    record { first = take n text; behind = cond (nat_lt n (length text)) (pieces 10 (drop (n + 1) text)) []; parts = first_piece 10 text }
