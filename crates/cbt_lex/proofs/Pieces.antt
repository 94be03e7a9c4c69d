-- The first piece of a text, and those behind it.
use Rattle.std.proofs.Common.{◌≡◌, ℕ, suc, ◌+◌, Bool, true, false, ◌==◌, cond, nat_lt, not, List, [], ◌∷◌, ◌++◌, length, take, drop, refl, sym, ap, ◌∙◌, arith, append_assoc, length-append, drop_at}
use Prim.Native.Nat.compare
use Rattle.std.specs.List.{AllByRecursion, position_or_len}
use Rattle.std.proofs.lemmas.Bool.{ne_eqb, eq-eqb}
use Rattle.std.proofs.lemmas.Bool.Decides.{nat_tests}
use Rattle.cbt_lex.specs.Pieces.{pieces, in_first}

-- what stands before a place, and behind it
abbrev pub Halves : Type 0
Halves = List ℕ × List ℕ

-- what stands behind a text and one byte more
pub drop_past : (text : List ℕ) (b : ℕ) (rest : List ℕ) (n : ℕ) → n ≡ length text → drop (n + 1) (text ++ b ∷ rest) ≡ rest
drop_past text b rest n is =
    let long : length (text ++ b ∷ []) ≡ n + 1 = omega (arith, length-append text (b ∷ [])) in
    ap (drop (n + 1)) (sym (append_assoc text (b ∷ []) rest)) ∙ drop_at (text ++ b ∷ []) rest (n + 1) long

module _ (c : ℕ) where
  abbrev pub is_end : ℕ → Bool
  is_end b = b == c

  -- the pieces of a text that is parted at this place first
  abbrev pub cut : ℕ → List ℕ → List (List ℕ)
  cut n text = take n text ∷ cond (nat_lt n (length text)) (pieces c (drop (n + 1) text)) []

  cut_next : (b n : ℕ) (bs : List ℕ) → in_first b (cut n bs) ≡ cut (1 + n) (b ∷ bs)
  cut_next b n bs = let e : 1 + n ≡ suc n = omega arith in let f : suc n + 1 ≡ suc (n + 1) = omega arith in rw (e, f, compare.suc-suc) refl

  first_piece_if : (t : Bool) (b : ℕ) (bs : List ℕ) → pieces c bs ≡ cut (position_or_len is_end bs) bs
      → cond t ([] ∷ pieces c bs) (in_first b (pieces c bs)) ≡ cut (cond (not t) (1 + position_or_len is_end bs) 0) (b ∷ bs)
  first_piece_if true b bs ih = let e : nat_lt 0 (suc (length bs)) ≡ true = grind (arith, nat_tests) in ap (λ (t : Bool). [] ∷ cond t (pieces c bs) []) (sym e)
  first_piece_if false b bs ih = ap (in_first b) ih ∙ cut_next b (position_or_len is_end bs) bs

  pub first_piece : (text : List ℕ) → pieces c text ≡ cut (position_or_len is_end text) text
  first_piece [] = refl
  first_piece (b ∷ bs) = first_piece_if (b == c) b bs (first_piece bs)

  -- no byte is c
  abbrev pub Lacking : List ℕ → Type 0
  Lacking text = AllByRecursion (λ b. b ≡ c → ⊥) text

  -- the place of the first c
  pub place_behind : (text rest : List ℕ) → Lacking text → position_or_len is_end (text ++ c ∷ rest) ≡ length text
  place_behind [] rest none = ap (λ t. cond (not t) (1 + position_or_len is_end rest) 0) (eq-eqb c c refl)
  place_behind (b ∷ bs) rest none =
      let e : 1 + length bs ≡ suc (length bs) = omega arith in
      ap (λ t. cond (not t) (1 + position_or_len is_end (bs ++ c ∷ rest)) 0) (ne_eqb b c none.0) ∙ ap (λ n. 1 + n) (place_behind bs rest none.1) ∙ e

  pub place_past : (text : List ℕ) → Lacking text → position_or_len is_end text ≡ length text
  place_past [] none = refl
  place_past (b ∷ bs) none =
      let e : 1 + length bs ≡ suc (length bs) = omega arith in
      ap (λ t. cond (not t) (1 + position_or_len is_end bs) 0) (ne_eqb b c none.0) ∙ ap (λ n. 1 + n) (place_past bs none.1) ∙ e

  pub pieces_behind : (text rest : List ℕ) → Lacking text → pieces c (text ++ c ∷ rest) ≡ text ∷ pieces c rest
  pieces_behind [] rest none = ap (λ t. cond t ([] ∷ pieces c rest) (in_first c (pieces c rest))) (eq-eqb c c refl)
  pieces_behind (b ∷ bs) rest none =
      ap (λ t. cond t ([] ∷ pieces c (bs ++ c ∷ rest)) (in_first b (pieces c (bs ++ c ∷ rest)))) (ne_eqb b c none.0) ∙ ap (in_first b) (pieces_behind bs rest none.1)
