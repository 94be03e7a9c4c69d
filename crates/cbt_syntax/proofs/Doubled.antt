-- Names in which each backtick stands twice, cut at the first one.
use Rattle.std.proofs.Common.{◌≡◌, ℕ, suc, ◌<◌, cond, List, [], ◌∷◌, ◌++◌, length, get_or, refl, sym, ap, ◌∙◌, arith, append_assoc}
use Rattle.std.proofs.lemmas.Bool.{ne_eqb}
use Rattle.cbt_subdoc.specs.Written.{doubled}

abbrev HasNone : List ℕ → Type 0
HasNone xs = (i : ℕ) → i < length xs → get_or xs i 0 ≡ 96 → ⊥

tail_has_none : (x : ℕ) (xs : List ℕ) → HasNone (x ∷ xs) → HasNone xs
tail_has_none x xs none i inside = none (suc i) (omega arith)

doubled-first : (x : ℕ) (xs : List ℕ) → (x ≡ 96 → ⊥) → doubled (x ∷ xs) ≡ x ∷ doubled xs
doubled-first x xs other = ap (λ t. cond t (96 ∷ 96 ∷ doubled xs) (x ∷ doubled xs)) (ne_eqb x 96 other)

doubled-plain : (xs : List ℕ) → HasNone xs → doubled xs ≡ xs
doubled-plain [] none = refl
doubled-plain (x ∷ xs) none = doubled-first x xs (none 0 (omega arith)) ∙ ap (λ ys. x ∷ ys) (doubled-plain xs (tail_has_none x xs none))

doubled-cut : (xs ys : List ℕ) → HasNone xs → doubled (xs ++ (96 ∷ ys)) ≡ xs ++ (96 ∷ 96 ∷ doubled ys)
doubled-cut [] ys none = refl
doubled-cut (x ∷ xs) ys none = doubled-first x (xs ++ (96 ∷ ys)) (none 0 (omega arith)) ∙ ap (λ zs. x ∷ zs) (doubled-cut xs ys (tail_has_none x xs none))

pub step-more : (out mid new rest piece behind whole : List ℕ) → (rest ≡ piece ++ (96 ∷ behind)) × ((i : ℕ) → i < length piece → get_or piece i 0 ≡ 96 → ⊥)
    → mid ≡ out ++ piece → new ≡ mid ++ (96 ∷ 96 ∷ []) → out ++ doubled rest ≡ whole → new ++ doubled behind ≡ whole
step-more out mid new rest piece behind whole cut first second before =
    let e : out ++ doubled rest ≡ out ++ (piece ++ (96 ∷ 96 ∷ doubled behind)) = ap (λ r. out ++ r) (ap doubled cut.0 ∙ doubled-cut piece behind cut.1) in
    let made : new ++ doubled behind ≡ out ++ (piece ++ (96 ∷ 96 ∷ doubled behind)) = rw (second, first) (simp append_assoc) in
    made ∙ sym e ∙ before

pub step-done : (out new rest whole : List ℕ) → HasNone rest → new ≡ out ++ rest → out ++ doubled rest ≡ whole → new ≡ whole
step-done out new rest whole none made before = made ∙ ap (λ r. out ++ r) (sym (doubled-plain rest none)) ∙ before
