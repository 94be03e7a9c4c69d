-- Lines put together.
use Rattle.std.proofs.Common.{◌≡◌, ℕ, List, [], ◌∷◌, ◌++◌, sym, ap, ◌∙◌, append_assoc, get_or, drop, length, ◌+◌, ◌<◌, suc, drop-cons, add-one}
use Rattle.std.proofs.lemmas.List.{append-nil}
use Rattle.cbt_lex.specs.Lines.{lined}
use Rattle.cbt_lex.proofs.LinesBack.{lined_append}

-- further lines behind some
pub grown : (out next : List ℕ) (lines more : List (List ℕ)) → out ≡ lined lines → next ≡ out ++ lined more → next ≡ lined (lines ++ more)
grown out next lines more same is = is ∙ ap (λ x. x ++ lined more) same ∙ sym (lined_append lines more)

-- a transaction's first line in three pieces, its operations and its end
pub plan_lined : (out a b c e : List ℕ) (ops : List (List ℕ)) → out ++ a ++ b ++ (c ++ 10 ∷ []) ++ lined ops ++ (e ++ 10 ∷ []) ≡ out ++ lined ((a ++ b ++ c) ∷ (ops ++ e ∷ []))
plan_lined out a b c e ops = rw (lined_append ops (e ∷ [])) (simp (append_assoc, append-nil))

pub plan_written : (out o1 o2 o3 o4 o5 a b c e : List ℕ) (ops : List (List ℕ)) → o1 ≡ out ++ a → o2 ≡ o1 ++ b → o3 ≡ o2 ++ (c ++ 10 ∷ []) → o4 ≡ o3 ++ lined ops → o5 ≡ o4 ++ (e ++ 10 ∷ [])
    → o5 ≡ out ++ lined ((a ++ b ++ c) ∷ (ops ++ e ∷ []))
plan_written out o1 o2 o3 o4 o5 a b c e ops p q r s t =
    t ∙ ap (λ x. x ++ (e ++ 10 ∷ [])) (s ∙ ap (λ x. x ++ lined ops) (r ∙ ap (λ x. x ++ (c ++ 10 ∷ [])) (q ∙ ap (λ x. x ++ b) p))) ∙ plan_lined out a b c e ops

-- the lines of one thing, and those of the things behind it
pub next_written : (now next all : List ℕ) (lines more : List (List ℕ)) → next ≡ now ++ lined lines → now ++ lined (lines ++ more) ≡ all → next ++ lined more ≡ all
next_written now next all lines more is same =
    ap (λ x. x ++ lined more) is ∙ append_assoc now (lined lines) (lined more) ∙ ap (λ x. now ++ x) (sym (lined_append lines more)) ∙ same

-- a line, the lines of one thing, and those of the things behind it
pub named_written : (now named next all line : List ℕ) (lines more : List (List ℕ)) → named ≡ now ++ (line ++ 10 ∷ []) → next ≡ named ++ lined lines
    → now ++ lined (line ∷ (lines ++ more)) ≡ all → next ++ lined more ≡ all
named_written now named next all line lines more head is same =
    next_written named next all lines more is
    (ap (λ x. x ++ lined (lines ++ more)) head ∙ append_assoc now (line ++ 10 ∷ []) (lined (lines ++ more)) ∙ same)

-- what is left of a list at an item
pub at_item : {X : Type 0} (xs : List X) (i : ℕ) (x : X) → i < length xs → x ≡ get_or xs i x → drop i xs ≡ x ∷ drop (i + 1) xs
at_item xs i x low is = drop-cons xs i x low ∙ ap (λ y. y ∷ drop (suc i) xs) (sym is) ∙ ap (λ k. x ∷ drop k xs) (sym (add-one i))
