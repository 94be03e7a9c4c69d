-- Texts that are put together.
use Rattle.std.proofs.Common.{◌≡◌, ℕ, List, [], ◌∷◌, ◌++◌, append_assoc, sym, ap, ◌∙◌}

-- a text, a space and another text
pub spaced : (out mid new one two : List ℕ) → mid ≡ out ++ one → new ≡ mid ++ 32 ∷ two → new ≡ out ++ (one ++ 32 ∷ [] ++ two)
spaced out mid new one two first second =
    second ∙ ap (λ x. x ++ 32 ∷ two) first ∙ append_assoc out one (32 ∷ two) ∙ ap (λ x. out ++ x) (sym (append_assoc one (32 ∷ []) two))
