-- Spaces at the front of a text.
use Rattle.std.proofs.Common.{◌≡◌, ℕ, cond, List, [], ◌∷◌, refl, ap}
use Rattle.std.proofs.lemmas.Bool.{ne_eqb}
use Rattle.cbt_lex.specs.Lines.{skip_spaces}

-- a text that begins with no space
abbrev pub IsLed : List ℕ → Type 0
IsLed [] = Unit {0}
IsLed (b ∷ bs) = b ≡ 32 → ⊥

pub skip_led : (text : List ℕ) → IsLed text → skip_spaces text ≡ text
skip_led [] led = refl
skip_led (b ∷ bs) led = ap (λ t. cond t (skip_spaces bs) (b ∷ bs)) (ne_eqb b 32 led)

-- what is behind a space and begins with none
pub behind_space : (text : List ℕ) → IsLed text → skip_spaces (32 ∷ text) ≡ text
behind_space text led = skip_led text led

-- a text that is no space with a rest behind it
pub none_skipped : (t : List ℕ) → ((rest : List ℕ) → t ≡ 32 ∷ rest → ⊥) → skip_spaces t ≡ t
none_skipped [] none = refl
none_skipped (b ∷ bs) none = skip_led (b ∷ bs) (λ same. none bs (ap (λ x. x ∷ bs) same))
