-- A text that is written in parts.
use Rattle.std.proofs.Common.{◌≡◌, ℕ, List, [], ◌++◌, ap, ◌∙◌}

-- three parts, each known by what it says
pub three_parts : (t0 t1 t2 t3 a b c a' b' c' : List ℕ) → t0 ≡ [] → t1 ≡ t0 ++ a → t2 ≡ t1 ++ b → t3 ≡ t2 ++ c → a ≡ a' → b ≡ b' → c ≡ c'
    → t3 ≡ a' ++ b' ++ c'
three_parts t0 t1 t2 t3 a b c a' b' c' none first second third first-is second-is third-is =
    let front : t1 ≡ a = first ∙ ap (λ x. x ++ a) none in
    cc
