-- What holds of each item of a list, said by recursion.
use Rattle.std.proofs.Common.{◌≡◌, Bool, true, List, [], ◌∷◌, ◌++◌}
use Rattle.std.specs.List.{AllByRecursion, list_all}
use Rattle.std.proofs.lemmas.Bool.{and_parts}

pub all_weaker : {X : Type 0} {P Q : X → Type 0} → ((x : X) → P x → Q x) → (xs : List X) → AllByRecursion P xs → AllByRecursion Q xs
all_weaker weaker [] all = tt
all_weaker weaker (x ∷ xs) all = (weaker x all.0, all_weaker weaker xs all.1)

pub all_behind : {X : Type 0} (P : X → Type 0) (xs ys : List X) → AllByRecursion P xs → AllByRecursion P ys → AllByRecursion P (xs ++ ys)
all_behind P [] ys one two = two
all_behind P (x ∷ xs) ys one two = (one.0, all_behind P xs ys one.1 two)

-- by a test
pub all_pass : {X : Type 0} (p : X → Bool) (xs : List X) → list_all p xs ≡ true → AllByRecursion (λ x. p x ≡ true) xs
all_pass p [] all = tt
all_pass p (x ∷ xs) all = let parts = and_parts (p x) (list_all p xs) all in (parts.0, all_pass p xs parts.1)
