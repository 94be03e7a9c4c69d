-- The numbers that actors have by their names.
use Rattle.std.proofs.Common.{◌≡◌, ℕ, zero, suc, ◌+◌, ◌<◌, List, [], ◌∷◌, ◌++◌, length, get_or, Some, None, ◌≢◌, refl, sym, ap, ◌∙◌, arith}
use Rattle.std.specs.List.{AllByRecursion, All}
use Rattle.std.proofs.lemmas.List.Elements.{All-head, All-tail}
use Rattle.cbt_base.specs.Keyed.{at_key}
use Rattle.cbt_model.specs.Keys.{doc_cmp}
use Rattle.cbt_script.specs.Course.{Actors, with_actor}
use Rattle.cbt_script.specs.Rules.{AreDistinct}
use Rattle.cbt_script.proofs.KeysBack.{at_other, at_same, longer}

-- the actors with further ones, in the order of their names
abbrev pub actors_after : List (List ℕ) → Actors → Actors
actors_after [] actors = actors
actors_after (name ∷ names) actors = actors_after names (with_actor name actors)

pub actors_append : (a b : List (List ℕ)) (actors : Actors) → actors_after (a ++ b) actors ≡ actors_after b (actors_after a actors)
actors_append [] b actors = refl
actors_append (name ∷ names) b actors = actors_append names b (with_actor name actors)

-- no actor has one of these names
abbrev pub NoneNamed : Actors → List (List ℕ) → Type 0
NoneNamed actors names = AllByRecursion (λ name. at_key doc_cmp actors name ≡ None) names

pub none_named_more : (actors : Actors) (name : List ℕ) (names : List (List ℕ)) → All (λ y. name ≢ y) names → NoneNamed actors names → NoneNamed (with_actor name actors) names
none_named_more actors name [] apart none = tt
none_named_more actors name (next ∷ names) apart none = (
  at_other actors name next (length actors + 1) (All-head (λ y. name ≢ y) next names apart) ∙ none.0,
  none_named_more actors name names (All-tail (λ y. name ≢ y) next names apart) none.1,
)

pub none_at_first : (names : List (List ℕ)) → NoneNamed [] names
none_at_first [] = tt
none_at_first (name ∷ names) = (refl, none_at_first names)

-- ---- after some names

pub none_after : (names more : List (List ℕ)) (actors : Actors) → AreDistinct (names ++ more) → NoneNamed actors (names ++ more) → NoneNamed (actors_after names actors) more
none_after [] more actors apart none = none
none_after (name ∷ names) more actors apart none = none_after names more (with_actor name actors) apart.1 (none_named_more actors name (names ++ more) apart.0 none.1)

pub length_after : (names : List (List ℕ)) (actors : Actors) → AreDistinct names → NoneNamed actors names → length (actors_after names actors) ≡ length actors + length names
length_after [] actors apart none = omega arith
length_after (name ∷ names) actors apart none =
    let one = longer doc_cmp actors name (length actors + 1) none.0 in
    let more = length_after names (with_actor name actors) apart.1 (none_named_more actors name names apart.0 none.1) in
    omega arith

-- a name that no other one is keeps its number
kept_after : (name : List ℕ) (names : List (List ℕ)) (actors : Actors) → All (λ y. name ≢ y) names → at_key doc_cmp (actors_after names actors) name ≡ at_key doc_cmp actors name
kept_after name [] actors apart = refl
kept_after name (next ∷ names) actors apart =
    kept_after name names (with_actor next actors) (All-tail (λ y. name ≢ y) next names apart)
    ∙ at_other actors next name (length actors + 1) (λ e. All-head (λ y. name ≢ y) next names apart (sym e))

pub number_after : (names : List (List ℕ)) (actors : Actors) (i : ℕ) → i < length names → AreDistinct names → NoneNamed actors names
    → at_key doc_cmp (actors_after names actors) (get_or names i []) ≡ Some (length actors + 1 + i)
number_after [] actors i within apart none = absurd (omega arith)
number_after (name ∷ names) actors zero within apart none =
    let same : length actors + 1 ≡ length actors + 1 + 0 = omega arith in
    kept_after name names (with_actor name actors) apart.0 ∙ at_same actors name (length actors + 1) ∙ ap Some same
number_after (name ∷ names) actors (suc i) within apart none =
    let one = longer doc_cmp actors name (length actors + 1) none.0 in
    let same : length (with_actor name actors) + 1 + i ≡ length actors + 1 + suc i = omega arith in
    number_after names (with_actor name actors) i (omega arith) apart.1 (none_named_more actors name names apart.0 none.1) ∙ ap Some same
