-- What is so of a pass that has read its record is so along its calls.
use Rattle.std.proofs.Common.{◌≡◌, ◌≢◌, ℕ, ◌⊎◌, inl, inr, List, [], ◌∷◌, ◌++◌, Some, None, refl, sym, ap, ◌∙◌, subst}
use Rattle.cbt_model.specs.declared.events.Made.{Made}
use Rattle.cbt_clean.proofs.Moves.{Moves}
use Rattle.cbt_clean.proofs.Moving.{moves}
use Rattle.cbt_clean.specs.Phases.{step_for, end_in, after}
use Rattle.cbt_clean.specs.Standing.{Runs, begun, goes_on}
use Rattle.cbt_clean.specs.declared.phases.Phase.{Phase}
use Rattle.cbt_clean.specs.declared.phases.Phase.TheVariants.{Begun}

-- the last of two lists that are the same
same_end : (l k : List Made) (m n : Made) → l ++ m ∷ [] ≡ k ++ n ∷ [] → (l ≡ k) × (m ≡ n)
same_end [] [] m n same = (refl, cc)
same_end [] (y ∷ k) m n same = absurd (too_long k cc)
  where
    too_long : (k : List Made) → [] ≡ k ++ n ∷ [] → ⊥
    too_long [] is = cc
    too_long (z ∷ k) is = cc
same_end (x ∷ l) [] m n same = absurd (too_long l cc)
  where
    too_long : (l : List Made) → l ++ m ∷ [] ≡ [] → ⊥
    too_long [] is = cc
    too_long (z ∷ l) is = cc
same_end (x ∷ l) (y ∷ k) m n same =
    let it = same_end l k m n (tails same) in
    let head : x ≡ y = cc in
    (ap (λ z. z ∷ l) head ∙ ap (λ z. y ∷ z) it.0, it.1)
  where
    tails : x ∷ (l ++ m ∷ []) ≡ y ∷ (k ++ n ∷ []) → l ++ m ∷ [] ≡ k ++ n ∷ []
    tails is = cc

-- the calls are a reading of the record, of which this is so, and later ones
record HasRead (K : Phase → Made → List Made → Type 0) (p : Phase) (mine : List Made) : Type 0 where
  pub first : Made
  pub later : List Made
  pub calls_are : mine ≡ later ++ first ∷ []
  pub kept : K p first later

-- the machine keeps K, which speaks of its phase, its reading of the record and its later calls
pub record Keeps (r : ℕ) (K : Phase → Made → List Made → Type 0) : Type 0 where
  pub first : (m : Made) (q : Phase) → Moves r m Begun q → K q m []
  pub later : (first : Made) (later : List Made) (m : Made) (p q : Phase) → Moves r m p q → step_for r p ≡ Some m.step → K p first later → K q first (m ∷ later)

module _ (r : ℕ) (K : Phase → Made → List Made → Type 0) (keeps : Keeps r K) where
  step_known : (p q : Phase) (mine : List Made) (m : Made) → Moves r m p q → step_for r p ≡ Some m.step → ((p ≡ Begun) × (mine ≡ [])) ⊎ HasRead K p mine → HasRead K q (m ∷ mine)
  step_known p q mine m moved asked (inl none) =
      record { first = m; later = []; calls_are = ap (λ l. m ∷ l) none.1; kept = keeps.first m q (subst (λ k. Moves r m k q) none.0 moved) }
  step_known p q mine m moved asked (inr it) =
      record { first = it.first; later = m ∷ it.later; calls_are = ap (λ l. m ∷ l) it.calls_are; kept = keeps.later it.first it.later m p q moved asked it.kept }

  known : (p : Phase) (mine : List Made) → Runs r p mine → ((p ≡ Begun) × (mine ≡ [])) ⊎ HasRead K p mine
  known _ _ begun = inl (refl, refl)
  known _ _ (goes_on p mine m run asked fit) =
      inr (step_known p (after r p m.answer.place m.answer.now m.answer.reply) mine m (moves r m p asked fit) asked (known p mine run))

  pub kept : (p : Phase) (first : Made) (later : List Made) → Runs r p (later ++ first ∷ []) → K p first later
  kept p first later run = by (known p (later ++ first ∷ []) run)
    where
      some_calls : (l : List Made) → l ++ first ∷ [] ≡ [] → ⊥
      some_calls [] is = cc
      some_calls (z ∷ l) is = cc

      by : ((p ≡ Begun) × (later ++ first ∷ [] ≡ [])) ⊎ HasRead K p (later ++ first ∷ []) → K p first later
      by (inl none) = absurd (some_calls later none.1)
      by (inr it) =
          let same = same_end later it.later first it.first it.calls_are in
          subst (λ l. K p first l) (sym same.0) (subst (λ m. K p m it.later) (sym same.1) it.kept)

-- a pass that has ended has read its record
pub has_read : (r : ℕ) (p : Phase) (mine : List Made) → Runs r p mine → end_in p ≢ None → (first : Made) × (later : List Made) × (mine ≡ later ++ first ∷ [])
has_read r p mine run ended = by (known r (λ q first later. Unit {0}) (record { first = λ m q moved. tt; later = λ first later m p q moved asked it. tt }) p mine run)
  where
    by : ((p ≡ Begun) × (mine ≡ [])) ⊎ HasRead (λ q first later. Unit {0}) p mine → (first : Made) × (later : List Made) × (mine ≡ later ++ first ∷ [])
    by (inl none) = absurd (ended (ap end_in none.0))
    by (inr it) = (it.first, it.later, it.calls_are)
