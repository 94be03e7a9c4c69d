-- What is noted of a document after a change.
use Rattle.std.proofs.Common.{◌≡◌, ℕ, Bool, true, false, cond, List, Option, ap, sym, ◌∙◌}
use Rattle.std.proofs.lemmas.Slice.Eq.{bytes_eq-Decides}
use Rattle.std.specs.Str.{bytes_eq}
use Rattle.cbt_attempt.specs.OwnWrites.{SetsNote}

pub bytes_eq-itself : (d : List ℕ) → bytes_eq d d ≡ true
bytes_eq-itself d = (bytes_eq-Decides d d).1 (λ _. d)

pub bytes_eq-other : (d q : List ℕ) → (d ≡ q → ⊥) → bytes_eq d q ≡ false
bytes_eq-other d q apart = by (bytes_eq d q) (bytes_eq-Decides d q).0
  where
    by : (b : Bool) → (b ≡ true → d ≡ q) → b ≡ false
    by true same = absurd (apart (same cc))
    by false same = cc

pub sets_by_test : {V : Type 0} (old new : List ℕ → Option V) (d : List ℕ) (v : Option V) → ((q : List ℕ) → new q ≡ cond (bytes_eq d q) v (old q))
    → SetsNote old new d v
sets_by_test old new d v found = record {
  here = found d ∙ ap (λ b. cond b v (old d)) (bytes_eq-itself d);
  others = λ q apart. found q ∙ ap (λ b. cond b v (old q)) (bytes_eq-other d q (λ same. apart (sym same)));
}
