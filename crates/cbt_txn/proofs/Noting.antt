-- What is noted of a document after a change, where no document is noted twice.
use Rattle.std.proofs.Common.{◌≡◌, ◌≢◌, ℕ, Bool, true, false, cond, List, [], ◌∷◌, Some, None, refl, sym, ap, ◌∙◌, subst}
use Rattle.std.proofs.lemmas.Slice.Eq.{bytes_eq-Decides}
use Rattle.std.specs.Str.{bytes_eq}
use Rattle.cbt_attempt.specs.OwnWrites.{noted, with_noted, without_noted}
use Rattle.cbt_attempt.proofs.Noting.{bytes_eq-itself, bytes_eq-other}
use Rattle.cbt_txn.specs.Following.{NotedOnce}

abbrev Notes : Type 0 → Type 0
Notes V = List (List ℕ × V)

-- two ids that the test finds equal are the same
equal_ids : (d q : List ℕ) → bytes_eq d q ≡ true → d ≡ q
equal_ids d q is = (bytes_eq-Decides d q).0 is

other_ids : (d q : List ℕ) → bytes_eq d q ≡ false → d ≢ q
other_ids d q is same = clash (sym (ap (λ x. bytes_eq d x) (sym same) ∙ bytes_eq-itself d)) is
  where
    clash : {b : Bool} → true ≡ b → b ≡ false → ⊥
    clash one two = cc

pub by_id : {X : Type 0} (d q : List ℕ) → (d ≡ q → X) → (d ≢ q → X) → X
by_id {X} d q same other = go (bytes_eq d q) refl
  where
    go : (b : Bool) → bytes_eq d q ≡ b → X
    go true is = same (equal_ids d q is)
    go false is = other (other_ids d q is)

module _ {V : Type 0} where
  -- what stands first is noted of its document
  first_is : (e : List ℕ × V) (es : Notes V) (q : List ℕ) (b : Bool) → bytes_eq q e.0 ≡ b → noted (e ∷ es) q ≡ cond b (Some e.1) (noted es q)
  first_is e es q b is = ap (λ x. cond x (Some e.1) (noted es q)) is

  pub set_here : (notes : Notes V) (d : List ℕ) (v : V) → noted (with_noted notes d v) d ≡ Some v
  set_here [] d v = first_is (d, v) [] d true (bytes_eq-itself d)
  set_here (e ∷ es) d v = go (bytes_eq d e.0) refl (set_here es d v)
    where
      go : (b : Bool) → bytes_eq d e.0 ≡ b → noted (with_noted es d v) d ≡ Some v → noted (cond b ((e.0, v) ∷ es) (e ∷ with_noted es d v)) d ≡ Some v
      go true is ih = first_is (e.0, v) es d true is
      go false is ih = first_is e (with_noted es d v) d false is ∙ ih

  pub set_other : (notes : Notes V) (d : List ℕ) (v : V) (q : List ℕ) → q ≢ d → noted (with_noted notes d v) q ≡ noted notes q
  set_other [] d v q apart = first_is (d, v) [] q false (bytes_eq-other q d apart)
  set_other (e ∷ es) d v q apart = go (bytes_eq d e.0) refl (set_other es d v q apart)
    where
      go : (b : Bool) → bytes_eq d e.0 ≡ b → noted (with_noted es d v) q ≡ noted es q
          → noted (cond b ((e.0, v) ∷ es) (e ∷ with_noted es d v)) q ≡ noted (e ∷ es) q
      go true is ih =
          let other : bytes_eq q e.0 ≡ false = bytes_eq-other q e.0 (λ same. apart (same ∙ sym (equal_ids d e.0 is))) in
          first_is (e.0, v) es q false other ∙ sym (first_is e es q false other)
      go false is ih = ap (λ x. cond (bytes_eq q e.0) (Some e.1) x) ih

  pub gone_here : (notes : Notes V) (d : List ℕ) → NotedOnce notes → noted (without_noted notes d) d ≡ None
  gone_here [] d once = refl
  gone_here (e ∷ es) d once = go (bytes_eq d e.0) refl (gone_here es d once.1)
    where
      go : (b : Bool) → bytes_eq d e.0 ≡ b → noted (without_noted es d) d ≡ None → noted (cond b es (e ∷ without_noted es d)) d ≡ None
      go true is ih = subst (λ x. noted es x ≡ None) (sym (equal_ids d e.0 is)) once.0
      go false is ih = first_is e (without_noted es d) d false is ∙ ih

  pub gone_other : (notes : Notes V) (d q : List ℕ) → q ≢ d → noted (without_noted notes d) q ≡ noted notes q
  gone_other [] d q apart = refl
  gone_other (e ∷ es) d q apart = go (bytes_eq d e.0) refl (gone_other es d q apart)
    where
      go : (b : Bool) → bytes_eq d e.0 ≡ b → noted (without_noted es d) q ≡ noted es q
          → noted (cond b es (e ∷ without_noted es d)) q ≡ noted (e ∷ es) q
      go true is ih = sym (first_is e es q false (bytes_eq-other q e.0 (λ same. apart (same ∙ sym (equal_ids d e.0 is)))))
      go false is ih = ap (λ x. cond (bytes_eq q e.0) (Some e.1) x) ih

  pub once_set : (notes : Notes V) (d : List ℕ) (v : V) → NotedOnce notes → NotedOnce (with_noted notes d v)
  once_set [] d v once = (refl, tt)
  once_set (e ∷ es) d v once = go (bytes_eq d e.0) refl (once_set es d v once.1)
    where
      go : (b : Bool) → bytes_eq d e.0 ≡ b → NotedOnce (with_noted es d v) → NotedOnce (cond b ((e.0, v) ∷ es) (e ∷ with_noted es d v))
      go true is ih = once
      go false is ih = (set_other es d v e.0 (λ same. other_ids d e.0 is (sym same)) ∙ once.0, ih)

  pub once_gone : (notes : Notes V) (d : List ℕ) → NotedOnce notes → NotedOnce (without_noted notes d)
  once_gone [] d once = tt
  once_gone (e ∷ es) d once = go (bytes_eq d e.0) refl (once_gone es d once.1)
    where
      go : (b : Bool) → bytes_eq d e.0 ≡ b → NotedOnce (without_noted es d) → NotedOnce (cond b es (e ∷ without_noted es d))
      go true is ih = once.1
      go false is ih = (gone_other es d e.0 (λ same. other_ids d e.0 is (sym same)) ∙ once.0, ih)
