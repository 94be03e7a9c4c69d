-- The lists of an attempt name its own writes by kind.
use Rattle.std.proofs.Common.{◌≡◌, ℕ, Bool, true, false, cond, inl, inr, ⊎_elim, List, [], ◌∷◌, Some, None, refl, ap, sym, ◌∙◌, subst}
use Rattle.std.proofs.lemmas.Option.{none-some}
use Rattle.std.proofs.lemmas.Slice.Eq.{bytes_eq-Decides}
use Rattle.std.specs.List.{IsDistinct, AllByRecursion}
use Rattle.std.specs.Map.{keys_of}
use Rattle.std.specs.Str.{bytes_eq}
use Rattle.cbt_model.specs.declared.documents.OpKind.{OpKind}
use Rattle.cbt_model.specs.declared.documents.OpKind.TheVariants.{Insert, Replace, Remove}
use Rattle.cbt_book.specs.Licence.{listed}
use Rattle.cbt_book.specs.OwnLists.{In}
use Rattle.cbt_attempt.specs.OwnWrites.{noted, is_kind, docs_of, lists_of, NamesByKind}
use Rattle.cbt_attempt.specs.declared.own.Own.{Own}
use Rattle.cbt_attempt.proofs.Noting.{bytes_eq-itself}

some_same : {X : Type 0} {x y : X} → Some x ≡ Some y → x ≡ y
some_same both = cc

kind_same : (k j : OpKind) → is_kind k j ≡ true → j ≡ k
kind_same Insert Insert is = refl
kind_same Insert Replace is = cc
kind_same Insert Remove is = cc
kind_same Replace Insert is = cc
kind_same Replace Replace is = refl
kind_same Replace Remove is = cc
kind_same Remove Insert is = cc
kind_same Remove Replace is = cc
kind_same Remove Remove is = refl

is_kind-itself : (k : OpKind) → is_kind k k ≡ true
is_kind-itself Insert = refl
is_kind-itself Replace = refl
is_kind-itself Remove = refl

-- an own write of this kind
abbrev Writes : OpKind → List (List ℕ × Own) → List ℕ → Type 0
Writes k writes d = (w : Own) × (noted writes d ≡ Some w) × (w.kind ≡ k)

-- a document that no later key is has no note among the later ones
unnoted : (d : List ℕ) (writes : List (List ℕ × Own)) → AllByRecursion (λ y. bytes_eq d y ≡ false) (keys_of writes) → noted writes d ≡ None
unnoted d [] apart = refl
unnoted d (w ∷ writes) apart = ap (λ b. cond b (Some w.1) (noted writes d)) apart.0 ∙ unnoted d writes apart.1

module _ (k : OpKind) (d : List ℕ) where
  -- what the first note adds to what is noted and to what is listed
  head_noted : (w : List ℕ × Own) (writes : List (List ℕ × Own)) (here of_kind : Bool) → bytes_eq d w.0 ≡ here → is_kind k w.1.kind ≡ of_kind
      → AllByRecursion (λ y. bytes_eq w.0 y ≡ false) (keys_of writes) → (In d (docs_of k writes) → Writes k writes d)
      → In d (cond of_kind (w.0 ∷ docs_of k writes) (docs_of k writes)) → Writes k (w ∷ writes) d
  head_noted w writes true true is kind apart ih listed = (w.1, ap (λ b. cond b (Some w.1) (noted writes d)) is, kind_same k w.1.kind kind)
  head_noted w writes true false is kind apart ih listed =
      let it = ih listed in
      let later = subst (λ q. AllByRecursion (λ y. bytes_eq q y ≡ false) (keys_of writes)) (sym ((bytes_eq-Decides d w.0).0 is)) apart in
      absurd (none-some it.0 (sym (unnoted d writes later) ∙ it.1))
  head_noted w writes false true is kind apart ih listed =
      ⊎_elim (λ (same : d ≡ w.0). absurd (true-false (sym (ap (λ q. bytes_eq d q) same) ∙ bytes_eq-itself d) is))
      (λ (later : In d (docs_of k writes)). let it = ih later in (it.0, ap (λ b. cond b (Some w.1) (noted writes d)) is ∙ it.1, it.2)) listed
    where
      true-false : {b : Bool} → b ≡ true → b ≡ false → ⊥
      true-false one two = cc
  head_noted w writes false false is kind apart ih listed = let it = ih listed in (it.0, ap (λ b. cond b (Some w.1) (noted writes d)) is ∙ it.1, it.2)

  pub listed_noted : (writes : List (List ℕ × Own)) → IsDistinct bytes_eq (keys_of writes) → In d (docs_of k writes) → Writes k writes d
  unfolding IsDistinct
  listed_noted [] distinct listed = absurd listed
  listed_noted (w ∷ writes) distinct listed =
      head_noted w writes (bytes_eq d w.0) (is_kind k w.1.kind) refl refl distinct.0 (λ l. listed_noted writes distinct.1 l) listed

  head_listed : (w : List ℕ × Own) (writes : List (List ℕ × Own)) (here : Bool) → bytes_eq d w.0 ≡ here → (it : Own)
      → cond here (Some w.1) (noted writes d) ≡ Some it → it.kind ≡ k
      → (noted writes d ≡ Some it → In d (docs_of k writes)) → In d (docs_of k (w ∷ writes))
  head_listed w writes true is it first kind ih =
      let same : w.1.kind ≡ k = ap (λ (o : Own). o.kind) (some_same first) ∙ kind in
      subst (λ b. In d (cond b (w.0 ∷ docs_of k writes) (docs_of k writes))) (sym (ap (λ j. is_kind k j) same ∙ is_kind-itself k))
      (inl ((bytes_eq-Decides d w.0).0 is))
  head_listed w writes false is it first kind ih = later (is_kind k w.1.kind) (ih first)
    where
      later : (b : Bool) → In d (docs_of k writes) → In d (cond b (w.0 ∷ docs_of k writes) (docs_of k writes))
      later true there = inr there
      later false there = there

  pub noted_listed : (writes : List (List ℕ × Own)) (it : Own) → noted writes d ≡ Some it → it.kind ≡ k → In d (docs_of k writes)
  noted_listed [] it at kind = absurd (none-some it at)
  noted_listed (w ∷ writes) it at kind = head_listed w writes (bytes_eq d w.0) refl it at kind (λ later. noted_listed writes it later kind)

pub names_by_kind : (writes : List (List ℕ × Own)) → IsDistinct bytes_eq (keys_of writes) → NamesByKind (noted writes) (lists_of writes)
names_by_kind writes distinct Insert d = (λ l. listed_noted Insert d writes distinct l, λ w. noted_listed Insert d writes w.0 w.1 w.2)
names_by_kind writes distinct Replace d = (λ l. listed_noted Replace d writes distinct l, λ w. noted_listed Replace d writes w.0 w.1 w.2)
names_by_kind writes distinct Remove d = (λ l. listed_noted Remove d writes distinct l, λ w. noted_listed Remove d writes w.0 w.1 w.2)
