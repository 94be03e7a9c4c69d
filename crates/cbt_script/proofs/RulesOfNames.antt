-- Names that stand apart, and the maps in which they are looked up.
use Rattle.std.proofs.Common.{◌≡◌, ◌≢◌, ℕ, suc, ◌+◌, Bool, true, false, cond, not, List, [], ◌∷◌, ◌++◌, length, is_some, Option, Some, None, refl, ap, ◌∙◌, arith, length-append}
use Rattle.std.specs.declared.cmp.Ordering.{Ordering}
use Rattle.std.specs.declared.cmp.Ordering.TheVariants.{Less, Equal, Greater}
use Rattle.std.specs.Ordering.{is_eq, match_ordering}
use Rattle.std.specs.List.{All}
use Rattle.std.specs.BTreeMap.{insert_entry}
use Rattle.std.proofs.lemmas.Bool.{not-true}
use Rattle.std.proofs.lemmas.Cmp.{nat_list_cmp_total, tied_itself}
use Rattle.std.proofs.lemmas.List.Elements.{All-nil, All-cons, All-head, All-tail, All-push, All-weaker}
use Rattle.cbt_base.specs.Keyed.{at_key, with_pair}
use Rattle.cbt_base.proofs.Maps.{at_key-with_pair}
use Rattle.cbt_model.specs.Keys.{doc_cmp}
use Rattle.cbt_script.specs.Course.{Actors, with_actor, known, known_actor}
use Rattle.cbt_script.specs.Rules.{IsWithin, AreDistinct}
use Rattle.cbt_script.proofs.KeysBack.{longer}
use Rattle.cbt_script.proofs.RulesOfFields.{Keeps}

-- one more name, which is none of those before it
pub distinct-push : (names : List (List ℕ)) (name : List ℕ) → AreDistinct names → All (λ x. x ≢ name) names → AreDistinct (names ++ name ∷ [])
distinct-push [] name distinct apart = (All-nil (λ y. name ≢ y), tt)
distinct-push (x ∷ xs) name distinct apart =
    (All-push (λ y. x ≢ y) xs name distinct.0 (All-head (λ y. y ≢ name) x xs apart), distinct-push xs name distinct.1 (All-tail (λ y. y ≢ name) x xs apart))

module _ {V : Type 0} where
  -- each of some names is a key of a map
  abbrev pub AreKeys : List (List ℕ × V) → List (List ℕ) → Type 0
  AreKeys m names = All (λ name. is_some (at_key doc_cmp m name) ≡ true) names

  found-first : (e : V) (o : Option V) (t : Bool) → t ≡ true → is_some (cond t (Some e) o) ≡ true
  found-first e o true is = refl
  found-first e o false is = absurd (cc)

  found-behind : (e : V) (o : Option V) (t : Bool) → is_some o ≡ true → is_some (cond t (Some e) o) ≡ true
  found-behind e o true is = refl
  found-behind e o false is = is

  pub keys-push : (m : List (List ℕ × V)) (name : List ℕ) (v : V) (names : List (List ℕ)) → AreKeys m names → AreKeys (with_pair doc_cmp m name v) (names ++ name ∷ [])
  keys-push m name v names are =
      let P = λ (x : List ℕ). is_some (at_key doc_cmp (with_pair doc_cmp m name v) x) ≡ true in
      let at = λ (x : List ℕ). at_key-with_pair doc_cmp nat_list_cmp_total m name v x in
      All-push P names name
      (All-weaker (λ x. is_some (at_key doc_cmp m x) ≡ true) P (λ x known. ap is_some (at x) ∙ found-behind v (at_key doc_cmp m x) (is_eq (doc_cmp x name)) known) names are)
      (ap is_some (at name) ∙ found-first v (at_key doc_cmp m name) (is_eq (doc_cmp name name)) (ap is_eq (tied_itself nat_list_cmp_total name)))

  -- a name that is no key is none of the names that are
  pub keys-apart : (m : List (List ℕ × V)) (name : List ℕ) (names : List (List ℕ)) → AreKeys m names → is_some (at_key doc_cmp m name) ≡ false → All (λ x. x ≢ name) names
  keys-apart m name names are none =
      All-weaker (λ x. is_some (at_key doc_cmp m x) ≡ true) (λ x. x ≢ name)
      (λ x known same. let e = ap (λ z. is_some (at_key doc_cmp m z)) same in cc) names are

module _ {K V : Type 0} (cmp : K → K → Ordering) (P : K → Type 0) (Q : V → Type 0) where
  abbrev Both : K × V → Type 0
  Both p = P p.0 × Q p.1

  all_by : (e : K × V) (es inserted : List (K × V)) (k : K) (v : V) (o : Ordering) → All Both (e ∷ es) → All Both inserted → P k → Q v
      → All Both (match_ordering o ((k, v) ∷ e ∷ es) ((e.0, v) ∷ es) (e ∷ inserted))
  all_by e es inserted k v Less all rest p q = All-cons Both (k, v) (e ∷ es) (p, q) all
  all_by e es inserted k v Equal all rest p q = All-cons Both (e.0, v) es ((All-head Both e es all).0, q) (All-tail Both e es all)
  all_by e es inserted k v Greater all rest p q = All-cons Both e inserted (All-head Both e es all) rest

  -- a pair whose parts keep their rules
  pub all-with_pair : (m : List (K × V)) (k : K) (v : V) → All Both m → P k → Q v → All Both (with_pair cmp m k v)
  all-with_pair [] k v all p q = All-cons Both (k, v) [] (p, q) all
  all-with_pair (e ∷ es) k v all p q = all_by e es (insert_entry cmp es k v) k v (cmp k e.0) all (all-with_pair es k v (All-tail Both e es all) p q) p q

-- ---- actors

-- the names of actors and their numbers, of which none is past their count
pub record AreActors (actors : Actors) (names : List (List ℕ)) : Type 0 where
  pub keys : AreKeys actors names
  pub distinct : AreDistinct names
  pub count : length actors ≡ length names
  pub numbers : All (λ a. Unit {0} × IsWithin 1 (length names) a.1) actors

pub no-actors : AreActors [] []
no-actors = record { keys = All-nil (λ name. is_some (at_key {V = ℕ} doc_cmp [] name) ≡ true); distinct = tt; count = refl; numbers = All-nil (λ (a : List ℕ × ℕ). Unit {0} × IsWithin 1 0 a.1) }

none-there : {A : Type 0} (o : Option A) → is_some o ≡ false → o ≡ None
none-there (Some x) e = absurd (cc)
none-there None e = refl

-- one actor more, whose name is new
pub actors-push : (actors : Actors) (names : List (List ℕ)) (name : List ℕ) → AreActors actors names → not (is_some (at_key doc_cmp actors name)) ≡ true → AreActors (with_actor name actors) (names ++ name ∷ [])
actors-push actors names name are new =
    let none = not-true (is_some (at_key doc_cmp actors name)) new in
    let more : length (names ++ name ∷ []) ≡ length names + 1 = omega (arith, length-append names (name ∷ [])) in
    let one_more : length (with_actor name actors) ≡ suc (length actors) = longer doc_cmp actors name (length actors + 1) (none-there (at_key doc_cmp actors name) none) in
    let c : length actors ≡ length names = are.count in
    record {
      keys = keys-push actors name (length actors + 1) names are.keys;
      distinct = distinct-push names name are.distinct (keys-apart actors name names are.keys none);
      count = omega arith;
      numbers = all-with_pair doc_cmp (λ k. Unit {0}) (IsWithin 1 (length (names ++ name ∷ []))) actors name (length actors + 1)
          (All-weaker (λ a. Unit {0} × IsWithin 1 (length names) a.1) (λ a. Unit {0} × IsWithin 1 (length (names ++ name ∷ [])) a.1) (λ a is. (tt, (is.1.0, let l = is.1.1 in omega arith))) actors are.numbers)
          tt (omega arith, omega arith);
    }

number_by : (o : Option ℕ) (most n : ℕ) (t : Bool) → IsWithin 1 most n → Keeps (IsWithin 1 most) (known o) → Keeps (IsWithin 1 most) (known (cond t (Some n) o))
number_by o most n true is rest = is
number_by o most n false is rest = rest

number-found : (actors : Actors) (most : ℕ) (name : List ℕ) → All (λ a. Unit {0} × IsWithin 1 most a.1) actors → Keeps (IsWithin 1 most) (known_actor actors name)
number-found [] most name all = tt
number-found (a ∷ actors) most name all =
    let P = λ (x : List ℕ × ℕ). Unit {0} × IsWithin 1 most x.1 in
    number_by (at_key doc_cmp actors name) most a.1 (is_eq (doc_cmp name a.0)) (All-head P a actors all).1 (number-found actors most name (All-tail P a actors all))

-- the number that a name has
pub actor-number : (actors : Actors) (names : List (List ℕ)) (name : List ℕ) → AreActors actors names → Keeps (IsWithin 1 (length names)) (known_actor actors name)
actor-number actors names name are = number-found actors (length names) name are.numbers
