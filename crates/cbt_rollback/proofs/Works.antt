-- The works of a rollback are the own writes of its attempt.
use Rattle.std.proofs.Common.{◌≡◌, ℕ, zero, suc, ◌+◌, ◌<◌, ◌≤◌, ◌==◌, Bool, true, false, cond, ⊎_elim, List, [], ◌∷◌, ◌++◌, length, slice_get, Option, Some, None, refl, ap, sym, ◌∙◌, subst, arith}
use Rattle.std.proofs.lemmas.Bool.{eqb-true}
use Rattle.std.proofs.lemmas.List.{length-map}
use Rattle.std.proofs.lemmas.Map.Entries.{place_from_lookup, lookup_from_place}
use Rattle.std.proofs.lemmas.Map.Keys.{IsDistinct-head, IsDistinct-tail}
use Rattle.std.proofs.lemmas.Option.{none-some, slice_get_within, slice_get_cases, slice_get-map}
use Rattle.std.proofs.lemmas.Slice.Eq.{bytes_eq-Decides}
use Rattle.std.specs.Cmp.{IsEquivalence}
use Rattle.std.specs.Option.{option_map}
use Rattle.std.specs.List.{IsDistinct, AllByRecursion}
use Rattle.std.specs.Map.{lookup, keys_of}
use Rattle.std.specs.Str.{bytes_eq}
use Rattle.cbt_attempt.specs.OwnWrites.{noted}
use Rattle.cbt_attempt.specs.declared.own.Own.{Own}
use Rattle.cbt_rollback.specs.Phases.{Work}
use Rattle.cbt_rollback.specs.Ready.{stamp_of, works_in, CopiesNotes}

some_same : {X : Type 0} {x y : X} → Some x ≡ Some y → x ≡ y
some_same both = cc

true-false : {b : Bool} → b ≡ true → b ≡ false → ⊥
true-false one two = cc

itself : (d : List ℕ) → bytes_eq d d ≡ true
itself d = (bytes_eq-Decides d d).1 (λ _. d)

same_text : (d q : List ℕ) → bytes_eq d q ≡ true → d ≡ q
same_text d q = (bytes_eq-Decides d q).0

bytes_equiv : IsEquivalence bytes_eq
bytes_equiv = record {
  refl = itself;
  symm = λ d q. by d q (bytes_eq d q) refl;
  congr = λ d q z same. ap (λ u. bytes_eq u z) (same_text d q same);
}
  where
    by : (d q : List ℕ) (b : Bool) → bytes_eq d q ≡ b → bytes_eq d q ≡ bytes_eq q d
    by d q true same = same ∙ sym (ap (λ u. bytes_eq u d) (sym (same_text d q same)) ∙ itself d)
    by d q false other = other ∙ sym (flipped (bytes_eq q d) refl)
      where
        flipped : (c : Bool) → bytes_eq q d ≡ c → bytes_eq q d ≡ false
        flipped true same = absurd (true-false (ap (λ u. bytes_eq d u) (same_text q d same) ∙ itself d) other)
        flipped false is = is

-- a document with a note at some place has a note
noted_at : (writes : List (List ℕ × Own)) (at : ℕ) (e : List ℕ × Own) → slice_get writes at ≡ Some e → (v : Own) × (noted writes e.0 ≡ Some v)
noted_at [] at e found = absurd (none-some e found)
noted_at (w ∷ writes) zero e found =
    (w.1, ap (λ b. cond b (Some w.1) (noted writes e.0)) (ap (λ (u : List ℕ × Own). bytes_eq e.0 u.0) (some_same found) ∙ itself e.0))
noted_at (w ∷ writes) (suc at) e found = by (noted_at writes at e found) (bytes_eq e.0 w.0) refl
  where
    by : (v : Own) × (noted writes e.0 ≡ Some v) → (b : Bool) → bytes_eq e.0 w.0 ≡ b → (v : Own) × (cond (bytes_eq e.0 w.0) (Some w.1) (noted writes e.0) ≡ Some v)
    by it true is = (w.1, ap (λ b. cond b (Some w.1) (noted writes e.0)) is)
    by it false is = (it.0, ap (λ b. cond b (Some w.1) (noted writes e.0)) is ∙ it.1)

-- what is so of each key is so of the key at a place
key_at : {X : Type 0} (P : List ℕ → Type 0) (works : List (List ℕ × X)) (at : ℕ) (w : List ℕ × X) → AllByRecursion P (keys_of works) → slice_get works at ≡ Some w → P w.0
key_at {X = X} P [] at w all found = absurd (none-some w found)
key_at {X = X} P (v ∷ works) zero w all found = subst (λ (u : List ℕ × X). P u.0) (some_same found) all.0
key_at {X = X} P (v ∷ works) (suc at) w all found = key_at P works at w all.1 found

-- where no key stands twice, a document stands at one place
one_place : {X : Type 0} (works : List (List ℕ × X)) → IsDistinct bytes_eq (keys_of works) → (i j : ℕ) (v w : List ℕ × X) → slice_get works i ≡ Some v → slice_get works j ≡ Some w → v.0 ≡ w.0 → i ≡ j
one_place {X = X} [] unique i j v w at_i at_j same = absurd (none-some v at_i)
one_place {X = X} (u ∷ works) unique zero zero v w at_i at_j same = refl
one_place {X = X} (u ∷ works) unique zero (suc j) v w at_i at_j same =
    absurd (true-false (ap (λ q. bytes_eq u.0 q) (sym (ap (λ (x : List ℕ × X). x.0) (some_same at_i) ∙ same)) ∙ itself u.0)
    (key_at (λ q. bytes_eq u.0 q ≡ false) works j w (IsDistinct-head bytes_eq u.0 (keys_of works) unique) at_j))
one_place {X = X} (u ∷ works) unique (suc i) zero v w at_i at_j same =
    absurd (true-false (ap (λ q. bytes_eq u.0 q) (sym (ap (λ (x : List ℕ × X). x.0) (some_same at_j) ∙ sym same)) ∙ itself u.0)
    (key_at (λ q. bytes_eq u.0 q ≡ false) works i v (IsDistinct-head bytes_eq u.0 (keys_of works) unique) at_i))
one_place {X = X} (u ∷ works) unique (suc i) (suc j) v w at_i at_j same =
    ap (λ k. suc k) (one_place works (IsDistinct-tail bytes_eq u.0 (keys_of works) unique) i j v w at_i at_j same)

-- places in a list with one more at its end
front_place : {X : Type 0} (xs ys : List X) (j : ℕ) (x : X) → slice_get xs j ≡ Some x → slice_get (xs ++ ys) j ≡ Some x
front_place [] ys j x is = absurd (none-some x is)
front_place (y ∷ xs) ys zero x is = is
front_place (y ∷ xs) ys (suc j) x is = front_place xs ys j x is

last_place : {X : Type 0} (xs : List X) (x : X) → slice_get (xs ++ x ∷ []) (length xs) ≡ Some x
last_place [] x = refl
last_place (y ∷ xs) x = last_place xs x

longer_by_one : {X : Type 0} (xs : List X) (x : X) → length (xs ++ x ∷ []) ≡ length xs + 1
longer_by_one [] x = refl
longer_by_one (y ∷ xs) x = let it = longer_by_one xs x in omega arith

at_place : {X : Type 0} (xs : List X) (j : ℕ) → j < length xs → (x : X) × (slice_get xs j ≡ Some x)
at_place [] j within = absurd (omega arith)
at_place (y ∷ xs) zero within = (y, refl)
at_place (y ∷ xs) (suc j) within = at_place xs j (omega arith)

-- lists that have the same at each place are the same
same_list : {X : Type 0} (xs ys : List X) → length xs ≡ length ys → ((j : ℕ) (y : X) → slice_get ys j ≡ Some y → slice_get xs j ≡ Some y) → xs ≡ ys
same_list [] [] long each = refl
same_list [] (y ∷ ys) long each = absurd (none-some y (each 0 y refl))
same_list (x ∷ xs) [] long each = absurd (omega arith)
same_list (x ∷ xs) (y ∷ ys) long each =
    ap (λ u. u ∷ xs) (some_same (each 0 y refl)) ∙ ap (λ us. y ∷ us) (same_list xs ys (omega arith) (λ j u is. each (suc j) u is))

-- the own writes before a place were copied, each with the CAS that is noted of its document
pub record CopiedUpTo (writes : List (List ℕ × Own)) (at : ℕ) (works : List Work) : Type 0 where
  pub within : at ≤ length writes
  pub few : length works ≤ at
  pub full : IsDistinct bytes_eq (keys_of writes) → length works ≡ at
  pub in_order : IsDistinct bytes_eq (keys_of writes) → (j : ℕ) (e : List ℕ × Own) → j < at → slice_get writes j ≡ Some e → slice_get works j ≡ Some (e.0, e.1.cas)
  pub unique : IsDistinct bytes_eq (keys_of works)
  pub kept : (q : List ℕ) (c : Option ℕ) → lookup (bytes_eq q) works ≡ Some c → (v : Own) × (noted writes q ≡ Some v) × (v.cas ≡ c)
  pub has : (j : ℕ) (e : List ℕ × Own) → j < at → slice_get writes j ≡ Some e → (c : Option ℕ) × (lookup (bytes_eq e.0) works ≡ Some c)

pub copied_none : (writes : List (List ℕ × Own)) (works : List Work) → works ≡ [] → IsDistinct bytes_eq (keys_of works) → CopiedUpTo writes 0 works
copied_none writes works none unique = record {
  within = omega arith;
  few = subst (λ ws. length ws ≤ 0) (sym none) (omega arith);
  full = λ distinct. ap (λ ws. length ws) none;
  in_order = λ distinct j e before found. absurd (omega arith);
  unique = unique;
  kept = λ q c found. absurd (none-some c (ap (λ ws. lookup (bytes_eq q) ws) (sym none) ∙ found));
  has = λ j e before found. absurd (omega arith);
}

pub copied_on : (writes : List (List ℕ × Own)) (at : ℕ) (old new : List Work) (e : List ℕ × Own) (c : Option ℕ) → slice_get writes at ≡ Some e → stamp_of (noted writes e.0) ≡ c
    → ((q : List ℕ) → lookup (bytes_eq q) new ≡ cond (bytes_eq e.0 q) (Some c) (lookup (bytes_eq q) old)) → IsDistinct bytes_eq (keys_of new) → length new ≤ length old + 1
    → (lookup (bytes_eq e.0) old ≡ None → new ≡ old ++ (e.0, c) ∷ []) → CopiedUpTo writes at old
    → CopiedUpTo writes (at + 1) new
copied_on writes at old new e c found stamp updates unique longer appends copied = record {
  within = let inside = slice_get_within writes at e found in omega arith;
  few = let before = copied.few in omega arith;
  full = λ distinct. ap (λ ws. length ws) (appended distinct) ∙ longer_by_one old (e.0, c) ∙ ap (λ n. n + 1) (copied.full distinct);
  in_order = λ distinct j f before is. placed distinct j f before is (j == at) refl;
  unique = unique;
  kept = λ q s is. kept_by q s (bytes_eq e.0 q) refl (sym (updates q) ∙ is);
  has = λ j f before is. has_by j f before is (bytes_eq e.0 f.0) refl;
}
  where
    its : (v : Own) × (noted writes e.0 ≡ Some v)
    its = noted_at writes at e found

    -- where no document stands twice, the new one is not yet among those copied
    unseen : IsDistinct bytes_eq (keys_of writes) → (o : Option (Option ℕ)) → lookup (bytes_eq e.0) old ≡ o → o ≡ None
    unseen distinct None is = refl
    unseen distinct (Some s) is =
        let it = place_from_lookup (bytes_eq e.0) old s is in
        let inside : it.0 < length old = slice_get_within old it.0 (it.1, s) it.2 in
        let before : it.0 < at = below it.0 (length old) inside copied.few in
        let there = at_place writes it.0 (below it.0 at before copied.within) in
        let same : there.0.0 ≡ it.1 = ap (λ (w : Work). w.0) (some_same (sym (copied.in_order distinct it.0 there.0 before there.1) ∙ it.2)) in
        absurd (not_same it.0 before (one_place writes distinct it.0 at there.0 e there.1 found (same ∙ sym (same_text e.0 it.1 it.3))))
      where
        below : (i n : ℕ) {k : ℕ} → i < n → n ≤ k → i < k
        below i n less most = omega arith

        not_same : (i : ℕ) → i < at → i ≡ at → ⊥
        not_same i less same = omega arith

    appended : IsDistinct bytes_eq (keys_of writes) → new ≡ old ++ (e.0, c) ∷ []
    appended distinct = appends (unseen distinct (lookup (bytes_eq e.0) old) refl)

    own_stamp : IsDistinct bytes_eq (keys_of writes) → c ≡ e.1.cas
    own_stamp distinct = sym stamp ∙ ap stamp_of (lookup_from_place bytes_equiv writes at e.0 e.1 distinct found)

    placed : IsDistinct bytes_eq (keys_of writes) → (j : ℕ) (f : List ℕ × Own) → j < at + 1 → slice_get writes j ≡ Some f → (b : Bool) → (j == at) ≡ b
        → slice_get new j ≡ Some (f.0, f.1.cas)
    placed distinct j f before is true here =
        ap (λ ws. slice_get ws j) (appended distinct) ∙ ap (λ k. slice_get (old ++ (e.0, c) ∷ []) k) (eqb-true j at here ∙ sym (copied.full distinct))
        ∙ last_place old (e.0, c) ∙ ap (λ s. Some (e.0, s)) (own_stamp distinct)
        ∙ ap (λ (w : List ℕ × Own). Some (w.0, w.1.cas)) (some_same (sym found ∙ ap (λ k. slice_get writes k) (sym (eqb-true j at here)) ∙ is))
    placed distinct j f before is false other =
        ap (λ ws. slice_get ws j) (appended distinct) ∙ front_place old ((e.0, c) ∷ []) j (f.0, f.1.cas) (copied.in_order distinct j f (earlier j before other) is)
      where
        earlier : (i : ℕ) → i < at + 1 → (i == at) ≡ false → i < at
        earlier i less apart = grind arith

    kept_by : (q : List ℕ) (s : Option ℕ) (b : Bool) → bytes_eq e.0 q ≡ b → cond (bytes_eq e.0 q) (Some c) (lookup (bytes_eq q) old) ≡ Some s
        → (v : Own) × (noted writes q ≡ Some v) × (v.cas ≡ s)
    kept_by q s true same is = (
      its.0,
      ap (λ u. noted writes u) (sym (same_text e.0 q same)) ∙ its.1,
      sym (ap stamp_of its.1) ∙ stamp ∙ some_same (sym (ap (λ b. cond b (Some c) (lookup (bytes_eq q) old)) same) ∙ is),
    )
    kept_by q s false other is = copied.kept q s (sym (ap (λ b. cond b (Some c) (lookup (bytes_eq q) old)) other) ∙ is)

    has_by : (j : ℕ) (f : List ℕ × Own) → j < at + 1 → slice_get writes j ≡ Some f → (b : Bool) → bytes_eq e.0 f.0 ≡ b → (s : Option ℕ) × (lookup (bytes_eq f.0) new ≡ Some s)
    has_by j f before is true same = (c, updates f.0 ∙ ap (λ b. cond b (Some c) (lookup (bytes_eq f.0) old)) same)
    has_by j f before is false other =
        let it = copied.has j f (earlier (j == at) refl) is in
        (it.0, updates f.0 ∙ ap (λ b. cond b (Some c) (lookup (bytes_eq f.0) old)) other ∙ it.1)
      where
        that_place : j ≡ at → ⊥
        that_place here =
            true-false (ap (λ (u : List ℕ × Own). bytes_eq e.0 u.0) (sym (some_same (sym found ∙ ap (λ k. slice_get writes k) (sym here) ∙ is))) ∙ itself e.0) other

        earlier : (b : Bool) → (j == at) ≡ b → j < at
        earlier true here = absurd (that_place (grind arith))
        earlier false differs = grind arith

pub copied_all : (writes : List (List ℕ × Own)) (at : ℕ) (works : List Work) → slice_get writes at ≡ None → CopiedUpTo writes at works → CopiesNotes (noted writes) works
copied_all writes at works past copied = record {
  noted = λ j w is. copied.kept w.0 w.1 (lookup_from_place bytes_equiv works j w.0 w.1 copied.unique is);
  all = all_of;
  apart = one_place works copied.unique;
}
  where
    beyond : length writes ≤ at
    beyond = ⊎_elim (λ it. absurd (none-some it.0 (sym past ∙ it.2))) (λ it. it.0) (slice_get_cases writes at).1

    before : (i n : ℕ) → i < n → n ≤ at → i < at
    before i n less most = omega arith

    all_of : (d : List ℕ) (v : Own) → noted writes d ≡ Some v → (j : ℕ) × (w : Work) × (slice_get works j ≡ Some w) × (w.0 ≡ d)
    all_of d v is =
        let place = place_from_lookup (bytes_eq d) writes v is in
        let within : place.0 < length writes = slice_get_within writes place.0 (place.1, v) place.2 in
        let it = copied.has place.0 (place.1, v) (before place.0 (length writes) within beyond) place.2 in
        let at_key = place_from_lookup (bytes_eq place.1) works it.0 it.1 in
        (at_key.0, (at_key.1, it.0), at_key.2, sym (same_text place.1 at_key.1 at_key.3) ∙ sym (same_text d place.1 place.3))

pub copied_few : (writes : List (List ℕ × Own)) (at : ℕ) (works : List Work) → CopiedUpTo writes at works → length works ≤ length writes
copied_few writes at works copied = let few = copied.few in let within = copied.within in omega arith

-- an insert makes a list longer by one at most
pub grown : (b : Bool) (old new : ℕ) → new ≡ old + cond b 0 1 → new ≤ old + 1
grown true old new is = omega arith
grown false old new is = omega arith

-- a work is the own write at its place
pub copied_order : (writes : List (List ℕ × Own)) (at : ℕ) (works : List Work) → slice_get writes at ≡ None → CopiedUpTo writes at works → IsDistinct bytes_eq (keys_of writes)
    → works ≡ works_in writes
copied_order writes at works past copied distinct =
    same_list works (works_in writes) (copied.full distinct ∙ full at (length writes) copied.within beyond ∙ sym (length-map writes _)) each
  where
    beyond : length writes ≤ at
    beyond = ⊎_elim (λ it. absurd (none-some it.0 (sym past ∙ it.2))) (λ it. it.0) (slice_get_cases writes at).1

    full : (n k : ℕ) → n ≤ k → k ≤ n → n ≡ k
    full n k one two = omega arith

    before : (j : ℕ) → j < length writes → j < at
    before j within = let most = beyond in omega arith

    each : (j : ℕ) (w : Work) → slice_get (works_in writes) j ≡ Some w → slice_get works j ≡ Some w
    each j w is = by (slice_get writes j) refl (sym (slice_get-map (λ (e : List ℕ × Own). (e.0, e.1.cas)) writes j) ∙ is)
      where
        by : (o : Option (List ℕ × Own)) → slice_get writes j ≡ o → option_map (λ (e : List ℕ × Own). (e.0, e.1.cas)) o ≡ Some w → slice_get works j ≡ Some w
        by None none mapped = absurd (none-some w mapped)
        by (Some e) here mapped = copied.in_order distinct j e (before j (slice_get_within writes j e here)) here ∙ mapped
