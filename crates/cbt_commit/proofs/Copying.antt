-- The works of a commit are the own writes of its attempt.
use Rattle.std.proofs.Common.{◌≡◌, ℕ, zero, suc, ◌+◌, ◌<◌, ◌≤◌, ◌==◌, Bool, true, false, cond, ⊎_elim, List, [], ◌∷◌, length, drop, slice_get, Option, Some, None, refl, ap, sym, ◌∙◌, subst, arith}
use Rattle.std.proofs.lemmas.Map.Entries.{place_from_lookup, lookup_from_place}
use Rattle.std.proofs.lemmas.Map.Keys.{IsDistinct-head, IsDistinct-tail}
use Rattle.std.proofs.lemmas.Option.{none-some, slice_get_within, slice_get_cases}
use Rattle.std.proofs.lemmas.Slice.Eq.{bytes_eq-Decides}
use Rattle.std.specs.Cmp.{IsEquivalence}
use Rattle.std.specs.List.{IsDistinct, AllByRecursion}
use Rattle.std.specs.Map.{lookup, keys_of}
use Rattle.std.specs.Str.{bytes_eq}
use Rattle.indexmap.specs.IndexMap.{insert_entry}
use Rattle.cbt_attempt.specs.OwnWrites.{noted}
use Rattle.cbt_attempt.specs.declared.own.Own.{Own}
use Rattle.cbt_commit.specs.Phases.{Task}
use Rattle.cbt_commit.specs.Ready.{written_at, written_of, with_copy, copied_behind, copied, CopiesNotes, IsOf}
use Rattle.cbt_commit.specs.Standing.{IsListedOnce}
use Rattle.cbt_commit.specs.Written.{Written}

some_same : {X : Type 0} {x y : X} → Some x ≡ Some y → x ≡ y
some_same both = cc

abbrev Work : Type 0
Work = List ℕ × Written

true-false : {b : Bool} → b ≡ true → b ≡ false → ⊥
true-false one two = cc

itself : (d : List ℕ) → bytes_eq d d ≡ true
itself d = (bytes_eq-Decides d d).1 (λ _. d)

same_text : (d q : List ℕ) → bytes_eq d q ≡ true → d ≡ q
same_text d q = (bytes_eq-Decides d q).0

bytes_equiv : IsEquivalence bytes_eq
bytes_equiv = record {
  refl = itself;
  symm = λ d q. by d q (bytes_eq d q) refl;
  congr = λ d q z same. ap (λ u. bytes_eq u z) (same_text d q same);
}
  where
    by : (d q : List ℕ) (b : Bool) → bytes_eq d q ≡ b → bytes_eq d q ≡ bytes_eq q d
    by d q true same = same ∙ sym (ap (λ u. bytes_eq u d) (sym (same_text d q same)) ∙ itself d)
    by d q false other = other ∙ sym (flipped (bytes_eq q d) refl)
      where
        flipped : (c : Bool) → bytes_eq q d ≡ c → bytes_eq q d ≡ false
        flipped true same = absurd (true-false (ap (λ u. bytes_eq d u) (same_text q d same) ∙ itself d) other)
        flipped false is = is

-- a document with a note at some place has a note
noted_at : (writes : List (List ℕ × Own)) (at : ℕ) (e : List ℕ × Own) → slice_get writes at ≡ Some e → (v : Own) × (noted writes e.0 ≡ Some v)
noted_at [] at e found = absurd (none-some e found)
noted_at (w ∷ writes) zero e found =
    (w.1, ap (λ b. cond b (Some w.1) (noted writes e.0)) (ap (λ (u : List ℕ × Own). bytes_eq e.0 u.0) (some_same found) ∙ itself e.0))
noted_at (w ∷ writes) (suc at) e found = by (noted_at writes at e found) (bytes_eq e.0 w.0) refl
  where
    by : (v : Own) × (noted writes e.0 ≡ Some v) → (b : Bool) → bytes_eq e.0 w.0 ≡ b → (v : Own) × (cond (bytes_eq e.0 w.0) (Some w.1) (noted writes e.0) ≡ Some v)
    by it true is = (w.1, ap (λ b. cond b (Some w.1) (noted writes e.0)) is)
    by it false is = (it.0, ap (λ b. cond b (Some w.1) (noted writes e.0)) is ∙ it.1)

-- what is so of each key is so of the key at a place
key_at : (P : List ℕ → Type 0) (works : List Work) (at : ℕ) (w : Work) → AllByRecursion P (keys_of works) → slice_get works at ≡ Some w → P w.0
key_at P [] at w all found = absurd (none-some w found)
key_at P (v ∷ works) zero w all found = subst (λ (u : Work). P u.0) (some_same found) all.0
key_at P (v ∷ works) (suc at) w all found = key_at P works at w all.1 found

-- where no key stands twice, a document stands at one place
one_place : (works : List Work) → IsDistinct bytes_eq (keys_of works) → (i j : ℕ) (v w : Work) → slice_get works i ≡ Some v → slice_get works j ≡ Some w
    → v.0 ≡ w.0 → i ≡ j
one_place [] unique i j v w at_i at_j same = absurd (none-some v at_i)
one_place (u ∷ works) unique zero zero v w at_i at_j same = refl
one_place (u ∷ works) unique zero (suc j) v w at_i at_j same =
    absurd (true-false (ap (λ q. bytes_eq u.0 q) (sym (ap (λ (x : Work). x.0) (some_same at_i) ∙ same)) ∙ itself u.0)
    (key_at (λ q. bytes_eq u.0 q ≡ false) works j w (IsDistinct-head bytes_eq u.0 (keys_of works) unique) at_j))
one_place (u ∷ works) unique (suc i) zero v w at_i at_j same =
    absurd (true-false (ap (λ q. bytes_eq u.0 q) (sym (ap (λ (x : Work). x.0) (some_same at_j) ∙ sym same)) ∙ itself u.0)
    (key_at (λ q. bytes_eq u.0 q ≡ false) works i v (IsDistinct-head bytes_eq u.0 (keys_of works) unique) at_i))
one_place (u ∷ works) unique (suc i) (suc j) v w at_i at_j same =
    ap (λ k. suc k) (one_place works (IsDistinct-tail bytes_eq u.0 (keys_of works) unique) i j v w at_i at_j same)

-- the staging of an own write
written_parts : (v : Own) (x : Option ℕ) (w : Written) → v.cas ≡ x → written_at v x ≡ Some w → (v.cas ≡ Some w.cas) × (v.content ≡ w.content)
written_parts v None w is found = absurd (none-some w found)
written_parts v (Some x) w is found = (is ∙ ap (λ (u : Written). Some u.cas) (some_same found), ap (λ (u : Written). u.content) (some_same found))

-- what is noted of a document is what is copied
abbrev Copies : List (List ℕ × Own) → List ℕ → Written → Type 0
Copies writes q c = (v : Own) × (noted writes q ≡ Some v) × (v.cas ≡ Some c.cas) × (v.content ≡ c.content)

-- the own writes before a place were copied where their CAS is known
pub record CopiedUpTo (writes : List (List ℕ × Own)) (at : ℕ) (works : List Work) : Type 0 where
  pub unique : IsDistinct bytes_eq (keys_of works)
  pub kept : (q : List ℕ) (c : Written) → lookup (bytes_eq q) works ≡ Some c → Copies writes q c
  pub has : (j : ℕ) (e : List ℕ × Own) (w : Written) → j < at → slice_get writes j ≡ Some e → written_of (noted writes e.0) ≡ Some w
      → (c : Written) × (lookup (bytes_eq e.0) works ≡ Some c)

pub copied_none : (writes : List (List ℕ × Own)) (works : List Work) → works ≡ [] → IsDistinct bytes_eq (keys_of works) → CopiedUpTo writes 0 works
copied_none writes works none unique = record {
  unique = unique;
  kept = λ q c found. absurd (none-some c (ap (λ ws. lookup (bytes_eq q) ws) (sym none) ∙ found));
  has = λ j e w before found is. absurd (omega arith);
}

pub copied_on : (writes : List (List ℕ × Own)) (at : ℕ) (old new : List Work) (e : List ℕ × Own) (c : Written) → slice_get writes at ≡ Some e
    → written_of (noted writes e.0) ≡ Some c → ((q : List ℕ) → lookup (bytes_eq q) new ≡ cond (bytes_eq e.0 q) (Some c) (lookup (bytes_eq q) old))
    → IsDistinct bytes_eq (keys_of new) → CopiedUpTo writes at old → CopiedUpTo writes (at + 1) new
copied_on writes at old new e c found is_written updates unique upto = record {
  unique = unique;
  kept = λ q s is. kept_by q s (bytes_eq e.0 q) refl (sym (updates q) ∙ is);
  has = λ j f w before is it. has_by j f w before is it (bytes_eq e.0 f.0) refl;
}
  where
    its : (v : Own) × (noted writes e.0 ≡ Some v)
    its = noted_at writes at e found

    kept_by : (q : List ℕ) (s : Written) (b : Bool) → bytes_eq e.0 q ≡ b → cond (bytes_eq e.0 q) (Some c) (lookup (bytes_eq q) old) ≡ Some s
        → Copies writes q s
    kept_by q s true same is =
        let parts = written_parts its.0 its.0.cas s refl
        (sym (ap written_of its.1) ∙ is_written ∙ (sym (ap (λ b. cond b (Some c) (lookup (bytes_eq q) old)) same) ∙ is)) in
        (its.0, ap (λ u. noted writes u) (sym (same_text e.0 q same)) ∙ its.1, parts.0, parts.1)
    kept_by q s false other is = upto.kept q s (sym (ap (λ b. cond b (Some c) (lookup (bytes_eq q) old)) other) ∙ is)

    has_by : (j : ℕ) (f : List ℕ × Own) (w : Written) → j < at + 1 → slice_get writes j ≡ Some f → written_of (noted writes f.0) ≡ Some w
        → (b : Bool) → bytes_eq e.0 f.0 ≡ b → (s : Written) × (lookup (bytes_eq f.0) new ≡ Some s)
    has_by j f w before is its true same = (c, updates f.0 ∙ ap (λ b. cond b (Some c) (lookup (bytes_eq f.0) old)) same)
    has_by j f w before is its false other =
        let it = upto.has j f w (earlier (j == at) refl) is its in
        (it.0, updates f.0 ∙ ap (λ b. cond b (Some c) (lookup (bytes_eq f.0) old)) other ∙ it.1)
      where
        that_place : j ≡ at → ⊥
        that_place here =
            true-false (ap (λ (u : List ℕ × Own). bytes_eq e.0 u.0) (sym (some_same (sym found ∙ ap (λ k. slice_get writes k) (sym here) ∙ is))) ∙ itself e.0) other

        earlier : (b : Bool) → (j == at) ≡ b → j < at
        earlier true here = absurd (that_place (grind arith))
        earlier false differs = grind arith

-- one whose CAS is not known is left out
pub copied_past : (writes : List (List ℕ × Own)) (at : ℕ) (works : List Work) (e : List ℕ × Own) → slice_get writes at ≡ Some e
    → written_of (noted writes e.0) ≡ None → CopiedUpTo writes at works → CopiedUpTo writes (at + 1) works
copied_past writes at works e found unknown upto = record {
  unique = upto.unique;
  kept = upto.kept;
  has = λ j f w before is its. has_by j f w before is its (j == at) refl;
}
  where
    has_by : (j : ℕ) (f : List ℕ × Own) (w : Written) → j < at + 1 → slice_get writes j ≡ Some f → written_of (noted writes f.0) ≡ Some w
        → (b : Bool) → (j == at) ≡ b → (c : Written) × (lookup (bytes_eq f.0) works ≡ Some c)
    has_by j f w before is its true here =
        let place : j ≡ at = grind arith in
        let same : f ≡ e = some_same (sym is ∙ ap (λ k. slice_get writes k) place ∙ found) in
        absurd (none-some w (sym unknown ∙ ap (λ (u : List ℕ × Own). written_of (noted writes u.0)) (sym same) ∙ its))
    has_by j f w before is its false differs = upto.has j f w (grind arith) is its

written_there : (writes : List (List ℕ × Own)) (d q : List ℕ) (v : Own) (x : ℕ) → noted writes d ≡ Some v → v.cas ≡ Some x → d ≡ q
    → written_of (noted writes q) ≡ Some (record { cas = x; content = v.content })
written_there writes d q v x is stamp same = ap (λ u. written_of (noted writes u)) (sym same) ∙ ap written_of is ∙ ap (written_at v) stamp

pub copied_all : (writes : List (List ℕ × Own)) (at : ℕ) (works : List Work) → slice_get writes at ≡ None → CopiedUpTo writes at works
    → CopiesNotes (noted writes) works
copied_all writes at works past upto = record {
  known = λ j w is. upto.kept w.0 w.1 (lookup_from_place bytes_equiv works j w.0 w.1 upto.unique is);
  all = all_of;
  apart = one_place works upto.unique;
}
  where
    beyond : length writes ≤ at
    beyond = ⊎_elim (λ it. absurd (none-some it.0 (sym past ∙ it.2))) (λ it. it.0) (slice_get_cases writes at).1

    before : (i n : ℕ) → i < n → n ≤ at → i < at
    before i n less most = omega arith

    all_of : (d : List ℕ) (v : Own) (x : ℕ) → noted writes d ≡ Some v → v.cas ≡ Some x → (j : ℕ) × (w : Work) × (slice_get works j ≡ Some w) × (w.0 ≡ d)
    all_of d v x is stamp =
        let place = place_from_lookup (bytes_eq d) writes v is in
        let within : place.0 < length writes = slice_get_within writes place.0 (place.1, v) place.2 in
        let has = written_there writes d place.1 v x is stamp (same_text d place.1 place.3) in
        let it = upto.has place.0 (place.1, v) (record { cas = x; content = v.content }) (before place.0 (length writes) within beyond) place.2 has in
        let at_key = place_from_lookup (bytes_eq place.1) works it.0 it.1 in
        (at_key.0, (at_key.1, it.0), at_key.2, sym (same_text place.1 at_key.1 at_key.3) ∙ sym (same_text d place.1 place.3))

-- what is left at a place begins with what stands there
left_at : (writes : List (List ℕ × Own)) (at : ℕ) (e : List ℕ × Own) → slice_get writes at ≡ Some e → drop at writes ≡ e ∷ drop (at + 1) writes
left_at writes at e found = drop_next writes at e found ∙ ap (λ k. e ∷ drop k writes) (up at)
  where
    up : (n : ℕ) → suc n ≡ n + 1
    up n = omega arith

    drop_next : (ws : List (List ℕ × Own)) (k : ℕ) (f : List ℕ × Own) → slice_get ws k ≡ Some f → drop k ws ≡ f ∷ drop (suc k) ws
    drop_next [] k f is = absurd (none-some f is)
    drop_next (w ∷ ws) zero f is = ap (λ u. u ∷ ws) (some_same is)
    drop_next (w ∷ ws) (suc k) f is = drop_next ws k f is

-- what is copied and what is left to copy make the whole
pub rest_on : (writes : List (List ℕ × Own)) (at : ℕ) (old new whole : List Work) (e : List ℕ × Own) (c : Written) → slice_get writes at ≡ Some e
    → written_of (noted writes e.0) ≡ Some c → new ≡ insert_entry bytes_eq old e.0 c → copied_behind (noted writes) old (drop at writes) ≡ whole
    → copied_behind (noted writes) new (drop (at + 1) writes) ≡ whole
rest_on writes at old new whole e c found is_written inserted rest =
    ap (λ ws. copied_behind (noted writes) ws (drop (at + 1) writes)) (inserted ∙ sym (ap (with_copy old e.0) is_written))
    ∙ sym (ap (copied_behind (noted writes) old) (left_at writes at e found)) ∙ rest

pub rest_past : (writes : List (List ℕ × Own)) (at : ℕ) (works whole : List Work) (e : List ℕ × Own) → slice_get writes at ≡ Some e
    → written_of (noted writes e.0) ≡ None → copied_behind (noted writes) works (drop at writes) ≡ whole
    → copied_behind (noted writes) works (drop (at + 1) writes) ≡ whole
rest_past writes at works whole e found unknown rest =
    ap (λ ws. copied_behind (noted writes) ws (drop (at + 1) writes)) (sym (ap (with_copy works e.0) unknown))
    ∙ sym (ap (copied_behind (noted writes) works) (left_at writes at e found)) ∙ rest

pub rest_none : (writes : List (List ℕ × Own)) (at : ℕ) (works whole : List Work) → slice_get writes at ≡ None
    → copied_behind (noted writes) works (drop at writes) ≡ whole → works ≡ whole
rest_none writes at works whole past rest =
    sym (ap (copied_behind (noted writes) works) (drop_past writes at past)) ∙ rest
  where
    drop_past : (ws : List (List ℕ × Own)) (k : ℕ) → slice_get ws k ≡ None → drop k ws ≡ []
    drop_past [] zero is = refl
    drop_past [] (suc k) is = refl
    drop_past (w ∷ ws) zero is = absurd (none-some w (sym is))
    drop_past (w ∷ ws) (suc k) is = drop_past ws k is

-- there are no more works than own writes
copy_adds : (works : List Work) (d : List ℕ) (c : Written) → length (insert_entry bytes_eq works d c) ≤ length works + 1
copy_adds [] d c = omega arith
copy_adds (w ∷ works) d c = by (bytes_eq d w.0) (copy_adds works d c)
  where
    by : (b : Bool) → length (insert_entry bytes_eq works d c) ≤ length works + 1
        → length (cond b ((w.0, c) ∷ works) (w ∷ insert_entry bytes_eq works d c)) ≤ suc (length works) + 1
    by true few = omega arith
    by false few = omega arith

copies_add : (own : List ℕ → Option Own) (works : List Work) (writes : List (List ℕ × Own)) → length (copied_behind own works writes) ≤ length works + length writes
copies_add own works [] = omega arith
copies_add own works (w ∷ writes) = by (λ ws. copies_add own ws writes) (written_of (own w.0))
  where
    by : ((ws : List Work) → length (copied_behind own ws writes) ≤ length ws + length writes) → (o : Option Written)
        → length (copied_behind own (with_copy works w.0 o) writes) ≤ length works + suc (length writes)
    by few None = let it = few works in omega arith
    by few (Some c) = let it = few (insert_entry bytes_eq works w.0 c) in let one = copy_adds works w.0 c in omega arith

pub few_works : (writes : List (List ℕ × Own)) → length (copied writes) ≤ length writes
few_works writes = let few = copies_add (noted writes) [] writes in omega arith

pub listed_once : (own : List ℕ → Option Own) (t : Task) → IsOf own t → IsListedOnce t
listed_once own t is_of = record {
  apart = is_of.works.apart;
  listed = λ at w found. let it = is_of.works.known at w found in (it.0.kind, (is_of.lists it.0.kind w.0).1 (it.0, it.1, refl));
}
