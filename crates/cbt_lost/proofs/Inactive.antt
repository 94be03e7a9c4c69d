-- The cleaners that are gone, as many as one row removes.
use Rattle.std.proofs.Common.{◌≡◌, ℕ, zero, suc, ◌+◌, ◌<◌, ◌≤◌, ◌==◌, nat_lt, inl, inr, ⊎_elim, Bool, true, false, ◌&&◌, not, cond, if◌then◌else◌, List, [], ◌∷◌, ◌++◌, append_assoc, length, length-append, map, filter, take, drop, get_or, Option, Some, None, refl, sym, ap, ◌∙◌, subst, arith}
use Rattle.std.proofs.lemmas.Grind.{common_steps}
use Rattle.std.proofs.lemmas.Bool.{ltb-true}
use Rattle.std.proofs.lemmas.List.{append-nil, take_all}
use Rattle.std.proofs.lemmas.Map.Keys.{IsStrictlyIncreasing-from_sorted}
use Rattle.std.proofs.Math.Seq.{drop-cons, take-append_seam}
use Rattle.std.specs.Cmp.{nat_cmp_is}
use Rattle.std.specs.List.{AllByRecursion}
use Rattle.std.specs.List.Sorted.{IsStrictlySortedBy, IsStrictlyIncreasing}
use Rattle.std.specs.Ordering.{nat_cmp}
use Rattle.std.specs.declared.cmp.Ordering.TheVariants.{Less}
use Rattle.cbt_model.specs.Fitting.{ids_rise, ids_rise_from, is_above}
use Rattle.cbt_model.specs.declared.entries.ClientRow.{ClientRow}
use Rattle.cbt_book.specs.OwnLists.{In}
use Rattle.cbt_book.specs.Shares.{inactive, is_active}
use Rattle.cbt_lost.specs.Gone.{gone_with}

-- what stands in the front of a list stands in it
pub in_take : (x n : ℕ) (l : List ℕ) → In x (take n l) → In x l
in_take x zero l there = absurd there
in_take x (suc n) [] there = absurd there
in_take x (suc n) (y ∷ l) there = ⊎_elim (λ (here : x ≡ y). inl here) (λ (later : In x (take n l)). inr (in_take x n l later)) there

-- numbers rise from a low one on
abbrev Climbs : ℕ → List ℕ → Type 0
Climbs low [] = Unit {0}
Climbs low (x ∷ xs) = (low ≤ x) × Climbs (suc x) xs

climbs_from : (low mid : ℕ) (xs : List ℕ) → low ≤ mid → Climbs mid xs → Climbs low xs
climbs_from low mid [] under up = tt
climbs_from low mid (x ∷ xs) under up = (let above = up.0 in omega arith, up.1)

climbs_take : (low n : ℕ) (xs : List ℕ) → Climbs low xs → Climbs low (take n xs)
climbs_take low zero xs up = tt
climbs_take low (suc n) [] up = tt
climbs_take low (suc n) (x ∷ xs) up = (up.0, climbs_take (suc x) n xs up.1)

climbs_above : (low x : ℕ) (xs : List ℕ) → Climbs low xs → x < low → AllByRecursion (λ y. nat_cmp x y ≡ Less) xs
climbs_above low x [] up under = tt
climbs_above low x (y ∷ ys) up under = (sym (nat_cmp_is x y Less (let a = up.0 in omega arith)), climbs_above (suc y) x ys up.1 (let a = up.0 in omega arith))

climbs_sorted : (low : ℕ) (xs : List ℕ) → Climbs low xs → IsStrictlySortedBy nat_cmp xs
unfolding IsStrictlySortedBy
climbs_sorted low [] up = tt
climbs_sorted low (x ∷ xs) up = (climbs_above (suc x) x xs up.1 (omega arith), climbs_sorted (suc x) xs up.1)

-- the lowest number above another
abbrev floor : Option ℕ → ℕ
floor None = 0
floor (Some low) = suc low

above_floor : (low : Option ℕ) (x : ℕ) → is_above low x ≡ true → floor low ≤ x
above_floor None x is = omega arith
above_floor (Some low) x is = grind (arith, common_steps)

both : (a b : Bool) → (a && b) ≡ true → (a ≡ true) × (b ≡ true)
both true b is = (refl, is)
both false b is = cc

-- the ids of rows climb, and so do those of some of them
ids_climb : (p : ℕ × ClientRow → Bool) (low : Option ℕ) (rows : List (ℕ × ClientRow)) → ids_rise_from low rows ≡ true → Climbs (floor low) (map (λ r. r.0) (filter p rows))
ids_climb p low [] rise = tt
ids_climb p low (r ∷ rows) rise =
    let it = both (is_above low r.0) (ids_rise_from (Some r.0) rows) rise in
    by (p r) (above_floor low r.0 it.0) (ids_climb p (Some r.0) rows it.1)
  where
    by : (b : Bool) → floor low ≤ r.0 → Climbs (suc r.0) (map (λ x. x.0) (filter p rows)) → Climbs (floor low) (map (λ x. x.0) (cond b (r ∷ filter p rows) (filter p rows)))
    by true above up = (above, up)
    by false above up = climbs_from (floor low) (suc r.0) (map (λ x. x.0) (filter p rows)) (omega arith) up

pub rising : (rows : List (ℕ × ClientRow)) (me now : ℕ) → ids_rise rows ≡ true → IsStrictlyIncreasing (take 12 (inactive rows me now))
rising rows me now rise =
    IsStrictlyIncreasing-from_sorted (take 12 (inactive rows me now))
    (climbs_sorted 0 (take 12 (inactive rows me now)) (climbs_take 0 12 (inactive rows me now) (ids_climb (λ r. not (is_active now r.1) && not (r.0 == me)) None rows rise)))

-- ---- one row after another

-- twelve are enough
full : (gone rest : List ℕ) → length gone ≡ 12 → take 12 (gone ++ rest) ≡ gone
full gone rest is = subst (λ n. take n (gone ++ rest) ≡ gone) is (take-append_seam gone rest)

pub gone_more : (gone : List ℕ) (row : ℕ × ClientRow) (rows : List (ℕ × ClientRow)) (me now : ℕ) → length gone ≤ 12
    → take 12 (gone_with gone row me now ++ inactive rows me now) ≡ take 12 (gone ++ inactive (row ∷ rows) me now)
gone_more gone row rows me now few = by (nat_lt (length gone) 12) refl (not (is_active now row.1) && not (row.0 == me))
  where
    all : nat_lt (length gone) 12 ≡ false → length gone ≡ 12
    all is = grind (arith, common_steps)

    by : (room : Bool) → nat_lt (length gone) 12 ≡ room → (b : Bool)
        → take 12 ((if room && b then gone ++ row.0 ∷ [] else gone) ++ inactive rows me now)
        ≡ take 12 (gone ++ map (λ r. r.0) (cond b (row ∷ filter (λ r. not (is_active now r.1) && not (r.0 == me)) rows) (filter (λ r. not (is_active now r.1) && not (r.0 == me)) rows)))
    by true is true = ap (λ k. take 12 k) (append_assoc gone (row.0 ∷ []) (inactive rows me now))
    by true is false = refl
    by false is true = full gone (inactive rows me now) (all is) ∙ sym (full gone (row.0 ∷ inactive rows me now) (all is))
    by false is false = refl

-- there are never more
pub gone_few : (gone : List ℕ) (row : ℕ × ClientRow) (me now : ℕ) → length gone ≤ 12 → length (gone_with gone row me now) ≤ 12
gone_few gone row me now few = by (nat_lt (length gone) 12) refl (not (is_active now row.1) && not (row.0 == me))
  where
    more : nat_lt (length gone) 12 ≡ true → length (gone ++ row.0 ∷ []) ≤ 12
    more is = let less = ltb-true (length gone) 12 is in omega (arith, length-append gone (row.0 ∷ []))

    by : (room : Bool) → nat_lt (length gone) 12 ≡ room → (b : Bool) → length (if room && b then gone ++ row.0 ∷ [] else gone) ≤ 12
    by true is true = more is
    by true is false = few
    by false is b = few

-- past the last row these are they
pub gone_all : (gone : List ℕ) → length gone ≤ 12 → take 12 (gone ++ []) ≡ gone
gone_all gone few = ap (λ k. take 12 k) (append-nil gone) ∙ take_all 12 gone few

-- the next row
pub row_next : (items rows : List (ℕ × ClientRow)) (i : ℕ) (row : ℕ × ClientRow) → items ≡ rows → row ≡ get_or items i row → i < length items → drop i rows ≡ row ∷ drop (i + 1) rows
row_next items rows i row same is under =
    let more : suc i ≡ i + 1 = omega arith in
    subst (λ k. drop i k ≡ row ∷ drop (i + 1) k) same
    (drop-cons items i row under ∙ ap (λ x. x ∷ drop (suc i) items) (sym is) ∙ ap (λ n. row ∷ drop n items) more)
