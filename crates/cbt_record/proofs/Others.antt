-- The other active cleaners among rows, by whether their ids are lower or higher.
use Rattle.std.proofs.Common.{◌≡◌, ℕ, suc, ◌+◌, ◌<◌, ◌==◌, Bool, true, false, ◌&&◌, not, cond, nat_lt, List, [], ◌∷◌, ◌++◌, length, length-append, map, filter, count_by, refl, ap, ◌∙◌, arith}
use Rattle.std.proofs.lemmas.Bool.{eq-eqb, eqb-true}
use Rattle.std.proofs.lemmas.List.{length-map, map-append}
use Rattle.std.proofs.lemmas.List.Elements.{filter-append}
use Rattle.std.proofs.lemmas.List.Sums.{sum_by-append, sum_by-cons}
use Rattle.cbt_model.specs.declared.entries.ClientRow.{ClientRow}
use Rattle.cbt_book.specs.Shares.{is_active, others_active}

abbrev pub Rows : Type 0
Rows = List (ℕ × ClientRow)

-- how many rows are active
abbrev pub active_in : ℕ → Rows → ℕ
active_in now rows = length (filter (λ r. is_active now r.1) rows)

-- the ids of rows are below this one, or above it
abbrev pub AreBelow : ℕ → Rows → Type 0
AreBelow me [] = Unit {0}
AreBelow me (r ∷ rows) = (r.0 < me) × AreBelow me rows

abbrev pub AreAbove : ℕ → Rows → Type 0
AreAbove me [] = Unit {0}
AreAbove me (r ∷ rows) = (me < r.0) × AreAbove me rows

-- how many of ids are below this one
abbrev pub below : ℕ → List ℕ → ℕ
below me ids = count_by (λ id. nat_lt id me) ids

pub differs : (id me : ℕ) → (id ≡ me → ⊥) → (id == me) ≡ false
differs id me other = by (id == me) refl
  where
    by : (b : Bool) → (id == me) ≡ b → (id == me) ≡ false
    by true same = absurd (other (eqb-true id me same))
    by false is = is

pub below_cons : (me id : ℕ) (ids : List ℕ) → below me (id ∷ ids) ≡ cond (nat_lt id me) 1 0 + below me ids
below_cons me id ids = sum_by-cons (λ (n : ℕ). cond (nat_lt n me) 1 0) id ids

pub lower : (id me : ℕ) → id < me → nat_lt id me ≡ true
lower id me low = grind arith

pub higher : (id me : ℕ) → me < id → nat_lt id me ≡ false
higher id me high = grind arith

-- a row of a lower id counts where it is active
step_below : (me : ℕ) (r : ℕ × ClientRow) (kept : Rows) (a : Bool) → r.0 < me → below me (map (λ x. x.0) (cond (a && not (r.0 == me)) (r ∷ kept) kept)) ≡ cond a 1 0 + below me (map (λ x. x.0) kept)
step_below me r kept false low = omega arith
step_below me r kept true low =
    ap (λ b. below me (map (λ (x : ℕ × ClientRow). x.0) (cond (true && not b) (r ∷ kept) kept))) (differs r.0 me (λ same. never r.0 me same low))
    ∙ below_cons me r.0 (map (λ x. x.0) kept) ∙ ap (λ b. cond b 1 0 + below me (map (λ (x : ℕ × ClientRow). x.0) kept)) (lower r.0 me low)
  where
    never : (id me : ℕ) → id ≡ me → id < me → ⊥
    never id me same low = omega arith

-- one of a higher id does not
step_above : (me : ℕ) (r : ℕ × ClientRow) (kept : Rows) (b : Bool) → me < r.0 → below me (map (λ x. x.0) (cond b (r ∷ kept) kept)) ≡ below me (map (λ x. x.0) kept)
step_above me r kept false high = refl
step_above me r kept true high =
    let more : below me (r.0 ∷ map (λ x. x.0) kept) ≡ 0 + below me (map (λ x. x.0) kept) =
    below_cons me r.0 (map (λ x. x.0) kept) ∙ ap (λ b. cond b 1 0 + below me (map (λ (x : ℕ × ClientRow). x.0) kept)) (higher r.0 me high) in
    omega arith

-- each counts among the others where it is active
step_length : (me : ℕ) (r : ℕ × ClientRow) (kept : Rows) (a : Bool) → (r.0 ≡ me → ⊥) → length (cond (a && not (r.0 == me)) (r ∷ kept) kept) ≡ length (cond a (r ∷ kept) kept)
step_length me r kept false other = refl
step_length me r kept true other = ap (λ b. length (cond (true && not b) (r ∷ kept) kept)) (differs r.0 me other)

-- the rows of the others
abbrev others_in : ℕ → ℕ → Rows → Rows
others_in now me rows = filter (λ r. is_active now r.1 && not (r.0 == me)) rows

pub few_below : (now me : ℕ) (rows : Rows) → AreBelow me rows → below me (others_active rows me now) ≡ active_in now rows
few_below now me [] low = refl
few_below now me (r ∷ rows) low = step_below me r (others_in now me rows) (is_active now r.1) low.0 ∙ ap (λ n. cond (is_active now r.1) 1 0 + n) (few_below now me rows low.1) ∙ by (is_active now r.1)
  where
    by : (a : Bool) → cond a 1 0 + active_in now rows ≡ length (cond a (r ∷ filter (λ x. is_active now x.1) rows) (filter (λ x. is_active now x.1) rows))
    by true = omega arith
    by false = omega arith

pub none_below : (now me : ℕ) (rows : Rows) → AreAbove me rows → below me (others_active rows me now) ≡ 0
none_below now me [] high = refl
none_below now me (r ∷ rows) high = step_above me r (others_in now me rows) (is_active now r.1 && not (r.0 == me)) high.0 ∙ none_below now me rows high.1

same_length : (me : ℕ) (r : ℕ × ClientRow) (kept rows : Rows) (a : Bool) → (r.0 ≡ me → ⊥) → length kept ≡ length rows
    → length (cond (a && not (r.0 == me)) (r ∷ kept) kept) ≡ length (cond a (r ∷ rows) rows)
same_length me r kept rows false other same = same
same_length me r kept rows true other same = step_length me r kept true other ∙ ap suc same

pub many_below : (now me : ℕ) (rows : Rows) → AreBelow me rows → length (others_in now me rows) ≡ active_in now rows
many_below now me [] low = refl
many_below now me (r ∷ rows) low =
    same_length me r (others_in now me rows) (filter (λ x. is_active now x.1) rows) (is_active now r.1) (λ same. never r.0 me same low.0) (many_below now me rows low.1)
  where
    never : (id me : ℕ) → id ≡ me → id < me → ⊥
    never id me same less = omega arith

pub many_above : (now me : ℕ) (rows : Rows) → AreAbove me rows → length (others_in now me rows) ≡ active_in now rows
many_above now me [] high = refl
many_above now me (r ∷ rows) high =
    same_length me r (others_in now me rows) (filter (λ x. is_active now x.1) rows) (is_active now r.1) (λ same. never r.0 me same high.0) (many_above now me rows high.1)
  where
    never : (id me : ℕ) → id ≡ me → me < id → ⊥
    never id me same less = omega arith

-- the row of `me` is none of the others
itself : (now : ℕ) (r : ℕ × ClientRow) (suf : Rows) → others_in now r.0 (r ∷ suf) ≡ others_in now r.0 suf
itself now r suf = ap (λ b. cond (is_active now r.1 && not b) (r ∷ others_in now r.0 suf) (others_in now r.0 suf)) (eq-eqb r.0 r.0 refl) ∙ by (is_active now r.1)
  where
    by : (a : Bool) → cond (a && not true) (r ∷ others_in now r.0 suf) (others_in now r.0 suf) ≡ others_in now r.0 suf
    by true = refl
    by false = refl

parts : (now : ℕ) (pre : Rows) (r : ℕ × ClientRow) (suf : Rows) → others_in now r.0 (pre ++ r ∷ suf) ≡ others_in now r.0 pre ++ others_in now r.0 suf
parts now pre r suf = filter-append (λ x. is_active now x.1 && not (x.0 == r.0)) pre (r ∷ suf) ∙ ap (λ k. others_in now r.0 pre ++ k) (itself now r suf)

-- the others of a row among rows that rise: as many as are active before it are below it
pub below_it : (now : ℕ) (pre : Rows) (r : ℕ × ClientRow) (suf : Rows) → AreBelow r.0 pre → AreAbove r.0 suf
    → below r.0 (others_active (pre ++ r ∷ suf) r.0 now) ≡ active_in now pre
below_it now pre r suf low high =
    let is : below r.0 (others_active (pre ++ r ∷ suf) r.0 now) ≡ below r.0 (others_active pre r.0 now) + below r.0 (others_active suf r.0 now) =
    ap (λ k. below r.0 (map (λ (x : ℕ × ClientRow). x.0) k)) (parts now pre r suf)
    ∙ ap (below r.0) (map-append (λ (x : ℕ × ClientRow). x.0) (others_in now r.0 pre) (others_in now r.0 suf))
    ∙ sum_by-append (λ (n : ℕ). cond (nat_lt n r.0) 1 0) (others_active pre r.0 now) (others_active suf r.0 now) in
    let one = few_below now r.0 pre low in
    let two = none_below now r.0 suf high in
    omega arith

pub all_others : (now : ℕ) (pre : Rows) (r : ℕ × ClientRow) (suf : Rows) → AreBelow r.0 pre → AreAbove r.0 suf
    → length (others_active (pre ++ r ∷ suf) r.0 now) ≡ active_in now pre + active_in now suf
all_others now pre r suf low high =
    let is : length (others_active (pre ++ r ∷ suf) r.0 now) ≡ length (others_in now r.0 pre) + length (others_in now r.0 suf) =
    length-map (others_in now r.0 (pre ++ r ∷ suf)) (λ x. x.0) ∙ ap length (parts now pre r suf) ∙ length-append (others_in now r.0 pre) (others_in now r.0 suf) in
    let one = many_below now r.0 pre low in
    let two = many_above now r.0 suf high in
    omega arith
