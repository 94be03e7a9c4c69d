-- Each record has one owner among the active rows.
use Rattle.std.proofs.Common.{◌≡◌, ℕ, suc, ◌+◌, ◌<◌, ◌≤◌, ◌%◌, ◌==◌, Bool, true, false, ◌&&◌, not, cond, nat_lt, ⊎_elim, [], ◌∷◌, ◌++◌, append_assoc, length, length-append, filter, count_by, Option, Some, None, refl, sym, ap, ◌∙◌, subst, arith}
use Rattle.std.proofs.lemmas.Bool.{eq-eqb, eqb-true}
use Rattle.std.proofs.lemmas.List.Elements.{filter-append}
use Rattle.std.proofs.lemmas.List.Sums.{sum_by-cons}
use Rattle.cbt_model.specs.Fitting.{ids_rise, is_above, ids_rise_from}
use Rattle.cbt_model.specs.declared.entries.ClientRow.{ClientRow}
use Rattle.cbt_book.specs.OwnLists.{In}
use Rattle.cbt_book.specs.Shares.{has_record, is_active, others_active, share_of}
use Rattle.cbt_record.proofs.Others.{Rows, active_in, AreBelow, AreAbove, below, differs, below_it, all_others}

both : (a b : Bool) → (a && b) ≡ true → (a ≡ true) × (b ≡ true)
both true true is = (refl, refl)
both true false is = absurd (cc)
both false b is = absurd (cc)

less : (low id : ℕ) → nat_lt low id ≡ true → low < id
less low id is = grind arith

weaker : (low id : ℕ) (rows : Rows) → low < id → AreAbove id rows → AreAbove low rows
weaker low id [] under above = tt
weaker low id (r ∷ rows) under above = (let it = above.0 in omega arith, weaker low id rows under above.1)

all_above : (low : ℕ) (rows : Rows) → ids_rise_from (Some low) rows ≡ true → AreAbove low rows
all_above low [] rise = tt
all_above low (r ∷ rows) rise =
    let two = both (nat_lt low r.0) (ids_rise_from (Some r.0) rows) rise in
    let first = less low r.0 two.0 in
    (first, weaker low r.0 rows first (all_above r.0 rows two.1))

reaches : (low : ℕ) (pre : Rows) (r : ℕ × ClientRow) (suf : Rows) → AreAbove low (pre ++ r ∷ suf) → low < r.0
reaches low [] r suf above = above.0
reaches low (p ∷ pre) r suf above = reaches low pre r suf above.1

-- a row parts those of lower ids from those of higher ones
split : (low : Option ℕ) (pre : Rows) (r : ℕ × ClientRow) (suf : Rows) → ids_rise_from low (pre ++ r ∷ suf) ≡ true → AreBelow r.0 pre × AreAbove r.0 suf
split low [] r suf rise = (tt, all_above r.0 suf (both (is_above low r.0) (ids_rise_from (Some r.0) suf) rise).1)
split low (p ∷ pre) r suf rise =
    let rest = (both (is_above low p.0) (ids_rise_from (Some p.0) (pre ++ r ∷ suf)) rise).1 in
    let it = split (Some p.0) pre r suf rest in
    ((reaches p.0 pre r suf (all_above p.0 (pre ++ r ∷ suf) rest), it.0), it.1)

-- the record falls to this active row
abbrev owns : Rows → ℕ → ℕ → ℕ × ClientRow → Bool
owns all now atr r = is_active now r.1 && has_record (share_of all r.0 now) atr

-- one row more
active_more : (now : ℕ) (pre : Rows) (r : ℕ × ClientRow) → active_in now (pre ++ r ∷ []) ≡ active_in now pre + cond (is_active now r.1) 1 0
active_more now pre r =
    ap length (filter-append (λ x. is_active now x.1) pre (r ∷ [])) ∙ length-append (filter (λ x. is_active now x.1) pre) _ ∙ by (is_active now r.1)
  where
    by : (a : Bool) → active_in now pre + length (cond a (r ∷ []) []) ≡ active_in now pre + cond a 1 0
    by true = refl
    by false = refl

active_cons : (now : ℕ) (r : ℕ × ClientRow) (suf : Rows) → active_in now (r ∷ suf) ≡ cond (is_active now r.1) 1 0 + active_in now suf
active_cons now r suf = by (is_active now r.1)
  where
    by : (a : Bool) → length (cond a (r ∷ filter (λ x. is_active now x.1) suf) (filter (λ x. is_active now x.1) suf)) ≡ cond a 1 0 + active_in now suf
    by true = omega arith
    by false = omega arith

-- an active row owns the record whose number, modulo the active rows, is that of those before it
owns_is : (all : Rows) (now atr : ℕ) (pre : Rows) (r : ℕ × ClientRow) (suf : Rows) (k : ℕ) → all ≡ pre ++ r ∷ suf → ids_rise all ≡ true → is_active now r.1 ≡ true
    → k ≡ active_in now pre + suc (active_in now suf) → owns all now atr r ≡ (atr % k == active_in now pre)
owns_is all now atr pre r suf k is rise active k_is =
    let two = split None pre r suf (subst (λ rows. ids_rise rows ≡ true) is rise) in
    let index : below r.0 (others_active all r.0 now) ≡ active_in now pre = ap (λ rows. below r.0 (others_active rows r.0 now)) is ∙ below_it now pre r suf two.0 two.1 in
    let among : length (others_active all r.0 now) ≡ active_in now pre + active_in now suf =
    ap (λ rows. length (others_active rows r.0 now)) is ∙ all_others now pre r suf two.0 two.1 in
    let of : suc (length (others_active all r.0 now)) ≡ k = omega arith in
    ap (λ a. a && has_record (share_of all r.0 now) atr) active
    ∙ by (length (others_active all r.0 now)) (below r.0 (others_active all r.0 now)) of index
  where
    by : (n i : ℕ) → suc n ≡ k → i ≡ active_in now pre → (not (suc n == 0) && (atr % suc n == i)) ≡ (atr % k == active_in now pre)
    by n i one two = ap (λ b. not b && (atr % suc n == i)) (positive n) ∙ ap (λ m. atr % m == i) one ∙ ap (λ j. atr % k == j) two
      where
        positive : (n : ℕ) → (suc n == 0) ≡ false
        positive n = differs (suc n) 0 (λ same. absurd (omega arith))

-- how many of these rows own it: one where those before do not reach its number, and else none
abbrev OwnedBy : Rows → ℕ → ℕ → ℕ → ℕ → Rows → Type 0
OwnedBy all now atr k before suf = (before ≤ atr % k → count_by (owns all now atr) suf ≡ 1) × (atr % k < before → count_by (owns all now atr) suf ≡ 0)

one_more : (all : Rows) (now atr k : ℕ) (pre : Rows) (r : ℕ × ClientRow) (suf : Rows) → all ≡ pre ++ r ∷ suf → ids_rise all ≡ true → k ≡ active_in now pre + active_in now (r ∷ suf)
    → (k ≡ active_in now (pre ++ r ∷ []) + active_in now suf → OwnedBy all now atr k (active_in now (pre ++ r ∷ [])) suf) → OwnedBy all now atr k (active_in now pre) (r ∷ suf)
one_more all now atr k pre r suf is rise k_is rest = by (is_active now r.1) refl
  where
    here : count_by (owns all now atr) (r ∷ suf) ≡ cond (owns all now atr r) 1 0 + count_by (owns all now atr) suf
    here = sum_by-cons (λ (x : ℕ × ClientRow). cond (owns all now atr x) 1 0) r suf

    no_test : {b : Bool} → b ≡ true → b ≡ false → ⊥
    no_test one two = cc

    above : (x a n : ℕ) → (x ≡ a → ⊥) → a ≤ x → n ≡ a + 1 → n ≤ x
    above x a n other low more = omega arith

    at : (b : Bool) → (atr % k == active_in now pre) ≡ b
        → count_by (owns all now atr) (r ∷ suf) ≡ cond (atr % k == active_in now pre) 1 0 + count_by (owns all now atr) suf
        → active_in now (pre ++ r ∷ []) ≡ active_in now pre + 1
        → OwnedBy all now atr k (active_in now (pre ++ r ∷ [])) suf → OwnedBy all now atr k (active_in now pre) (r ∷ suf)
    at true test same more it =
        let equal : atr % k ≡ active_in now pre = eqb-true (atr % k) (active_in now pre) test in
        let counts : count_by (owns all now atr) (r ∷ suf) ≡ 1 + count_by (owns all now atr) suf = same ∙ ap (λ b. cond b 1 0 + count_by (owns all now atr) suf) test in
        let none = it.1 (omega arith) in
        (λ low. omega arith, λ high. absurd (omega arith))
    at false test same more it =
        let other : atr % k ≡ active_in now pre → ⊥ = λ equal. no_test (eq-eqb (atr % k) (active_in now pre) equal) test in
        let counts : count_by (owns all now atr) (r ∷ suf) ≡ 0 + count_by (owns all now atr) suf = same ∙ ap (λ b. cond b 1 0 + count_by (owns all now atr) suf) test in (
          λ low. let one = it.0 (above (atr % k) (active_in now pre) (active_in now (pre ++ r ∷ [])) other low more) in omega arith,
          λ high. let none = it.1 (omega arith) in omega arith,
        )

    by : (a : Bool) → is_active now r.1 ≡ a → OwnedBy all now atr k (active_in now pre) (r ∷ suf)
    by false not_active =
        let more : active_in now (pre ++ r ∷ []) ≡ active_in now pre + 0 = active_more now pre r ∙ ap (λ a. active_in now pre + cond a 1 0) not_active in
        let behind : active_in now (r ∷ suf) ≡ 0 + active_in now suf = active_cons now r suf ∙ ap (λ a. cond a 1 0 + active_in now suf) not_active in
        let same : count_by (owns all now atr) (r ∷ suf) ≡ 0 + count_by (owns all now atr) suf =
        here ∙ ap (λ a. cond (a && has_record (share_of all r.0 now) atr) 1 0 + count_by (owns all now atr) suf) not_active in
        let it = rest (omega arith) in
        (λ low. let one = it.0 (omega arith) in omega arith, λ high. let none = it.1 (omega arith) in omega arith)
    by true active =
        let more : active_in now (pre ++ r ∷ []) ≡ active_in now pre + 1 = active_more now pre r ∙ ap (λ a. active_in now pre + cond a 1 0) active in
        let behind : active_in now (r ∷ suf) ≡ 1 + active_in now suf = active_cons now r suf ∙ ap (λ a. cond a 1 0 + active_in now suf) active in
        let same : count_by (owns all now atr) (r ∷ suf) ≡ cond (atr % k == active_in now pre) 1 0 + count_by (owns all now atr) suf =
        here ∙ ap (λ b. cond b 1 0 + count_by (owns all now atr) suf) (owns_is all now atr pre r suf k is rise active (omega arith)) in
        at (atr % k == active_in now pre) refl same more (rest (omega arith))

owners : (all : Rows) (now atr k : ℕ) (pre suf : Rows) → all ≡ pre ++ suf → ids_rise all ≡ true → k ≡ active_in now pre + active_in now suf → atr % k < k
    → OwnedBy all now atr k (active_in now pre) suf
owners all now atr k pre [] is rise k_is within = (λ low. absurd (let none : active_in now [] ≡ 0 = refl in omega arith), λ high. refl)
owners all now atr k pre (r ∷ suf) is rise k_is within =
    one_more all now atr k pre r suf is rise k_is
    (λ k_now. owners all now atr k (pre ++ r ∷ []) suf (is ∙ sym (append_assoc pre (r ∷ []) suf)) rise k_now within)

-- some row is active
some_active : (now : ℕ) (row : ℕ × ClientRow) (rows : Rows) → In row rows → is_active now row.1 ≡ true → 0 < active_in now rows
some_active now row [] there active = absurd there
some_active now row (r ∷ rows) there active =
    let is = active_cons now r rows in
    ⊎_elim (λ (here : row ≡ r). first (is ∙ ap (λ a. cond a 1 0 + active_in now rows) (ap (λ (x : ℕ × ClientRow). is_active now x.1) (sym here) ∙ active)))
    (λ (later : In row rows). let more = some_active now row rows later active in omega arith) there
  where
    first : active_in now (r ∷ rows) ≡ 1 + active_in now rows → 0 < active_in now (r ∷ rows)
    first is = omega arith

pub one_owner : (rows : Rows) (row : ℕ × ClientRow) (now atr : ℕ) → ids_rise rows ≡ true → In row rows → is_active now row.1 ≡ true
    → count_by (λ r. is_active now r.1 && has_record (share_of rows r.0 now) atr) rows ≡ 1
one_owner rows row now atr rise there active =
    let some = some_active now row rows there active in
    let none : active_in now [] ≡ 0 = refl in
    (owners rows now atr (active_in now rows) [] rows refl rise (omega arith) (mod_below atr (active_in now rows) some)).0 (omega arith)
  where
    mod_below : (n k : ℕ) → 0 < k → n % k < k
    mod_below n k some = omega arith
