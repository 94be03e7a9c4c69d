-- Calls on the entry of one attempt.
use Rattle.std.proofs.Common.{◌≡◌, ◌≢◌, ℕ, ◌+◌, ◌<◌, ◌≤◌, ◌==◌, Bool, true, false, ◌&&◌, cond, nat_lt, ◌⊎◌, inl, inr, ⊎_elim, List, [], ◌∷◌, ◌++◌, filter, map, count_by, Option, Some, refl, sym, ap, ◌∙◌, subst, arith}
use Rattle.std.proofs.lemmas.Bool.{eq-eqb}
use Rattle.std.proofs.lemmas.List.Sums.{sum_by-cons}
use Rattle.cbt_model.specs.Fitting.{is_above, ids_rise_from}
use Rattle.cbt_model.specs.declared.entries.Entry.{Entry}
use Rattle.cbt_model.specs.declared.entries.EntryState.TheVariants.{Pending}
use Rattle.cbt_model.specs.declared.events.Made.{Made}
use Rattle.cbt_model.specs.declared.steps.Reply.TheVariants as reply
use Rattle.cbt_model.specs.declared.steps.Step.{Step}
use Rattle.cbt_model.specs.declared.steps.Step.TheVariants as step
use Rattle.cbt_book.specs.OwnLists.{Once, Each, In}
use Rattle.cbt_book.specs.Passes.{IsDropped, Finishes, dropped, missing, pending, drops_entry_of}
use Rattle.cbt_book.specs.Shown.{ReadsEntry, FindsNoEntry}

true-false : {b : Bool} → b ≡ true → b ≡ false → ⊥
true-false one two = cc

both : (a b : Bool) → (a && b) ≡ true → (a ≡ true) × (b ≡ true)
both true true is = (refl, refl)
both true false is = absurd (cc)
both false b is = absurd (cc)

pub equal_itself : (n : ℕ) → (n == n) ≡ true
equal_itself n = eq-eqb n n refl

-- whether a step is about the entry of attempt a
abbrev pub touches : ℕ → Step → Bool
touches a (step.ReadEntry r b) = a == b
touches a (step.DropEntry r b guarded) = a == b
touches a _ = false

-- no call is about the entry of attempt a
abbrev pub Untouched : ℕ → List Made → Type 0
Untouched a calls = Each (λ m _. touches a m.step ≡ false) calls

-- how many calls drop the entry of attempt a
abbrev pub drops_of : ℕ → List Made → ℕ
drops_of a calls = count_by (λ m. drops_entry_of a m.step) calls

quiet_drops : (a : ℕ) (s : Step) → touches a s ≡ false → drops_entry_of a s ≡ false
quiet_drops a (step.DropEntry r b guarded) quiet = quiet
quiet_drops a _ quiet = refl

pub drops_more : (a : ℕ) (m : Made) (calls : List Made) → drops_of a (m ∷ calls) ≤ drops_of a calls + 1
drops_more a m calls = by (drops_entry_of a m.step) (sum_by-cons (λ (n : Made). cond (drops_entry_of a n.step) 1 0) m calls)
  where
    by : (b : Bool) → drops_of a (m ∷ calls) ≡ cond b 1 0 + drops_of a calls → drops_of a (m ∷ calls) ≤ drops_of a calls + 1
    by true is = omega arith
    by false is = omega arith

pub drops_same : (a : ℕ) (m : Made) (calls : List Made) → drops_entry_of a m.step ≡ false → drops_of a (m ∷ calls) ≡ drops_of a calls
drops_same a m calls none =
    let more : drops_of a (m ∷ calls) ≡ 0 + drops_of a calls =
    sum_by-cons (λ (n : Made). cond (drops_entry_of a n.step) 1 0) m calls ∙ ap (λ b. cond b 1 0 + drops_of a calls) none in
    omega arith

pub untouched_drops : (a : ℕ) (calls : List Made) → Untouched a calls → drops_of a calls ≡ 0
untouched_drops a [] quiet = refl
untouched_drops a (m ∷ calls) quiet = drops_same a m calls (quiet_drops a m.step quiet.0) ∙ untouched_drops a calls quiet.1

reads_itself : (r a : ℕ) (s : Step) → touches a s ≡ false → s ≢ step.ReadEntry r a
reads_itself r a s quiet is = true-false (ap (touches a) is ∙ equal_itself a) quiet

drops_itself : (r a : ℕ) (guarded : Bool) (s : Step) → touches a s ≡ false → s ≢ step.DropEntry r a guarded
drops_itself r a guarded s quiet is = true-false (ap (touches a) is ∙ equal_itself a) quiet

pub untouched_reads : (r a : ℕ) (calls : List Made) → Untouched a calls → ¬ Once (λ m _. m.step ≡ step.ReadEntry r a) calls
untouched_reads r a [] quiet once = once
untouched_reads r a (m ∷ calls) quiet once = ⊎_elim (λ here. reads_itself r a m.step quiet.0 here) (λ later. untouched_reads r a calls quiet.1 later) once

-- the entry was decided when it was to be dropped, and pending when it was read then
abbrev pub ReadsPending : ℕ → ℕ → List Made → Type 0
ReadsPending r a calls = Once (λ m before. ((e : Entry) × ReadsEntry r a e m × (e.state ≡ Pending))
    × Once (λ n _. (n.step ≡ step.DropEntry r a true) × (n.answer.reply ≡ reply.Decided)) before) calls

-- the newest call drops the entry, finds none, or sends a drop of one that was read pending after a drop was refused
abbrev pub EndsIt : ℕ → ℕ → Made → List Made → Type 0
EndsIt r a m calls =
    ((guarded : Bool) × (m.step ≡ step.DropEntry r a guarded) × IsDropped m.answer.reply)
    ⊎ FindsNoEntry r a m
    ⊎ ((m.step ≡ step.DropEntry r a true) × ReadsPending r a calls)

-- what finishes an attempt does so still after further calls
pub finishes_more : (r a : ℕ) (m : Made) (calls : List Made) → Finishes r a calls → Finishes r a (m ∷ calls)
finishes_more r a m calls (dropped once) = dropped (inr once)
finishes_more r a m calls (missing once) = missing (inr once)
finishes_more r a m calls (pending once) = pending (inr once)

-- it was finished before, or is by the newest call
finishes_less : (r a : ℕ) (m : Made) (calls : List Made) → Finishes r a (m ∷ calls) → EndsIt r a m calls ⊎ Finishes r a calls
finishes_less r a m calls (dropped once) = ⊎_elim (λ here. inl (inl here)) (λ later. inr (dropped later)) once
finishes_less r a m calls (missing once) = ⊎_elim (λ here. inl (inr (inl here))) (λ later. inr (missing later)) once
finishes_less r a m calls (pending once) = ⊎_elim (λ here. inl (inr (inr here))) (λ later. inr (pending later)) once

pub unfinished_more : (r a : ℕ) (m : Made) (calls : List Made) → ¬ EndsIt r a m calls → ¬ Finishes r a calls → ¬ Finishes r a (m ∷ calls)
unfinished_more r a m calls not_by before finished = ⊎_elim (λ here. not_by here) (λ earlier. before earlier) (finishes_less r a m calls finished)

quiet_ends : (r a : ℕ) (m : Made) (calls : List Made) → touches a m.step ≡ false → ¬ EndsIt r a m calls
quiet_ends r a m calls quiet ends =
    ⊎_elim (λ drop. drops_itself r a drop.0 m.step quiet drop.1) (λ reads. ⊎_elim (λ none. reads_itself r a m.step quiet none.0) (λ it. drops_itself r a true m.step quiet it.0) reads) ends

pub quiet_unfinished : (r a : ℕ) (m : Made) (calls : List Made) → touches a m.step ≡ false → ¬ Finishes r a calls → ¬ Finishes r a (m ∷ calls)
quiet_unfinished r a m calls quiet before = unfinished_more r a m calls (quiet_ends r a m calls quiet) before

none_finishes : (r a : ℕ) → ¬ Finishes r a []
none_finishes r a (dropped once) = once
none_finishes r a (missing once) = once
none_finishes r a (pending once) = once

pub untouched_unfinished : (r a : ℕ) (first : Made) (later : List Made) → touches a first.step ≡ false → Untouched a later → ¬ Finishes r a (later ++ first ∷ [])
untouched_unfinished r a first [] quiet each = quiet_unfinished r a first [] quiet (none_finishes r a)
untouched_unfinished r a first (m ∷ later) quiet each =
    quiet_unfinished r a m (later ++ first ∷ []) each.0 (untouched_unfinished r a first later quiet each.1)

-- without a call on its entry it was not read
pub untouched_pending : (r a : ℕ) (first : Made) (later : List Made) → touches a first.step ≡ false → Untouched a later → ¬ ReadsPending r a (later ++ first ∷ [])
untouched_pending r a first [] quiet each once = ⊎_elim (λ here. reads_itself r a first.step quiet here.0.1.0) (λ none. none) once
untouched_pending r a first (m ∷ later) quiet each once =
    ⊎_elim (λ here. reads_itself r a m.step each.0 here.0.1.0) (λ before. untouched_pending r a first later quiet each.1 before) once

-- a refused drop finishes nothing, where the entry was not read pending
pub decided_unfinished : (r a : ℕ) (m : Made) (calls : List Made) → m.step ≡ step.DropEntry r a true → m.answer.reply ≡ reply.Decided → ¬ ReadsPending r a calls → ¬ Finishes r a calls
    → ¬ Finishes r a (m ∷ calls)
decided_unfinished r a m calls is told unread before = unfinished_more r a m calls never before
  where
    undropped : ¬ IsDropped reply.Decided
    undropped gone = ⊎_elim (λ done. no_done done) (λ none. no_none none) gone
      where
        no_done : false ≡ true → ⊥
        no_done both = cc

        no_none : reply.Decided ≡ reply.NoEntry → ⊥
        no_none both = cc

    no_reading : m.step ≡ step.ReadEntry r a → ⊥
    no_reading reads = differ (sym is ∙ reads)
      where
        differ : step.DropEntry r a true ≡ step.ReadEntry r a → ⊥
        differ both = cc

    never : ¬ EndsIt r a m calls
    never ends = ⊎_elim (λ drop. undropped (subst IsDropped told drop.2)) (λ reads. ⊎_elim (λ none. no_reading none.0) (λ it. unread it.1) reads) ends

-- nor does a reading that shows the entry
pub read_unfinished : (r a : ℕ) (e : Entry) (m : Made) (calls : List Made) → ReadsEntry r a e m → ¬ Finishes r a calls → ¬ Finishes r a (m ∷ calls)
read_unfinished r a e m calls reads before = unfinished_more r a m calls never before
  where
    no_drop : (guarded : Bool) → m.step ≡ step.DropEntry r a guarded → ⊥
    no_drop guarded is = differ (sym reads.0 ∙ is)
      where
        differ : step.ReadEntry r a ≡ step.DropEntry r a guarded → ⊥
        differ both = cc

    no_none : m.answer.reply ≡ reply.NoEntry → ⊥
    no_none none = differ (sym reads.1 ∙ none)
      where
        differ : reply.Entry e ≡ reply.NoEntry → ⊥
        differ both = cc

    never : ¬ EndsIt r a m calls
    never ends =
        ⊎_elim (λ drop. no_drop drop.0 drop.1)
        (λ shown. ⊎_elim (λ none. no_none none.1) (λ it. no_drop true it.0) shown) ends

-- the attempts of entries
abbrev pub ids_of : List (ℕ × Entry) → List ℕ
ids_of entries = map (λ x. x.0) entries

-- no attempt stands twice
abbrev pub Apart : List ℕ → Type 0
Apart [] = Unit {0}
Apart (a ∷ rest) = (¬ In a rest) × Apart rest

-- where ids rise, those above one are not that one
above_all : (low : ℕ) (entries : List (ℕ × Entry)) → ids_rise_from (Some low) entries ≡ true → (a : ℕ) → In a (ids_of entries) → low < a
above_all low [] rise a there = absurd there
above_all low (e ∷ entries) rise a there =
    let two = both (nat_lt low e.0) (ids_rise_from (Some e.0) entries) rise in
    let first : low < e.0 = lower two.0 in
    ⊎_elim (λ is. subst (λ n. low < n) (sym is) first) (λ later. let more = above_all e.0 entries two.1 a later in omega arith) there
  where
    lower : nat_lt low e.0 ≡ true → low < e.0
    lower is = grind arith

in_kept : (p : ℕ × Entry → Bool) (a : ℕ) (entries : List (ℕ × Entry)) → In a (ids_of (filter p entries)) → In a (ids_of entries)
in_kept p a [] there = there
in_kept p a (e ∷ entries) there = by (λ later. in_kept p a entries later) (p e) there
  where
    by : (In a (ids_of (filter p entries)) → In a (ids_of entries)) → (b : Bool) → In a (ids_of (cond b (e ∷ filter p entries) (filter p entries))) → In a (e.0 ∷ ids_of entries)
    by among true at = ⊎_elim (λ is. inl is) (λ later. inr (among later)) at
    by among false at = inr (among at)

pub apart_kept : (p : ℕ × Entry → Bool) (low : Option ℕ) (entries : List (ℕ × Entry)) → ids_rise_from low entries ≡ true → Apart (ids_of (filter p entries))
apart_kept p low [] rise = tt
apart_kept p low (e ∷ entries) rise =
    let two = both (is_above low e.0) (ids_rise_from (Some e.0) entries) rise in
    by (apart_kept p (Some e.0) entries two.1) (λ later. never (above_all e.0 entries two.1 e.0 (in_kept p e.0 entries later))) (p e)
  where
    never : e.0 < e.0 → ⊥
    never less = omega arith

    by : Apart (ids_of (filter p entries)) → ¬ In e.0 (ids_of (filter p entries)) → (b : Bool) → Apart (ids_of (cond b (e ∷ filter p entries) (filter p entries)))
    by rest apart true = (apart, rest)
    by rest apart false = rest
