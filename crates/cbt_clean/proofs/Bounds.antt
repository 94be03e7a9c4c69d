-- A pass has fewer calls left after each answer.
use Rattle.std.proofs.Common.{◌≡◌, true, false, Bool, ℕ, suc, ◌+◌, ◌-◌, ◌*◌, ◌≤◌, ◌<◌, ◌≢◌, List, [], ◌∷◌, length, map, filter, slice_get, Option, Some, None, IsSome, refl, sym, ap, ◌∙◌, subst, arith}
use Rattle.std.proofs.lemmas.List.{length-map}
use Rattle.std.proofs.lemmas.Option.{none-some, slice_get_within}
use Rattle.cbt_model.specs.Fitting.{fits, fits_read_doc}
use Rattle.cbt_model.specs.declared.entries.Entry.{Entry}
use Rattle.cbt_model.specs.declared.entries.EntryState.{EntryState}
use Rattle.cbt_model.specs.declared.entries.EntryState.TheVariants.{Pending, Committed, Aborted}
use Rattle.cbt_model.specs.declared.events.Answer.{Answer}
use Rattle.cbt_model.specs.declared.events.Made.{Made}
use Rattle.cbt_model.specs.declared.steps.Reply.{Reply}
use Rattle.cbt_model.specs.declared.steps.Step.{Step}
use Rattle.cbt_model.specs.declared.steps.Step.TheVariants as step
use Rattle.cbt_book.specs.Passes.{is_expired, expired_in, covered_by}
use Rattle.cbt_clean.proofs.Moves.{Moves, reads_record, finds_off, finds_staged, takes, drops, evicts, finds_decided, leaves, finds_none, reads_entry, fails}
use Rattle.cbt_clean.proofs.Moving.{moves}
use Rattle.cbt_clean.specs.Phases.{docs_of, places, most_for_one, left_in, clearing_step, step_for, end_in, treat_in, go_on, next, with_entry, after}
use Rattle.cbt_clean.specs.declared.covers.Cover.{Cover}
use Rattle.cbt_clean.specs.declared.phases.Phase.{Phase}
use Rattle.cbt_clean.specs.declared.phases.Phase.TheVariants.{Begun, Clearing, Taking, Evicting, Asking, Ended}

-- one attempt more
one_more : (k n : ℕ) → k ≤ most_for_one → k + most_for_one * n ≤ most_for_one * suc n
one_more k n few = omega arith

pub treat_few : (c : Cover) (again : Bool) (state : EntryState) → left_in (treat_in state c again) ≤ most_for_one * suc (length c.waiting)
treat_few c false Pending = one_more most_for_one (length c.waiting) (omega arith)
treat_few c true Pending = one_more 1 (length c.waiting) (omega arith)
treat_few c again Committed = one_more (2 * places + 2) (length c.waiting) (omega arith)
treat_few c again Aborted = one_more (2 * places + 2) (length c.waiting) (omega arith)

pub go_on_few : (covered : List ℕ) (waiting : List (ℕ × Entry)) → left_in (go_on covered waiting) ≤ most_for_one * length waiting
go_on_few covered [] = omega arith
go_on_few covered (x ∷ waiting) = treat_few (record { covered = covered; attempt = x.0; entry = x.1; waiting = waiting }) false x.1.state

-- what a phase speaks of is in memory: the documents that an entry lists, and the attempts that the pass covers by this answer
abbrev pub InMemory : Phase → Answer → Type 0
InMemory Begun answer = length (covered_by answer.reply answer.now) < places
InMemory (Clearing c at) answer = length (docs_of c.entry.lists) < places
InMemory (Taking c at s) answer = length (docs_of c.entry.lists) < places
InMemory (Evicting c again) answer = Unit {0}
InMemory (Asking c) answer = Unit {0}
InMemory (Ended end) answer = Unit {0}

some_left : (r : ℕ) (p : Phase) (s : Step) → step_for r p ≡ Some s → 0 < left_in p
some_left r Begun s asked = omega arith
some_left r (Clearing c at) s asked = omega arith
some_left r (Taking c at t) s asked = omega arith
some_left r (Evicting c false) s asked = omega arith
some_left r (Evicting c true) s asked = omega arith
some_left r (Asking c) s asked = omega arith
some_left r (Ended end) s asked = absurd (none-some s asked)

-- the next attempt is treated
next_fewer : (c : Cover) (left : ℕ) → most_for_one * length c.waiting < left → left_in (next c) < left
next_fewer c left more = let few = go_on_few c.covered c.waiting in omega arith

length_ids : (entries : List (ℕ × Entry)) → length (map (λ (e : ℕ × Entry). e.0) entries) ≡ length entries
length_ids entries = length-map entries _

-- a document more is behind the pass
one_behind : (at n : ℕ) → at < n → n < places → (2 * (places - (at + 1)) + 2) < (2 * (places - at) + 1)
one_behind at n within few = omega arith

fewer_on : (r : ℕ) (m : Made) (p q : Phase) → Moves r m p q → InMemory p m.answer → left_in q < left_in p
fewer_on r m _ _ (reads_record entries reads rise) small =
    let few = go_on_few (expired_in entries m.answer.now) (filter (λ e. is_expired m.answer.now e.1) entries) in
    let ids = length_ids (filter (λ e. is_expired m.answer.now e.1) entries) in
    let covers : length (expired_in entries m.answer.now) < places = subst (λ a. length (covered_by a m.answer.now) < places) reads.1 small in
    first (left_in (go_on (expired_in entries m.answer.now) (filter (λ e. is_expired m.answer.now e.1) entries))) (length (filter (λ e. is_expired m.answer.now e.1) entries))
    (length (expired_in entries m.answer.now)) few ids covers
  where
    first : (left n k : ℕ) → left ≤ most_for_one * n → k ≡ n → k < places → left < most_for_one * places + 1
    first left n k few same small = omega arith
fewer_on r m _ _ (finds_off c at d here is off) small = let less = one_behind at (length (docs_of c.entry.lists)) (slice_get_within (docs_of c.entry.lists) at d here) small in omega arith
fewer_on r m _ _ (finds_staged c at x d body stage here reads record_is attempt_is) small = omega arith
fewer_on r m _ _ (takes c at d s here is off) small = let less = one_behind at (length (docs_of c.entry.lists)) (slice_get_within (docs_of c.entry.lists) at d here) small in omega arith
fewer_on r m _ _ (drops c at past is gone) small = next_fewer c (left_in (Clearing c at)) (omega arith)
fewer_on r m _ _ (evicts c false is gone) small = next_fewer c (left_in (Evicting c false)) (omega arith)
fewer_on r m _ _ (evicts c true is gone) small = next_fewer c (left_in (Evicting c true)) (omega arith)
fewer_on r m _ _ (finds_decided c is told) small = omega arith
fewer_on r m _ _ (leaves c is told) small = next_fewer c (left_in (Evicting c true)) (omega arith)
fewer_on r m _ _ (finds_none c finds) small = next_fewer c (left_in (Asking c)) (omega arith)
fewer_on r m _ _ (reads_entry c e reads) small = by e.state
  where
    by : (state : EntryState) → left_in (treat_in state (with_entry c e) true) < (2 * places + 3) + most_for_one * length c.waiting
    by Pending = omega arith
    by Committed = omega arith
    by Aborted = omega arith
fewer_on r m p _ (fails _ asked failed) small = some_left r p m.step asked

-- a fitting answer to the call asked for leaves fewer
pub fewer_after : (r : ℕ) (p : Phase) (s : Step) (answer : Answer) → step_for r p ≡ Some s → fits s answer.reply ≡ true → InMemory p answer
    → left_in (after r p answer.place answer.now answer.reply) < left_in p
fewer_after r p s answer asked fit small =
    fewer_on r (record { step = s; answer = answer }) p (after r p answer.place answer.now answer.reply) (moves r (record { step = s; answer = answer }) p asked fit) small

-- where no call is left none is asked for
pub none_left : (r : ℕ) (p : Phase) → left_in p ≡ 0 → step_for r p ≡ None
none_left r Begun none = absurd (omega arith)
none_left r (Clearing c at) none = absurd (omega arith)
none_left r (Taking c at s) none = absurd (omega arith)
none_left r (Evicting c false) none = absurd (omega arith)
none_left r (Evicting c true) none = absurd (omega arith)
none_left r (Asking c) none = absurd (omega arith)
none_left r (Ended end) none = refl

-- nor is one left where the pass has ended
pub ended_none : (p : Phase) → end_in p ≢ None → left_in p ≡ 0
ended_none Begun ended = absurd (ended refl)
ended_none (Clearing c at) ended = absurd (ended refl)
ended_none (Taking c at s) ended = absurd (ended refl)
ended_none (Evicting c again) ended = absurd (ended refl)
ended_none (Asking c) ended = absurd (ended refl)
ended_none (Ended end) ended = refl

some_of : (o : Option Step) → IsSome o → (s : Step) × (o ≡ Some s)
some_of None none = absurd (cc)
some_of (Some s) there = (s, refl)

-- the phase that follows a fitting answer leaves fewer
pub fewer_at : (r : ℕ) (p q : Phase) (answer : Answer) → IsSome (step_for r p) → ((s : Step) → step_for r p ≡ Some s → fits s answer.reply ≡ true) → InMemory p answer
    → q ≡ after r p answer.place answer.now answer.reply → left_in q < left_in p
fewer_at r p q answer asks fit small is =
    let asked = some_of (step_for r p) asks in
    subst (λ k. left_in k < left_in p) (sym is) (fewer_after r p asked.0 answer asked.1 (fit asked.0 asked.1) small)

-- where a document is left, the answer is one to a reading of it
pub reading_fits : (r : ℕ) (c : Cover) (at : ℕ) (p : Phase) (answer : Reply) → p ≡ Clearing c at → ((s : Step) → step_for r p ≡ Some s → fits s answer ≡ true)
    → IsSome (slice_get (docs_of c.entry.lists) at) → fits_read_doc answer ≡ true
reading_fits r c at p answer is fit there = by (slice_get (docs_of c.entry.lists) at) refl there
  where
    by : (o : Option (List ℕ)) → slice_get (docs_of c.entry.lists) at ≡ o → IsSome o → fits_read_doc answer ≡ true
    by None past there = absurd (cc)
    by (Some d) here there = fit (step.ReadDoc d) (ap (step_for r) is ∙ ap (λ o. Some (clearing_step r c o)) here)
