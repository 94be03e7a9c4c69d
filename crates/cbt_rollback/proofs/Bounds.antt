-- A rollback has fewer calls left after each answer.
use Rattle.std.proofs.Common.{◌≡◌, true, ℕ, suc, ◌+◌, ◌-◌, ◌*◌, ◌≤◌, ◌<◌, ⊎_elim, List, length, slice_get, Option, Some, None, refl, sym, ap, ◌∙◌, arith}
use Rattle.std.proofs.lemmas.Option.{none-some, slice_get_within, slice_get_past, slice_get_cases}
use Rattle.cbt_model.specs.Fitting.{fits}
use Rattle.cbt_model.specs.declared.events.Answer.{Answer}
use Rattle.cbt_model.specs.declared.events.Made.{Made}
use Rattle.cbt_model.specs.declared.steps.Step.{Step}
use Rattle.cbt_rollback.proofs.Moves.{Moves, finds_no_entry, is_aborted, unsticks, finds_off, finds_staged, takes, drops, fails}
use Rattle.cbt_rollback.specs.Phases.{Work, Task, taking_step, step_for, left_in, after}
use Rattle.cbt_rollback.specs.Standing.{Runs, begun, goes_on}
use Rattle.cbt_rollback.specs.declared.phases.Phase.{Phase}
use Rattle.cbt_rollback.specs.declared.phases.Phase.TheVariants.{Aborting, Going, Taking, Ended}
use Rattle.cbt_rollback.proofs.Moving.{moves}

-- what is left at a place, within the works
next_place : (n at : ℕ) → at < n → 2 * (n - (at + 1)) + 1 < 2 * (n - at)
next_place n at within = omega arith

asks_some : (t : Task) (p : Phase) (m : Made) → step_for t p ≡ Some m.step → 0 < left_in t p
asks_some t Aborting m asked = omega arith
asks_some t (Going at) m asked = omega arith
asks_some t (Taking at x) m asked = by (slice_get t.works at) refl asked
  where
    positive : (n : ℕ) → at < n → 0 < 2 * (n - at)
    positive n within = omega arith

    by : (o : Option Work) → slice_get t.works at ≡ o → taking_step x o ≡ Some m.step → 0 < 2 * (length t.works - at)
    by None past is = absurd (none-some m.step is)
    by (Some w) here is = positive (length t.works) (slice_get_within t.works at w here)
asks_some t (Ended end) m asked = absurd (none-some m.step asked)

pub fewer_left : (t : Task) (m : Made) (p q : Phase) → Moves t m p q → left_in t q < left_in t p
fewer_left t m _ _ (finds_no_entry is told) = omega arith
fewer_left t m _ _ (is_aborted is shows fine) = omega arith
fewer_left t m _ _ (unsticks at x w here known is off) = let less = next_place (length t.works) at (slice_get_within t.works at w here) in omega arith
fewer_left t m _ _ (finds_off at w here none is off) = let less = next_place (length t.works) at (slice_get_within t.works at w here) in omega arith
fewer_left t m _ _ (finds_staged at x w body stage here none shows record_is attempt_is) = omega arith
fewer_left t m _ _ (takes at x w here is off) = next_place (length t.works) at (slice_get_within t.works at w here)
fewer_left t m _ _ (drops at past is dropped) = omega arith
fewer_left t m p _ (fails _ asked failed) = asks_some t p m asked

pub few_calls : (t : Task) (p : Phase) (mine : List Made) → Runs t p mine → length mine + left_in t p ≤ 2 * length t.works + 2
few_calls t _ _ begun = omega arith
few_calls t _ _ (goes_on p mine m run asked fit) = one_more (length mine) (left_in t p) (left_in t (after t p m.answer.place m.answer.reply)) (2 * length t.works + 2)
    (few_calls t p mine run) (fewer_left t m p (after t p m.answer.place m.answer.reply) (moves t m p asked fit))
  where
    one_more : (n k j most : ℕ) → n + k ≤ most → j < k → suc n + j ≤ most
    one_more n k j most few less = omega arith

pub none_left : (t : Task) (p : Phase) → left_in t p ≡ 0 → step_for t p ≡ None
none_left t Aborting none = absurd (no (2 * length t.works) none)
  where
    no : (n : ℕ) → n + 2 ≡ 0 → ⊥
    no n none = omega arith
none_left t (Going at) none = absurd (no (2 * (length t.works - at)) none)
  where
    no : (n : ℕ) → n + 1 ≡ 0 → ⊥
    no n none = omega arith
none_left t (Taking at x) none = ap (taking_step x) (slice_get_past t.works at (beyond (length t.works) none))
  where
    beyond : (n : ℕ) → 2 * (n - at) ≡ 0 → n ≤ at
    beyond n none = omega arith
none_left t (Ended end) none = refl

pub asks_none : (t : Task) (p : Phase) → step_for t p ≡ None → left_in t p ≡ 0
asks_none t Aborting asks = absurd (cc)
asks_none t (Going at) asks = absurd (cc)
asks_none t (Taking at x) asks = by (slice_get t.works at) refl asks
  where
    nothing : (n : ℕ) → n ≤ at → 2 * (n - at) ≡ 0
    nothing n past = omega arith

    by : (o : Option Work) → slice_get t.works at ≡ o → taking_step x o ≡ None → 2 * (length t.works - at) ≡ 0
    by None past is = nothing (length t.works) (⊎_elim (λ it. absurd (none-some it.0 (sym past ∙ it.2))) (λ it. it.0) (slice_get_cases t.works at).1)
    by (Some w) here is = absurd (cc)
asks_none t (Ended end) asks = refl

-- a fitting answer to the call asked for leaves fewer
pub fewer_after : (t : Task) (p : Phase) (s : Step) (answer : Answer) → step_for t p ≡ Some s → fits s answer.reply ≡ true → left_in t (after t p answer.place answer.reply) < left_in t p
fewer_after t p s answer asked fit = fewer_left t (record { step = s; answer = answer }) p (after t p answer.place answer.reply) (moves t (record { step = s; answer = answer }) p asked fit)
