-- A commit has fewer calls left after each answer.
use Rattle.std.proofs.Common.{◌≡◌, true, ℕ, suc, ◌+◌, ◌-◌, ◌≤◌, ◌<◌, List, length, Some, None, refl, arith}
use Rattle.std.proofs.lemmas.Option.{slice_get_within}
use Rattle.cbt_model.specs.Fitting.{fits}
use Rattle.cbt_model.specs.declared.events.Answer.{Answer}
use Rattle.cbt_model.specs.declared.events.Made.{Made}
use Rattle.cbt_model.specs.declared.steps.Step.{Step}
use Rattle.cbt_commit.specs.Phases.{Task, step_for, left_in, after}
use Rattle.cbt_commit.specs.Standing.{Runs, begun, goes_on}
use Rattle.cbt_commit.specs.declared.phases.Phase.{Phase}
use Rattle.cbt_commit.specs.declared.phases.Phase.TheVariants.{Sending, Reading, Going, Ended}
use Rattle.cbt_commit.proofs.Moving.{Moves, commits_it, loses_entry, doubts, finds_committed, sends_again, gives_up, stays_unknown, publishes, drops, fails, moves}

-- what is left at a place, within the works
next_place : (n at : ℕ) → at < n → (n - (at + 1)) + 1 < (n - at) + 1
next_place n at within = omega arith

fewer_left : (t : Task) (m : Made) (p q : Phase) → Moves t m p q → left_in t q < left_in t p
fewer_left t m _ _ (commits_it left c is told) = omega arith
fewer_left t m _ _ (loses_entry left is told) = omega arith
fewer_left t m _ _ (doubts left is told) = omega arith
fewer_left t m _ _ (finds_committed left commit e reads is) = omega arith
fewer_left t m _ _ (sends_again left commit e reads apart) = omega arith
fewer_left t m _ _ (gives_up commit e reads apart) = omega arith
fewer_left t m _ _ (stays_unknown left commit is told) = omega arith
fewer_left t m _ _ (publishes commit at w here is off) = next_place (length t.works) at (slice_get_within t.works at w here)
fewer_left t m _ _ (drops commit at past is dropped) = omega arith
fewer_left t m _ _ (fails commit at asked failed) = omega arith

pub fewer_after : (t : Task) (p : Phase) (s : Step) (answer : Answer) → step_for t p ≡ Some s → fits s answer.reply ≡ true
    → left_in t (after t p answer.place answer.reply) < left_in t p
fewer_after t p s answer asked fit =
    fewer_left t (record { step = s; answer = answer }) p (after t p answer.place answer.reply) (moves t (record { step = s; answer = answer }) p asked fit)

pub few_calls : (t : Task) (p : Phase) (mine : List Made) → Runs t p mine → length mine + left_in t p ≤ length t.works + 7
few_calls t _ _ begun = omega arith
few_calls t _ _ (goes_on p mine m run asked fit) =
    one_more (length mine) (left_in t p) (left_in t (after t p m.answer.place m.answer.reply)) (length t.works + 7) (few_calls t p mine run)
    (fewer_left t m p (after t p m.answer.place m.answer.reply) (moves t m p asked fit))
  where
    one_more : (n k j most : ℕ) → n + k ≤ most → j < k → suc n + j ≤ most
    one_more n k j most few less = omega arith

no_zero : (n k : ℕ) → n + suc k ≡ 0 → ⊥
no_zero n k none = omega arith

pub none_left : (t : Task) (p : Phase) → left_in t p ≡ 0 → step_for t p ≡ None
none_left t (Sending left) none = absurd (omega arith)
none_left t (Reading left commit) none = absurd (omega arith)
none_left t (Going commit at) none = absurd (no_zero (length t.works - at) 0 none)
none_left t (Ended end) none = refl

some-none : {X : Type 0} {x : X} → Some x ≡ None → ⊥
some-none both = cc

pub none_asked : (t : Task) (p : Phase) → step_for t p ≡ None → left_in t p ≡ 0
none_asked t (Sending left) none = absurd (some-none none)
none_asked t (Reading left commit) none = absurd (some-none none)
none_asked t (Going commit at) none = absurd (some-none none)
none_asked t (Ended end) none = refl
