-- What closes a try has fewer calls left after each answer.
use Rattle.std.proofs.Common.{◌≡◌, ℕ, suc, ◌+◌, ◌-◌, ◌*◌, ◌≤◌, ◌<◌, max, Bool, true, false, if◌then◌else◌, List, [], ◌∷◌, length, Option, Some, None, IsSome, refl, sym, ap, ◌∙◌, subst, arith}
use Rattle.std.proofs.Math.Nat.{le-max_left, le-max_right, max-le}
use Rattle.std.proofs.lemmas.Option.{none-some, slice_get_within}
use Rattle.cbt_expr.specs.declared.plans.Op.{Op}
use Rattle.cbt_model.specs.Fitting.{fits}
use Rattle.cbt_model.specs.declared.events.Answer.{Answer}
use Rattle.cbt_model.specs.declared.events.Made.{Made}
use Rattle.cbt_model.specs.declared.steps.Step.{Step}
use Rattle.cbt_attempt.specs.declared.attempt.Attempt.{Attempt}
use Rattle.cbt_commit.specs.Phases as finish
use Rattle.cbt_commit.specs.Standing as finish_stands
use Rattle.cbt_commit.specs.declared.finishes.Finish.{Finish}
use Rattle.cbt_commit.specs.declared.phases.Phase as finish_phase
use Rattle.cbt_commit.specs.declared.phases.Phase.TheVariants.{Sending, Reading, Going, Ended}
use Rattle.cbt_commit.proofs.Moving.{Moves, commits_it, loses_entry, doubts, finds_committed, sends_again, gives_up, stays_unknown, publishes, drops, fails, moves}
use Rattle.cbt_rollback.specs.Phases as undo
use Rattle.cbt_rollback.specs.declared.undos.Undo.{Undo}
use Rattle.cbt_rollback.specs.declared.phases.UndoEnd.{UndoEnd}
use Rattle.cbt_rollback.proofs.Bounds as undo_bounds
use Rattle.cbt_txn.specs.Bounds.{work_left, open_left, settling_left, finish_left, left_in, try_left}
use Rattle.cbt_txn.specs.Deciding.{BeginsFinish, BeginsUndo, Closed, Commits, Finished, RollsBack, finish_after, is_in_vain, is_over, undo_after, undone, undone_in, vain_end}
use Rattle.cbt_txn.specs.Deciding as deciding
use Rattle.cbt_txn.specs.Tries.{step_in, step_now}
use Rattle.cbt_txn.specs.Works.{step_of}
use Rattle.cbt_txn.specs.declared.operations.Operations.{Operations}
use Rattle.cbt_txn.specs.declared.operations.Work.{Work}
use Rattle.cbt_txn.specs.declared.operations.Work.TheVariants as work
use Rattle.cbt_txn.specs.declared.tries.Closing.{Closing}
use Rattle.cbt_txn.specs.declared.tries.Closing.TheVariants as closing
use Rattle.cbt_txn.specs.declared.tries.Try.{Try}

none_some : (o : Option Step) → o ≡ None → IsSome o → ⊥
none_some None none some = absurd (cc)
none_some (Some s) none some = absurd (none-some s (sym none))

-- ---- a commit, with the rollback that may follow it

next_place : (n at : ℕ) → at < n → (n - (at + 1)) + 1 < (n - at) + 1
next_place n at within = omega arith

module _ (t : finish.Task) (w : ℕ) where
  settling_fewer : (m : Made) (p q : finish_phase.Phase) → Moves t m p q → settling_left t w q < settling_left t w p
  settling_fewer m _ _ (commits_it left c is told) = let most = le-max_left (length t.works) (2 * w) in omega arith
  settling_fewer m _ _ (loses_entry left is told) = omega arith
  settling_fewer m _ _ (doubts left is told) = omega arith
  settling_fewer m _ _ (finds_committed left commit e reads is) = let most = le-max_left (length t.works) (2 * w) in omega arith
  settling_fewer m _ _ (sends_again left commit e reads apart) = omega arith
  settling_fewer m _ _ (gives_up commit e reads apart) = omega arith
  settling_fewer m _ _ (stays_unknown left commit is told) = omega arith
  settling_fewer m _ _ (publishes commit at v here is off) = next_place (length t.works) at (slice_get_within t.works at v here)
  settling_fewer m _ _ (drops commit at past is dropped) = omega arith
  settling_fewer m _ _ (fails commit at asked failed) = omega arith

  -- behind a third commit in vain there is room for the rollback
  settling_vain : (m : Made) (p q : finish_phase.Phase) → Moves t m p q → vain_end (finish.end_in q) ≡ true → 2 * w + 2 < settling_left t w p
  settling_vain m _ _ (commits_it left c is told) vain = absurd (cc)
  settling_vain m _ _ (loses_entry left is told) vain = absurd (cc)
  settling_vain m _ _ (doubts left is told) vain = absurd (cc)
  settling_vain m _ _ (finds_committed left commit e reads is) vain = absurd (cc)
  settling_vain m _ _ (sends_again left commit e reads apart) vain = absurd (cc)
  settling_vain m _ _ (gives_up commit e reads apart) vain = let most = le-max_right (length t.works) (2 * w) in omega arith
  settling_vain m _ _ (stays_unknown left commit is told) vain = absurd (cc)
  settling_vain m _ _ (publishes commit at v here is off) vain = absurd (cc)
  settling_vain m _ _ (drops commit at past is dropped) vain = absurd (cc)
  settling_vain m _ _ (fails commit at asked failed) vain = absurd (cc)

  cons_some : (m : Made) (l : List Made) → m ∷ l ≡ [] → ⊥
  cons_some m l is = cc

  settling_first : (p : finish_phase.Phase) (mine : List Made) → finish_stands.Runs t p mine → mine ≡ [] → settling_left t w p ≡ 8 + max (length t.works) (2 * w)
  settling_first _ _ finish_stands.begun is = omega arith
  settling_first _ _ (finish_stands.goes_on p mine m runs asked fit) is = absurd (cons_some m mine is)

finish_few : (a : Attempt) (f : Finish) → BeginsFinish a f → finish_left f (length a.writes) ≤ 2 * length a.writes + 8
finish_few a f begins =
    let w = length a.writes in
    let first = settling_first (finish.task_of f) w f.phase [] begins.stands.runs refl in
    few (finish_left f w) (max (length f.works.entries) (2 * w)) first
    (max-le (twice (length f.works.entries) w begins.few) (alike (2 * w)))
  where
    twice : (n w : ℕ) → n ≤ w → n ≤ 2 * w
    twice n w less = omega arith

    alike : (n : ℕ) → n ≤ n
    alike n = omega arith

    few : (n k : ℕ) → n ≡ 8 + k → k ≤ 2 * length a.writes → n ≤ 2 * length a.writes + 8
    few n k is less = omega arith

undo_few : (a : Attempt) (u : Undo) → BeginsUndo a u → undo.calls_left u ≤ 2 * length a.writes + 2
undo_few a u begins = few (undo.calls_left u) (length u.works.entries) (undo_bounds.few_calls (undo.task_of u) u.phase [] begins.stands) begins.few
  where
    few : (n k : ℕ) → 0 + n ≤ 2 * k + 2 → k ≤ length a.writes → n ≤ 2 * length a.writes + 2
    few n k left less = omega arith

module _ (ops : List Op) (c : Operations) where
  -- a rollback has at most so many
  rolled_few : (next : Closing) → RollsBack c.attempt next → left_in ops c next ≤ 2 * length c.attempt.writes + 2
  rolled_few _ (deciding.nothing none) = omega arith
  rolled_few _ (deciding.undoes u begins) = undo_few c.attempt u begins

  committed_few : (next : Closing) → Commits c.attempt next → left_in ops c next ≤ 2 * length c.attempt.writes + 8
  committed_few _ (deciding.nothing none) = omega arith
  committed_few _ (deciding.finishes f begins) = finish_few c.attempt f begins

  -- ---- the operations go on, or are followed

  going_few : (over : Bool) → (if over then 0 else open_left ops c) ≤ open_left ops c
  going_few true = omega arith
  going_few false = omega arith

  pub closed_few : (keep : Bool) (next : Closing) → Closed keep c next → left_in ops c next ≤ open_left ops c
  closed_few keep _ (deciding.open_yet going) = going_few (is_over c.work)
  closed_few keep next (deciding.commits _ kept commits) = let few = committed_few next commits in room (left_in ops c next) (work_left c.work) few
    where
      room : (n k : ℕ) → n ≤ 2 * length c.attempt.writes + 8 → n ≤ k + (25 * (length ops - suc (length c.logs)) + 2 * length c.attempt.writes + 8)
      room n k few = omega arith
  closed_few keep next (deciding.rolls_back _ over unkept rolls) = let few = rolled_few next rolls in room (left_in ops c next) (work_left c.work) few
    where
      room : (n k : ℕ) → n ≤ 2 * length c.attempt.writes + 2 → n ≤ k + (25 * (length ops - suc (length c.logs)) + 2 * length c.attempt.writes + 8)
      room n k few = omega arith

  -- ---- a commit takes an answer in

  pub finished_fewer : (f : Finish) (s : Step) (answer : Answer) (next : Closing) → finish.step_of f ≡ Some s → fits s answer.reply ≡ true
      → Finished c.attempt (finish_after f answer.place answer.reply) next → left_in ops c next < finish_left f (length c.attempt.writes)
  finished_fewer f s answer next asked fit finished = by next finished
    where
      w : ℕ
      w = length c.attempt.writes

      m : Made
      m = record { step = s; answer = answer }

      moved : Moves (finish.task_of f) m f.phase (finish.after (finish.task_of f) f.phase answer.place answer.reply)
      moved = moves (finish.task_of f) m f.phase asked fit

      less : finish_left (finish_after f answer.place answer.reply) w < finish_left f w
      less = settling_fewer (finish.task_of f) w m f.phase (finish.after (finish.task_of f) f.phase answer.place answer.reply) moved

      none : (n k : ℕ) → n < k → 0 < k
      none n k less = omega arith

      room : (n k most : ℕ) → n ≤ k → k < most → n < most
      room n k most few less = omega arith

      by : (next : Closing) → Finished c.attempt (finish_after f answer.place answer.reply) next → left_in ops c next < finish_left f w
      by _ (deciding.goes_on going) = less
      by _ (deciding.ended end ends unvain) = none (finish_left (finish_after f answer.place answer.reply) w) (finish_left f w) less
      by next (deciding.in_vain _ vain rolls) =
          room (left_in ops c next) (2 * w + 2) (finish_left f w) (rolled_few next rolls)
          (settling_vain (finish.task_of f) w m f.phase (finish.after (finish.task_of f) f.phase answer.place answer.reply) moved vain)

  -- ---- a rollback takes an answer in

  pub undone_fewer : (u : Undo) (s : Step) (answer : Answer) → undo.step_of u ≡ Some s → fits s answer.reply ≡ true
      → left_in ops c (undone (undo_after u answer.place answer.reply)) < undo.calls_left u
  undone_fewer u s answer asked fit = by (undo.end_of new)
    where
      new : Undo
      new = undo_after u answer.place answer.reply

      less : undo.calls_left new < undo.calls_left u
      less = undo_bounds.fewer_after (undo.task_of u) u.phase s answer asked fit

      none : (n k : ℕ) → n < k → 0 < k
      none n k less = omega arith

      by : (end : Option UndoEnd) → left_in ops c (undone_in new end) < undo.calls_left u
      by None = less
      by (Some end) = none (undo.calls_left new) (undo.calls_left u) less

-- ---- where none is left

over_asks : (w : Work) → is_over w ≡ true → step_of w ≡ None
over_asks (work.Get it write) over = absurd (cc)
over_asks (work.Put it) over = absurd (cc)
over_asks (work.Again it) over = absurd (cc)
over_asks work.Done over = refl
over_asks work.Refused over = refl
over_asks (work.Late now) over = refl

open_none : (ops : List Op) (c : Operations) (over : Bool) → is_over c.work ≡ over → (if over then 0 else open_left ops c) ≡ 0 → step_of c.work ≡ None
open_none ops c true is none = over_asks c.work is
open_none ops c false is none = absurd (some_left (work_left c.work) (length ops - suc (length c.logs)) (length c.attempt.writes) none)
  where
    some_left : (n due w : ℕ) → n + (25 * due + 2 * w + 8) ≡ 0 → ⊥
    some_left n due w none = omega arith

settling_none : (t : finish.Task) (w : ℕ) (p : finish_phase.Phase) → settling_left t w p ≡ 0 → finish.step_for t p ≡ None
settling_none t w (Sending left) none = absurd (some_left left (max (length t.works) (2 * w)) none)
  where
    some_left : (n k : ℕ) → 2 * n + 4 + k ≡ 0 → ⊥
    some_left n k none = omega arith
settling_none t w (Reading left commit) none = absurd (some_left left (max (length t.works) (2 * w)) none)
  where
    some_left : (n k : ℕ) → 2 * n + 3 + k ≡ 0 → ⊥
    some_left n k none = omega arith
settling_none t w (Going commit at) none = absurd (some_left (length t.works - at) none)
  where
    some_left : (n : ℕ) → n + 1 ≡ 0 → ⊥
    some_left n none = omega arith
settling_none t w (Ended end) none = refl

pub none_left : (ops : List Op) (c : Operations) (cl : Closing) → left_in ops c cl ≡ 0 → step_in c cl ≡ None
none_left ops c closing.Open none = open_none ops c (is_over c.work) refl none
none_left ops c (closing.Finish f) none = settling_none (finish.task_of f) (length c.attempt.writes) f.phase none
none_left ops c (closing.Undo u) none = undo_bounds.none_left (undo.task_of u) u.phase none
none_left ops c (closing.Ended end) none = refl

-- ---- a try

asks_on : (w : Work) → IsSome (step_of w) → is_over w ≡ false
asks_on (work.Get it write) asked = refl
asks_on (work.Put it) asked = refl
asks_on (work.Again it) asked = refl
asks_on work.Done asked = absurd (cc)
asks_on work.Refused asked = absurd (cc)
asks_on (work.Late now) asked = absurd (cc)

-- its operations took the answer in
pub open_fewer : (ops : List Op) (keep : Bool) (old new : Operations) (next : Closing) → IsSome (step_of old.work) → open_left ops new < open_left ops old
    → Closed keep new next → left_in ops new next < left_in ops old closing.Open
open_fewer ops keep old new next asked less closed =
    subst (λ b. left_in ops new next < (if b then 0 else open_left ops old)) (sym (asks_on old.work asked))
    (fewer (left_in ops new next) (open_left ops new) (open_left ops old) (closed_few ops new keep next closed) less)
  where
    fewer : (n k most : ℕ) → n ≤ k → k < most → n < most
    fewer n k most few less = omega arith

-- it has begun, and has written nothing
pub begun_few : (ops : List Op) (keep : Bool) (c : Operations) (a : Attempt) (next : Closing) → a.writes ≡ []
    → open_left ops c ≤ 25 * length ops + 2 * length a.writes + 8 → Closed keep c next → left_in ops c next ≤ 25 * length ops + 10
begun_few ops keep c a next none few closed =
    fewer (left_in ops c next) (open_left ops c) (length a.writes) (length ops) (closed_few ops c keep next closed) few (ap length none)
  where
    fewer : (n k w o : ℕ) → n ≤ k → k ≤ 25 * o + 2 * w + 8 → w ≡ 0 → n ≤ 25 * o + 10
    fewer n k w o left few none = omega arith

-- its commit took the answer in
pub finish_turned : (ops : List Op) (it new : Try) (f : Finish) (answer : Answer) → it.closing ≡ closing.Finish f → new.operations ≡ it.operations
    → IsSome (step_now it) → ((s : Step) → step_now it ≡ Some s → fits s answer.reply ≡ true)
    → Finished new.operations.attempt (finish_after f answer.place answer.reply) new.closing → try_left ops new < try_left ops it
finish_turned ops it new f answer is same asked fit finished = by (finish.step_of f) refl
  where
    asks : step_now it ≡ finish.step_of f
    asks = ap (step_in it.operations) is

    by : (o : Option Step) → finish.step_of f ≡ o → try_left ops new < try_left ops it
    by None none = absurd (none_some (step_now it) (asks ∙ none) asked)
    by (Some s) some =
        subst (λ k. try_left ops new < left_in ops it.operations k) (sym is)
        (subst (λ (o : Operations). try_left ops new < finish_left f (length o.attempt.writes)) same
        (finished_fewer ops new.operations f s answer new.closing some (fit s (asks ∙ some)) finished))

-- its rollback did
pub undo_turned : (ops : List Op) (it new : Try) (u : Undo) (answer : Answer) → it.closing ≡ closing.Undo u → new.operations ≡ it.operations
    → IsSome (step_now it) → ((s : Step) → step_now it ≡ Some s → fits s answer.reply ≡ true)
    → new.closing ≡ undone (undo_after u answer.place answer.reply) → try_left ops new < try_left ops it
undo_turned ops it new u answer is same asked fit turns = by (undo.step_of u) refl
  where
    asks : step_now it ≡ undo.step_of u
    asks = ap (step_in it.operations) is

    by : (o : Option Step) → undo.step_of u ≡ o → try_left ops new < try_left ops it
    by None none = absurd (none_some (step_now it) (asks ∙ none) asked)
    by (Some s) some =
        subst (λ k. try_left ops new < left_in ops it.operations k) (sym is)
        (subst (λ k. left_in ops new.operations k < undo.calls_left u) (sym turns)
        (undone_fewer ops new.operations u s answer some (fit s (asks ∙ some))))
