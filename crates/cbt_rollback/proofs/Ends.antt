-- How a rollback ends, by its own calls.
use Rattle.std.proofs.Common.{◌≡◌, ◌≢◌, ℕ, true, false, ◌⊎◌, inl, inr, ⊎_elim, List, [], ◌∷◌, ◌++◌, Some, None, refl, sym, ap, ◌∙◌, subst}
use Rattle.std.proofs.lemmas.Option.{none-some}
use Rattle.cbt_model.specs.History.{is_done}
use Rattle.cbt_model.specs.declared.events.Made.{Made}
use Rattle.cbt_model.specs.declared.steps.Reply.{Reply}
use Rattle.cbt_model.specs.declared.steps.Reply.TheVariants as reply
use Rattle.cbt_model.specs.declared.steps.Step.{Step}
use Rattle.cbt_model.specs.declared.steps.Step.TheVariants as step
use Rattle.cbt_book.specs.Closing.{HasAborted, IsUndone, no_entry, dropped}
use Rattle.cbt_book.specs.OwnLists.{Once, Each}
use Rattle.cbt_book.specs.Outcomes.{EndsFailed}
use Rattle.cbt_book.specs.Passes.{IsDropped}
use Rattle.cbt_book.specs.Shown.{aborts}
use Rattle.cbt_rollback.specs.Commits.{rolls_back, AreCommits}
use Rattle.cbt_rollback.proofs.Moves.{IsTakenOff, by_it, before_it, FindsOff, absent, unstaged, of_another, elsewhere, Moves, finds_no_entry, is_aborted, unsticks, finds_off, finds_staged, takes, drops, fails}
use Rattle.cbt_rollback.specs.Phases.{Task, taking_step, step_for, end_in, after}
use Rattle.cbt_rollback.specs.Standing.{Runs, begun, goes_on}
use Rattle.cbt_rollback.specs.declared.phases.Phase.{Phase}
use Rattle.cbt_rollback.specs.declared.phases.Phase.TheVariants.{Aborting, Going, Taking, Ended}
use Rattle.cbt_rollback.specs.declared.phases.UndoEnd.{UndoEnd}
use Rattle.cbt_rollback.specs.declared.phases.UndoEnd.TheVariants.{RolledBack, Incomplete}
use Rattle.cbt_rollback.proofs.Moving.{moves}

some_same : {X : Type 0} {x y : X} → Some x ≡ Some y → x ≡ y
some_same both = cc

-- no call failed
abbrev NoneFailed : List Made → Type 0
NoneFailed mine = Each (λ m _. m.answer.reply ≢ reply.Failed) mine

-- the attempt was aborted, and no call failed
record IsUnderWay (t : Task) (mine : List Made) : Type 0 where
  pub aborted : HasAborted t.attempt mine
  pub fine : NoneFailed mine

-- the abort found no entry
abbrev FindsNone : ℕ → List Made → Type 0
FindsNone a mine = Once (λ m _. (aborts m.step ≡ Some a) × (m.answer.reply ≡ reply.NoEntry)) mine

-- the entry was dropped after the abort
abbrev Drops : ℕ → List Made → Type 0
Drops a mine = Once (λ m before. ((r : ℕ) × (m.step ≡ step.DropEntry r a false)) × IsDropped m.answer.reply × HasAborted a before) mine

abbrev EndsBy : Task → UndoEnd → List Made → Type 0
EndsBy t RolledBack mine = (FindsNone t.attempt mine ⊎ Drops t.attempt mine) × NoneFailed mine
EndsBy t (Incomplete place) mine = EndsFailed place mine × HasAborted t.attempt mine

-- what a phase tells of the calls
abbrev Knows : Task → Phase → List Made → Type 0
Knows t Aborting mine = mine ≡ []
Knows t (Going at) mine = IsUnderWay t mine
Knows t (Taking at x) mine = IsUnderWay t mine
Knows t (Ended end) mine = EndsBy t end mine

off_fine : (r : Reply) → IsTakenOff r → r ≢ reply.Failed
off_fine r (by_it c told) failed = cc
off_fine r (before_it have told) failed = cc

dropped_fine : (r : Reply) → IsDropped r → r ≢ reply.Failed
dropped_fine r done failed = ⊎_elim (λ it. no_done it) (λ it. no_missing it) done
  where
    no_done : is_done r ≡ true → ⊥
    no_done it = wrong (sym (ap is_done failed) ∙ it)
      where
        wrong : false ≡ true → ⊥
        wrong it = cc

    no_missing : r ≡ reply.NoEntry → ⊥
    no_missing it = cc

finds_fine : (t : Task) (d : List ℕ) (m : Made) → FindsOff t d m → m.answer.reply ≢ reply.Failed
finds_fine t d m (absent finds) failed = differ finds.1
  where
    differ : m.answer.reply ≡ reply.Absent → ⊥
    differ told = cc
finds_fine t d m (unstaged x body reads) failed = differ reads.1
  where
    differ : m.answer.reply ≡ reply.Doc x body None → ⊥
    differ told = cc
finds_fine t d m (of_another x body stage reads other) failed = differ reads.1
  where
    differ : m.answer.reply ≡ reply.Doc x body (Some stage) → ⊥
    differ told = cc
finds_fine t d m (elsewhere x body stage reads other) failed = differ reads.1
  where
    differ : m.answer.reply ≡ reply.Doc x body (Some stage) → ⊥
    differ told = cc

-- a further call that did not fail
goes_under_way : (t : Task) (m : Made) (mine : List Made) → m.answer.reply ≢ reply.Failed → IsUnderWay t mine → IsUnderWay t (m ∷ mine)
goes_under_way t m mine fine it = record { aborted = inr it.aborted; fine = (fine, it.fine) }

-- the attempt is aborted by the newest call or was before
aborted_by : (t : Task) (p : Phase) (m : Made) (mine : List Made) → step_for t p ≡ Some m.step → Knows t p mine → HasAborted t.attempt (m ∷ mine)
aborted_by t Aborting m mine asked none = inl (ap aborts (sym (some_same asked)))
aborted_by t (Going at) m mine asked it = inr it.aborted
aborted_by t (Taking at x) m mine asked it = inr it.aborted
aborted_by t (Ended end) m mine asked it = absurd (none-some m.step asked)

knows_on : (t : Task) (m : Made) (mine : List Made) (p q : Phase) → Moves t m p q → Knows t p mine → Knows t q (m ∷ mine)
knows_on t m mine _ _ (finds_no_entry is told) none =
    (inl (inl (ap aborts is, told)), (λ failed. differ failed, subst NoneFailed (sym none) tt))
  where
    differ : m.answer.reply ≡ reply.Failed → ⊥
    differ failed = cc
knows_on t m mine _ _ (is_aborted is shows fine) none = record { aborted = inl (ap aborts is); fine = (fine, subst NoneFailed (sym none) tt) }
knows_on t m mine _ _ (unsticks at x w here known is off) it = goes_under_way t m mine (off_fine m.answer.reply off) it
knows_on t m mine _ _ (finds_off at w here none is off) it = goes_under_way t m mine (finds_fine t w.0 m off) it
knows_on t m mine _ _ (finds_staged at x w body stage here none shows record_is attempt_is) it = goes_under_way t m mine (λ failed. differ shows.1 failed) it
  where
    differ : m.answer.reply ≡ reply.Doc x body (Some stage) → m.answer.reply ≡ reply.Failed → ⊥
    differ told failed = cc
knows_on t m mine _ _ (takes at x w here is off) it = goes_under_way t m mine (off_fine m.answer.reply off) it
knows_on t m mine _ _ (drops at past is gone) it = (inr (inl ((t.atr, is), gone, it.aborted)), (dropped_fine m.answer.reply gone, it.fine))
knows_on t m mine p _ (fails _ asked failed) it =
    (record { newest = m; older = mine; calls_are = refl; failed = failed; place_is = refl }, aborted_by t p m mine asked it)

knows : (t : Task) (p : Phase) (mine : List Made) → Runs t p mine → Knows t p mine
knows t _ _ begun = refl
knows t _ _ (goes_on p mine m run asked fit) = knows_on t m mine p (after t p m.answer.place m.answer.reply) (moves t m p asked fit) (knows t p mine run)

ended : (t : Task) (p : Phase) (mine : List Made) (end : UndoEnd) → Knows t p mine → end_in p ≡ Some end → EndsBy t end mine
ended t Aborting mine end it is = absurd (none-some end is)
ended t (Going at) mine end it is = absurd (none-some end is)
ended t (Taking at x) mine end it is = absurd (none-some end is)
ended t (Ended last) mine end it is = subst (λ e. EndsBy t e mine) (some_same is) it

-- what is so of a step is so of it with more behind it
once_front : (P Q : Made → List Made → Type 0) (l more : List Made) → ((m : Made) (past : List Made) → P m past → Q m (past ++ more)) → Once P l → Once Q (l ++ more)
once_front P Q [] more longer once = absurd once
once_front P Q (m ∷ l) more longer once = ⊎_elim (λ here. inl (longer m l here)) (λ later. inr (once_front P Q l more longer later)) once

aborted_front : (a : ℕ) (l more : List Made) → HasAborted a l → HasAborted a (l ++ more)
aborted_front a l more aborted = once_front (λ n _. aborts n.step ≡ Some a) (λ n _. aborts n.step ≡ Some a) l more (λ n past is. is) aborted

undone_by : (a : ℕ) (calls l : List Made) → FindsNone a l ⊎ Drops a l → IsUndone a calls l
undone_by a calls l how = ⊎_elim (λ none. no_entry none) (λ gone. dropped gone) how

-- no commit aborts
unaborted : (a : ℕ) (commits : List Made) → AreCommits commits → ¬ HasAborted a commits
unaborted a [] each aborted = aborted
unaborted a (m ∷ commits) each aborted = ⊎_elim (λ here. by m.step here each.0) (λ later. unaborted a commits each.1 later) aborted
  where
    by : (s : Step) → aborts s ≡ Some a → rolls_back s ≡ false → ⊥
    by (step.Abort r b lists) is quiet = wrong quiet
      where
        wrong : true ≡ false → ⊥
        wrong it = cc
    by _ is quiet = absurd (cc)

abbrev FineOnceAborted : ℕ → List Made → Type 0
FineOnceAborted a l = Each (λ m before. HasAborted a (m ∷ before) → m.answer.reply ≢ reply.Failed) l

commits_fine : (a : ℕ) (commits : List Made) → AreCommits commits → FineOnceAborted a commits
commits_fine a [] each = tt
commits_fine a (m ∷ commits) each = (λ aborted. absurd (unaborted a (m ∷ commits) each aborted), commits_fine a commits each.1)

all_fine : (a : ℕ) (mine commits : List Made) → AreCommits commits → NoneFailed mine → FineOnceAborted a (mine ++ commits)
all_fine a [] commits each fine = commits_fine a commits each
all_fine a (m ∷ mine) commits each fine = (λ aborted. fine.0, all_fine a mine commits each fine.1)

-- the newest call failed, and the attempt was aborted by it or before
abbrev FailsAborted : ℕ → ℕ → List Made → Type 0
FailsAborted a place l = Once (λ m before. (m.answer.place ≡ place) × (m.answer.reply ≡ reply.Failed) × HasAborted a (m ∷ before)) l

fails_aborted : (a place : ℕ) (mine commits : List Made) → EndsFailed place mine → HasAborted a mine → FailsAborted a place (mine ++ commits)
fails_aborted a place mine commits failed aborted =
    subst (λ l. FailsAborted a place (l ++ commits)) (sym failed.calls_are)
    (inl (failed.place_is, failed.failed, aborted_front a (failed.newest ∷ failed.older) commits (subst (λ l. HasAborted a l) failed.calls_are aborted)))

module _ (t : Task) (p : Phase) (mine : List Made) (run : Runs t p mine) where
  pub undone : (calls : List Made) → end_in p ≡ Some RolledBack → IsUndone t.attempt calls mine
  undone calls is = undone_by t.attempt calls mine (ended t p mine RolledBack (knows t p mine run) is).0

  pub unfailed : end_in p ≡ Some RolledBack → Each (λ m _. m.answer.reply ≢ reply.Failed) mine
  unfailed is = (ended t p mine RolledBack (knows t p mine run) is).1

  pub ends_failed : (place : ℕ) → end_in p ≡ Some (Incomplete place) → EndsFailed place mine
  ends_failed place is = (ended t p mine (Incomplete place) (knows t p mine run) is).0

  pub failed_aborted : (place : ℕ) → end_in p ≡ Some (Incomplete place) → HasAborted t.attempt mine
  failed_aborted place is = (ended t p mine (Incomplete place) (knows t p mine run) is).1

  module _ (commits : List Made) where
    pub undone_after : (calls : List Made) → end_in p ≡ Some RolledBack → IsUndone t.attempt calls (mine ++ commits)
    undone_after calls is =
        undone_by t.attempt calls (mine ++ commits)
        (⊎_elim (λ none. inl (once_front _ _ mine commits (λ m past so. so) none))
        (λ gone. inr (once_front _ _ mine commits (λ m past so. (so.0, so.1, aborted_front t.attempt past commits so.2)) gone))
        (ended t p mine RolledBack (knows t p mine run) is).0)

    pub fine_after : AreCommits commits → end_in p ≡ Some RolledBack
        → Each (λ m before. HasAborted t.attempt (m ∷ before) → m.answer.reply ≢ reply.Failed) (mine ++ commits)
    fine_after before is = all_fine t.attempt mine commits before (unfailed is)

    pub failed_after : (place : ℕ) → end_in p ≡ Some (Incomplete place)
        → Once (λ m before. (m.answer.place ≡ place) × (m.answer.reply ≡ reply.Failed) × HasAborted t.attempt (m ∷ before)) (mine ++ commits)
    failed_after place is = fails_aborted t.attempt place mine commits (ends_failed place is) (failed_aborted place is)

-- a rollback that has not ended asks for a call
has_call : (t : Task) (m : Made) (p q : Phase) → Moves t m p q → end_in q ≡ None → step_for t q ≢ None
has_call t m _ _ (finds_no_entry is told) going none = cc
has_call t m _ _ (is_aborted is shows fine) going none = cc
has_call t m _ _ (unsticks at x w here known is off) going none = cc
has_call t m _ _ (finds_off at w here nothing is off) going none = cc
has_call t m _ _ (finds_staged at x w body stage here nothing reads record_is attempt_is) going none = none-some _ (sym none ∙ ap (taking_step x) here)
has_call t m _ _ (takes at x w here is off) going none = cc
has_call t m _ _ (drops at past is gone) going none = cc
has_call t m p _ (fails _ asked failed) going none = cc

pub goes_on_asking : (t : Task) (p : Phase) (mine : List Made) → Runs t p mine → end_in p ≡ None → step_for t p ≢ None
goes_on_asking t _ _ begun going none = cc
goes_on_asking t _ _ (goes_on p mine m run asked fit) going none =
    has_call t m p (after t p m.answer.place m.answer.reply) (moves t m p asked fit) going none

pub asks_no_more : (t : Task) (p : Phase) → end_in p ≢ None → step_for t p ≡ None
asks_no_more t Aborting ended = absurd (ended refl)
asks_no_more t (Going at) ended = absurd (ended refl)
asks_no_more t (Taking at x) ended = absurd (ended refl)
asks_no_more t (Ended end) ended = refl
