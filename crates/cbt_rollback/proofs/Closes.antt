-- Each call of a rollback is one with which its attempt may close.
use Rattle.std.proofs.Common.{◌≡◌, ◌≢◌, ℕ, ◌+◌, ◌≤◌, Bool, true, false, inl, inr, ⊎_elim, List, [], ◌∷◌, ◌++◌, slice_get, Option, Some, None, refl, sym, ap, ◌∙◌, subst, arith}
use Rattle.std.proofs.lemmas.Option.{none-some}
use Rattle.cbt_model.specs.declared.events.Made.{Made}
use Rattle.cbt_model.specs.declared.steps.Step.{Step}
use Rattle.cbt_model.specs.declared.steps.Step.TheVariants as step
use Rattle.cbt_attempt.specs.declared.own.Own.{Own}
use Rattle.cbt_book.specs.Closing.{AbortLists, drops as drop_of, MayClose}
use Rattle.cbt_book.specs.Licence.{IsListed}
use Rattle.cbt_book.specs.OwnLists.{Once, Each}
use Rattle.cbt_book.specs.Shown.{aborts, decides}
use Rattle.cbt_rollback.specs.Commits.{rolls_back, AreCommits}
use Rattle.cbt_rollback.proofs.Moves.{Moves, finds_no_entry, is_aborted, unsticks, finds_off, finds_staged, takes, drops, fails}
use Rattle.cbt_rollback.specs.Phases.{Work, Task, take_off, going_step, taking_step, step_for, after}
use Rattle.cbt_rollback.specs.Ready.{IsOf}
use Rattle.cbt_rollback.specs.Standing.{Runs, begun, goes_on}
use Rattle.cbt_rollback.specs.declared.phases.Phase.{Phase}
use Rattle.cbt_rollback.specs.declared.phases.Phase.TheVariants.{Aborting, Going, Taking, Ended}
use Rattle.cbt_rollback.proofs.Moving.{moves}

some_same : {X : Type 0} {x y : X} → Some x ≡ Some y → x ≡ y
some_same both = cc

true-false : {b : Bool} → b ≡ true → b ≡ false → ⊥
true-false one two = cc

-- what is so of each step keeps another from being so of some
each_none : (P Q : Made → List Made → Type 0) (l : List Made) → ((m : Made) (past : List Made) → P m past → Q m past → ⊥) → Each P l → ¬ Once Q l
each_none P Q [] never each once = once
each_none P Q (m ∷ l) never each once = ⊎_elim (λ here. never m l each.0 here) (λ later. each_none P Q l never each.1 later) once

once_weaker : (P Q : Made → List Made → Type 0) (l : List Made) → ((m : Made) (past : List Made) → P m past → Q m past) → Once P l → Once Q l
once_weaker P Q [] weaker once = absurd once
once_weaker P Q (m ∷ l) weaker once = ⊎_elim (λ here. inl (weaker m l here)) (λ later. inr (once_weaker P Q l weaker later)) once

never_more : (P : Made → List Made → Type 0) (m : Made) (l : List Made) → ¬ P m l → ¬ Once P l → ¬ Once P (m ∷ l)
never_more P m l here later once = ⊎_elim (λ it. here it) (λ it. later it) once

-- the parts of steps
unstick_read : (d q : List ℕ) (x : ℕ) → step.Unstick d x ≡ step.ReadDoc q → ⊥
unstick_read d q x both = cc

read_unstick : (d q : List ℕ) (x : ℕ) → step.ReadDoc d ≡ step.Unstick q x → ⊥
read_unstick d q x both = cc

abort_read : (r a : ℕ) (t : Task) (q : List ℕ) → step.Abort r a t.lists ≡ step.ReadDoc q → ⊥
abort_read r a t q both = cc

abort_unstick : (r a : ℕ) (t : Task) (q : List ℕ) (x : ℕ) → step.Abort r a t.lists ≡ step.Unstick q x → ⊥
abort_unstick r a t q x both = cc

unstick_doc : (d q : List ℕ) (x y : ℕ) → step.Unstick d x ≡ step.Unstick q y → d ≡ q
unstick_doc d q x y both = cc

read_doc : (d q : List ℕ) → step.ReadDoc d ≡ step.ReadDoc q → d ≡ q
read_doc d q both = cc

-- the attempt was aborted with the lists, and its entry not dropped; the works from one place on were not read, and those from
-- another on not unstuck
record Clearing (t : Task) (reads takes_off : ℕ) (l : List Made) : Type 0 where
  pub aborted : Once (λ m _. m.step ≡ step.Abort t.atr t.attempt t.lists) l
  pub undropped : ¬ Once (λ m _. drop_of m.step ≡ Some t.attempt) l
  pub unread : (j : ℕ) (w : Work) → reads ≤ j → slice_get t.works j ≡ Some w → ¬ Once (λ m _. m.step ≡ step.ReadDoc w.0) l
  pub unstuck : (j : ℕ) (w : Work) → takes_off ≤ j → slice_get t.works j ≡ Some w → ¬ Once (λ m _. (y : ℕ) × (m.step ≡ step.Unstick w.0 y)) l

abbrev Follows : Task → Phase → List Made → Type 0
Follows t Aborting l = AreCommits l
Follows t (Going at) l = Clearing t at at l
Follows t (Taking at x) l = Clearing t (at + 1) at l
Follows t (Ended end) l = Unit {0}

module _ (own : List ℕ → Option Own) (t : Task) (is_of : IsOf own t) where
  listed : (at : ℕ) (w : Work) → slice_get t.works at ≡ Some w → IsListed w.0 t.lists
  listed at w here = let it = is_of.works.noted at w here in (it.0.kind, (is_of.lists it.0.kind w.0).1 (it.0, it.1, refl))

  -- a later work is of another document
  later_apart : (at j : ℕ) (w v : Work) → slice_get t.works at ≡ Some w → slice_get t.works j ≡ Some v → at + 1 ≤ j → w.0 ≢ v.0
  later_apart at j w v here there later same = wrong (is_of.works.apart at j w v here there same)
    where
      wrong : at ≡ j → ⊥
      wrong is = omega arith

  clears_more : (i k reads takes_off : ℕ) (m : Made) (l : List Made) → drop_of m.step ≡ None → i ≤ reads → k ≤ takes_off
      → ((j : ℕ) (w : Work) → reads ≤ j → slice_get t.works j ≡ Some w → m.step ≢ step.ReadDoc w.0)
      → ((j : ℕ) (w : Work) (y : ℕ) → takes_off ≤ j → slice_get t.works j ≡ Some w → m.step ≢ step.Unstick w.0 y) → Clearing t i k l → Clearing t reads takes_off (m ∷ l)
  clears_more i k reads takes_off m l no_drop more_reads more_takes no_read no_take it = record {
    aborted = inr it.aborted;
    undropped = never_more (λ m _. drop_of m.step ≡ Some t.attempt) m l (λ is. none-some t.attempt (sym no_drop ∙ is)) it.undropped;
    unread = λ j w from here. never_more (λ m _. m.step ≡ step.ReadDoc w.0) m l (no_read j w from here) (it.unread j w (further i reads j more_reads from) here);
    unstuck = λ j w from here. never_more (λ m _. (y : ℕ) × (m.step ≡ step.Unstick w.0 y)) m l (λ took. no_take j w took.0 from here took.1)
        (it.unstuck j w (further k takes_off j more_takes from) here);
  }
    where
      further : (a b c : ℕ) → a ≤ b → b ≤ c → a ≤ c
      further a b c one two = omega arith

  unstick_clears : (i at x : ℕ) (w : Work) (m : Made) (l : List Made) → slice_get t.works at ≡ Some w → m.step ≡ step.Unstick w.0 x → i ≤ at + 1 → Clearing t i at l
      → Clearing t (at + 1) (at + 1) (m ∷ l)
  unstick_clears i at x w m l here is most it =
      clears_more i at (at + 1) (at + 1) m l (ap drop_of is) most (omega arith) (λ j v from there read. unstick_read w.0 v.0 x (sym is ∙ read))
      (λ j v y from there took. later_apart at j w v here there from (unstick_doc w.0 v.0 x y (sym is ∙ took))) it

  read_clears : (at takes_off : ℕ) (w : Work) (m : Made) (l : List Made) → slice_get t.works at ≡ Some w → m.step ≡ step.ReadDoc w.0 → at ≤ takes_off → Clearing t at at l
      → Clearing t (at + 1) takes_off (m ∷ l)
  read_clears at takes_off w m l here is most it =
      clears_more at at (at + 1) takes_off m l (ap drop_of is) (omega arith) most
      (λ j v from there read. later_apart at j w v here there from (read_doc w.0 v.0 (sym is ∙ read)))
      (λ j v y from there took. read_unstick w.0 v.0 y (sym is ∙ took)) it

  follows_on : (m : Made) (l : List Made) (p q : Phase) → Moves t m p q → Follows t p l → Follows t q (m ∷ l)
  follows_on m l _ _ (finds_no_entry is told) commits = tt
  follows_on m l _ _ (is_aborted is shows fine) commits = record {
    aborted = inl is;
    undropped = never_more (λ n _. drop_of n.step ≡ Some t.attempt) m l (λ its. none-some t.attempt (sym (ap drop_of is) ∙ its))
        (none (λ n _. drop_of n.step ≡ Some t.attempt) (λ n past its. dropping n its));
    unread = λ j w from here. never_more (λ n _. n.step ≡ step.ReadDoc w.0) m l (λ read. abort_read t.atr t.attempt t w.0 (sym is ∙ read))
        (none (λ n _. n.step ≡ step.ReadDoc w.0) (λ n past its. ap rolls_back its));
    unstuck = λ j w from here. never_more (λ n _. (y : ℕ) × (n.step ≡ step.Unstick w.0 y)) m l (λ took. abort_unstick t.atr t.attempt t w.0 took.0 (sym is ∙ took.1))
        (none (λ n _. (y : ℕ) × (n.step ≡ step.Unstick w.0 y)) (λ n past its. ap rolls_back its.1));
  }
    where
      none : (Q : Made → List Made → Type 0) → ((n : Made) (past : List Made) → Q n past → rolls_back n.step ≡ true) → ¬ Once Q l
      none Q rolls = each_none (λ n _. rolls_back n.step ≡ false) Q l (λ n past quiet its. true-false (rolls n past its) quiet) commits

      drop_rolls : (s : Step) → drop_of s ≡ Some t.attempt → rolls_back s ≡ true
      drop_rolls (step.DropEntry r a guarded) its = refl
      drop_rolls (step.ReadDoc d) its = refl
      drop_rolls (step.Unstick d x) its = refl
      drop_rolls (step.Abort r a lists) its = refl
      drop_rolls _ its = absurd (cc)

      dropping : (n : Made) → drop_of n.step ≡ Some t.attempt → rolls_back n.step ≡ true
      dropping n its = drop_rolls n.step its
  follows_on m l _ _ (unsticks at x w here known is off) it = unstick_clears at at x w m l here is (omega arith) it
  follows_on m l _ _ (finds_off at w here none is off) it = read_clears at (at + 1) w m l here is (omega arith) it
  follows_on m l _ _ (finds_staged at x w body stage here none shows record_is attempt_is) it = read_clears at at w m l here shows.0 (omega arith) it
  follows_on m l _ _ (takes at x w here is off) it = unstick_clears (at + 1) at x w m l here is (omega arith) it
  follows_on m l _ _ (drops at past is gone) it = tt
  follows_on m l p _ (fails _ asked failed) it = tt

  abort_lists : (i k at : ℕ) (w : Work) (l : List Made) → slice_get t.works at ≡ Some w → Clearing t i k l → AbortLists t.attempt w.0 l
  abort_lists i k at w l here it =
      once_weaker (λ m _. m.step ≡ step.Abort t.atr t.attempt t.lists) _ l (λ m past is. (t.atr, t.lists, is, listed at w here)) it.aborted

  going_closes : (at : ℕ) (l : List Made) (o : Option Work) → slice_get t.works at ≡ o → Clearing t at at l → MayClose t.attempt l (going_step t o)
  going_closes at l None past it =
      (refl, once_weaker (λ m _. m.step ≡ step.Abort t.atr t.attempt t.lists) (λ m _. decides m.step ≡ Some t.attempt) l (λ m before is. ap decides is) it.aborted, it.undropped)
  going_closes at l (Some w) here it = by w.1
    where
      by : (c : Option ℕ) → MayClose t.attempt l (take_off w.0 c)
      by None = (abort_lists at at at w l here it, it.unread at w (omega arith) here)
      by (Some x) = (abort_lists at at at w l here it, it.unstuck at w (omega arith) here)

  taking_closes : (at x : ℕ) (l : List Made) (o : Option Work) (s : Step) → slice_get t.works at ≡ o → Clearing t (at + 1) at l → taking_step x o ≡ Some s → MayClose t.attempt l s
  taking_closes at x l None s past it asked = absurd (none-some s asked)
  taking_closes at x l (Some w) s here it asked =
      subst (λ u. MayClose t.attempt l u) (some_same asked) (abort_lists (at + 1) at at w l here it, it.unstuck at w (omega arith) here)

  may_close : (p : Phase) (l : List Made) (s : Step) → Follows t p l → step_for t p ≡ Some s → MayClose t.attempt l s
  may_close Aborting l s commits asked = subst (λ u. MayClose t.attempt l u) (some_same asked) (refl, unaborted)
    where
      abort_rolls : (u : Step) → aborts u ≡ Some t.attempt → rolls_back u ≡ true
      abort_rolls (step.DropEntry r a guarded) its = refl
      abort_rolls (step.ReadDoc d) its = refl
      abort_rolls (step.Unstick d x) its = refl
      abort_rolls (step.Abort r a lists) its = refl
      abort_rolls _ its = absurd (cc)

      unaborted : ¬ Once (λ m _. aborts m.step ≡ Some t.attempt) l
      unaborted = each_none (λ n _. rolls_back n.step ≡ false) (λ m _. aborts m.step ≡ Some t.attempt) l (λ n past quiet its. true-false (abort_rolls n.step its) quiet) commits
  may_close (Going at) l s it asked = subst (λ u. MayClose t.attempt l u) (some_same asked) (going_closes at l (slice_get t.works at) refl it)
  may_close (Taking at x) l s it asked = taking_closes at x l (slice_get t.works at) s refl it asked
  may_close (Ended end) l s it asked = absurd (none-some s asked)

  module _ (commits : List Made) (before : AreCommits commits) where
    follows : (p : Phase) (mine : List Made) → Runs t p mine → Follows t p (mine ++ commits)
    follows _ _ begun = before
    follows _ _ (goes_on p mine m run asked fit) = follows_on m (mine ++ commits) p (after t p m.answer.place m.answer.reply) (moves t m p asked fit) (follows p mine run)

    pub asks_closing : (p : Phase) (mine : List Made) (s : Step) → Runs t p mine → step_for t p ≡ Some s → MayClose t.attempt (mine ++ commits) s
    asks_closing p mine s run asked = may_close p (mine ++ commits) s (follows p mine run) asked

    pub closes : (p : Phase) (mine : List Made) → Runs t p mine → Each (λ m past. MayClose t.attempt (past ++ commits) m.step) mine
    closes _ _ begun = tt
    closes _ _ (goes_on p mine m run asked fit) = (asks_closing p mine m.step run asked, closes p mine run)
