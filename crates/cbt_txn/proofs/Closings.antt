-- The calls that close a try close it well, at each moment and however they end.
use Rattle.std.proofs.Common.{◌≡◌, ℕ, Bool, true, false, inr, ⊎_elim, List, [], ◌∷◌, ◌++◌, length, drop, slice_get, Option, Some, None, refl, sym, ap, ◌∙◌, subst}
use Rattle.std.proofs.lemmas.Option.{none-some}
use Rattle.cbt_model.specs.History.{commits}
use Rattle.cbt_model.specs.declared.events.Made.{Made}
use Rattle.cbt_model.specs.declared.steps.Step.{Step}
use Rattle.cbt_model.specs.declared.steps.Step.TheVariants as step
use Rattle.cbt_book.specs.Closing.{MayClose, ThirdInVain}
use Rattle.cbt_book.specs.OwnLists.{Each, Once}
use Rattle.cbt_book.specs.Shown.{aborts}
use Rattle.cbt_book.specs.Spans.{past_of, span_of}
use Rattle.cbt_book.specs.declared.clients.AttemptLog.{AttemptLog}
use Rattle.cbt_core.specs.Attempts as attempts
use Rattle.cbt_core.specs.Attempts.{MayKeep, MayRollBack, CutFollows, all_good, course_of}
use Rattle.cbt_core.specs.Walk.{AttemptTerms}
use Rattle.cbt_attempt.specs.declared.own.Own.{Own}
use Rattle.cbt_commit.specs.Phases as finish
use Rattle.cbt_commit.specs.Standing as finish_stands
use Rattle.cbt_commit.specs.declared.finishes.Finish.{Finish}
use Rattle.cbt_commit.proofs.ClosingCalls.{all_close}
use Rattle.cbt_commit.proofs.Licensing.{none_aborts}
use Rattle.cbt_logs.specs.Closing.{ClosesWell}
use Rattle.cbt_rollback.specs.Commits.{AreCommits, rolls_back}
use Rattle.cbt_rollback.specs.Phases as undo
use Rattle.cbt_rollback.specs.Ready as undo_ready
use Rattle.cbt_rollback.specs.Standing as undo_stands
use Rattle.cbt_rollback.specs.Standing.{Runs, begun, goes_on}
use Rattle.cbt_rollback.specs.declared.phases.Phase.{Phase}
use Rattle.cbt_rollback.specs.declared.phases.Phase.TheVariants.{Aborting, Going, Taking, Ended}
use Rattle.cbt_rollback.specs.declared.undos.Undo.{Undo}
use Rattle.cbt_rollback.proofs.Closes.{closes}
use Rattle.cbt_txn.specs.Feeding.{from_of}
use Rattle.cbt_txn.specs.Following.{first_place}

-- ---- spans

-- what is noted of the first and the last place of calls is their span
pub span_so_far : (first : Option ℕ) (past : ℕ) (l0 mine : List Made) → first ≡ first_place mine → past ≡ past_of (mine ++ l0)
    → record { from = from_of first past; to = past } ≡ span_of (past_of l0) mine
span_so_far first past l0 [] first_is past_is = cc
span_so_far first past l0 (m ∷ older) first_is past_is = cc

-- ---- a commit

true-false : {b : Bool} → b ≡ true → b ≡ false → ⊥
true-false one two = cc

never : (P Q : Made → Type 0) (l : List Made) → ((m : Made) → P m → Q m → ⊥) → Each (λ m _. P m) l → Once (λ m _. Q m) l → ⊥
never P Q [] apart each once = absurd once
never P Q (m ∷ l) apart each once = ⊎_elim (λ here. apart m each.0 here) (λ later. never P Q l apart each.1 later) once

module _ (t : AttemptTerms) (log : AttemptLog) (all : drop (length log.ops) t.plan.ops ≡ []) (good : all_good log.ops ≡ true) where
  -- a commit that was not in vain so far
  pub commit_closes : (f : Finish) (calls : List Made) → t.plan.keep ≡ true → f.attempt ≡ t.id → finish_stands.StandsFor f calls → log.not_committed ≡ false
      → ¬ ThirdInVain f.attempt calls → ClosesWell t log calls []
  commit_closes f calls keep id stands unset third = record {
    cut_follows = tt;
    ended = attempts.all_answered all;
    closes = subst (λ a. Each (λ m past. MayClose a past m.step) calls) id (all_close (finish.task_of f) f.phase calls stands.listed stands.runs);
    may_commit = λ once. record { all = all; good = good; keep = keep };
    may_abort = λ once. absurd (never (λ m. aborts m.step ≡ None) (λ m. aborts m.step ≡ Some t.id) calls (λ m none some. none-some t.id (sym none ∙ some))
        (none_aborts (finish.task_of f) f.phase calls stands.runs) once);
    third = (λ set. absurd (true-false set unset), λ vain. absurd (third (subst (λ a. ThirdInVain a calls) (sym id) vain)));
  }

-- ---- a rollback

some_same : {X : Type 0} {x y : X} → Some x ≡ Some y → x ≡ y
some_same both = cc

-- a rollback makes no other calls than an abort, readings, unsticks and a drop
module _ (o : undo.Task) where
  taking_off : (d : List ℕ) (x : Option ℕ) → rolls_back (undo.take_off d x) ≡ true
  taking_off d None = refl
  taking_off d (Some x) = refl

  going : (w : Option undo.Work) → rolls_back (undo.going_step o w) ≡ true
  going None = refl
  going (Some w) = taking_off w.0 w.1

  taking : (x : ℕ) (w : Option undo.Work) (s : Step) → undo.taking_step x w ≡ Some s → rolls_back s ≡ true
  taking x None s asked = absurd (none-some s asked)
  taking x (Some w) s asked = subst (λ k. rolls_back k ≡ true) (some_same asked) refl

  step_rolls : (p : Phase) (s : Step) → undo.step_for o p ≡ Some s → rolls_back s ≡ true
  step_rolls Aborting s asked = subst (λ k. rolls_back k ≡ true) (some_same asked) refl
  step_rolls (Going at) s asked = subst (λ k. rolls_back k ≡ true) (some_same asked) (going (slice_get o.works at))
  step_rolls (Taking at x) s asked = taking x (slice_get o.works at) s asked
  step_rolls (Ended end) s asked = absurd (none-some s asked)

  pub rolls : (p : Phase) (mine : List Made) → Runs o p mine → Each (λ m _. rolls_back m.step ≡ true) mine
  rolls _ _ begun = tt
  rolls _ _ (goes_on p mine m runs asked fit) = (step_rolls p m.step asked, rolls p mine runs)

commits_not : (s : Step) (a : ℕ) → rolls_back s ≡ true → commits s ≡ Some a → ⊥
commits_not (step.Commit r b lists) a rolling is = cc
commits_not _ a rolling is = absurd (none-some a is)

reads_not : (s : Step) (r a : ℕ) → rolls_back s ≡ true → s ≡ step.ReadEntry r a → ⊥
reads_not s r a rolling is = true-false (sym (ap rolls_back is) ∙ rolling) refl

-- what is so of the calls of a rollback, and of the commits before, is so of them all
each_past : (P : Made → List Made → Type 0) (calls before : List Made) → Each (λ m past. P m (past ++ before)) calls → Each P before → Each P (calls ++ before)
each_past P [] before front back = back
each_past P (m ∷ calls) before front back = (front.0, each_past P calls before front.1 back)

once_past : (P : Made → List Made → Type 0) (calls before : List Made) → Once P before → Once P (calls ++ before)
once_past P [] before once = once
once_past P (m ∷ calls) before once = inr (once_past P calls before once)

-- where no call of a rollback meets it, it is met before
once_before : (P : Made → List Made → Type 0) (Q : Made → Type 0) (calls before : List Made) → ((m : Made) (past : List Made) → Q m → P m past → ⊥)
    → Each (λ m _. Q m) calls → Once P (calls ++ before) → Once P before
once_before P Q [] before apart each once = once
once_before P Q (m ∷ calls) before apart each once =
    ⊎_elim (λ here. absurd (apart m (calls ++ before) each.0 here)) (λ later. once_before P Q calls before apart each.1 later) once

module _ (t : AttemptTerms) (log : AttemptLog) (u : Undo) (own : List ℕ → Option Own) (id : u.attempt ≡ t.id)
    (is_of : undo_ready.IsOf own (undo.task_of u)) (calls : List Made) (stands : undo_stands.StandsFor u calls) where
  rolling : Each (λ m _. rolls_back m.step ≡ true) calls
  rolling = rolls (undo.task_of u) u.phase calls stands

  closing : (commits : List Made) → AreCommits commits → Each (λ m past. MayClose t.id past m.step) commits → Each (λ m past. MayClose t.id past m.step) (calls ++ commits)
  closing commits are before =
      each_past (λ m past. MayClose t.id past m.step) calls commits
      (subst (λ a. Each (λ m past. MayClose a (past ++ commits) m.step) calls) id (closes own (undo.task_of u) is_of commits are u.phase calls stands)) before

  vain_before : (commits : List Made) → ThirdInVain t.id (calls ++ commits) → ThirdInVain t.id commits
  vain_before commits vain =
      once_before _ (λ m. rolls_back m.step ≡ true) calls commits (λ m past rolling it. reads_not m.step it.0 t.id rolling it.1.1.0) rolling vain

  -- for its operations, of which the last may be cut off
  pub operations_close : (cut : List Made) → log.not_committed ≡ false → CutFollows t (course_of t log cut (calls ++ [])) cut
      → attempts.HasEnded (course_of t log cut (calls ++ [])) → MayRollBack t (course_of t log cut (calls ++ [])) → ClosesWell t log (calls ++ []) cut
  operations_close cut unset follows ended may = record {
    cut_follows = follows;
    ended = ended;
    closes = closing [] tt tt;
    may_commit = λ once. absurd (once_before (λ m _. commits m.step ≡ Some t.id) (λ m. rolls_back m.step ≡ true) calls []
        (λ m past rolling is. commits_not m.step t.id rolling is) rolling once);
    may_abort = λ once. may;
    third = (λ set. absurd (true-false set unset), λ vain. absurd (vain_before [] vain));
  }

  -- since its third commit was in vain
  pub commits_close : (commits : List Made) → log.not_committed ≡ true → drop (length log.ops) t.plan.ops ≡ [] → all_good log.ops ≡ true → t.plan.keep ≡ true
      → ThirdInVain t.id commits → AreCommits commits → Each (λ m past. MayClose t.id past m.step) commits → ClosesWell t log (calls ++ commits) []
  commits_close commits set all good keep vain are before = record {
    cut_follows = tt;
    ended = attempts.all_answered all;
    closes = closing commits are before;
    may_commit = λ once. record { all = all; good = good; keep = keep };
    may_abort = λ once. attempts.for_commits set;
    third = (λ is. once_past _ calls commits vain, λ is. set);
  }
