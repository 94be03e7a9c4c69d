-- Each fitting answer takes a rollback on in one of few ways.
use Rattle.std.proofs.Common.{◌≡◌, ◌≢◌, ℕ, ◌+◌, ◌==◌, Bool, true, false, ◌&&◌, cond, inl, inr, slice_get, Option, Some, None, refl, sym, ap, ◌∙◌}
use Rattle.std.proofs.lemmas.Bool.{eqb-true, eq-eqb}
use Rattle.std.proofs.lemmas.Option.{none-some}
use Rattle.cbt_model.specs.Fitting.{fits, fits_read_doc, fits_unstage, fits_decide, fits_drop}
use Rattle.cbt_model.specs.History.{is_done}
use Rattle.cbt_model.specs.declared.events.Made.{Made}
use Rattle.cbt_model.specs.declared.steps.Reply.{Reply}
use Rattle.cbt_model.specs.declared.steps.Reply.TheVariants as reply
use Rattle.cbt_model.specs.declared.steps.Step.{Step}
use Rattle.cbt_model.specs.declared.steps.Step.TheVariants as step
use Rattle.cbt_book.specs.Shown.{own_abort, refused_abort}
use Rattle.cbt_rollback.proofs.Moves.{IsTakenOff, by_it, before_it, absent, unstaged, of_another, elsewhere, Moves, finds_no_entry, is_aborted, unsticks, finds_off, finds_staged, takes, drops, fails}
use Rattle.cbt_rollback.specs.Phases.{Work, Task, take_off, going_step, taking_step, step_for, after_abort, after_unstick, after_reading, after_drop, after_work, after_going, after}
use Rattle.cbt_rollback.specs.declared.phases.Phase.{Phase}
use Rattle.cbt_rollback.specs.declared.phases.Phase.TheVariants.{Aborting, Going, Taking, Ended}

some_same : {X : Type 0} {x y : X} → Some x ≡ Some y → x ≡ y
some_same both = cc

-- the answer fits the step that was asked for
fit_of : (s : Step) (m : Made) → Some s ≡ Some m.step → fits m.step m.answer.reply ≡ true → fits s m.answer.reply ≡ true
fit_of s m asked fit = ap (λ u. fits u m.answer.reply) (some_same asked) ∙ fit

module _ (t : Task) (m : Made) where
  after_abort_moves : m.step ≡ step.Abort t.atr t.attempt t.lists → (r : Reply) → m.answer.reply ≡ r → fits_decide r ≡ true → Moves t m Aborting (after_abort m.answer.place r)
  after_abort_moves is reply.NoEntry told fit = finds_no_entry is told
  after_abort_moves is (reply.Done c) told fit = is_aborted is (own_abort c is told) (λ failed. absurd (cc))
  after_abort_moves is reply.Decided told fit = is_aborted is (refused_abort is told) (λ failed. absurd (cc))
  after_abort_moves is reply.Failed told fit = fails Aborting (ap (λ s. Some s) (sym is)) told
  after_abort_moves is _ told fit = absurd (cc)

  after_drop_moves : (at : ℕ) → slice_get t.works at ≡ None → step_for t (Going at) ≡ Some m.step → m.step ≡ step.DropEntry t.atr t.attempt false → (r : Reply) → m.answer.reply ≡ r
      → fits_drop r ≡ true → Moves t m (Going at) (after_drop m.answer.place r)
  after_drop_moves at past asked is (reply.Done c) told fit = drops at past is (inl (ap is_done told))
  after_drop_moves at past asked is reply.NoEntry told fit = drops at past is (inr told)
  after_drop_moves at past asked is reply.Failed told fit = fails (Going at) asked told
  after_drop_moves at past asked is _ told fit = absurd (cc)

  -- an unstick, from a phase that asks for it
  after_unstick_moves : (p : Phase) (at : ℕ) → step_for t p ≡ Some m.step → (IsTakenOff m.answer.reply → Moves t m p (Going (at + 1))) → (r : Reply) → m.answer.reply ≡ r
      → fits_unstage r ≡ true → Moves t m p (after_unstick at m.answer.place r)
  after_unstick_moves p at asked off (reply.Done c) told fit = off (by_it c told)
  after_unstick_moves p at asked off (reply.CasMismatch have) told fit = off (before_it have told)
  after_unstick_moves p at asked off reply.Failed told fit = fails p asked told
  after_unstick_moves p at asked off _ told fit = absurd (cc)

  after_reading_moves : (at : ℕ) (w : Work) → slice_get t.works at ≡ Some w → w.1 ≡ None → step_for t (Going at) ≡ Some m.step → m.step ≡ step.ReadDoc w.0 → (r : Reply)
      → m.answer.reply ≡ r → fits_read_doc r ≡ true → Moves t m (Going at) (after_reading t.atr t.attempt at m.answer.place r)
  after_reading_moves at w here none asked is reply.Absent told fit = finds_off at w here none is (absent (is, told))
  after_reading_moves at w here none asked is (reply.Doc x body None) told fit = finds_off at w here none is (unstaged x body (is, told))
  after_reading_moves at w here none asked is (reply.Doc x body (Some stage)) told fit = by_record (stage.atr == t.atr) refl (stage.attempt == t.attempt) refl
    where
      apart : (i j : ℕ) → (i == j) ≡ false → i ≢ j
      apart i j other same = absurd (true-false (eq-eqb i j same) other)
        where
          true-false : {b : Bool} → b ≡ true → b ≡ false → ⊥
          true-false one two = cc

      by_record : (r : Bool) → (stage.atr == t.atr) ≡ r → (a : Bool) → (stage.attempt == t.attempt) ≡ a → Moves t m (Going at) (cond (r && a) (Taking at x) (Going (at + 1)))
      by_record true in_record true by_attempt =
          finds_staged at x w body stage here none (is, told) (eqb-true stage.atr t.atr in_record) (eqb-true stage.attempt t.attempt by_attempt)
      by_record true in_record false by_other = finds_off at w here none is (of_another x body stage (is, told) (apart stage.attempt t.attempt by_other))
      by_record false in_other a by_any = finds_off at w here none is (elsewhere x body stage (is, told) (apart stage.atr t.atr in_other))
  after_reading_moves at w here none asked is reply.Failed told fit = fails (Going at) asked told
  after_reading_moves at w here none asked is _ told fit = absurd (cc)

  work_moves : (at : ℕ) (w : Work) (c : Option ℕ) → w.1 ≡ c → slice_get t.works at ≡ Some w → step_for t (Going at) ≡ Some m.step → take_off w.0 c ≡ m.step
      → fits (take_off w.0 c) m.answer.reply ≡ true → Moves t m (Going at) (after_work t at c m.answer.place m.answer.reply)
  work_moves at w None none here asked is fit = after_reading_moves at w here none asked (sym is) m.answer.reply refl fit
  work_moves at w (Some x) known here asked is fit = after_unstick_moves (Going at) at asked (λ off. unsticks at x w here known (sym is) off) m.answer.reply refl fit

  going_moves : (at : ℕ) (o : Option Work) → slice_get t.works at ≡ o → step_for t (Going at) ≡ Some m.step → going_step t o ≡ m.step
      → fits (going_step t o) m.answer.reply ≡ true → Moves t m (Going at) (after_going t at o m.answer.place m.answer.reply)
  going_moves at None past asked is fit = after_drop_moves at past asked (sym is) m.answer.reply refl fit
  going_moves at (Some w) here asked is fit = work_moves at w w.1 refl here asked is fit

  taking_moves : (at x : ℕ) (o : Option Work) → slice_get t.works at ≡ o → step_for t (Taking at x) ≡ Some m.step → taking_step x o ≡ Some m.step → fits m.step m.answer.reply ≡ true
      → Moves t m (Taking at x) (after_unstick at m.answer.place m.answer.reply)
  taking_moves at x None past asked is fit = absurd (none-some m.step is)
  taking_moves at x (Some w) here asked is fit =
      after_unstick_moves (Taking at x) at asked (λ off. takes at x w here (sym (some_same is)) off) m.answer.reply refl (fit_of (step.Unstick w.0 x) m is fit)

  pub moves : (p : Phase) → step_for t p ≡ Some m.step → fits m.step m.answer.reply ≡ true → Moves t m p (after t p m.answer.place m.answer.reply)
  moves Aborting asked fit = after_abort_moves (sym (some_same asked)) m.answer.reply refl (fit_of (step.Abort t.atr t.attempt t.lists) m asked fit)
  moves (Going at) asked fit =
      going_moves at (slice_get t.works at) refl asked (some_same asked) (fit_of (going_step t (slice_get t.works at)) m asked fit)
  moves (Taking at x) asked fit = taking_moves at x (slice_get t.works at) refl asked asked fit
  moves (Ended end) asked fit = absurd (none-some m.step asked)
