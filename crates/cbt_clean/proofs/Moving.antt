-- Each fitting answer takes a pass on in one of few ways.
use Rattle.std.proofs.Common.{◌≡◌, ◌≢◌, ℕ, ◌+◌, ◌==◌, Bool, true, false, ◌&&◌, cond, inl, inr, List, slice_get, Option, Some, None, refl, sym, ap, ◌∙◌}
use Rattle.std.proofs.lemmas.Bool.{eqb-true, eq-eqb}
use Rattle.std.proofs.lemmas.Option.{none-some}
use Rattle.cbt_json.specs.declared.value.Json.{Json}
use Rattle.cbt_model.specs.Fitting.{fits, fits_read_doc, fits_unstage, fits_read_entry, fits_decide, fits_drop, fits_read_atr}
use Rattle.cbt_model.specs.History.{is_done}
use Rattle.cbt_model.specs.declared.entries.EntryState.{EntryState}
use Rattle.cbt_model.specs.declared.entries.EntryState.TheVariants.{Pending, Committed, Aborted}
use Rattle.cbt_model.specs.declared.events.Made.{Made}
use Rattle.cbt_model.specs.declared.steps.Reply.{Reply}
use Rattle.cbt_model.specs.declared.steps.Reply.TheVariants as reply
use Rattle.cbt_model.specs.declared.steps.Step.{Step}
use Rattle.cbt_model.specs.declared.steps.Step.TheVariants as step
use Rattle.cbt_clean.proofs.Moves.{by_it, before_it, absent, unstaged, of_another, elsewhere, IsAt, Moves, reads_record, finds_off, finds_staged, takes, drops, evicts, finds_decided, leaves, finds_none, reads_entry, fails}
use Rattle.cbt_clean.specs.Phases.{docs_of, publish, take_off, clearing_step, taking_step, step_for, after_record, after_reading, after_drop, after_clearing, after_taking, after_decided, after_eviction, after_asking, after}
use Rattle.cbt_clean.specs.Staging.{Staging}
use Rattle.cbt_clean.specs.declared.covers.Cover.{Cover}
use Rattle.cbt_clean.specs.declared.phases.Phase.{Phase}
use Rattle.cbt_clean.specs.declared.phases.Phase.TheVariants.{Begun, Clearing, Taking, Evicting, Asking, Ended}

some_same : {X : Type 0} {x y : X} → Some x ≡ Some y → x ≡ y
some_same both = cc

-- the answer fits the step that was asked for
fit_of : (s : Step) (m : Made) → Some s ≡ Some m.step → fits m.step m.answer.reply ≡ true → fits s m.answer.reply ≡ true
fit_of s m asked fit = ap (λ u. fits u m.answer.reply) (some_same asked) ∙ fit

-- each call that takes a staging off is answered in the same ways
pub fits_take_off : (state : EntryState) (d : List ℕ) (s : Staging) (a : Reply) → fits (take_off state d s) a ≡ fits_unstage a
fits_take_off Committed d s a = by s.content
  where
    by : (o : Option Json) → fits (publish d s.cas o) a ≡ fits_unstage a
    by None = refl
    by (Some body) = refl
fits_take_off Pending d s a = refl
fits_take_off Aborted d s a = refl

module _ (r : ℕ) (m : Made) where
  record_moves : m.step ≡ step.ReadAtr r → (a : Reply) → m.answer.reply ≡ a → fits_read_atr a ≡ true → Moves r m Begun (after_record m.answer.place m.answer.now a)
  record_moves is (reply.Entries entries) told fit = reads_record entries (is, told) fit
  record_moves is reply.Failed told fit = fails Begun (ap (λ s. Some s) (sym is)) told
  record_moves is _ told fit = absurd (cc)

  reading_moves : (c : Cover) (at : ℕ) (d : List ℕ) → IsAt c at (Some d) → step_for r (Clearing c at) ≡ Some m.step → m.step ≡ step.ReadDoc d → (a : Reply) → m.answer.reply ≡ a
      → fits_read_doc a ≡ true → Moves r m (Clearing c at) (after_reading r c at m.answer.place a)
  reading_moves c at d here asked is reply.Absent told fit = finds_off c at d here is (absent (is, told))
  reading_moves c at d here asked is (reply.Doc x body None) told fit = finds_off c at d here is (unstaged x body (is, told))
  reading_moves c at d here asked is (reply.Doc x body (Some stage)) told fit = by_record (stage.atr == r) refl (stage.attempt == c.attempt) refl
    where
      apart : (i j : ℕ) → (i == j) ≡ false → i ≢ j
      apart i j other same = absurd (true-false (eq-eqb i j same) other)
        where
          true-false : {b : Bool} → b ≡ true → b ≡ false → ⊥
          true-false one two = cc

      by_record : (b : Bool) → (stage.atr == r) ≡ b → (k : Bool) → (stage.attempt == c.attempt) ≡ k
          → Moves r m (Clearing c at) (cond (b && k) (Taking c at (record { cas = x; content = stage.content })) (Clearing c (at + 1)))
      by_record true in_record true by_attempt =
          finds_staged c at x d body stage here (is, told) (eqb-true stage.atr r in_record) (eqb-true stage.attempt c.attempt by_attempt)
      by_record true in_record false by_other = finds_off c at d here is (of_another x body stage (is, told) (apart stage.attempt c.attempt by_other))
      by_record false in_other k by_any = finds_off c at d here is (elsewhere x body stage (is, told) (apart stage.atr r in_other))
  reading_moves c at d here asked is reply.Failed told fit = fails (Clearing c at) asked told
  reading_moves c at d here asked is _ told fit = absurd (cc)

  drop_moves : (c : Cover) (at : ℕ) → IsAt c at None → step_for r (Clearing c at) ≡ Some m.step → m.step ≡ step.DropEntry r c.attempt false → (a : Reply) → m.answer.reply ≡ a
      → fits_drop a ≡ true → Moves r m (Clearing c at) (after_drop c m.answer.place a)
  drop_moves c at past asked is (reply.Done x) told fit = drops c at past is (inl (ap is_done told))
  drop_moves c at past asked is reply.NoEntry told fit = drops c at past is (inr told)
  drop_moves c at past asked is reply.Failed told fit = fails (Clearing c at) asked told
  drop_moves c at past asked is _ told fit = absurd (cc)

  clearing_moves : (c : Cover) (at : ℕ) (o : Option (List ℕ)) → IsAt c at o → step_for r (Clearing c at) ≡ Some m.step → clearing_step r c o ≡ m.step
      → fits (clearing_step r c o) m.answer.reply ≡ true → Moves r m (Clearing c at) (after_clearing r c at o m.answer.place m.answer.reply)
  clearing_moves c at None past asked is fit = drop_moves c at past asked (sym is) m.answer.reply refl fit
  clearing_moves c at (Some d) here asked is fit = reading_moves c at d here asked (sym is) m.answer.reply refl fit

  taking_moves : (c : Cover) (at : ℕ) (s : Staging) (d : List ℕ) → IsAt c at (Some d) → step_for r (Taking c at s) ≡ Some m.step → m.step ≡ take_off c.entry.state d s
      → (a : Reply) → m.answer.reply ≡ a → fits_unstage a ≡ true → Moves r m (Taking c at s) (after_taking c at m.answer.place a)
  taking_moves c at s d here asked is (reply.Done x) told fit = takes c at d s here is (by_it x told)
  taking_moves c at s d here asked is (reply.CasMismatch have) told fit = takes c at d s here is (before_it have told)
  taking_moves c at s d here asked is reply.Failed told fit = fails (Taking c at s) asked told
  taking_moves c at s d here asked is _ told fit = absurd (cc)

  taking_by : (c : Cover) (at : ℕ) (s : Staging) (o : Option (List ℕ)) → IsAt c at o → step_for r (Taking c at s) ≡ Some m.step → taking_step c.entry.state s o ≡ Some m.step
      → fits m.step m.answer.reply ≡ true → Moves r m (Taking c at s) (after_taking c at m.answer.place m.answer.reply)
  taking_by c at s None past asked is fit = absurd (none-some m.step is)
  taking_by c at s (Some d) here asked is fit =
      taking_moves c at s d here asked (sym (some_same is)) m.answer.reply refl
      (sym (fits_take_off c.entry.state d s m.answer.reply) ∙ fit_of (take_off c.entry.state d s) m is fit)

  evicting_moves : (c : Cover) (again : Bool) → m.step ≡ step.DropEntry r c.attempt true → (a : Reply) → m.answer.reply ≡ a → fits_decide a ≡ true
      → Moves r m (Evicting c again) (after_eviction c again m.answer.place a)
  evicting_moves c again is (reply.Done x) told fit = evicts c again is (inl (ap is_done told))
  evicting_moves c again is reply.NoEntry told fit = evicts c again is (inr told)
  evicting_moves c again is reply.Decided told fit = by again
    where
      by : (b : Bool) → Moves r m (Evicting c b) (after_decided c b)
      by false = finds_decided c is told
      by true = leaves c is told
  evicting_moves c again is reply.Failed told fit = fails (Evicting c again) (ap (λ s. Some s) (sym is)) told
  evicting_moves c again is _ told fit = absurd (cc)

  asking_moves : (c : Cover) → m.step ≡ step.ReadEntry r c.attempt → (a : Reply) → m.answer.reply ≡ a → fits_read_entry a ≡ true
      → Moves r m (Asking c) (after_asking c m.answer.place a)
  asking_moves c is reply.NoEntry told fit = finds_none c (is, told)
  asking_moves c is (reply.Entry e) told fit = reads_entry c e (is, told)
  asking_moves c is reply.Failed told fit = fails (Asking c) (ap (λ s. Some s) (sym is)) told
  asking_moves c is _ told fit = absurd (cc)

  pub moves : (p : Phase) → step_for r p ≡ Some m.step → fits m.step m.answer.reply ≡ true → Moves r m p (after r p m.answer.place m.answer.now m.answer.reply)
  moves Begun asked fit = record_moves (sym (some_same asked)) m.answer.reply refl (fit_of (step.ReadAtr r) m asked fit)
  moves (Clearing c at) asked fit =
      clearing_moves c at (slice_get (docs_of c.entry.lists) at) refl asked (some_same asked) (fit_of (clearing_step r c (slice_get (docs_of c.entry.lists) at)) m asked fit)
  moves (Taking c at s) asked fit = taking_by c at s (slice_get (docs_of c.entry.lists) at) refl asked asked fit
  moves (Evicting c again) asked fit = evicting_moves c again (sym (some_same asked)) m.answer.reply refl (fit_of (step.DropEntry r c.attempt true) m asked fit)
  moves (Asking c) asked fit = asking_moves c (sym (some_same asked)) m.answer.reply refl (fit_of (step.ReadEntry r c.attempt) m asked fit)
  moves (Ended end) asked fit = absurd (none-some m.step asked)
