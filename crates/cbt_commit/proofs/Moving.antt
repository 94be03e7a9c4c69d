-- Each fitting answer takes a commit on in one of few ways.
use Rattle.std.proofs.Common.{◌≡◌, ◌≢◌, ℕ, zero, suc, ◌+◌, true, false, ◌⊎◌, inl, inr, List, slice_get, Option, Some, None, refl, sym, ap, ◌∙◌}
use Rattle.std.proofs.lemmas.Option.{none-some}
use Rattle.cbt_json.specs.declared.value.Json.{Json}
use Rattle.cbt_model.specs.Fitting.{fits, fits_unstage, fits_decide, fits_drop, fits_read_entry}
use Rattle.cbt_model.specs.History.{is_done}
use Rattle.cbt_model.specs.declared.entries.Entry.{Entry}
use Rattle.cbt_model.specs.declared.entries.EntryState.{EntryState}
use Rattle.cbt_model.specs.declared.entries.EntryState.TheVariants as state
use Rattle.cbt_model.specs.declared.events.Made.{Made}
use Rattle.cbt_model.specs.declared.steps.Reply.{Reply}
use Rattle.cbt_model.specs.declared.steps.Reply.TheVariants as reply
use Rattle.cbt_model.specs.declared.steps.Step.{Step}
use Rattle.cbt_model.specs.declared.steps.Step.TheVariants as step
use Rattle.cbt_book.specs.Closing.{IsInDoubt}
use Rattle.cbt_book.specs.Passes.{IsDropped}
use Rattle.cbt_book.specs.Shown.{ReadsEntry}
use Rattle.cbt_commit.specs.Phases.{Task, unstage_with, unstage, going_step, step_for, after_commit, again, decided, after_reading, after_unstage, after_drop, after_going, after}
use Rattle.cbt_commit.specs.Written.{Written}
use Rattle.cbt_commit.specs.declared.phases.FinishEnd.TheVariants.{Committed, EntryLost, NotCommitted, Unknown}
use Rattle.cbt_commit.specs.declared.phases.Phase.{Phase}
use Rattle.cbt_commit.specs.declared.phases.Phase.TheVariants.{Sending, Reading, Going, Ended}

-- a call published what was staged, or found that the document has another CAS
pub data IsPublished (r : Reply) : Type 0 where
  by_it : (c : ℕ) → r ≡ reply.Done c → IsPublished r
  before_it : (have : ℕ) → r ≡ reply.CasMismatch have → IsPublished r

-- the call, with its answer, takes the commit from one phase to the next
pub data Moves (t : Task) (m : Made) : Phase → Phase → Type 0 where
  commits_it : (left c : ℕ) → m.step ≡ step.Commit t.atr t.attempt t.lists → m.answer.reply ≡ reply.Done c → Moves t m (Sending left) (Going m.answer.place 0)
  loses_entry : (left : ℕ) → m.step ≡ step.Commit t.atr t.attempt t.lists → m.answer.reply ≡ reply.NoEntry
      → Moves t m (Sending left) (Ended (EntryLost m.answer.place))
  doubts : (left : ℕ) → m.step ≡ step.Commit t.atr t.attempt t.lists → IsInDoubt m.answer.reply → Moves t m (Sending left) (Reading left m.answer.place)
  finds_committed : (left commit : ℕ) (e : Entry) → ReadsEntry t.atr t.attempt e m → e.state ≡ state.Committed → Moves t m (Reading left commit) (Going commit 0)
  sends_again : (left commit : ℕ) (e : Entry) → ReadsEntry t.atr t.attempt e m → e.state ≢ state.Committed → Moves t m (Reading (suc left) commit) (Sending left)
  gives_up : (commit : ℕ) (e : Entry) → ReadsEntry t.atr t.attempt e m → e.state ≢ state.Committed → Moves t m (Reading zero commit) (Ended (NotCommitted commit))
  stays_unknown : (left commit : ℕ) → m.step ≡ step.ReadEntry t.atr t.attempt → (m.answer.reply ≡ reply.Failed) ⊎ (m.answer.reply ≡ reply.NoEntry)
      → Moves t m (Reading left commit) (Ended (Unknown commit m.answer.place))
  publishes : (commit at : ℕ) (w : List ℕ × Written) → slice_get t.works at ≡ Some w → m.step ≡ unstage w.0 w.1 → IsPublished m.answer.reply
      → Moves t m (Going commit at) (Going commit (at + 1))
  drops : (commit at : ℕ) → slice_get t.works at ≡ None → m.step ≡ step.DropEntry t.atr t.attempt false → IsDropped m.answer.reply
      → Moves t m (Going commit at) (Ended (Committed commit true))
  fails : (commit at : ℕ) → step_for t (Going commit at) ≡ Some m.step → m.answer.reply ≡ reply.Failed
      → Moves t m (Going commit at) (Ended (Committed commit false))

pub some_same : {X : Type 0} {x y : X} → Some x ≡ Some y → x ≡ y
some_same both = cc

-- the answer fits the step that was asked for
fit_of : (s : Step) (m : Made) → Some s ≡ Some m.step → fits m.step m.answer.reply ≡ true → fits s m.answer.reply ≡ true
fit_of s m asked fit = ap (λ u. fits u m.answer.reply) (some_same asked) ∙ fit

module _ (t : Task) (m : Made) where
  after_commit_moves : (left : ℕ) → m.step ≡ step.Commit t.atr t.attempt t.lists → (r : Reply) → m.answer.reply ≡ r → fits_decide r ≡ true
      → Moves t m (Sending left) (after_commit left m.answer.place r)
  after_commit_moves left is (reply.Done c) told fit = commits_it left c is told
  after_commit_moves left is reply.NoEntry told fit = loses_entry left is told
  after_commit_moves left is reply.Decided told fit = doubts left is (inr told)
  after_commit_moves left is reply.Failed told fit = doubts left is (inl told)
  after_commit_moves left is _ told fit = absurd (cc)

  again_moves : (left commit : ℕ) (e : Entry) → ReadsEntry t.atr t.attempt e m → e.state ≢ state.Committed → Moves t m (Reading left commit) (again left commit)
  again_moves zero commit e reads apart = gives_up commit e reads apart
  again_moves (suc left) commit e reads apart = sends_again left commit e reads apart

  decided_moves : (left commit : ℕ) (e : Entry) → ReadsEntry t.atr t.attempt e m → (s : EntryState) → e.state ≡ s
      → Moves t m (Reading left commit) (decided left commit s)
  decided_moves left commit e reads state.Committed is = finds_committed left commit e reads is
  decided_moves left commit e reads state.Pending is = again_moves left commit e reads (λ same. absurd (cc))
  decided_moves left commit e reads state.Aborted is = again_moves left commit e reads (λ same. absurd (cc))

  after_reading_moves : (left commit : ℕ) → m.step ≡ step.ReadEntry t.atr t.attempt → (r : Reply) → m.answer.reply ≡ r → fits_read_entry r ≡ true
      → Moves t m (Reading left commit) (after_reading left commit m.answer.place r)
  after_reading_moves left commit is (reply.Entry e) told fit = decided_moves left commit e (is, told) e.state refl
  after_reading_moves left commit is reply.NoEntry told fit = stays_unknown left commit is (inr told)
  after_reading_moves left commit is reply.Failed told fit = stays_unknown left commit is (inl told)
  after_reading_moves left commit is _ told fit = absurd (cc)

  after_drop_moves : (commit at : ℕ) → slice_get t.works at ≡ None → step_for t (Going commit at) ≡ Some m.step → m.step ≡ step.DropEntry t.atr t.attempt false
      → (r : Reply) → m.answer.reply ≡ r → fits_drop r ≡ true → Moves t m (Going commit at) (after_drop commit r)
  after_drop_moves commit at past asked is (reply.Done c) told fit = drops commit at past is (inl (ap is_done told))
  after_drop_moves commit at past asked is reply.NoEntry told fit = drops commit at past is (inr told)
  after_drop_moves commit at past asked is reply.Failed told fit = fails commit at asked told
  after_drop_moves commit at past asked is _ told fit = absurd (cc)

  after_unstage_moves : (commit at : ℕ) (w : List ℕ × Written) → slice_get t.works at ≡ Some w → step_for t (Going commit at) ≡ Some m.step
      → m.step ≡ unstage w.0 w.1
      → (r : Reply) → m.answer.reply ≡ r → fits_unstage r ≡ true → Moves t m (Going commit at) (after_unstage commit at r)
  after_unstage_moves commit at w here asked is (reply.Done c) told fit = publishes commit at w here is (by_it c told)
  after_unstage_moves commit at w here asked is (reply.CasMismatch have) told fit = publishes commit at w here is (before_it have told)
  after_unstage_moves commit at w here asked is reply.Failed told fit = fails commit at asked told
  after_unstage_moves commit at w here asked is _ told fit = absurd (cc)

  fits_either : (d : List ℕ) (x : ℕ) (content : Option Json) (r : Reply) → fits (unstage_with d x content) r ≡ true → fits_unstage r ≡ true
  fits_either d x None r fit = fit
  fits_either d x (Some body) r fit = fit

  going_moves : (commit at : ℕ) (o : Option (List ℕ × Written)) → slice_get t.works at ≡ o → step_for t (Going commit at) ≡ Some m.step → going_step t o ≡ m.step
      → fits (going_step t o) m.answer.reply ≡ true → Moves t m (Going commit at) (after_going commit at o m.answer.reply)
  going_moves commit at None past asked is fit = after_drop_moves commit at past asked (sym is) m.answer.reply refl fit
  going_moves commit at (Some w) here asked is fit =
      after_unstage_moves commit at w here asked (sym is) m.answer.reply refl (fits_either w.0 w.1.cas w.1.content m.answer.reply fit)

  pub moves : (p : Phase) → step_for t p ≡ Some m.step → fits m.step m.answer.reply ≡ true → Moves t m p (after t p m.answer.place m.answer.reply)
  moves (Sending left) asked fit = after_commit_moves left (sym (some_same asked)) m.answer.reply refl (fit_of (step.Commit t.atr t.attempt t.lists) m asked fit)
  moves (Reading left commit) asked fit =
      after_reading_moves left commit (sym (some_same asked)) m.answer.reply refl (fit_of (step.ReadEntry t.atr t.attempt) m asked fit)
  moves (Going commit at) asked fit =
      going_moves commit at (slice_get t.works at) refl asked (some_same asked) (fit_of (going_step t (slice_get t.works at)) m asked fit)
  moves (Ended end) asked fit = absurd (none-some m.step asked)
