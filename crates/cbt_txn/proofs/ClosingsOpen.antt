-- A commit or a rollback that has not ended leaves its attempt without an end.
use Rattle.std.proofs.Common.{◌≡◌, ◌≢◌, ℕ, Bool, true, false, ◌⊎◌, inl, inr, ⊎_elim, List, [], ◌∷◌, slice_get, Option, Some, None, refl, sym, ap, ◌∙◌, subst}
use Rattle.std.proofs.lemmas.Option.{none-some}
use Rattle.cbt_json.specs.declared.value.Json.{Json}
use Rattle.cbt_model.specs.History.{commits}
use Rattle.cbt_model.specs.declared.entries.Lists.{Lists}
use Rattle.cbt_model.specs.declared.events.Made.{Made}
use Rattle.cbt_model.specs.declared.steps.Reply.{Reply}
use Rattle.cbt_model.specs.declared.steps.Reply.TheVariants as reply
use Rattle.cbt_model.specs.declared.steps.Step.{Step}
use Rattle.cbt_model.specs.declared.steps.Step.TheVariants as step
use Rattle.cbt_book.specs.Closing.{CommitsInDoubt, HasAborted, IsFinished, IsUndone, Settles, drops, finishes}
use Rattle.cbt_book.specs.Closing as closing
use Rattle.cbt_book.specs.OwnLists.{Each, Kept, Once}
use Rattle.cbt_book.specs.Passes.{IsDropped}
use Rattle.cbt_book.specs.Shown.{aborts, adds}
use Rattle.cbt_book.specs.declared.clients.AttemptEnd.{AttemptEnd}
use Rattle.cbt_book.specs.declared.clients.AttemptEnd.TheVariants as attempt_end
use Rattle.cbt_core.specs.Attempts.{Course, Ends}
use Rattle.cbt_core.specs.Walk.{AttemptTerms}
use Rattle.cbt_commit.specs.Phases as finish
use Rattle.cbt_commit.specs.Standing as finish_stands
use Rattle.cbt_commit.specs.Written.{Written}
use Rattle.cbt_commit.specs.declared.phases.FinishEnd.{FinishEnd}
use Rattle.cbt_commit.specs.declared.phases.FinishEnd.TheVariants as finish_end
use Rattle.cbt_commit.specs.declared.phases.Phase as finish_phase
use Rattle.cbt_commit.specs.declared.phases.Phase.TheVariants as finish_phases
use Rattle.cbt_rollback.specs.Phases as undo
use Rattle.cbt_rollback.specs.Standing as undo_stands
use Rattle.cbt_rollback.specs.declared.phases.Phase as undo_phase
use Rattle.cbt_rollback.specs.declared.phases.Phase.TheVariants as undo_phases
use Rattle.cbt_txn.specs.Closings.{GoesOnAfter}
use Rattle.cbt_txn.proofs.Apart.{clash_once}

some_same : {X : Type 0} {x y : X} → Some x ≡ Some y → x ≡ y
some_same both = cc

some_none : {X : Type 0} {x : X} → Some x ≡ None → ⊥
some_none both = cc

true-false : {b : Bool} → b ≡ true → b ≡ false → ⊥
true-false one two = cc

kept_once : (P U : Made → List Made → Type 0) (l : List Made) → Kept P U l → Once P l
kept_once P U [] kept = kept
kept_once P U (m ∷ l) kept = ⊎_elim (λ here. inl here) (λ past. inr (kept_once P U l past.1)) kept

-- ---- a commit

-- it goes on, or its third commit was in vain
abbrev pub passes_end : FinishEnd → Bool
passes_end (finish_end.NotCommitted place) = true
passes_end _ = false

abbrev pub passes : finish_phase.Phase → Bool
passes (finish_phases.Ended end) = passes_end end
passes _ = true

pub vain_passes : (p : finish_phase.Phase) (place : ℕ) → finish.end_in p ≡ Some (finish_end.NotCommitted place) → passes p ≡ true
vain_passes (finish_phases.Ended end) place ended = ap passes_end (some_same ended)
vain_passes (finish_phases.Sending left) place ended = refl
vain_passes (finish_phases.Reading left commit) place ended = refl
vain_passes (finish_phases.Going commit at) place ended = refl

pub open_passes : (p : finish_phase.Phase) → finish.end_in p ≡ None → passes p ≡ true
open_passes (finish_phases.Ended end) open_yet = absurd (some_none open_yet)
open_passes (finish_phases.Sending left) open_yet = refl
open_passes (finish_phases.Reading left commit) open_yet = refl
open_passes (finish_phases.Going commit at) open_yet = refl

after_commit_sent : (m : Made) (r a : ℕ) (lists : Lists) (left : ℕ) → m.step ≡ step.Commit r a lists → passes (finish.after_commit left m.answer.place m.answer.reply) ≡ true → GoesOnAfter m
after_commit_sent m r a lists left is passed = record {
  undropped = ap drops is;
  published = λ so. absurd (true-false so (ap finishes is));
  committed = λ b who none. true-false passed (ap (λ k. passes (finish.after_commit left m.answer.place k)) none);
  aborted = λ b who. absurd (none-some b (sym (ap aborts is) ∙ who));
  shown = λ q b other. absurd (commit_reads is other);
}
  where
    commit_reads : {s : Step} {q b : ℕ} → s ≡ step.Commit r a lists → s ≡ step.ReadEntry q b → ⊥
    commit_reads one two = cc

after_entry_read : (m : Made) (r a left commit : ℕ) → m.step ≡ step.ReadEntry r a → passes (finish.after_reading left commit m.answer.place m.answer.reply) ≡ true → GoesOnAfter m
after_entry_read m r a left commit is passed = record {
  undropped = ap drops is;
  published = λ so. absurd (true-false so (ap finishes is));
  committed = λ b who. absurd (none-some b (sym (ap commits is) ∙ who));
  aborted = λ b who. absurd (none-some b (sym (ap aborts is) ∙ who));
  shown = λ q b other. (
    λ failed. true-false passed (ap (λ k. passes (finish.after_reading left commit m.answer.place k)) failed),
    λ none. true-false passed (ap (λ k. passes (finish.after_reading left commit m.answer.place k)) none),
  );
}

drop_ends : (commit : ℕ) (r : Reply) → passes (finish.after_drop commit r) ≡ false
drop_ends commit (reply.Done c) = refl
drop_ends commit reply.NoEntry = refl
drop_ends commit _ = refl

-- what a step is that publishes an own write
record Publishes (s : Step) : Type 0 where
  pub undropped : drops s ≡ None
  pub uncommitted : commits s ≡ None
  pub unaborted : aborts s ≡ None
  pub unread : (r a : ℕ) → s ≡ step.ReadEntry r a → ⊥

content_publishes : (d : List ℕ) (x : ℕ) (content : Option Json) → Publishes (finish.unstage_with d x content)
content_publishes d x None = record { undropped = refl; uncommitted = refl; unaborted = refl; unread = λ r a is. cc }
content_publishes d x (Some body) = record { undropped = refl; uncommitted = refl; unaborted = refl; unread = λ r a is. cc }

after_published : (m : Made) (w : List ℕ × Written) (commit at : ℕ) → m.step ≡ finish.unstage w.0 w.1 → passes (finish.after_unstage commit at m.answer.reply) ≡ true → GoesOnAfter m
after_published m w commit at is passed =
    let it = subst Publishes (sym is) (content_publishes w.0 w.1.cas w.1.content) in
    record {
      undropped = it.undropped;
      published = λ so failed. true-false passed (ap (λ k. passes (finish.after_unstage commit at k)) failed);
      committed = λ b who. absurd (none-some b (sym it.uncommitted ∙ who));
      aborted = λ b who. absurd (none-some b (sym it.unaborted ∙ who));
      shown = λ q b other. absurd (it.unread q b other);
    }

module _ (t : finish.Task) where
  call_goes_on : (p : finish_phase.Phase) (m : Made) → finish.step_for t p ≡ Some m.step → passes (finish.after t p m.answer.place m.answer.reply) ≡ true → GoesOnAfter m
  call_goes_on (finish_phases.Sending left) m asked passed = after_commit_sent m t.atr t.attempt t.lists left (sym (some_same asked)) passed
  call_goes_on (finish_phases.Reading left commit) m asked passed = after_entry_read m t.atr t.attempt left commit (sym (some_same asked)) passed
  call_goes_on (finish_phases.Going commit at) m asked passed = by (slice_get t.works at) (sym (some_same asked)) passed
    where
      by : (w : Option (List ℕ × Written)) → m.step ≡ finish.going_step t w → passes (finish.after_going commit at w m.answer.reply) ≡ true → GoesOnAfter m
      by None is passed = absurd (true-false passed (drop_ends commit m.answer.reply))
      by (Some w) is passed = after_published m w commit at is passed
  call_goes_on (finish_phases.Ended end) m asked passed = absurd (none-some m.step asked)

  asked_passes : (p : finish_phase.Phase) (s : Step) → finish.step_for t p ≡ Some s → passes p ≡ true
  asked_passes (finish_phases.Sending left) s asked = refl
  asked_passes (finish_phases.Reading left commit) s asked = refl
  asked_passes (finish_phases.Going commit at) s asked = refl
  asked_passes (finish_phases.Ended end) s asked = absurd (none-some s asked)

  pub commit_goes_on : (p : finish_phase.Phase) (mine : List Made) → finish_stands.Runs t p mine → passes p ≡ true → Each (λ m _. GoesOnAfter m) mine
  commit_goes_on _ _ finish_stands.begun passed = tt
  commit_goes_on _ _ (finish_stands.goes_on p mine m runs asked fit) passed =
      (call_goes_on p m asked passed, commit_goes_on p mine runs (asked_passes p m.step asked))

-- ---- a rollback

undo_drop_ends : (place : ℕ) (r : Reply) → undo.end_in (undo.after_drop place r) ≡ None → ⊥
undo_drop_ends place (reply.Done c) open_yet = some_none open_yet
undo_drop_ends place reply.NoEntry open_yet = some_none open_yet
undo_drop_ends place _ open_yet = some_none open_yet

-- a step that takes an own write off
record TakesOff (s : Step) : Type 0 where
  pub undropped : drops s ≡ None
  pub unfinished : finishes s ≡ false
  pub uncommitted : commits s ≡ None
  pub unaborted : aborts s ≡ None
  pub unread : (r a : ℕ) → s ≡ step.ReadEntry r a → ⊥

taking_off : (d : List ℕ) (x : Option ℕ) → TakesOff (undo.take_off d x)
taking_off d None = record { undropped = refl; unfinished = refl; uncommitted = refl; unaborted = refl; unread = λ r a is. cc }
taking_off d (Some x) = record { undropped = refl; unfinished = refl; uncommitted = refl; unaborted = refl; unread = λ r a is. cc }

taken_off : (m : Made) → TakesOff m.step → GoesOnAfter m
taken_off m it = record {
  undropped = it.undropped;
  published = λ so. absurd (true-false so it.unfinished);
  committed = λ b who. absurd (none-some b (sym it.uncommitted ∙ who));
  aborted = λ b who. absurd (none-some b (sym it.unaborted ∙ who));
  shown = λ q b other. absurd (it.unread q b other);
}

module _ (t : undo.Task) where
  abort_goes_on : (m : Made) → m.step ≡ step.Abort t.atr t.attempt t.lists → undo.end_in (undo.after_abort m.answer.place m.answer.reply) ≡ None
      → GoesOnAfter m × (m.answer.reply ≢ reply.Failed)
  abort_goes_on m is open_yet = (
    record {
      undropped = ap drops is;
      published = λ so. absurd (true-false so (ap finishes is));
      committed = λ b who. absurd (none-some b (sym (ap commits is) ∙ who));
      aborted = λ b who none. some_none (sym (ap (λ k. undo.end_in (undo.after_abort m.answer.place k)) none) ∙ open_yet);
      shown = λ q b other. absurd (abort_reads is other);
    },
    λ failed. some_none (sym (ap (λ k. undo.end_in (undo.after_abort m.answer.place k)) failed) ∙ open_yet),
  )
    where
      abort_reads : {s : Step} {q b : ℕ} → s ≡ step.Abort t.atr t.attempt t.lists → s ≡ step.ReadEntry q b → ⊥
      abort_reads one two = cc

  work_unfailed : (at : ℕ) (x : Option ℕ) (m : Made) → undo.end_in (undo.after_work t at x m.answer.place m.answer.reply) ≡ None → m.answer.reply ≢ reply.Failed
  work_unfailed at None m open_yet failed = some_none (sym (ap (λ k. undo.end_in (undo.after_work t at None m.answer.place k)) failed) ∙ open_yet)
  work_unfailed at (Some x) m open_yet failed = some_none (sym (ap (λ k. undo.end_in (undo.after_work t at (Some x) m.answer.place k)) failed) ∙ open_yet)

  undo_call_goes_on : (p : undo_phase.Phase) (m : Made) → undo.step_for t p ≡ Some m.step → undo.end_in (undo.after t p m.answer.place m.answer.reply) ≡ None
      → GoesOnAfter m × (m.answer.reply ≢ reply.Failed)
  undo_call_goes_on undo_phases.Aborting m asked open_yet = abort_goes_on m (sym (some_same asked)) open_yet
  undo_call_goes_on (undo_phases.Going at) m asked open_yet = by (slice_get t.works at) (sym (some_same asked)) open_yet
    where
      by : (w : Option undo.Work) → m.step ≡ undo.going_step t w → undo.end_in (undo.after_going t at w m.answer.place m.answer.reply) ≡ None
          → GoesOnAfter m × (m.answer.reply ≢ reply.Failed)
      by None is open_yet = absurd (undo_drop_ends m.answer.place m.answer.reply open_yet)
      by (Some w) is open_yet = (taken_off m (subst TakesOff (sym is) (taking_off w.0 w.1)), work_unfailed at w.1 m open_yet)
  undo_call_goes_on (undo_phases.Taking at x) m asked open_yet = by (slice_get t.works at) asked
    where
      by : (w : Option undo.Work) → undo.taking_step x w ≡ Some m.step → GoesOnAfter m × (m.answer.reply ≢ reply.Failed)
      by None is = absurd (none-some m.step is)
      by (Some w) is = (
        taken_off m (subst TakesOff (some_same is) (taking_off w.0 (Some x))),
        λ failed. some_none (sym (ap (λ k. undo.end_in (undo.after_unstick at m.answer.place k)) failed) ∙ open_yet),
      )
  undo_call_goes_on (undo_phases.Ended end) m asked open_yet = absurd (none-some m.step asked)

  undo_asked_open : (p : undo_phase.Phase) (s : Step) → undo.step_for t p ≡ Some s → undo.end_in p ≡ None
  undo_asked_open undo_phases.Aborting s asked = refl
  undo_asked_open (undo_phases.Going at) s asked = refl
  undo_asked_open (undo_phases.Taking at x) s asked = refl
  undo_asked_open (undo_phases.Ended end) s asked = absurd (none-some s asked)

  pub undo_goes_on : (p : undo_phase.Phase) (mine : List Made) → undo_stands.Runs t p mine → undo.end_in p ≡ None
      → Each (λ m _. GoesOnAfter m × (m.answer.reply ≢ reply.Failed)) mine
  undo_goes_on _ _ undo_stands.begun open_yet = tt
  undo_goes_on _ _ (undo_stands.goes_on p mine m runs asked fit) open_yet =
      (undo_call_goes_on p m asked open_yet, undo_goes_on p mine runs (undo_asked_open p m.step asked))

-- ---- the attempt has no end

-- a call that failed behind an abort
abbrev pub FailsAborted : ℕ → ℕ → List Made → Type 0
FailsAborted a place closing_calls = Once (λ m before. (m.answer.place ≡ place) × (m.answer.reply ≡ reply.Failed) × HasAborted a (m ∷ before)) closing_calls

pub none_aborted : (a place : ℕ) (l : List Made) → Each (λ m _. aborts m.step ≡ None) l → FailsAborted a place l → ⊥
none_aborted a place [] unaborted met = met
none_aborted a place (m ∷ l) unaborted met =
    ⊎_elim (λ here. clash_once (λ n. aborts n.step ≡ None) (λ n _. aborts n.step ≡ Some a) (m ∷ l) (λ n past none some. none-some a (sym none ∙ some)) unaborted here.2)
    (λ (past : FailsAborted a place l). none_aborted a place l unaborted.1 past) met

module _ (t : AttemptTerms) (c : Course) (calls : List Made) (on : Each (λ m _. GoesOnAfter m) c.closing) (sent : Once (λ m _. adds m.step ≡ Some t.id) calls)
    (unfailed : (place : ℕ) → FailsAborted t.id place c.closing → ⊥) where
  unfinished : (complete : Bool) → IsFinished t.id c.closing complete → ⊥
  unfinished true it =
      clash_once GoesOnAfter (λ m _. ((r : ℕ) × (m.step ≡ step.DropEntry r t.id false)) × IsDropped m.answer.reply) c.closing
      (λ m past goes is. none-some t.id (sym goes.undropped ∙ ap drops is.0.1)) on it.0
  unfinished false it =
      clash_once GoesOnAfter (λ m _. (finishes m.step ≡ true) × (m.answer.reply ≡ reply.Failed)) c.closing (λ m past goes is. goes.published is.0 is.1) on it

  unsent_not : Each (λ m _. adds m.step ≢ Some t.id) calls → ⊥
  unsent_not none = clash_once (λ m. adds m.step ≢ Some t.id) (λ m _. adds m.step ≡ Some t.id) calls (λ m past not is. not is) none sent

  undone_not : IsUndone t.id calls c.closing → ⊥
  undone_not (closing.unsent none empty) = unsent_not none
  undone_not (closing.no_entry met) =
      clash_once GoesOnAfter (λ m _. (aborts m.step ≡ Some t.id) × (m.answer.reply ≡ reply.NoEntry)) c.closing (λ m past goes is. goes.aborted t.id is.0 is.1) on met
  undone_not (closing.dropped met) =
      clash_once GoesOnAfter (λ m before. ((r : ℕ) × (m.step ≡ step.DropEntry r t.id false)) × IsDropped m.answer.reply × HasAborted t.id before) c.closing
      (λ m past goes is. none-some t.id (sym goes.undropped ∙ ap drops is.0.1)) on met

  pub still_closing : (e : AttemptEnd) → Ends t c calls e → e ≡ attempt_end.Stopped
  still_closing (attempt_end.Committed place complete) it = absurd (unfinished complete it.2)
  still_closing attempt_end.Empty it = absurd (unsent_not it.2)
  still_closing attempt_end.RolledBack it = absurd (undone_not it.1)
  still_closing (attempt_end.EntryLost place) it =
      absurd (clash_once GoesOnAfter (λ m _. (m.answer.place ≡ place) × (commits m.step ≡ Some t.id) × (m.answer.reply ≡ reply.NoEntry)) c.closing
      (λ m past goes is. goes.committed t.id is.1 is.2) on (kept_once _ (λ m _. commits m.step ≡ Some t.id) c.closing it.1))
  still_closing (attempt_end.Unknown commit reading) it =
      absurd (clash_once GoesOnAfter (λ n before. (r : ℕ) × (n.answer.place ≡ reading) × (n.step ≡ step.ReadEntry r t.id) × ((n.answer.reply ≡ reply.Failed) ⊎ (n.answer.reply ≡ reply.NoEntry))
      × Kept (λ m _. (m.answer.place ≡ commit) × CommitsInDoubt r t.id m) (λ m _. Settles t.id m) before) c.closing
      (λ m past goes is. ⊎_elim (λ failed. (goes.shown is.0 t.id is.2).0 failed) (λ none. (goes.shown is.0 t.id is.2).1 none) is.3) on it.1)
  still_closing (attempt_end.Incomplete place) it = absurd (unfailed place it.1)
  still_closing attempt_end.Stopped it = refl
