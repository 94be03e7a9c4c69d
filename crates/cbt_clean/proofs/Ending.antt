-- How a pass ends, by its own calls, and that no end is right before.
use Rattle.std.proofs.Common.{◌≡◌, ◌≢◌, ℕ, Bool, true, false, inl, List, [], ◌∷◌, ◌++◌, filter, Some, None, refl, sym, ap, ◌∙◌, subst}
use Rattle.std.proofs.lemmas.Option.{none-some}
use Rattle.cbt_model.specs.declared.entries.Entry.{Entry}
use Rattle.cbt_model.specs.declared.entries.EntryState.{EntryState}
use Rattle.cbt_model.specs.declared.entries.EntryState.TheVariants.{Pending, Committed, Aborted}
use Rattle.cbt_model.specs.declared.events.Made.{Made}
use Rattle.cbt_model.specs.declared.steps.Reply.{Reply}
use Rattle.cbt_model.specs.declared.steps.Reply.TheVariants as reply
use Rattle.cbt_model.specs.declared.steps.Step.TheVariants as step
use Rattle.cbt_book.specs.OwnLists.{In}
use Rattle.cbt_book.specs.Passes.{is_expired, expired_in, covered_by, Finishes, EndsPass}
use Rattle.cbt_book.specs.declared.cleaners.PassEnd.{PassEnd}
use Rattle.cbt_book.specs.declared.cleaners.PassEnd.TheVariants as pass_end
use Rattle.cbt_clean.proofs.Knowing.{NoneFailed, Progress, State, passed}
use Rattle.cbt_clean.proofs.Moves.{Moves, reads_record, finds_off, finds_staged, takes, drops, evicts, finds_decided, leaves, finds_none, reads_entry, fails}
use Rattle.cbt_clean.proofs.Moving.{moves}
use Rattle.cbt_clean.proofs.Touching.{touches, untouched_unfinished}
use Rattle.cbt_clean.specs.Phases.{taking_step, step_for, end_in, treat_in, go_on, with_entry, after}
use Rattle.cbt_clean.specs.Standing.{Runs, begun, goes_on}
use Rattle.cbt_clean.specs.declared.covers.Cover.{Cover}
use Rattle.cbt_clean.specs.declared.phases.Phase.{Phase}
use Rattle.cbt_clean.specs.declared.phases.Phase.TheVariants.{Begun, Clearing, Taking, Evicting, Asking, Ended}

some_same : {X : Type 0} {x y : X} → Some x ≡ Some y → x ≡ y
some_same both = cc

ended_state : (r : ℕ) (first : Made) (later : List Made) (p : Phase) (end : PassEnd) → State r first later p → end_in p ≡ Some end → EndsPass r first (later ++ first ∷ []) end
ended_state r first later Begun end it is = absurd it
ended_state r first later (Clearing c at) end it is = absurd (none-some end is)
ended_state r first later (Taking c at s) end it is = absurd (none-some end is)
ended_state r first later (Evicting c again) end it is = absurd (none-some end is)
ended_state r first later (Asking c) end it is = absurd (none-some end is)
ended_state r first later (Ended last) end it is = subst (λ e. EndsPass r first (later ++ first ∷ []) e) (some_same is) it

pub ends_right : (r : ℕ) (p : Phase) (first : Made) (later : List Made) (end : PassEnd) → Runs r p (later ++ first ∷ []) → end_in p ≡ Some end → EndsPass r first (later ++ first ∷ []) end
ends_right r p first later end run is = ended_state r first later p end (passed r p first later run).state is

-- no end is right where a covered attempt is not finished and no call failed
unended : (r : ℕ) (first : Made) (calls : List Made) (entries : List (ℕ × Entry)) (a : ℕ) → first.answer.reply ≡ reply.Entries entries → In a (expired_in entries first.answer.now)
    → NoneFailed calls → ¬ Finishes r a calls → (end : PassEnd) → ¬ EndsPass r first calls end
unended r first calls entries a shown there fine unfinished (pass_end.Ok covered) it =
    unfinished (it.finished a (subst (λ l. In a l) (sym (it.covered_is ∙ ap (λ es. expired_in es first.answer.now) (same_entries it.entries (sym it.shown ∙ shown)))) there))
  where
    same_entries : (es : List (ℕ × Entry)) → reply.Entries es ≡ reply.Entries entries → es ≡ entries
    same_entries es both = cc
unended r first calls entries a shown there fine unfinished (pass_end.CallFailed place) it =
    (subst NoneFailed it.0.calls_are fine).0 it.0.failed

progress_unended : (r : ℕ) (first : Made) (later : List Made) (c : Cover) (a : ℕ) → Progress r first later c → In a c.covered → ¬ Finishes r a (later ++ first ∷ [])
    → (end : PassEnd) → ¬ EndsPass r first (later ++ first ∷ []) end
progress_unended r first later c a it there unfinished end =
    unended r first (later ++ first ∷ []) it.entries a it.shown.1 (subst (λ l. In a l) it.covered_is there) it.fine unfinished end

open_state : (r : ℕ) (first : Made) (later : List Made) (p : Phase) → State r first later p → end_in p ≡ None → (end : PassEnd)
    → ¬ EndsPass r first (later ++ first ∷ []) end
open_state r first later Begun it going end = absurd it
open_state r first later (Clearing c at) it going end = progress_unended r first later c c.attempt it.progress it.progress.current it.unfinished end
open_state r first later (Taking c at s) it going end = progress_unended r first later c c.attempt it.progress it.progress.current it.unfinished end
open_state r first later (Evicting c false) it going end =
    progress_unended r first later c c.attempt it.progress it.progress.current
    (untouched_unfinished r c.attempt first later (ap (touches c.attempt) it.progress.shown.0) it.untouched) end
open_state r first later (Evicting c true) it going end = progress_unended r first later c c.attempt it.progress it.progress.current it.unfinished end
open_state r first later (Asking c) it going end =
    progress_unended r first later c c.attempt it.clears.progress it.clears.progress.current it.clears.unfinished end
open_state r first later (Ended last) it going end = absurd (none-some last (sym going))

pub stays_open : (r : ℕ) (p : Phase) (first : Made) (later : List Made) (end : PassEnd) → Runs r p (later ++ first ∷ []) → end_in p ≡ None
    → ¬ EndsPass r first (later ++ first ∷ []) end
stays_open r p first later end run going = open_state r first later p (passed r p first later run).state going end

-- a reading of a record that shows expired entries ends no pass
pub reading_open : (r : ℕ) (first : Made) (end : PassEnd) → first.step ≡ step.ReadAtr r → covered_by first.answer.reply first.answer.now ≢ [] → ¬ EndsPass r first (first ∷ []) end
reading_open r first end reads covers it = by first.answer.reply refl covers
  where
    never : (entries : List (ℕ × Entry)) (a : ℕ) → first.answer.reply ≡ reply.Entries entries → In a (expired_in entries first.answer.now) → ⊥
    never entries a told there =
        unended r first (first ∷ []) entries a told there ((λ failed. differ (sym told ∙ failed)), tt) (untouched_unfinished r a first [] (ap (touches a) reads) tt) end it
      where
        differ : reply.Entries entries ≡ reply.Failed → ⊥
        differ both = cc

    some : (entries : List (ℕ × Entry)) → first.answer.reply ≡ reply.Entries entries → (l : List ℕ) → expired_in entries first.answer.now ≡ l → l ≢ [] → ⊥
    some entries told [] is differs = differs refl
    some entries told (a ∷ l) is differs = never entries a told (subst (λ k. In a k) (sym is) (inl refl))

    by : (a : Reply) → first.answer.reply ≡ a → covered_by a first.answer.now ≢ [] → ⊥
    by (reply.Entries entries) told differs = some entries told (expired_in entries first.answer.now) refl differs
    by _ told differs = differs refl

-- a pass that has not ended asks for a call
treat_asks : (r : ℕ) (c : Cover) (again : Bool) (state : EntryState) → step_for r (treat_in state c again) ≢ None
treat_asks r c again Pending none = cc
treat_asks r c again Committed none = cc
treat_asks r c again Aborted none = cc

next_asks : (r : ℕ) (covered : List ℕ) (waiting : List (ℕ × Entry)) → end_in (go_on covered waiting) ≡ None → step_for r (go_on covered waiting) ≢ None
next_asks r covered [] going none = cc
next_asks r covered (x ∷ waiting) going none = treat_asks r (record { covered = covered; attempt = x.0; entry = x.1; waiting = waiting }) false x.1.state none

has_call : (r : ℕ) (m : Made) (p q : Phase) → Moves r m p q → end_in q ≡ None → step_for r q ≢ None
has_call r m _ _ (reads_record entries reads rise) going none = next_asks r (expired_in entries m.answer.now) (filter (λ e. is_expired m.answer.now e.1) entries) going none
has_call r m _ _ (finds_off c at d here is off) going none = cc
has_call r m _ _ (finds_staged c at x d body stage here reads record_is attempt_is) going none =
    none-some _ (sym none ∙ ap (taking_step c.entry.state (record { cas = x; content = stage.content })) here)
has_call r m _ _ (takes c at d s here is off) going none = cc
has_call r m _ _ (drops c at past is gone) going none = next_asks r c.covered c.waiting going none
has_call r m _ _ (evicts c again is gone) going none = next_asks r c.covered c.waiting going none
has_call r m _ _ (finds_decided c is told) going none = cc
has_call r m _ _ (leaves c is told) going none = next_asks r c.covered c.waiting going none
has_call r m _ _ (finds_none c finds) going none = next_asks r c.covered c.waiting going none
has_call r m _ _ (reads_entry c e reads) going none = treat_asks r (with_entry c e) true e.state none
has_call r m p _ (fails _ asked failed) going none = cc

pub goes_on_asking : (r : ℕ) (p : Phase) (mine : List Made) → Runs r p mine → end_in p ≡ None → step_for r p ≢ None
goes_on_asking r _ _ begun going none = cc
goes_on_asking r _ _ (goes_on p mine m run asked fit) going none =
    has_call r m p (after r p m.answer.place m.answer.now m.answer.reply) (moves r m p asked fit) going none

pub asks_no_more : (r : ℕ) (p : Phase) → end_in p ≢ None → step_for r p ≡ None
asks_no_more r Begun ended = absurd (ended refl)
asks_no_more r (Clearing c at) ended = absurd (ended refl)
asks_no_more r (Taking c at s) ended = absurd (ended refl)
asks_no_more r (Evicting c again) ended = absurd (ended refl)
asks_no_more r (Asking c) ended = absurd (ended refl)
asks_no_more r (Ended end) ended = refl
