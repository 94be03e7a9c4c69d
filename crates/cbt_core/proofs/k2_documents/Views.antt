-- What each event makes of what a document resolves to: only a commit changes it, to what the attempt had staged.
use Rattle.std.proofs.Common.{◌≡◌, ◌≢◌, ℕ, suc, ◌<◌, if◌then◌else◌, List, Option, Some, None, refl, sym, ap, ◌∙◌, subst, slice_get, arith}
use Rattle.std.proofs.lemmas.Option.{none-some}
use Rattle.cbt_base.specs.Clock.{clock_mutated}
use Rattle.cbt_json.specs.declared.value.Json.{Json}
use Rattle.cbt_model.specs.History.{after, own, TakesEffect}
use Rattle.cbt_model.specs.Keys.{doc_at, entry_at}
use Rattle.cbt_model.specs.Table.{touches}
use Rattle.cbt_model.specs.View.{view, view_doc, view_staged, resolved, is_committed}
use Rattle.cbt_model.specs.declared.documents.DocState.{DocState}
use Rattle.cbt_model.specs.declared.documents.Stage.{Stage}
use Rattle.cbt_model.specs.declared.entries.Entry.{Entry}
use Rattle.cbt_model.specs.declared.entries.EntryState.{EntryState}
use Rattle.cbt_model.specs.declared.entries.EntryState.TheVariants.{Pending, Committed, Aborted}
use Rattle.cbt_model.specs.declared.entries.Lists.{Lists}
use Rattle.cbt_model.specs.declared.events.Event.{Event}
use Rattle.cbt_model.specs.declared.states.State.{State}
use Rattle.cbt_model.specs.declared.steps.Expect.{Expect}
use Rattle.cbt_model.specs.declared.steps.Expect.TheVariants as expect
use Rattle.cbt_model.specs.declared.steps.Step.{Step}
use Rattle.cbt_model.specs.declared.steps.Step.TheVariants as step
use Rattle.cbt_model.proofs.Effects.{entry-at_effect}
use Rattle.cbt_model.proofs.Moves.{EntryMove}
use Rattle.cbt_model.proofs.Moves as moves
use Rattle.cbt_book.specs.Numbers.{client_of}
use Rattle.cbt_book.specs.OwnLists.{Once}
use Rattle.cbt_book.specs.Shown.{adds, decides}
use Rattle.cbt_core.proofs.interleaving.Decisions.{Closing, commit, abort, closer, Sent}
use Rattle.cbt_core.proofs.interleaving.Documents.{doc_then, DocGoes, stays as doc_stays, is_staged_new, is_staged, is_unstaged, doc_goes}
use Rattle.cbt_core.proofs.interleaving.Entries.{Deciding, by_commit, by_abort, Goes, stays, is_added, is_decided, is_dropped, goes, Settled, by_decision, in_opening, settled, stays_decided, entry_then}
use Rattle.cbt_core.proofs.interleaving.Gone.{gone_unstaged}
use Rattle.cbt_core.proofs.runs.Lawful.{Lawful}
use Rattle.cbt_core.proofs.runs.Past.{some_same, at_once}
use Rattle.cbt_core.proofs.interleaving.Worth.{StandsOver, unstaged, own_staging, dead_staging, stands_over, Removes, resolved as becomes_body, taken_back, undone, removes, stager, staged_before}

-- a staging that is not committed counts as the body
pub as_body : (body content : Option Json) (o : Option Entry) → ((e : Entry) → o ≡ Some e → e.state ≢ Committed) → resolved body content o ≡ body
as_body body content None never = refl
as_body body content (Some e) never = go e.state refl
  where
    go : (state : EntryState) → e.state ≡ state → (if is_committed e.state then content else body) ≡ body
    go Pending is = ap (λ s. if is_committed s then content else body) is
    go Committed is = absurd (never e refl is)
    go Aborted is = ap (λ s. if is_committed s then content else body) is

-- and one that is counts as its content
pub as_content : (body content : Option Json) (e : Entry) → e.state ≡ Committed → resolved body content (Some e) ≡ content
as_content body content e is = ap (λ s. if is_committed s then content else body) is

-- a document resolves to its body where it is not staged
pub view_free : (s : State) (d : List ℕ) (doc : DocState) → doc_at s d ≡ Some doc → doc.stage ≡ None → view s d ≡ doc.body
view_free s d doc at free = ap (λ o. view_doc s o) at ∙ ap (λ o. view_staged s doc.body o) free

pub view_held : (s : State) (d : List ℕ) (doc : DocState) (stage : Stage) → doc_at s d ≡ Some doc → doc.stage ≡ Some stage
    → view s d ≡ resolved doc.body stage.content (entry_at s (stage.atr, stage.attempt))
view_held s d doc stage at staged = ap (λ o. view_doc s o) at ∙ ap (λ o. view_staged s doc.body o) staged

pub view_none : (s : State) (d : List ℕ) → doc_at s d ≡ None → view s d ≡ None
view_none s d at = ap (λ o. view_doc s o) at

module _ (s0 : State) (h : List Event) (lawful : Lawful s0 h) where
  abbrev pub view_then : ℕ → List ℕ → Option Json
  view_then i d = view (after s0 h i) d

  -- what an event makes of what a document resolves to
  pub data ViewGoes (d : List ℕ) (i : ℕ) : Type 0 where
    keeps : view_then (suc i) d ≡ view_then i d → ViewGoes d i
    commits_it : (e : Event) (lists : Lists) (doc : DocState) (stage : Stage) → TakesEffect s0 h i e → e.step ≡ step.Commit stage.atr stage.attempt lists
        → doc_then s0 h lawful i d ≡ Some doc → doc.stage ≡ Some stage → view_then (suc i) d ≡ stage.content → ViewGoes d i

  -- an event that names no entry leaves each as it was
  entries_stay : (i : ℕ) (e : Event) (key : ℕ × ℕ) → TakesEffect s0 h i e → touches e.step ≡ None → entry_then s0 h lawful (suc i) key ≡ entry_then s0 h lawful i key
  entries_stay i e key takes untouched = go (entry-at_effect s0 h i e key lawful.sound.ordered takes)
    where
      touched : (st : Step) → e.step ≡ st → touches st ≡ Some key → ⊥
      touched st is names = none-some key (sym untouched ∙ ap touches is ∙ names)

      go : EntryMove (after s0 h i) (clock_mutated (after s0 h i).last e.reading) e.step key (entry_at (after s0 h (suc i)) key) → entry_then s0 h lawful (suc i) key ≡ entry_then s0 h lawful i key
      go (moves.same apart is) = is
      go (moves.added exp is at now) = absurd (touched _ is refl)
      go (moves.committed lists old is at pending now) = absurd (touched _ is refl)
      go (moves.aborted lists old is at pending now) = absurd (touched _ is refl)
      go (moves.dropped guarded old is at may_be now) = absurd (touched _ is refl)

  closing_of : (r a : ℕ) (x : Entry) (f : Event) → Deciding r a x.lists f.step x.state → Closing r a x.lists f.step
  closing_of r a x f (by_commit is state) = commit is
  closing_of r a x f (by_abort is state) = abort is

  not_pending_committed : (x : Entry) → x.state ≡ Committed → x.state ≢ Pending
  not_pending_committed x is = λ q. absurd (differ (sym is ∙ q))
    where
      differ : Committed ≡ Pending → ⊥
      differ q = cc

  -- when a staging is made its attempt is not committed
  stager_uncommitted : (i r a : ℕ) (d : List ℕ) (e : Event) (ex : Expect) (stage : Stage) (x : Entry) → slice_get h i ≡ Some e → e.step ≡ step.Stage d ex stage → stage.attempt ≡ a
      → entry_then s0 h lawful i (r, a) ≡ Some x → x.state ≢ Committed
  stager_uncommitted i r a d e ex stage x at is own_one there = λ q. absurd (go (settled s0 h lawful i (r, a) x there (not_pending_committed x q)))
    where
      go : Settled s0 h lawful (r, a) i x → ⊥
      go (by_decision q f old y low takes deciding old_at pending now state same) =
          let before = staged_before s0 h lawful q i r a x.lists d f e ex stage takes (closing_of r a x f deciding) at is own_one in low_high low before
        where
          low_high : {m n : ℕ} → m < n → n < m → ⊥
          low_high one two = omega arith
      go (in_opening y at_zero state same) =
          let sent = stager s0 h lawful i d e ex stage at is in
          lawful.fresh.no_entry sent.place r stage.attempt sent.event y sent.takes.event (ap adds sent.is) (subst (λ b. entry_then s0 h lawful 0 (r, b) ≡ Some y) (sym own_one) at_zero)

  -- nor when its owner takes a staging back
  taker_uncommitted : (i r a : ℕ) (e : Event) (x : Entry) → ¬ Once (λ m _. decides m.step ≡ Some a) (own s0 h e.actor i) → client_of a ≡ e.actor → (t : ℕ) → Sent s0 h lawful t a e.actor i
      → entry_then s0 h lawful i (r, a) ≡ Some x → x.state ≢ Committed
  taker_uncommitted i r a e x undecided owner t sent there = λ q. absurd (go (settled s0 h lawful i (r, a) x there (not_pending_committed x q)))
    where
      decides_it : (f : Event) → Closing r a x.lists f.step → decides f.step ≡ Some a
      decides_it f (commit is) = ap decides is
      decides_it f (abort is) = ap decides is

      go : Settled s0 h lawful (r, a) i x → ⊥
      go (by_decision q f old y low takes deciding old_at pending now state same) =
          let closing = closing_of r a x f deciding in
          undecided (at_once s0 h (λ m _. decides m.step ≡ Some a) e.actor i q f low takes.event (sym (closer s0 h lawful q r a x.lists f takes.event closing).owner ∙ owner) (decides_it f closing))
      go (in_opening y at_zero state same) = lawful.fresh.no_entry sent.place r a sent.event y sent.at (ap adds sent.is) at_zero

  -- a document that stays as it is
  stays_view : (i : ℕ) (d : List ℕ) (doc : DocState) (stage : Stage) → doc_then s0 h lawful i d ≡ Some doc → doc.stage ≡ Some stage → doc_then s0 h lawful (suc i) d ≡ Some doc
      → Goes s0 h lawful (stage.atr, stage.attempt) i → ViewGoes d i
  stays_view i d doc stage at staged now (stays same) =
      keeps (view_held (after s0 h (suc i)) d doc stage now staged ∙ ap (λ o. resolved doc.body stage.content o) same ∙ sym (view_held (after s0 h i) d doc stage at staged))
  stays_view i d doc stage at staged now (is_added e exp x takes is none next pending start) =
      keeps (view_held (after s0 h (suc i)) d doc stage now staged
      ∙ as_body doc.body stage.content _ (λ y there. λ q. absurd (pending_committed (ap (λ (z : Entry). z.state) (some_same (sym there ∙ next)) ∙ pending) q))
      ∙ sym (as_body doc.body stage.content (entry_then s0 h lawful i (stage.atr, stage.attempt)) (λ y there. absurd (none-some y (sym none ∙ there))))
      ∙ sym (view_held (after s0 h i) d doc stage at staged))
    where
      pending_committed : {state : EntryState} → state ≡ Pending → state ≡ Committed → ⊥
      pending_committed one two = differ (sym one ∙ two)
        where
          differ : Pending ≡ Committed → ⊥
          differ q = cc
  stays_view i d doc stage at staged now (is_decided e lists old x takes (by_commit is state) there pending next same start) =
      commits_it e lists doc stage takes is at staged (view_held (after s0 h (suc i)) d doc stage now staged ∙ ap (λ o. resolved doc.body stage.content o) next ∙ as_content doc.body stage.content x state)
  stays_view i d doc stage at staged now (is_decided e lists old x takes (by_abort is state) there pending next same start) =
      keeps (view_held (after s0 h (suc i)) d doc stage now staged
      ∙ as_body doc.body stage.content _ (λ y y_at. λ q. absurd (aborted_committed (ap (λ (z : Entry). z.state) (some_same (sym y_at ∙ next)) ∙ state) q))
      ∙ sym (as_body doc.body stage.content (entry_then s0 h lawful i (stage.atr, stage.attempt)) (λ y y_at. λ q. absurd (pending_committed (ap (λ (z : Entry). z.state) (some_same (sym y_at ∙ there)) ∙ pending) q)))
      ∙ sym (view_held (after s0 h i) d doc stage at staged))
    where
      aborted_committed : {state : EntryState} → state ≡ Aborted → state ≡ Committed → ⊥
      aborted_committed one two = differ (sym one ∙ two)
        where
          differ : Aborted ≡ Committed → ⊥
          differ q = cc

      pending_committed : {state : EntryState} → state ≡ Pending → state ≡ Committed → ⊥
      pending_committed one two = differ (sym one ∙ two)
        where
          differ : Pending ≡ Committed → ⊥
          differ q = cc
  stays_view i d doc stage at staged now (is_dropped e guarded old takes is there may_be next) =
      keeps (view_held (after s0 h (suc i)) d doc stage now staged
      ∙ as_body doc.body stage.content _ (λ y y_at. absurd (none-some y (sym next ∙ y_at)))
      ∙ sym (as_body doc.body stage.content (entry_then s0 h lawful i (stage.atr, stage.attempt))
      (λ y y_at. λ q. absurd (gone_unstaged s0 h lawful i (suc i) stage.atr stage.attempt d y doc stage (omega arith) y_at (not_pending_committed y q) next now staged refl)))
      ∙ sym (view_held (after s0 h i) d doc stage at staged))

  same_doc : (i : ℕ) (d : List ℕ) (o : Option DocState) → doc_then s0 h lawful i d ≡ o → doc_then s0 h lawful (suc i) d ≡ o → ViewGoes d i
  same_doc i d None at now = keeps (view_none (after s0 h (suc i)) d now ∙ sym (view_none (after s0 h i) d at))
  same_doc i d (Some doc) at now = go doc.stage refl
    where
      go : (o : Option Stage) → doc.stage ≡ o → ViewGoes d i
      go None free = keeps (view_free (after s0 h (suc i)) d doc now free ∙ sym (view_free (after s0 h i) d doc at free))
      go (Some stage) staged = stays_view i d doc stage at staged now (goes s0 h lawful i (stage.atr, stage.attempt))

  -- right after a staging the document resolves to its body
  after_staging : (i : ℕ) (d : List ℕ) (e : Event) (ex : Expect) (stage : Stage) (x : DocState) → TakesEffect s0 h i e → e.step ≡ step.Stage d ex stage
      → doc_then s0 h lawful (suc i) d ≡ Some x → x.stage ≡ Some stage → view_then (suc i) d ≡ x.body
  after_staging i d e ex stage x takes is now staged =
      view_held (after s0 h (suc i)) d x stage now staged
      ∙ ap (λ o. resolved x.body stage.content o) (entries_stay i e (stage.atr, stage.attempt) takes (ap touches is))
      ∙ as_body x.body stage.content (entry_then s0 h lawful i (stage.atr, stage.attempt)) (λ y there. stager_uncommitted i stage.atr stage.attempt d e ex stage y takes.event is refl there)

  view_by : (i : ℕ) (d : List ℕ) → DocGoes s0 h lawful d i → ViewGoes d i
  view_by i d (doc_stays same) = same_doc i d (doc_then s0 h lawful i d) refl same
  view_by i d (is_staged_new e stage x takes is none now cas staged body) =
      keeps (after_staging i d e expect.New stage x takes is now staged ∙ body ∙ sym (view_none (after s0 h i) d none))
  view_by i d (is_staged e y stage old x takes is at over now cas staged body) =
      keeps (after_staging i d e (expect.Cas y) stage x takes is now staged ∙ body ∙ sym (before (stands_over s0 h lawful i d e y stage old takes.event is at over)))
    where
      before : StandsOver s0 h lawful i old stage → view_then i d ≡ old.body
      before (unstaged free) = view_free (after s0 h i) d old at free
      before (own_staging w w_is own_one) =
          view_held (after s0 h i) d old w at w_is
          ∙ as_body old.body w.content (entry_then s0 h lawful i (w.atr, w.attempt)) (λ z there. stager_uncommitted i w.atr w.attempt d e (expect.Cas y) stage z takes.event is (sym own_one) there)
      before (dead_staging w w_is gone) =
          view_held (after s0 h i) d old w at w_is
          ∙ as_body old.body w.content (entry_then s0 h lawful i (w.atr, w.attempt)) (λ z there. absurd (none-some z (sym (gone i w.atr (omega arith)) ∙ there)))
  view_by i d (is_unstaged e y old x takes off at over now cas free) =
      keeps (view_free (after s0 h (suc i)) d x now free ∙ sym (before (removes s0 h lawful i d y old x.body e takes.event off at over)))
    where
      before : Removes s0 h lawful i d y old x.body e → view_then i d ≡ x.body
      before (becomes_body w lists w_is becomes was) = view_held (after s0 h i) d old w at w_is ∙ by_entry (entry_then s0 h lawful i (w.atr, w.attempt)) refl ∙ sym becomes
        where
          decided : was.entry.state ≢ Pending
          decided = not_pending_committed was.entry was.state_is

          by_entry : (o : Option Entry) → entry_then s0 h lawful i (w.atr, w.attempt) ≡ o → resolved old.body w.content o ≡ w.content
          by_entry None gone = absurd (gone_unstaged s0 h lawful was.place i w.atr w.attempt d was.entry old w was.before was.there decided gone at w_is refl)
          by_entry (Some z) there = as_content old.body w.content z ((stays_decided s0 h lawful was.place i (w.atr, w.attempt) was.entry z was.before was.there decided there).0 ∙ was.state_is)
      before (taken_back w w_is becomes owner is undecided shown sent) =
          view_held (after s0 h i) d old w at w_is
          ∙ as_body old.body w.content (entry_then s0 h lawful i (w.atr, w.attempt)) (λ z there. taker_uncommitted i w.atr w.attempt e z undecided owner w.atr sent there) ∙ sym becomes
      before (undone w lists w_is becomes was) =
          view_held (after s0 h i) d old w at w_is
          ∙ as_body old.body w.content (entry_then s0 h lawful i (w.atr, w.attempt))
          (λ z there. λ q. absurd (differ (sym ((stays_decided s0 h lawful was.place i (w.atr, w.attempt) was.entry z was.before was.there aborted there).0 ∙ was.state_is) ∙ q)))
          ∙ sym becomes
        where
          differ : Aborted ≡ Committed → ⊥
          differ q = cc

          differ_pending : Aborted ≡ Pending → ⊥
          differ_pending q = cc

          aborted : was.entry.state ≢ Pending
          aborted = λ q. absurd (differ_pending (sym was.state_is ∙ q))

  pub view_goes : (i : ℕ) (d : List ℕ) → ViewGoes d i
  view_goes i d = view_by i d (doc_goes s0 h lawful i d)
