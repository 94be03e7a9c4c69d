-- While an attempt's entry is decided, each document staged by it is listed there, and is as it was at the decision.
use Rattle.std.proofs.Common.{◌≡◌, ◌≢◌, ℕ, suc, ◌<◌, ◌≤◌, Bool, true, false, ◌⊎◌, inl, inr, ⊎_elim, List, Some, refl, sym, ap, ◌∙◌, subst, slice_get, arith}
use Rattle.std.proofs.lemmas.Option.{none-some}
use Rattle.cbt_base.specs.Clock.{clock_mutated}
use Rattle.cbt_model.specs.History.{after, made_at, own, is_done, TakesEffect}
use Rattle.cbt_model.specs.Keys.{doc_at}
use Rattle.cbt_model.specs.Table.{touches_doc}
use Rattle.cbt_model.specs.declared.documents.DocState.{DocState}
use Rattle.cbt_model.specs.declared.documents.Stage.{Stage}
use Rattle.cbt_model.specs.declared.entries.Entry.{Entry}
use Rattle.cbt_model.specs.declared.entries.EntryState.{EntryState}
use Rattle.cbt_model.specs.declared.entries.EntryState.TheVariants.{Pending, Committed, Aborted}
use Rattle.cbt_model.specs.declared.entries.Lists.{Lists}
use Rattle.cbt_model.specs.declared.events.Event.{Event}
use Rattle.cbt_model.specs.declared.events.Made.{Made}
use Rattle.cbt_model.specs.declared.states.State.{State}
use Rattle.cbt_model.specs.declared.steps.Expect.{Expect}
use Rattle.cbt_model.specs.declared.steps.Reply.{Reply}
use Rattle.cbt_model.specs.declared.steps.Reply.TheVariants as reply
use Rattle.cbt_model.specs.declared.steps.Step.TheVariants as step
use Rattle.cbt_model.proofs.Effects.{doc-at_effect}
use Rattle.cbt_model.proofs.Moves.{DocMove}
use Rattle.cbt_model.proofs.Moves as moves
use Rattle.cbt_book.specs.Licence.{listed, IsListed, StagesFor, MayHaveStaged, WritesFor, WritesInVain}
use Rattle.cbt_book.specs.Licence as licence
use Rattle.cbt_book.specs.Numbers.{client_of}
use Rattle.cbt_book.specs.OwnLists.{In}
use Rattle.cbt_book.specs.Shown.{adds, AddsEntry}
use Rattle.cbt_book.specs.Shown as shown
use Rattle.cbt_core.proofs.interleaving.Answers.{done_told, effect_told}
use Rattle.cbt_core.proofs.interleaving.Decisions.{Closing, commit, abort, closer}
use Rattle.cbt_core.proofs.interleaving.Documents.{doc_then, stamp, cas_low, StagedBy, by_staging, from_first, staged_by}
use Rattle.cbt_core.proofs.interleaving.Entries.{Deciding, by_commit, by_abort, Settled, by_decision, in_opening, settled, sent_once, entry_then}
use Rattle.cbt_core.proofs.runs.Lawful.{Lawful, may}
use Rattle.cbt_core.proofs.runs.Past.{some_same, kept_at, at_kept}
use Rattle.cbt_core.proofs.interleaving.Worth.{stager, staged_before}

committed_aborted : Committed ≡ Aborted → ⊥
committed_aborted q = cc

-- an answer that is done has a stamp
pub done_is : (r : Reply) → is_done r ≡ true → (c : ℕ) × (r ≡ reply.Done c)
done_is (reply.Done c) is = (c, refl)
done_is reply.Absent is = absurd (cc)
done_is reply.Exists is = absurd (cc)
done_is (reply.CasMismatch have) is = absurd (cc)
done_is (reply.Doc x body stage) is = absurd (cc)
done_is reply.NoEntry is = absurd (cc)
done_is (reply.Entry e) is = absurd (cc)
done_is reply.Decided is = absurd (cc)
done_is (reply.Entries entries) is = absurd (cc)
done_is (reply.Clients rows) is = absurd (cc)
done_is reply.Failed is = absurd (cc)

pub true_or_false : (b : Bool) → (b ≡ true) ⊎ (b ≡ false)
true_or_false true = inl refl
true_or_false false = inr refl

pub adds_by : (r a : ℕ) (m : Made) → AddsEntry r a m → adds m.step ≡ Some a
adds_by r a m (shown.added exp c is answer) = ap adds is
adds_by r a m (shown.was_there exp is answer) = ap adds is

module _ (s0 : State) (h : List Event) (lawful : Lawful s0 h) where
  -- an event that takes effect on a document changes it
  pub changes_it : (k : ℕ) (d : List ℕ) (w : Event) (doc : DocState) → TakesEffect s0 h k w → touches_doc w.step ≡ Some d → doc_then s0 h lawful k d ≡ Some doc
      → doc_then s0 h lawful (suc k) d ≡ Some doc → ⊥
  changes_it k d w doc takes touched before now = go (doc-at_effect s0 h k w d takes)
    where
      stamped : (x : DocState) → x.cas ≡ stamp s0 h lawful k w → doc_then s0 h lawful (suc k) d ≡ Some x → ⊥
      stamped x cas at = above w.reading (cas_low s0 h lawful k d doc before) (ap (λ (q : DocState). q.cas) (some_same (sym now ∙ at)) ∙ cas)
        where
          above : {l c : ℕ} (r : ℕ) → c ≤ l → c ≡ clock_mutated l r → ⊥
          above r low is = omega arith

      go : DocMove (after s0 h k) (clock_mutated (after s0 h k).last w.reading) w.step d (doc_at (after s0 h (suc k)) d) → ⊥
      go (moves.same apart is) = apart touched
      go (moves.staged_new stage is at next) = none-some doc (sym at ∙ before)
      go (moves.staged_over y stage old is at cas next) = stamped _ refl next
      go (moves.published y body old is at cas next) = stamped _ refl next
      go (moves.deleted y old is at cas next) = stamped _ refl next
      go (moves.unstuck y old is at cas next) = stamped _ refl next

  pub done_changes : (k : ℕ) (d : List ℕ) (w : Event) (doc : DocState) → slice_get h k ≡ Some w → is_done (made_at s0 h k w).answer.reply ≡ true → touches_doc w.step ≡ Some d
      → doc_then s0 h lawful k d ≡ Some doc → doc_then s0 h lawful (suc k) d ≡ Some doc → ⊥
  done_changes k d w doc at done touched before now =
      let it = done_is (made_at s0 h k w).answer.reply done in
      changes_it k d w doc (done_told s0 h k w it.0 at it.1).0 touched before now

  -- the attempt of a staging that an event made is new
  pub staging_new : (j r : ℕ) (d : List ℕ) (g : Event) (ex : Expect) (stage : Stage) (x : Entry) → slice_get h j ≡ Some g → g.step ≡ step.Stage d ex stage
      → entry_then s0 h lawful 0 (r, stage.attempt) ≡ Some x → ⊥
  staging_new j r d g ex stage x at is there =
      let sent = stager s0 h lawful j d g ex stage at is in lawful.fresh.no_entry sent.place r stage.attempt sent.event x sent.takes.event (ap adds sent.is) there

  -- a staging that stands while its attempt is decided stood at the decision already
  pub stood_since : (m n i r a : ℕ) (d : List ℕ) (e : Entry) (doc : DocState) (stage : Stage) → m ≤ n → n ≤ i → entry_then s0 h lawful m (r, a) ≡ Some e → e.state ≢ Pending
      → doc_then s0 h lawful i d ≡ Some doc → doc.stage ≡ Some stage → stage.attempt ≡ a → doc_then s0 h lawful n d ≡ Some doc
  stood_since m n i r a d e doc stage low high there decided at staged own_one = go (settled s0 h lawful m (r, a) e there decided) (staged_by s0 h lawful i d doc stage at staged)
    where
      closing : (f : Event) → Deciding r a e.lists f.step e.state → Closing r a e.lists f.step
      closing f (by_commit is state) = commit is
      closing f (by_abort is state) = abort is

      go : Settled s0 h lawful (r, a) m e → StagedBy s0 h lawful d i doc stage → doc_then s0 h lawful n d ≡ Some doc
      go s (from_first since) = since n high
      go (by_decision q f old y low2 takes deciding old_at pending now state same) (by_staging j g ex low3 takes2 is cas since) =
          let before = staged_before s0 h lawful q j r a e.lists d f g ex stage takes (closing f deciding) takes2.event is own_one in
          since n (omega arith) high
      go (in_opening y at_zero state same) (by_staging j g ex low3 takes2 is cas since) =
          absurd (staging_new j r d g ex stage y takes2.event is (subst (λ b. entry_then s0 h lawful 0 (r, b) ≡ Some y) (sym own_one) at_zero))

  -- what is written of a document by its owner, and done, changes it
  written_changes : (k a : ℕ) (d : List ℕ) (w : Event) (doc : DocState) → slice_get h k ≡ Some w → WritesFor a d (made_at s0 h k w) (own s0 h w.actor k)
      → is_done (made_at s0 h k w).answer.reply ≡ true → doc_then s0 h lawful k d ≡ Some doc → doc_then s0 h lawful (suc k) d ≡ Some doc → ⊥
  written_changes k a d w doc at (licence.stages kind it) done before now = done_changes k d w doc at done (ap touches_doc it.2) before now
  written_changes k a d w doc at (licence.unsticks_own x is was) done before now = done_changes k d w doc at done (ap touches_doc is) before now

  committed_by_event : (q i j r a : ℕ) (lists : Lists) (d : List ℕ) (f g : Event) (ex : Expect) (doc : DocState) (stage : Stage) → TakesEffect s0 h q f → f.step ≡ step.Commit r a lists
      → q < i → TakesEffect s0 h j g → g.step ≡ step.Stage d ex stage → stage.attempt ≡ a → ((n : ℕ) → j < n → n ≤ i → doc_then s0 h lawful n d ≡ Some doc)
      → In d (listed stage.kind lists)
  committed_by_event q i j r a lists d f g ex doc stage takes is low takes2 staging own_one since =
      (may_commit.named stage.kind d).1
      (at_kept s0 h (λ m _. StagesFor a stage.kind d m) (WritesFor a d) f.actor q j g before takes2.event same_actor (ex, stage, staging, own_one, refl) no_more)
    where
      may_commit : licence.MayCommit (own s0 h f.actor q) r a lists
      may_commit = may s0 h lawful q f (step.Commit r a lists) takes.event is

      before : j < q
      before = staged_before s0 h lawful q j r a lists d f g ex stage takes (commit is) takes2.event staging own_one

      same_actor : g.actor ≡ f.actor
      same_actor = sym (stager s0 h lawful j d g ex stage takes2.event staging).owner ∙ ap client_of own_one ∙ (closer s0 h lawful q r a lists f takes.event (commit is)).owner

      no_more : (k : ℕ) (w : Event) → j < k → k < q → slice_get h k ≡ Some w → w.actor ≡ f.actor → WritesFor a d (made_at s0 h k w) (own s0 h f.actor k) → ⊥
      no_more k w from to at by writes =
          let standing = kept_at s0 h (λ m _. AddsEntry r a m) (WritesInVain a) f.actor q may_commit.written in
          let sent = stager s0 h lawful j d g ex stage takes2.event staging in
          let place : standing.place ≡ sent.place =
          sent_once s0 h lawful standing.place sent.place a standing.event sent.event standing.is sent.takes.event (adds_by r a _ standing.holds) (ap adds sent.is ∙ ap (λ b. Some b) own_one) in
          let sent_before = sent.before in
          let mine = subst (λ n. WritesFor a d (made_at s0 h k w) (own s0 h n k)) (sym by) writes in
          ⊎_elim (λ (done : is_done (made_at s0 h k w).answer.reply ≡ true). written_changes k a d w doc at mine done (since k from (omega arith)) (since (suc k) (omega arith) (omega arith)))
          (λ (vain : is_done (made_at s0 h k w).answer.reply ≡ false). standing.since k w (omega arith) to at by ((d, writes), vain))
          (true_or_false (is_done (made_at s0 h k w).answer.reply))

  pub listed_committed : (i r a : ℕ) (d : List ℕ) (e : Entry) (doc : DocState) (stage : Stage) → entry_then s0 h lawful i (r, a) ≡ Some e → e.state ≡ Committed
      → doc_then s0 h lawful i d ≡ Some doc → doc.stage ≡ Some stage → stage.attempt ≡ a → In d (listed stage.kind e.lists)
  listed_committed i r a d e doc stage there committed at staged own_one =
      go (settled s0 h lawful i (r, a) e there (λ q. absurd (differ (sym committed ∙ q)))) (staged_by s0 h lawful i d doc stage at staged)
    where
      differ : Committed ≡ Pending → ⊥
      differ q = cc

      commit_step : (f : Event) → Deciding r a e.lists f.step e.state → f.step ≡ step.Commit r a e.lists
      commit_step f (by_commit is state) = is
      commit_step f (by_abort is state) = absurd (committed_aborted (sym committed ∙ state))

      go : Settled s0 h lawful (r, a) i e → StagedBy s0 h lawful d i doc stage → In d (listed stage.kind e.lists)
      go (by_decision q f old y low takes deciding old_at pending now state same) (by_staging j g ex low2 takes2 is cas since) =
          committed_by_event q i j r a e.lists d f g ex doc stage takes (commit_step f deciding) low takes2 is own_one since
      go (by_decision q f old y low takes deciding old_at pending now state same) (from_first since) =
          let sent = closer s0 h lawful q r a e.lists f takes.event (commit (commit_step f deciding)) in
          absurd (lawful.fresh.no_staging sent.place a sent.event d doc stage sent.at (ap adds sent.is) (since 0 (omega arith)) staged own_one)
      go (in_opening y at_zero state same) (by_staging j g ex low2 takes2 is cas since) =
          absurd (staging_new j r d g ex stage y takes2.event is (subst (λ b. entry_then s0 h lawful 0 (r, b) ≡ Some y) (sym own_one) at_zero))
      go (in_opening y at_zero state same) (from_first since) =
          let its : entry_then s0 h lawful 0 (r, stage.attempt) ≡ Some y = subst (λ b. entry_then s0 h lawful 0 (r, b) ≡ Some y) (sym own_one) at_zero in
          let named : r ≡ stage.atr = lawful.sound.named d doc stage r y (since 0 (omega arith)) staged its in
          subst (λ l. In d (listed stage.kind l)) same
          (lawful.sound.committed d doc stage y (since 0 (omega arith)) staged (subst (λ q. entry_then s0 h lawful 0 (q, stage.attempt) ≡ Some y) named its) (state ∙ committed))

  aborted_by_event : (q i j r a : ℕ) (lists : Lists) (d : List ℕ) (f g : Event) (ex : Expect) (doc : DocState) (stage : Stage) → TakesEffect s0 h q f → f.step ≡ step.Abort r a lists
      → q < i → TakesEffect s0 h j g → g.step ≡ step.Stage d ex stage → stage.attempt ≡ a → ((n : ℕ) → j < n → n ≤ i → doc_then s0 h lawful n d ≡ Some doc) → IsListed d lists
  aborted_by_event q i j r a lists d f g ex doc stage takes is low takes2 staging own_one since =
      (may s0 h lawful q f (step.Abort r a lists) takes.event is).named d
      (at_kept s0 h (λ m _. MayHaveStaged a d m) (λ m _. (x : ℕ) × (m.step ≡ step.Unstick d x) × (is_done m.answer.reply ≡ true)) f.actor q j g before takes2.event same_actor
      ((stage.kind, (ex, stage, staging, own_one, refl)), ⊎_elim (λ done. inl (ap is_done done)) (λ failed. inr failed) (effect_told s0 h j g takes2)) no_more)
    where
      before : j < q
      before = staged_before s0 h lawful q j r a lists d f g ex stage takes (abort is) takes2.event staging own_one

      same_actor : g.actor ≡ f.actor
      same_actor = sym (stager s0 h lawful j d g ex stage takes2.event staging).owner ∙ ap client_of own_one ∙ (closer s0 h lawful q r a lists f takes.event (abort is)).owner

      no_more : (k : ℕ) (w : Event) → j < k → k < q → slice_get h k ≡ Some w → w.actor ≡ f.actor
          → ((x : ℕ) × (w.step ≡ step.Unstick d x) × (is_done (made_at s0 h k w).answer.reply ≡ true)) → ⊥
      no_more k w from to at by it = done_changes k d w doc at it.2 (ap touches_doc it.1) (since k from (omega arith)) (since (suc k) (omega arith) (omega arith))

  pub listed_aborted : (i r a : ℕ) (d : List ℕ) (e : Entry) (doc : DocState) (stage : Stage) → entry_then s0 h lawful i (r, a) ≡ Some e → e.state ≡ Aborted
      → doc_then s0 h lawful i d ≡ Some doc → doc.stage ≡ Some stage → stage.attempt ≡ a → IsListed d e.lists
  listed_aborted i r a d e doc stage there aborted at staged own_one =
      go (settled s0 h lawful i (r, a) e there (λ q. absurd (differ (sym aborted ∙ q)))) (staged_by s0 h lawful i d doc stage at staged)
    where
      differ : Aborted ≡ Pending → ⊥
      differ q = cc

      abort_step : (f : Event) → Deciding r a e.lists f.step e.state → f.step ≡ step.Abort r a e.lists
      abort_step f (by_commit is state) = absurd (committed_aborted (sym state ∙ aborted))
      abort_step f (by_abort is state) = is

      go : Settled s0 h lawful (r, a) i e → StagedBy s0 h lawful d i doc stage → IsListed d e.lists
      go (by_decision q f old y low takes deciding old_at pending now state same) (by_staging j g ex low2 takes2 is cas since) =
          aborted_by_event q i j r a e.lists d f g ex doc stage takes (abort_step f deciding) low takes2 is own_one since
      go (by_decision q f old y low takes deciding old_at pending now state same) (from_first since) =
          let sent = closer s0 h lawful q r a e.lists f takes.event (abort (abort_step f deciding)) in
          absurd (lawful.fresh.no_staging sent.place a sent.event d doc stage sent.at (ap adds sent.is) (since 0 (omega arith)) staged own_one)
      go (in_opening y at_zero state same) (by_staging j g ex low2 takes2 is cas since) =
          absurd (staging_new j r d g ex stage y takes2.event is (subst (λ b. entry_then s0 h lawful 0 (r, b) ≡ Some y) (sym own_one) at_zero))
      go (in_opening y at_zero state same) (from_first since) =
          let its : entry_then s0 h lawful 0 (r, stage.attempt) ≡ Some y = subst (λ b. entry_then s0 h lawful 0 (r, b) ≡ Some y) (sym own_one) at_zero in
          let named : r ≡ stage.atr = lawful.sound.named d doc stage r y (since 0 (omega arith)) staged its in
          subst (λ l. IsListed d l) same
          (lawful.sound.aborted d doc stage y (since 0 (omega arith)) staged (subst (λ q. entry_then s0 h lawful 0 (q, stage.attempt) ≡ Some y) named its) (state ∙ aborted))

  -- a document staged by a decided attempt is listed by its entry
  pub listed_decided : (i r a : ℕ) (d : List ℕ) (e : Entry) (doc : DocState) (stage : Stage) → entry_then s0 h lawful i (r, a) ≡ Some e → e.state ≢ Pending
      → doc_then s0 h lawful i d ≡ Some doc → doc.stage ≡ Some stage → stage.attempt ≡ a → IsListed d e.lists
  listed_decided i r a d e doc stage there decided at staged own_one = go e.state refl
    where
      go : (state : EntryState) → e.state ≡ state → IsListed d e.lists
      go Pending is = absurd (decided is)
      go Committed is = (stage.kind, listed_committed i r a d e doc stage there is at staged own_one)
      go Aborted is = listed_aborted i r a d e doc stage there is at staged own_one
