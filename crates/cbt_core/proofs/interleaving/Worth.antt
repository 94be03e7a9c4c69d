-- What an own reply showed, as a fact about the states, and what each licence is worth at the state that its step meets.
use Rattle.std.proofs.Common.{◌≡◌, ◌≢◌, ℕ, suc, ◌<◌, ◌≤◌, inl, inr, List, Option, Some, None, refl, sym, ap, ◌∙◌, subst, slice_get, arith}
use Rattle.cbt_json.specs.declared.value.Json.{Json}
use Rattle.cbt_model.specs.History.{made_at, own, TakesEffect}
use Rattle.cbt_model.specs.declared.documents.DocState.{DocState}
use Rattle.cbt_model.specs.declared.documents.Stage.{Stage}
use Rattle.cbt_model.specs.declared.entries.Entry.{Entry}
use Rattle.cbt_model.specs.declared.entries.EntryState.{EntryState}
use Rattle.cbt_model.specs.declared.entries.EntryState.TheVariants.{Pending, Committed, Aborted}
use Rattle.cbt_model.specs.declared.entries.Lists.{Lists}
use Rattle.cbt_model.specs.declared.events.Event.{Event}
use Rattle.cbt_model.specs.declared.states.State.{State}
use Rattle.cbt_model.specs.declared.steps.Expect.{Expect}
use Rattle.cbt_model.specs.declared.steps.Expect.TheVariants as expect
use Rattle.cbt_model.specs.declared.steps.Step.TheVariants as step
use Rattle.cbt_book.specs.Licence.{WasStaged, ShowsDecided, MayStand, MayStage, MayResolve, MayUnstick}
use Rattle.cbt_book.specs.Licence as licence
use Rattle.cbt_book.specs.Numbers.{client_of}
use Rattle.cbt_book.specs.OwnLists.{Once}
use Rattle.cbt_book.specs.Shown.{adds, decides, ReadsDoc, StagesAt, ShowsStaged, ShowsEntry, ReadsEntry, FindsNoEntry, ReadsRecord, ShowsCommitted, ShowsAborted}
use Rattle.cbt_book.specs.Shown as shown
use Rattle.cbt_core.proofs.interleaving.Answers.{entry_told, record_told, no_entry_told, doc_told, done_told}
use Rattle.cbt_core.proofs.interleaving.Entries.{Deciding, by_commit, by_abort, Came, by_event, at_first, came, stays_gone, some_of, none_or, entry_then, one_record}
use Rattle.cbt_core.proofs.interleaving.Decisions.{Added, added_at, Closing, commit, abort, closed_at, no_abort_decided, Sent, closer}
use Rattle.cbt_core.proofs.interleaving.Documents.{doc_then, Staged, after_stage, StagedBy, by_staging, from_first, staged_by, same_at_cas, TakesOff, by_publish, by_delete, by_unstick}
use Rattle.cbt_core.proofs.runs.Lawful.{Lawful, may}
use Rattle.cbt_core.proofs.runs.Past.{one_event, once_at, at_once, Order, first, equal, after as later_one, order}

cas_is : (y z : ℕ) → expect.Cas y ≡ expect.Cas z → y ≡ z
cas_is y z same = cc

new_is_no_cas : (y : ℕ) → expect.Cas y ≡ expect.New → ⊥
new_is_no_cas y same = cc

commit_names : (r a q b : ℕ) (l m : Lists) → step.Commit r a l ≡ step.Abort q b m → ⊥
commit_names r a q b l m same = cc

module _ (s0 : State) (h : List Event) (lawful : Lawful s0 h) where
  -- the entry of attempt a in record r stood decided so, by place i
  pub record WasDecided (r a : ℕ) (lists : Lists) (state : EntryState) (i : ℕ) : Type 0 where
    pub place : ℕ
    pub entry : Entry
    pub before : place ≤ i
    pub there : entry_then s0 h lawful place (r, a) ≡ Some entry
    pub state_is : entry.state ≡ state
    pub lists_are : entry.lists ≡ lists

  entry_shown : (n : ℕ) (f : Event) (r a : ℕ) (x : Entry) → ShowsEntry r a x (made_at s0 h n f) → entry_then s0 h lawful n (r, a) ≡ Some x
  entry_shown n f r a x (shown.alone read) = entry_told s0 h n f r a x read.0 read.1
  entry_shown n f r a x (shown.in_record entries read listed) = record_told s0 h n f lawful.sound.ordered r a x entries read.0 read.1 listed

  -- what shows an attempt committed shows its entry so
  pub committed_shown : (n : ℕ) (f : Event) (r a : ℕ) (lists : Lists) → slice_get h n ≡ Some f → ShowsCommitted r a lists (made_at s0 h n f) → WasDecided r a lists Committed (suc n)
  committed_shown n f r a lists at (shown.committed_entry x shows state same) =
      record { place = n; entry = x; before = omega arith; there = entry_shown n f r a x shows; state_is = state; lists_are = same }
  committed_shown n f r a lists at (shown.own_commit c is answer) =
      let it = closed_at s0 h lawful n r a lists f (done_told s0 h n f c at answer).0 (commit is) in
      record { place = suc n; entry = it.entry; before = omega arith; there = it.now; state_is = by_this it.deciding; lists_are = it.lists_are }
    where
      by_this : {state : EntryState} → Deciding r a lists f.step state → state ≡ Committed
      by_this (by_commit st at2) = at2
      by_this (by_abort st at2) = absurd (commit_names r a r a lists lists (sym is ∙ st))

  pub aborted_shown : (n : ℕ) (f : Event) (r a : ℕ) (lists : Lists) → slice_get h n ≡ Some f → ShowsAborted r a lists (made_at s0 h n f) → WasDecided r a lists Aborted (suc n)
  aborted_shown n f r a lists at (shown.aborted_entry x shows state same) =
      record { place = n; entry = x; before = omega arith; there = entry_shown n f r a x shows; state_is = state; lists_are = same }
  aborted_shown n f r a lists at (shown.own_abort c is answer) =
      let it = closed_at s0 h lawful n r a lists f (done_told s0 h n f c at answer).0 (abort is) in
      record { place = suc n; entry = it.entry; before = omega arith; there = it.now; state_is = by_this it.deciding; lists_are = it.lists_are }
    where
      by_this : {state : EntryState} → Deciding r a lists f.step state → state ≡ Aborted
      by_this (by_commit st at2) = absurd (commit_names r a r a lists lists (sym st ∙ is))
      by_this (by_abort st at2) = at2
  aborted_shown n f r a lists at (shown.refused_abort is answer) = absurd (no_abort_decided s0 h lawful n r a lists f at is answer)

  -- an attempt whose decision was shown is decided, and by then
  pub record HasDecided (r a : ℕ) (lists : Lists) (i : ℕ) : Type 0 where
    pub place : ℕ
    pub entry : Entry
    pub before : place ≤ i
    pub there : entry_then s0 h lawful place (r, a) ≡ Some entry
    pub decided : entry.state ≢ Pending
    pub lists_are : entry.lists ≡ lists

  not_pending : (state other : EntryState) → state ≡ other → other ≢ Pending → state ≢ Pending
  not_pending state other same apart = λ q. apart (sym same ∙ q)

  pub decided_shown : (n : ℕ) (f : Event) (r a : ℕ) (lists : Lists) → slice_get h n ≡ Some f → ShowsDecided r a lists (made_at s0 h n f) → HasDecided r a lists (suc n)
  decided_shown n f r a lists at (inl shows) =
      let it = committed_shown n f r a lists at shows in
      record { place = it.place; entry = it.entry; before = it.before; there = it.there; decided = not_pending it.entry.state Committed it.state_is (λ q. cc); lists_are = it.lists_are }
  decided_shown n f r a lists at (inr shows) =
      let it = aborted_shown n f r a lists at shows in
      record { place = it.place; entry = it.entry; before = it.before; there = it.there; decided = not_pending it.entry.state Aborted it.state_is (λ q. cc); lists_are = it.lists_are }

  -- a document stood staged so, by place i
  pub record WasShown (d : List ℕ) (x : ℕ) (stage : Stage) (i : ℕ) : Type 0 where
    pub place : ℕ
    pub doc : DocState
    pub before : place ≤ i
    pub there : doc_then s0 h lawful place d ≡ Some doc
    pub cas : doc.cas ≡ x
    pub staged : doc.stage ≡ Some stage

  pub stage_done : (n : ℕ) (f : Event) (d : List ℕ) (x : ℕ) (stage : Stage) → slice_get h n ≡ Some f → StagesAt d x stage (made_at s0 h n f) → TakesEffect s0 h n f × Staged s0 h lawful d (suc n) x stage
  stage_done n f d x stage at it =
      let done = done_told s0 h n f x at it.2 in
      let now = after_stage s0 h lawful n d f it.0 stage done.0 it.1 in
      (done.0, record { doc = now.doc; there = now.there; cas = now.cas ∙ sym done.1; staged = now.staged })

  pub staging_shown : (n : ℕ) (f : Event) (d : List ℕ) (x : ℕ) (stage : Stage) → slice_get h n ≡ Some f → ShowsStaged d x stage (made_at s0 h n f) → WasShown d x stage (suc n)
  staging_shown n f d x stage at (shown.by_read body read) =
      let it = doc_told s0 h n f d x body (Some stage) read.0 read.1 in
      record { place = n; doc = it.doc; before = omega arith; there = it.there; cas = it.cas; staged = it.stage_is }
  staging_shown n f d x stage at (shown.by_stage stages) =
      let it = (stage_done n f d x stage at stages).1 in
      record { place = suc n; doc = it.doc; before = omega arith; there = it.there; cas = it.cas; staged = it.staged }

  pub shown_before : (actor i : ℕ) (d : List ℕ) (x : ℕ) (stage : Stage) → Once (λ m _. ShowsStaged d x stage m) (own s0 h actor i) → WasShown d x stage i
  shown_before actor i d x stage once =
      let it = once_at s0 h (λ m _. ShowsStaged d x stage m) actor i once in
      let was = staging_shown it.place it.event d x stage it.is it.holds in
      record { place = was.place; doc = was.doc; before = (let low = it.before in let low2 = was.before in omega arith); there = was.there; cas = was.cas; staged = was.staged }

  -- a staging's attempt has sent its entry, in the record that the staging names
  pub stager : (j : ℕ) (d : List ℕ) (e : Event) (ex : Expect) (stage : Stage) → slice_get h j ≡ Some e → e.step ≡ step.Stage d ex stage → Added s0 h lawful stage.atr stage.attempt e.actor j
  stager j d e ex stage at is = added_at s0 h lawful e.actor j stage.atr stage.attempt (may s0 h lawful j e (step.Stage d ex stage) at is).added

  -- the entry of an attempt stands in the record that its stagings name
  pub named_record : (i n r a : ℕ) (d : List ℕ) (doc : DocState) (stage : Stage) (e : Entry) → doc_then s0 h lawful i d ≡ Some doc → doc.stage ≡ Some stage → stage.attempt ≡ a
      → entry_then s0 h lawful n (r, a) ≡ Some e → r ≡ stage.atr
  named_record i n r a d doc stage e at staged own_one there = go (staged_by s0 h lawful i d doc stage at staged)
    where
      its : entry_then s0 h lawful n (r, stage.attempt) ≡ Some e
      its = subst (λ b. entry_then s0 h lawful n (r, b) ≡ Some e) (sym own_one) there

      from_opening : doc_then s0 h lawful 0 d ≡ Some doc → Came s0 h lawful (r, stage.attempt) n → r ≡ stage.atr
      from_opening before (by_event m g exp low takes is since) = absurd (lawful.fresh.no_staging m stage.attempt g d doc stage takes.event (ap adds is) before staged refl)
      from_opening before (at_first since) =
          let x = some_of (entry_then s0 h lawful 0 (r, stage.attempt)) (since 0 (omega arith)) in
          lawful.sound.named d doc stage r x.0 before staged x.1

      go : StagedBy s0 h lawful d i doc stage → r ≡ stage.atr
      go (by_staging j g ex low takes is cas since) =
          let sent = stager j d g ex stage takes.event is in
          one_record s0 h lawful n (suc sent.place) r stage.atr stage.attempt e sent.entry its sent.now
      go (from_first since) = from_opening (since 0 (omega arith)) (came s0 h lawful n (r, stage.attempt) e its)

  -- no staging is made after its attempt's commit or abort that took effect
  pub staged_before : (q j r a : ℕ) (lists : Lists) (d : List ℕ) (e f : Event) (ex : Expect) (stage : Stage) → TakesEffect s0 h q e → Closing r a lists e.step
      → slice_get h j ≡ Some f → f.step ≡ step.Stage d ex stage → stage.attempt ≡ a → j < q
  staged_before q j r a lists d e f ex stage takes closing at is own_one = go (order j q)
    where
      mine : e.actor ≡ f.actor
      mine = sym (closer s0 h lawful q r a lists e takes.event closing).owner ∙ ap client_of (sym own_one) ∙ (stager j d f ex stage at is).owner

      decides_it : Closing r a lists e.step → decides e.step ≡ Some stage.attempt
      decides_it (commit st) = ap decides st ∙ ap (λ b. Some b) (sym own_one)
      decides_it (abort st) = ap decides st ∙ ap (λ b. Some b) (sym own_one)

      stage_closes : (c : Closing r a lists e.step) → e ≡ f → ⊥
      stage_closes (commit st) same = differ r a lists d ex stage (sym st ∙ ap (λ (x : Event). x.step) same ∙ is)
        where
          differ : (r a : ℕ) (lists : Lists) (d : List ℕ) (ex : Expect) (stage : Stage) → step.Commit r a lists ≡ step.Stage d ex stage → ⊥
          differ r a lists d ex stage same = cc
      stage_closes (abort st) same = differ r a lists d ex stage (sym st ∙ ap (λ (x : Event). x.step) same ∙ is)
        where
          differ : (r a : ℕ) (lists : Lists) (d : List ℕ) (ex : Expect) (stage : Stage) → step.Abort r a lists ≡ step.Stage d ex stage → ⊥
          differ r a lists d ex stage same = cc

      go : Order j q → j < q
      go (first l) = l
      go (equal s) = absurd (stage_closes closing (one_event h j e f (subst (λ n. slice_get h n ≡ Some e) (sym s) takes.event) at))
      go (later_one l) =
          absurd ((may s0 h lawful j f (step.Stage d ex stage) at is).undecided
          (at_once s0 h (λ m _. decides m.step ≡ Some stage.attempt) f.actor j q e l takes.event mine (decides_it closing)))

  -- where a staging's entry was not there after the staging, it never is again
  pub dead_since : (n m k r : ℕ) (d : List ℕ) (y : DocState) (stage : Stage) → doc_then s0 h lawful n d ≡ Some y → y.stage ≡ Some stage → n ≤ m → m ≤ k
      → entry_then s0 h lawful m (stage.atr, stage.attempt) ≡ None → entry_then s0 h lawful k (r, stage.attempt) ≡ None
  dead_since n m k r d y stage at staged low high gone = go (staged_by s0 h lawful n d y stage at staged)
    where
      at_zero : (z : Entry) → entry_then s0 h lawful k (r, stage.attempt) ≡ Some z → doc_then s0 h lawful 0 d ≡ Some y → Came s0 h lawful (r, stage.attempt) k → ⊥
      at_zero z there zero_doc (by_event p e exp low2 takes is since) = lawful.fresh.no_staging p stage.attempt e d y stage takes.event (ap adds is) zero_doc staged refl
      at_zero z there zero_doc (at_first since) =
          let old = some_of (entry_then s0 h lawful 0 (r, stage.attempt)) (since 0 (omega arith)) in
          let named : r ≡ stage.atr = lawful.sound.named d y stage r old.0 zero_doc staged old.1 in
          since m high (subst (λ q. entry_then s0 h lawful m (q, stage.attempt) ≡ None) (sym named) gone)

      go : StagedBy s0 h lawful d n y stage → entry_then s0 h lawful k (r, stage.attempt) ≡ None
      go (by_staging j e ex low2 takes is cas since) =
          let sent = stager j d e ex stage takes.event is in
          stays_gone s0 h lawful (suc sent.place) m k r (stage.atr, stage.attempt) sent.entry (let low3 = sent.before in omega arith) high sent.now gone
      go (from_first since) = none_or (entry_then s0 h lawful k (r, stage.attempt)) (λ z there. at_zero z there (since 0 (omega arith)) (came s0 h lawful k (r, stage.attempt) z there))

  -- what a staging that takes effect stands over
  pub data StandsOver (i : ℕ) (old : DocState) (stage : Stage) : Type 0 where
    unstaged : old.stage ≡ None → StandsOver i old stage
    own_staging : (w : Stage) → old.stage ≡ Some w → w.attempt ≡ stage.attempt → StandsOver i old stage
    dead_staging : (w : Stage) → old.stage ≡ Some w → ((k r : ℕ) → i ≤ k → entry_then s0 h lawful k (r, w.attempt) ≡ None) → StandsOver i old stage

  pub stands_over : (i : ℕ) (d : List ℕ) (e : Event) (y : ℕ) (stage : Stage) (old : DocState) → slice_get h i ≡ Some e → e.step ≡ step.Stage d (expect.Cas y) stage
      → doc_then s0 h lawful i d ≡ Some old → old.cas ≡ y → StandsOver i old stage
  stands_over i d e y stage old at is there cas = go (may s0 h lawful i e (step.Stage d (expect.Cas y) stage) at is).over
    where
      go : MayStand (own s0 h e.actor i) d stage.attempt (expect.Cas y) → StandsOver i old stage
      go (licence.on_nothing new) = absurd (new_is_no_cas y new)
      go (licence.on_unstaged z over once) =
          let it = once_at s0 h (λ m _. (body : Option Json) × ReadsDoc d z body None m) e.actor i once in
          let read = doc_told s0 h it.place it.event d z it.holds.0 None it.holds.1.0 it.holds.1.1 in
          let same : read.doc ≡ old = same_at_cas s0 h lawful it.place i d read.doc old read.there there (read.cas ∙ sym (cas_is y z over) ∙ sym cas) in
          unstaged (ap (λ (q : DocState). q.stage) (sym same) ∙ read.stage_is)
      go (licence.on_own z over once) =
          let it = once_at s0 h (λ m _. (w : Stage) × (w.attempt ≡ stage.attempt) × StagesAt d z w m) e.actor i once in
          let put = (stage_done it.place it.event d z it.holds.0 it.is it.holds.2).1 in
          let same : put.doc ≡ old = same_at_cas s0 h lawful (suc it.place) i d put.doc old put.there there (put.cas ∙ sym (cas_is y z over) ∙ sym cas) in
          own_staging it.holds.0 (ap (λ (q : DocState). q.stage) (sym same) ∙ put.staged) it.holds.1
      go (licence.on_dead z w over once) =
          let it = once_at s0 h (λ m before. FindsNoEntry w.atr w.attempt m × Once (λ n _. (body : Option Json) × ReadsDoc d z body (Some w) n) before) e.actor i once in
          let before = once_at s0 h (λ n _. (body : Option Json) × ReadsDoc d z body (Some w) n) e.actor it.place it.holds.1 in
          let read = doc_told s0 h before.place before.event d z before.holds.0 (Some w) before.holds.1.0 before.holds.1.1 in
          let same : read.doc ≡ old = same_at_cas s0 h lawful before.place i d read.doc old read.there there (read.cas ∙ sym (cas_is y z over) ∙ sym cas) in
          let gone : entry_then s0 h lawful it.place (w.atr, w.attempt) ≡ None = no_entry_told s0 h it.place it.event w.atr w.attempt it.holds.0.0 it.holds.0.1 in
          dead_staging w (ap (λ (q : DocState). q.stage) (sym same) ∙ read.stage_is)
          (λ k r from. dead_since before.place it.place k r d read.doc w read.there read.stage_is (let low = before.before in omega arith) (let low = it.before in omega arith) gone)

  -- what a step takes off that takes a staging off a document
  pub data Removes (i : ℕ) (d : List ℕ) (y : ℕ) (old : DocState) (now : Option Json) (e : Event) : Type 0 where
    -- the staging of a committed attempt becomes the body
    resolved : (stage : Stage) (lists : Lists) → old.stage ≡ Some stage → now ≡ stage.content → WasDecided stage.atr stage.attempt lists Committed i → Removes i d y old now e
    -- the owner takes its staging back before the decision
    taken_back : (stage : Stage) → old.stage ≡ Some stage → now ≡ old.body → client_of stage.attempt ≡ e.actor → e.step ≡ step.Unstick d y
        → ¬ Once (λ m _. decides m.step ≡ Some stage.attempt) (own s0 h e.actor i) → WasStaged stage.attempt d y (own s0 h e.actor i) → Sent s0 h lawful stage.atr stage.attempt e.actor i → Removes i d y old now e
    -- the staging of an aborted attempt goes
    undone : (stage : Stage) (lists : Lists) → old.stage ≡ Some stage → now ≡ old.body → WasDecided stage.atr stage.attempt lists Aborted i → Removes i d y old now e

  resolves : (i : ℕ) (d : List ℕ) (y : ℕ) (old : DocState) (content now : Option Json) (e : Event) → doc_then s0 h lawful i d ≡ Some old → old.cas ≡ y → now ≡ content
      → MayResolve (own s0 h e.actor i) d y content → Removes i d y old now e
  resolves i d y old content now e there cas is may_be =
      let was = shown_before e.actor i d y may_be.stage may_be.staged in
      let same : was.doc ≡ old = same_at_cas s0 h lawful was.place i d was.doc old was.there there (was.cas ∙ sym cas) in
      let it = once_at s0 h (λ m _. (lists : Lists) × ShowsCommitted may_be.stage.atr may_be.stage.attempt lists m) e.actor i may_be.committed in
      let done = committed_shown it.place it.event may_be.stage.atr may_be.stage.attempt it.holds.0 it.is it.holds.1 in
      resolved may_be.stage it.holds.0 (ap (λ (q : DocState). q.stage) (sym same) ∙ was.staged) (is ∙ sym may_be.content_is)
      (record { place = done.place; entry = done.entry; before = (let low = it.before in let low2 = done.before in omega arith); there = done.there; state_is = done.state_is; lists_are = done.lists_are })

  pub removes : (i : ℕ) (d : List ℕ) (y : ℕ) (old : DocState) (now : Option Json) (e : Event) → slice_get h i ≡ Some e → TakesOff d y old.body now e.step
      → doc_then s0 h lawful i d ≡ Some old → old.cas ≡ y → Removes i d y old now e
  removes i d y old now e at (by_publish body is becomes) there cas = resolves i d y old (Some body) now e there cas becomes (may s0 h lawful i e (step.Publish d y body) at is)
  removes i d y old now e at (by_delete is becomes) there cas = resolves i d y old None now e there cas becomes (may s0 h lawful i e (step.Delete d y) at is)
  removes i d y old now e at (by_unstick is becomes) there cas = go (may s0 h lawful i e (step.Unstick d y) at is)
    where
      go : MayUnstick (own s0 h e.actor i) d y → Removes i d y old now e
      go (licence.before_decision stage once undecided) =
          let it = once_at s0 h (λ m _. StagesAt d y stage m) e.actor i once in
          let put = (stage_done it.place it.event d y stage it.is it.holds).1 in
          let same : put.doc ≡ old = same_at_cas s0 h lawful (suc it.place) i d put.doc old put.there there (put.cas ∙ sym cas) in
          let sent = stager it.place d it.event it.holds.0 stage it.is it.holds.1 in
          taken_back stage (ap (λ (q : DocState). q.stage) (sym same) ∙ put.staged) becomes (sent.owner ∙ it.by) is undecided
          (at_once s0 h (λ m _. (w : Stage) × (w.attempt ≡ stage.attempt) × ShowsStaged d y w m) e.actor i it.place it.event it.before it.is it.by (stage, refl, shown.by_stage it.holds))
          (record { place = sent.place; event = sent.event; exp = sent.exp; before = (let low = sent.before in let low2 = it.before in omega arith); at = sent.takes.event; is = sent.is; owner = sent.owner ∙ it.by })
      go (licence.after_abort stage once aborted) =
          let was = shown_before e.actor i d y stage once in
          let same : was.doc ≡ old = same_at_cas s0 h lawful was.place i d was.doc old was.there there (was.cas ∙ sym cas) in
          let it = once_at s0 h (λ m _. (lists : Lists) × ShowsAborted stage.atr stage.attempt lists m) e.actor i aborted in
          let done = aborted_shown it.place it.event stage.atr stage.attempt it.holds.0 it.is it.holds.1 in
          undone stage it.holds.0 (ap (λ (q : DocState). q.stage) (sym same) ∙ was.staged) becomes
          (record { place = done.place; entry = done.entry; before = (let low = it.before in let low2 = done.before in omega arith); there = done.there; state_is = done.state_is; lists_are = done.lists_are })
