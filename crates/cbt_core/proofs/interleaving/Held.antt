-- While an attempt's entry is pending, each document that its owner wrote last by a staging is staged by it, as it was then.
use Rattle.std.proofs.Common.{◌≡◌, ◌≢◌, ℕ, zero, suc, ◌<◌, ⊎_elim, List, Some, refl, sym, ap, ◌∙◌, subst, arith}
use Rattle.std.proofs.lemmas.Option.{none-some}
use Rattle.cbt_model.specs.History.{made_at, own, TakesEffect}
use Rattle.cbt_model.specs.declared.documents.DocState.{DocState}
use Rattle.cbt_model.specs.declared.documents.Stage.{Stage}
use Rattle.cbt_model.specs.declared.entries.Entry.{Entry}
use Rattle.cbt_model.specs.declared.entries.EntryState.{EntryState}
use Rattle.cbt_model.specs.declared.entries.EntryState.TheVariants.{Pending, Committed, Aborted}
use Rattle.cbt_model.specs.declared.entries.Lists.{Lists}
use Rattle.cbt_model.specs.declared.events.Event.{Event}
use Rattle.cbt_model.specs.declared.states.State.{State}
use Rattle.cbt_model.specs.declared.steps.Expect.{Expect}
use Rattle.cbt_model.specs.declared.steps.Expect.TheVariants as expect
use Rattle.cbt_model.specs.declared.steps.Reply.TheVariants as reply
use Rattle.cbt_model.specs.declared.steps.Step.TheVariants as step
use Rattle.cbt_book.specs.Licence.{WasStaged}
use Rattle.cbt_book.specs.Licence as licence
use Rattle.cbt_book.specs.Numbers.{client_of}
use Rattle.cbt_core.specs.Invariant.{StagesEffectively, WritesNoMore}
use Rattle.cbt_core.proofs.interleaving.Answers.{effect_row}
use Rattle.cbt_core.proofs.interleaving.Documents.{doc_then, stamp, Staged, after_stage, DocGoes, stays, is_staged_new, is_staged, is_unstaged, doc_goes}
use Rattle.cbt_core.proofs.interleaving.Entries.{entry_then, one_record, was_pending, stays_decided}
use Rattle.cbt_core.proofs.runs.Lawful.{Lawful}
use Rattle.cbt_core.proofs.runs.Past.{some_same, below_next}
use Rattle.cbt_core.proofs.interleaving.Worth.{WasDecided, StandsOver, unstaged, own_staging, dead_staging, stands_over, Removes, resolved, taken_back, undone, removes, stager}

decided_pending : (state other : EntryState) → state ≡ other → state ≡ Pending → other ≢ Pending → ⊥
decided_pending state other is pending apart = apart (sym is ∙ pending)

module _ (s0 : State) (h : List Event) (lawful : Lawful s0 h) where
  -- an entry that was decided is not pending later
  pub not_pending_later : (r a : ℕ) (lists : Lists) (state : EntryState) (i : ℕ) (e : Entry) → WasDecided s0 h lawful r a lists state i → state ≢ Pending
      → entry_then s0 h lawful i (r, a) ≡ Some e → e.state ≡ Pending → ⊥
  not_pending_later r a lists state i e was apart there pending =
      let decided : was.entry.state ≢ Pending = λ q. absurd (apart (sym was.state_is ∙ q)) in
      apart (sym was.state_is ∙ sym (stays_decided s0 h lawful was.place i (r, a) was.entry e was.before was.there decided there).0 ∙ pending)

  held_next : (i j x : ℕ) (d : List ℕ) (stage : Stage) (e : Entry) → entry_then s0 h lawful i (stage.atr, stage.attempt) ≡ Some e → e.state ≡ Pending → j < i
      → WritesNoMore s0 h stage.attempt d j (suc i) → Staged s0 h lawful d i x stage → DocGoes s0 h lawful d i → Staged s0 h lawful d (suc i) x stage
  held_next i j x d stage e there pending low quiet held (stays is) = record { doc = held.doc; there = is ∙ held.there; cas = held.cas; staged = held.staged }
  held_next i j x d stage e there pending low quiet held (is_staged_new f w y takes is none now cas put body) = absurd (none-some held.doc (sym none ∙ held.there))
  held_next i j x d stage e there pending low quiet held (is_staged f z w old y takes is at over now cas put body) = absurd (go (stands_over s0 h lawful i d f z w old takes.event is at over))
    where
      same : old.stage ≡ Some stage
      same = ap (λ (q : DocState). q.stage) (some_same (sym at ∙ held.there)) ∙ held.staged

      go : StandsOver s0 h lawful i old w → ⊥
      go (unstaged free) = none-some stage (sym free ∙ same)
      go (own_staging v v_is own_one) =
          let attempt : w.attempt ≡ stage.attempt = sym own_one ∙ ap (λ (q : Stage). q.attempt) (some_same (sym v_is ∙ same)) in
          quiet i f low (omega arith) takes (sym (stager s0 h lawful i d f (expect.Cas z) w takes.event is).owner ∙ ap client_of attempt)
          (licence.stages w.kind (expect.Cas z, w, is, attempt, refl))
      go (dead_staging v v_is gone) =
          let v_same : v ≡ stage = some_same (sym v_is ∙ same) in
          none-some e (sym (gone i stage.atr (omega arith)) ∙ ap (λ (q : Stage). entry_then s0 h lawful i (stage.atr, q.attempt)) v_same ∙ there)
  held_next i j x d stage e there pending low quiet held (is_unstaged f z old y takes off at over now cas free) = absurd (go (removes s0 h lawful i d z old y.body f takes.event off at over))
    where
      same : old.stage ≡ Some stage
      same = ap (λ (q : DocState). q.stage) (some_same (sym at ∙ held.there)) ∙ held.staged

      go : Removes s0 h lawful i d z old y.body f → ⊥
      go (resolved v lists v_is becomes was) =
          let v_same : v ≡ stage = some_same (sym v_is ∙ same) in
          not_pending_later stage.atr stage.attempt lists Committed i e (subst (λ (q : Stage). WasDecided s0 h lawful q.atr q.attempt lists Committed i) v_same was) (λ q. cc) there pending
      go (undone v lists v_is becomes was) =
          let v_same : v ≡ stage = some_same (sym v_is ∙ same) in
          not_pending_later stage.atr stage.attempt lists Aborted i e (subst (λ (q : Stage). WasDecided s0 h lawful q.atr q.attempt lists Aborted i) v_same was) (λ q. cc) there pending
      go (taken_back v v_is becomes owner is undecided was sent) =
          let v_same : v ≡ stage = some_same (sym v_is ∙ same) in
          quiet i f low (omega arith) takes (sym owner ∙ ap (λ (q : Stage). client_of q.attempt) v_same)
          (licence.unsticks_own z is (subst (λ (q : Stage). WasStaged q.attempt d z (own s0 h f.actor i)) v_same was))

  held_from : (i j : ℕ) (d : List ℕ) (stage : Stage) (f : Event) (ex : Expect) (e : Entry) → TakesEffect s0 h j f → f.step ≡ step.Stage d ex stage
      → entry_then s0 h lawful i (stage.atr, stage.attempt) ≡ Some e → e.state ≡ Pending → j < i → WritesNoMore s0 h stage.attempt d j i → Staged s0 h lawful d i (stamp s0 h lawful j f) stage
  held_from zero j d stage f ex e takes is there pending low quiet = absurd (omega arith)
  held_from (suc i) j d stage f ex e takes is there pending low quiet =
      ⊎_elim (λ (l : j < i).
      let sent = stager s0 h lawful j d f ex stage takes.event is in
      let before = was_pending s0 h lawful (suc sent.place) i (suc i) (stage.atr, stage.attempt) sent.entry e (let low2 = sent.before in omega arith) (omega arith) sent.now there pending in
      held_next i j (stamp s0 h lawful j f) d stage before.0 before.1 before.2 l quiet
      (held_from i j d stage f ex before.0 takes is before.1 before.2 l (λ k g from to. quiet k g from (let to2 = to in omega arith))) (doc_goes s0 h lawful i d))
      (λ (s : j ≡ i). subst (λ n. Staged s0 h lawful d (suc n) (stamp s0 h lawful j f) stage) s (after_stage s0 h lawful j d f ex stage takes is)) (below_next j i low)

  done_same : (m n : ℕ) → reply.Done m ≡ reply.Done n → m ≡ n
  done_same m n same = cc

  pub held : (i j r a x : ℕ) (d : List ℕ) (stage : Stage) (e : Entry) → entry_then s0 h lawful i (r, a) ≡ Some e → e.state ≡ Pending
      → j < i → StagesEffectively s0 h j d stage x → stage.attempt ≡ a → WritesNoMore s0 h a d j i
      → (doc : DocState) × (doc_then s0 h lawful i d ≡ Some doc) × (doc.stage ≡ Some stage) × (doc.cas ≡ x)
  held i j r a x d stage e there pending low stages own_one quiet =
      let sent = stager s0 h lawful j d stages.event stages.expects stage stages.takes.event stages.is in
      let its : entry_then s0 h lawful i (r, stage.attempt) ≡ Some e = subst (λ b. entry_then s0 h lawful i (r, b) ≡ Some e) (sym own_one) there in
      let same : r ≡ stage.atr = one_record s0 h lawful i (suc sent.place) r stage.atr stage.attempt e sent.entry its sent.now in
      let it = held_from i j d stage stages.event stages.expects e stages.takes stages.is (subst (λ q. entry_then s0 h lawful i (q, stage.attempt) ≡ Some e) same its) pending low
      (λ k g from to takes by writes. quiet k g from to takes (by ∙ ap client_of own_one) (subst (λ b. licence.WritesFor b d (made_at s0 h k g) (own s0 h g.actor k)) own_one writes)) in
      (it.doc, it.there, it.staged, it.cas ∙ done_same _ _ (sym (effect_row s0 h j stages.event stages.takes) ∙ stages.cas))
