-- The interleaving invariant, item by item.
use Rattle.std.proofs.Common.{◌≡◌, ◌≢◌, ℕ, ◌<◌, ◌≤◌, ◌⊎◌, inl, inr, ⊎_elim, List, Some, sym, ap, ◌∙◌, subst, arith}
use Rattle.cbt_model.specs.History.{TakesEffect}
use Rattle.cbt_model.specs.declared.documents.DocState.{DocState}
use Rattle.cbt_model.specs.declared.documents.Stage.{Stage}
use Rattle.cbt_model.specs.declared.events.Event.{Event}
use Rattle.cbt_model.specs.declared.states.State.{State}
use Rattle.cbt_model.specs.declared.steps.Step.TheVariants as step
use Rattle.cbt_core.specs.Invariant.{Interleaves, StagesEffectively}
use Rattle.cbt_core.proofs.interleaving.Decisions.{decided_once}
use Rattle.cbt_core.proofs.interleaving.Documents.{doc_then, cas_low, same_at_cas, Later, doc_later}
use Rattle.cbt_core.proofs.interleaving.Entries.{sent_once, stays_decided, stays_gone}
use Rattle.cbt_core.proofs.interleaving.Gone.{gone_finished, unchanged_since}
use Rattle.cbt_core.proofs.interleaving.Held.{held}
use Rattle.cbt_core.proofs.runs.Lawful.{Lawful}
use Rattle.cbt_core.proofs.interleaving.Listed.{listed_committed, listed_aborted}
use Rattle.cbt_core.proofs.runs.Past.{some_same}
use Rattle.cbt_core.proofs.interleaving.Stamps.{start_low, heartbeat_low}
use Rattle.cbt_core.proofs.interleaving.Worth.{stager}

module _ (s0 : State) (h : List Event) (lawful : Lawful s0 h) where
  -- the entry stands before a staging, in the record that it names
  entry_first : (i x : ℕ) (d : List ℕ) (stage : Stage) → StagesEffectively s0 h i d stage x
      → (j : ℕ) × (exp : ℕ) × (e : Event) × (j < i) × TakesEffect s0 h j e × (e.step ≡ step.AddEntry stage.atr stage.attempt exp)
  entry_first i x d stage it =
      let sent = stager s0 h lawful i d it.event it.expects stage it.takes.event it.is in
      (sent.place, sent.exp, sent.event, sent.before, sent.takes, sent.is)

  -- a CAS does not come back
  cas_stays_past : (i j k : ℕ) (d : List ℕ) (x y z : DocState) → i ≤ j → j ≤ k → doc_then s0 h lawful i d ≡ Some x → doc_then s0 h lawful j d ≡ Some y → doc_then s0 h lawful k d ≡ Some z
      → y.cas ≢ x.cas → z.cas ≢ x.cas
  cas_stays_past i j k d x y z low high one two three apart = λ same. absurd (go same (doc_later s0 h lawful i j d x low one) (doc_later s0 h lawful j k d y high two))
    where
      risen : {a b c w : ℕ} → a < b → b ≤ c → c ≡ w → w ≡ a → ⊥
      risen p q r t = omega arith

      at_least : (p q : DocState) → (p ≡ q) ⊎ (p.cas < q.cas) → p.cas ≤ q.cas
      at_least p q (inl same) = let e : p.cas ≡ q.cas = ap (λ (w : DocState). w.cas) same in omega arith
      at_least p q (inr l) = omega arith

      go : z.cas ≡ x.cas → Later s0 h lawful d j x → Later s0 h lawful d k y → ⊥
      go same first next =
          let y_is : first.doc ≡ y = some_same (sym first.there ∙ two) in
          let z_is : next.doc ≡ z = some_same (sym next.there ∙ three) in
          ⊎_elim (λ (s : x ≡ first.doc). apart (ap (λ (w : DocState). w.cas) (sym (s ∙ y_is))))
          (λ (l : x.cas < first.doc.cas). risen (subst (λ (w : DocState). x.cas < w.cas) y_is l) (at_least y next.doc next.same_or_above) (ap (λ (w : DocState). w.cas) z_is) same) first.same_or_above

  pub interleaves : Interleaves s0 h
  interleaves = record {
    stamps = record {
      docs = λ i d x at. cas_low s0 h lawful i d x at;
      entries = λ i key e at. start_low s0 h lawful i key e at;
      rows = λ i id row at. heartbeat_low s0 h lawful i id row at;
      same = λ i j d x y at there cas. same_at_cas s0 h lawful i j d x y at there cas;
    };
    added = record {
      one = λ a i j e f takes takes2 one two. sent_once s0 h lawful i j a e f takes.event takes2.event one two;
      before = λ i x d stage it. entry_first i x d stage it;
    };
    decided = λ a i j e f takes takes2 one two. decided_once s0 h lawful a i j e f takes takes2 one two;
    held = λ i j r a x d stage e at pending low stages own_one quiet. held s0 h lawful i j r a x d stage e at pending low stages own_one quiet;
    listed_when = record {
      committed = λ i r a d e doc stage at state there staged own_one. listed_committed s0 h lawful i r a d e doc stage at state there staged own_one;
      aborted = λ i r a d e doc stage at state there staged own_one. listed_aborted s0 h lawful i r a d e doc stage at state there staged own_one;
      unchanged = λ i q a d lists doc stage low it there staged own_one. unchanged_since s0 h lawful i q a d lists doc stage low it there staged own_one;
    };
    gone = λ i q r a d lists doc stage low it none there staged. gone_finished s0 h lawful i q r a d lists doc stage low it none there staged;
    shown = record {
      decided = λ i j key e f low at there decided. stays_decided s0 h lawful i j key e f low at decided there;
      dropped = λ i j k r key e low high at gone. stays_gone s0 h lawful i j k r key e low high at gone;
      cas = λ i j k d x y z low high one two three apart. cas_stays_past i j k d x y z low high one two three apart;
    };
  }
