-- What an event shows its actor agrees with what this actor was shown before: it was so of the states that both events met.
use Rattle.std.proofs.Common.{◌≡◌, ◌≢◌, ℕ, ◌≤◌, List, Option, Some, None, sym, ap, ◌∙◌, subst, arith}
use Rattle.std.proofs.lemmas.Option.{none-some}
use Rattle.cbt_json.specs.declared.value.Json.{Json}
use Rattle.cbt_model.specs.History.{own, made_at}
use Rattle.cbt_model.specs.declared.documents.DocState.{DocState}
use Rattle.cbt_model.specs.declared.documents.Stage.{Stage}
use Rattle.cbt_model.specs.declared.entries.Entry.{Entry}
use Rattle.cbt_model.specs.declared.entries.EntryState.TheVariants.{Pending}
use Rattle.cbt_model.specs.declared.events.Event.{Event}
use Rattle.cbt_model.specs.declared.states.State.{State}
use Rattle.cbt_book.specs.OwnLists.{Once}
use Rattle.cbt_book.specs.Shown.{ReadsDoc, ReadsEntry, FindsNoEntry}
use Rattle.cbt_core.specs.Staying.{ReadsAtCas, ShowsStagingOf, AgreesWith}
use Rattle.cbt_core.proofs.interleaving.Answers.{doc_told, entry_told, no_entry_told}
use Rattle.cbt_core.proofs.interleaving.Documents.{doc_then}
use Rattle.cbt_core.proofs.interleaving.Entries.{entry_then}
use Rattle.cbt_core.proofs.interleaving.Interleaving.{interleaves}
use Rattle.cbt_core.proofs.interleaving.Worth.{dead_since}
use Rattle.cbt_core.proofs.runs.Lawful.{Lawful}
use Rattle.cbt_core.proofs.runs.Past.{once_at}

module _ (s0 : State) (h : List Event) (lawful : Lawful s0 h) where
  -- a reading at a CAS met the document with this CAS
  record StoodAt (i : ℕ) (d : List ℕ) (x : ℕ) : Type 0 where
    pub doc : DocState
    pub there : doc_then s0 h lawful i d ≡ Some doc
    pub cas : doc.cas ≡ x

  stood_at : (i : ℕ) (e : Event) (d : List ℕ) (x : ℕ) → ReadsAtCas d x (made_at s0 h i e) → StoodAt i d x
  stood_at i e d x read =
      let shown = doc_told s0 h i e d x read.0 read.1 read.2.0 read.2.1 in record { doc = shown.doc; there = shown.there; cas = shown.cas }

  -- a reading of a staging of attempt a, with record r, met a document that was staged so
  record StoodStaged (i r a : ℕ) : Type 0 where
    pub document : List ℕ
    pub doc : DocState
    pub stage : Stage
    pub there : doc_then s0 h lawful i document ≡ Some doc
    pub stage_is : doc.stage ≡ Some stage
    pub atr_is : stage.atr ≡ r
    pub attempt_is : stage.attempt ≡ a

  stood_staged : (i r a : ℕ) (e : Event) → ShowsStagingOf r a (made_at s0 h i e) → StoodStaged i r a
  stood_staged i r a e read =
      let shown = doc_told s0 h i e read.0 read.1 read.2 (Some read.3) read.4.0 read.4.1 in
      record { document = read.0; doc = shown.doc; stage = read.3; there = shown.there; stage_is = shown.stage_is; atr_is = read.5; attempt_is = read.6 }

  -- where a document stood staged, the entry that it names does not return once it is missing
  stays_missing : (i j k r a : ℕ) → StoodStaged i r a → i ≤ j → j ≤ k → entry_then s0 h lawful j (r, a) ≡ None → entry_then s0 h lawful k (r, a) ≡ None
  stays_missing i j k r a put low high missing =
      subst (λ b. entry_then s0 h lawful k (r, b) ≡ None) put.attempt_is
      (dead_since s0 h lawful i j k r put.document put.doc put.stage put.there put.stage_is low high
      (subst (λ q. entry_then s0 h lawful j (q, put.stage.attempt) ≡ None) (sym put.atr_is) (subst (λ b. entry_then s0 h lawful j (r, b) ≡ None) (sym put.attempt_is) missing)))

  module _ (actor i : ℕ) (e : Event) where
    -- a document that was read at a CAS has the same content when it is read there again
    same_again : (d : List ℕ) (x : ℕ) (body old : Option Json) (stage was : Option Stage) → ReadsDoc d x body stage (made_at s0 h i e)
        → Once (λ n _. ReadsDoc d x old was n) (own s0 h actor i) → (old ≡ body) × (was ≡ stage)
    same_again d x body old stage was read once =
        let it = once_at s0 h (λ n _. ReadsDoc d x old was n) actor i once in
        let now = doc_told s0 h i e d x body stage read.0 read.1 in
        let before = doc_told s0 h it.place it.event d x old was it.holds.0 it.holds.1 in
        let same : before.doc ≡ now.doc = (interleaves s0 h lawful).stamps.same it.place i d before.doc now.doc before.there now.there (before.cas ∙ sym now.cas) in
        (sym before.body_is ∙ ap (λ (y : DocState). y.body) same ∙ now.body_is, sym before.stage_is ∙ ap (λ (y : DocState). y.stage) same ∙ now.stage_is)

    -- a CAS at which a document was read, and behind that at another one, is not read again
    left_for_good : (d : List ℕ) (x y : ℕ) → ReadsAtCas d x (made_at s0 h i e) → y ≢ x
        → Once (λ n older. ReadsAtCas d y n × Once (λ k _. ReadsAtCas d x k) older) (own s0 h actor i) → ⊥
    left_for_good d x y read apart once =
        let it = once_at s0 h (λ n older. ReadsAtCas d y n × Once (λ k _. ReadsAtCas d x k) older) actor i once in
        let first = once_at s0 h (λ k _. ReadsAtCas d x k) actor it.place it.holds.1 in
        let one = stood_at first.place first.event d x first.holds in
        let two = stood_at it.place it.event d y it.holds.0 in
        let three = stood_at i e d x read in
        let low : first.place ≤ it.place = (let b = first.before in omega arith) in
        let high : it.place ≤ i = (let b = it.before in omega arith) in
        (interleaves s0 h lawful).shown.cas first.place it.place i d one.doc two.doc three.doc low high one.there two.there three.there
        (λ q. apart (sym two.cas ∙ q ∙ one.cas)) (three.cas ∙ sym one.cas)

    -- an entry that was read decided has the same state when it is read again
    decided_again : (r a : ℕ) (x was : Entry) → ReadsEntry r a x (made_at s0 h i e) → Once (λ n _. ReadsEntry r a was n) (own s0 h actor i)
        → was.state ≢ Pending → x.state ≡ was.state
    decided_again r a x was read once decided =
        let it = once_at s0 h (λ n _. ReadsEntry r a was n) actor i once in
        let now = entry_told s0 h i e r a x read.0 read.1 in
        let before = entry_told s0 h it.place it.event r a was it.holds.0 it.holds.1 in
        let low : it.place ≤ i = (let b = it.before in omega arith) in
        ((interleaves s0 h lawful).shown.decided it.place i (r, a) was x low before now decided).0

    -- an entry that was missing after a staging of its attempt was read is not read again
    gone_for_good : (r a : ℕ) (x : Entry) → ReadsEntry r a x (made_at s0 h i e)
        → Once (λ n older. FindsNoEntry r a n × Once (λ k _. ShowsStagingOf r a k) older) (own s0 h actor i) → ⊥
    gone_for_good r a x read once =
        let it = once_at s0 h (λ n older. FindsNoEntry r a n × Once (λ k _. ShowsStagingOf r a k) older) actor i once in
        let first = once_at s0 h (λ k _. ShowsStagingOf r a k) actor it.place it.holds.1 in
        let put = stood_staged first.place r a first.event first.holds in
        let low : first.place ≤ it.place = (let b = first.before in omega arith) in
        let high : it.place ≤ i = (let b = it.before in omega arith) in
        let missing = no_entry_told s0 h it.place it.event r a it.holds.0.0 it.holds.0.1 in
        none-some x (sym (stays_missing first.place it.place i r a put low high missing) ∙ entry_told s0 h i e r a x read.0 read.1)

    -- an event's answer agrees with what its actor was shown before
    pub agrees : AgreesWith (own s0 h actor i) (made_at s0 h i e)
    agrees = record {
      same = λ d x body old stage was read once. same_again d x body old stage was read once;
      left = λ d x y read apart once. left_for_good d x y read apart once;
      decided = λ r a x was read once decided. decided_again r a x was read once decided;
      gone = λ r a x read once. gone_for_good r a x read once;
    }
