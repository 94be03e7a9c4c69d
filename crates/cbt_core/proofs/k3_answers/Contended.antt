-- A document that changed hands at each of nine readings was changed by others eight times.
use Rattle.std.proofs.Common.{◌≡◌, ◌≢◌, ℕ, zero, suc, ◌<◌, ◌≤◌, ◌⊎◌, inl, inr, ⊎_elim, List, length, Option, Some, None, Result, Ok, Err, refl, sym, ap, ◌∙◌, subst, arith}
use Rattle.std.proofs.lemmas.Option.{none-some, slice_get_within}
use Rattle.cbt_json.specs.declared.value.Json.{Json}
use Rattle.cbt_expr.specs.Values.{value_of}
use Rattle.cbt_expr.specs.declared.plans.Op.{Op}
use Rattle.cbt_expr.specs.declared.plans.Op.TheVariants as op
use Rattle.cbt_model.specs.History.{own, made_at, TakesEffect}
use Rattle.cbt_model.specs.Table.{touches_doc}
use Rattle.cbt_model.specs.declared.documents.DocState.{DocState}
use Rattle.cbt_model.specs.declared.documents.OpKind.{OpKind}
use Rattle.cbt_model.specs.declared.documents.OpKind.TheVariants.{Insert, Replace}
use Rattle.cbt_model.specs.declared.documents.Stage.{Stage}
use Rattle.cbt_model.specs.declared.entries.Entry.{Entry}
use Rattle.cbt_model.specs.declared.entries.EntryState.TheVariants.{Committed}
use Rattle.cbt_model.specs.declared.events.Event.{Event}
use Rattle.cbt_model.specs.declared.events.Made.{Made}
use Rattle.cbt_model.specs.declared.states.State.{State}
use Rattle.cbt_model.specs.declared.steps.Step.{Step}
use Rattle.cbt_book.specs.OwnLists.{In, is_within, during, Descends}
use Rattle.cbt_book.specs.Shown.{ReadsDoc, ReadsEntry, FindsNoEntry}
use Rattle.cbt_book.specs.Outcomes.{ChangesHands, IsContended, once, again}
use Rattle.cbt_book.specs.declared.book.Book.{Book}
use Rattle.cbt_book.specs.declared.operations.OpAnswer.TheVariants as answer
use Rattle.cbt_book.specs.declared.operations.Span.{Span}
use Rattle.cbt_core.specs.Laws.{ChangedByOthers, unchanged, changed, ContendedByOthers}
use Rattle.cbt_core.specs.OpAnswers.{Answered}
use Rattle.cbt_core.specs.Right.{doc_of}
use Rattle.cbt_core.specs.Runs.{IsLegalRun, LogsFollow, own_of}
use Rattle.cbt_core.specs.Walk.{AttemptTerms, Sofar, Writes, request_of, content_of}
use Rattle.cbt_core.specs.declared.case.Case.{Case}
use Rattle.cbt_core.proofs.interleaving.Answers.{doc_told}
use Rattle.cbt_core.proofs.logs.Calls.{during_in, in_during, own_in, filter_descends}
use Rattle.cbt_core.proofs.interleaving.Documents.{doc_then, DocGoes, stays, is_staged_new, is_staged, is_unstaged, doc_goes, TakesOff, by_publish, by_delete, by_unstick}
use Rattle.cbt_core.proofs.interleaving.Entries.{none_below}
use Rattle.cbt_core.proofs.logs.Index.{op_of_run}
use Rattle.cbt_core.proofs.runs.Lawful.{Lawful}
use Rattle.cbt_core.proofs.runs.Past.{some_same, below_next, in_at, Member, own_descends}

off_touches : (d : List ℕ) (y : ℕ) (before now : Option Json) (st : Step) → TakesOff d y before now st → touches_doc st ≡ Some d
off_touches d y before now st (by_publish body is made) = ap touches_doc is
off_touches d y before now st (by_delete is made) = ap touches_doc is
off_touches d y before now st (by_unstick is made) = ap touches_doc is

-- the calls of such readings touch no document
reads_only : (d : List ℕ) (n x : ℕ) (stage : Stage) (l : List Made) (m : Made) → ChangesHands d n x stage l → In m l → touches_doc m.step ≡ None
reads_only d n x stage l m (once x2 stage2 c body read) there =
    ⊎_elim (λ (same : m ≡ c). ap (λ (k : Made). touches_doc k.step) same ∙ ap touches_doc read.0) (λ (none : ⊥). absurd none) there
reads_only d n x stage l m (again k x2 y old stage2 c asked older body read apart answered before) there =
    ⊎_elim (λ (same : m ≡ c). ap (λ (q : Made). touches_doc q.step) same ∙ ap touches_doc read.0)
    (λ (rest : (m ≡ asked) ⊎ In m older).
    ⊎_elim (λ (same : m ≡ asked). ap (λ (q : Made). touches_doc q.step) same ∙ entry_read answered) (λ (past : In m older). reads_only d k x2 old older m before past) rest) there
  where
    entry_read : ((e : Entry) × ReadsEntry old.atr old.attempt e asked × (e.state ≡ Committed)) ⊎ FindsNoEntry old.atr old.attempt asked → touches_doc asked.step ≡ None
    entry_read told = ⊎_elim (λ it. ap touches_doc it.1.0) (λ it. ap touches_doc it.0) told

module _ (s0 : State) (h : List Event) (lawful : Lawful s0 h) where
  -- between two places at which a document differs, an event changed it
  pub record ChangeBetween (d : List ℕ) (i j : ℕ) : Type 0 where
    pub place : ℕ
    pub event : Event
    pub from : i ≤ place
    pub before : place < j
    pub takes : TakesEffect s0 h place event
    pub touches : touches_doc event.step ≡ Some d

  change_next : (d : List ℕ) (i j : ℕ) → i ≤ j → doc_then s0 h lawful i d ≢ doc_then s0 h lawful (suc j) d → DocGoes s0 h lawful d j
      → (doc_then s0 h lawful i d ≢ doc_then s0 h lawful j d → ChangeBetween d i j) → ChangeBetween d i (suc j)
  change_next d i j low apart (stays same) ih =
      let it = ih (λ q. apart (q ∙ sym same)) in record { place = it.place; event = it.event; from = it.from; before = (let b = it.before in omega arith); takes = it.takes; touches = it.touches }
  change_next d i j low apart (is_staged_new e stage z takes is none now cas put body) ih = record { place = j; event = e; from = low; before = omega arith; takes = takes; touches = ap touches_doc is }
  change_next d i j low apart (is_staged e c stage old z takes is at over now cas put body) ih = record { place = j; event = e; from = low; before = omega arith; takes = takes; touches = ap touches_doc is }
  change_next d i j low apart (is_unstaged e c old z takes off at over now cas free) ih =
      record { place = j; event = e; from = low; before = omega arith; takes = takes; touches = off_touches d c old.body z.body e.step off }

  pub change_between : (d : List ℕ) (i j : ℕ) → i ≤ j → doc_then s0 h lawful i d ≢ doc_then s0 h lawful j d → ChangeBetween d i j
  change_between d i zero low apart = absurd (apart (ap (λ k. doc_then s0 h lawful k d) (none_below i low)))
  change_between d i (suc j) low apart =
      ⊎_elim (λ (l : i < suc j). change_next d i j (omega arith) apart (doc_goes s0 h lawful j d) (λ other. change_between d i j (omega arith) other))
      (λ (s : i ≡ suc j). absurd (apart (ap (λ k. doc_then s0 h lawful k d) s))) (below_next i (suc j) (omega arith))

  module _ (actor : ℕ) (span : Span) (d : List ℕ) (reads : (m : Made) → In m (during span (own s0 h actor (length h))) → touches_doc m.step ≡ None) where
    abbrev calls : List Made
    calls = during span (own s0 h actor (length h))

    member : (m : Made) → In m calls → Member s0 h m actor (length h)
    member m there = in_at s0 h m actor (length h) (during_in span m (own s0 h actor (length h)) there).there

    place_of : (m : Made) (there : In m calls) → m.answer.place ≡ (member m there).place
    place_of m there = ap (λ (n : Made). n.answer.place) (member m there).made

    -- the newest of such readings, with the changes before it
    record Newest (n x : ℕ) (l : List Made) : Type 0 where
      pub call : Made
      pub there : In call l
      pub doc : DocState
      pub doc_is : doc_then s0 h lawful call.answer.place d ≡ Some doc
      pub cas : doc.cas ≡ x
      pub count : ℕ
      pub n_is : n ≡ suc count
      pub changes : ChangedByOthers s0 h actor d span.from count call.answer.place

    -- what was read at a call
    shown_at : (m : Made) (x : ℕ) (body : Option Json) (stage : Option Stage) → In m calls → ReadsDoc d x body stage m → (doc : DocState) × (doc_then s0 h lawful m.answer.place d ≡ Some doc) × (doc.cas ≡ x)
    shown_at m x body stage there read =
        let it = member m there in
        let doc = doc_told s0 h it.place it.event d x body stage (ap (λ (n : Made). n.step) (sym it.made) ∙ read.0) (ap (λ (n : Made). n.answer.reply) (sym it.made) ∙ read.1) in
        (doc.doc, subst (λ k. doc_then s0 h lawful k d ≡ Some doc.doc) (sym (place_of m there)) doc.there, doc.cas)

    -- no own call of the span changes the document
    by_other : (k : ℕ) (e : Event) → TakesEffect s0 h k e → touches_doc e.step ≡ Some d → span.from ≤ k → k < span.to → e.actor ≢ actor
    by_other k e takes touches low high by =
        let there = in_during span (made_at s0 h k e) (own s0 h actor (length h)) (own_in s0 h actor (length h) k e (slice_get_within h k e takes.event) takes.event by) low high in
        none-some d (sym (reads (made_at s0 h k e) there) ∙ touches)

    newest : (n x : ℕ) (stage : Stage) (l : List Made) → ((m : Made) → In m l → In m calls) → Descends l → ChangesHands d n x stage l → Newest n x l
    newest n x stage l within falls (once x2 stage2 m body read) =
        let it = shown_at m x2 body (Some stage2) (within m (inl refl)) read in
        record {
          call = m;
          there = inl refl;
          doc = it.0;
          doc_is = it.1;
          cas = it.2;
          count = 0;
          n_is = refl;
          changes = unchanged m.answer.place (during_in span m (own s0 h actor (length h)) (within m (inl refl))).low;
        }
    newest n x stage l within falls (again k x2 y old stage2 m asked older body read apart answered before) =
        let it = shown_at m y body (Some stage2) (within m (inl refl)) read in
        let last = newest k x2 old older (λ c there. within c (inr (inr there))) falls.1.1 before in
        let lower = falls.0 last.call (inr last.there) in
        let change = change_between d last.call.answer.place m.answer.place (omega arith)
        (λ same. apart (sym it.2 ∙ ap (λ (z : DocState). z.cas) (some_same (sym it.1 ∙ sym same ∙ last.doc_is)) ∙ last.cas)) in
        let low = (during_in span last.call (own s0 h actor (length h)) (within last.call (inr (inr last.there)))).low in
        let high = (during_in span m (own s0 h actor (length h)) (within m (inl refl))).high in
        let from = change.from in let upto = change.before in
        record {
          call = m;
          there = inl refl;
          doc = it.0;
          doc_is = it.1;
          cas = it.2;
          count = suc last.count;
          n_is = ap (λ (c : ℕ). suc c) last.n_is;
          changes = changed last.count change.place m.answer.place change.event (later last.count last.call.answer.place change.place from last.changes) upto change.takes change.touches
              (by_other change.place change.event change.takes change.touches (omega arith) (omega arith));
        }
      where
        later : (c i j : ℕ) → i ≤ j → ChangedByOthers s0 h actor d span.from c i → ChangedByOthers s0 h actor d span.from c j
        later c i j low (unchanged to from) = unchanged j (omega arith)
        later c i j low (changed n2 p to f rest below takes touches other) = changed n2 p j f rest (omega arith) takes touches other

    nine : IsContended d calls → ChangedByOthers s0 h actor d span.from 8 span.to
    nine told =
        let it = newest 9 told.0 told.1 calls (λ m there. there) (filter_descends (λ x. is_within span x.answer.place) (own s0 h actor (length h)) (own_descends s0 h actor (length h))) told.2 in
        let high = (during_in span it.call (own s0 h actor (length h)) it.there).high in
        subst (λ c. ChangedByOthers s0 h actor d span.from c span.to) (eight it.count it.n_is) (to_end it.count it.call.answer.place high it.changes)
      where
        eight : (c : ℕ) → 9 ≡ suc c → c ≡ 8
        eight c is = omega arith

        to_end : (c i : ℕ) → i < span.to → ChangedByOthers s0 h actor d span.from c i → ChangedByOthers s0 h actor d span.from c span.to
        to_end c i high (unchanged to from) = unchanged span.to (omega arith)
        to_end c i high (changed n p to f rest below takes touches other) = changed n p span.to f rest (omega arith) takes touches other

by_value : (t : AttemptTerms) (l : List Made) (so : Sofar) (d : List ℕ) (kind : OpKind) (v : Result Json ℕ) (made : List Made) → Answered t l so (Writes d kind (content_of v)) made answer.Contended → IsContended d made
by_value t l so d kind (Ok value) made told = told.1
by_value t l so d kind (Err part) made told = absurd told

contended_at : (t : AttemptTerms) (l : List Made) (so : Sofar) (o : Op) (made : List Made) → Answered t l so (request_of so.bound o) made answer.Contended → IsContended (doc_of o) made
contended_at t l so (op.Get d name) made told = told.1
contended_at t l so (op.Insert d value) made told = by_value t l so d Insert (value_of so.bound value) made told
contended_at t l so (op.Replace d value) made told = by_value t l so d Replace (value_of so.bound value) made told
contended_at t l so (op.Remove d) made told = told.1
contended_at t l so (op.Need cond) made told = absurd told

pub contended_by_others : (case : Case) (book : Book) (legal : IsLegalRun case book) (follow : LogsFollow case book) (lawful : Lawful book.kept.opening book.kept.history) → ContendedByOthers case book
contended_by_others case book legal follow lawful client txn try_no n o log so it answered =
    let at = op_of_run case book legal follow client txn try_no n o log so it in
    let made = during log.span (own_of book client) in
    let told = contended_at at.t (own_of book client) so o made (subst (λ a. Answered at.t (own_of book client) so (request_of so.bound o) made a) answered at.follows.answered) in
    nine book.kept.opening book.kept.history lawful client log.span (doc_of o) (λ m there. reads_only (doc_of o) 9 told.0 told.1 made m told.2 there) told
