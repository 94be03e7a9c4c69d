-- A write that was refused met a document that another actor had changed.
use Rattle.std.proofs.Common.{◌≡◌, ◌≢◌, ℕ, suc, ◌<◌, ◌≤◌, true, false, ◌⊎◌, inl, inr, ⊎_elim, List, length, slice_get, Option, Some, None, Result, Ok, Err, refl, sym, ap, ◌∙◌, subst, arith}
use Rattle.std.proofs.lemmas.Bool.{cases_lt}
use Rattle.std.proofs.lemmas.Option.{none-some, slice_get_within}
use Rattle.cbt_json.specs.declared.value.Json.{Json}
use Rattle.cbt_expr.specs.Values.{value_of}
use Rattle.cbt_expr.specs.declared.plans.Op.{Op}
use Rattle.cbt_expr.specs.declared.plans.Op.TheVariants as op
use Rattle.cbt_model.specs.History.{own, made_at, is_done, TakesEffect}
use Rattle.cbt_model.specs.Table.{touches_doc}
use Rattle.cbt_model.specs.declared.documents.OpKind.{OpKind}
use Rattle.cbt_model.specs.declared.documents.OpKind.TheVariants.{Insert, Replace, Remove}
use Rattle.cbt_model.specs.declared.documents.Stage.{Stage}
use Rattle.cbt_model.specs.declared.events.Event.{Event}
use Rattle.cbt_model.specs.declared.events.Made.{Made}
use Rattle.cbt_model.specs.declared.states.State.{State}
use Rattle.cbt_model.specs.declared.steps.Expect.{Expect}
use Rattle.cbt_model.specs.declared.steps.Expect.TheVariants as expect
use Rattle.cbt_model.specs.declared.steps.Reply.TheVariants as reply
use Rattle.cbt_model.specs.declared.steps.Step.{Step}
use Rattle.cbt_model.specs.declared.steps.Step.TheVariants as step
use Rattle.cbt_book.specs.OwnLists.{Once, Each, In, is_within, during, Descends}
use Rattle.cbt_book.specs.ReadAt.{Reading, IsReadAt}
use Rattle.cbt_book.specs.ReadAt as ways
use Rattle.cbt_book.specs.Shown.{ReadsDoc, FindsNoDoc, ReadsEntry, FindsNoEntry, StagesAt}
use Rattle.cbt_book.specs.Spans.{IsSpan, HasEnds}
use Rattle.cbt_book.specs.Spans as spans
use Rattle.cbt_book.specs.Outcomes.{expected, is_refusal}
use Rattle.cbt_book.specs.Calls.{MayWrite, WriteCalls, writes_doc}
use Rattle.cbt_book.specs.declared.book.Book.{Book}
use Rattle.cbt_book.specs.declared.operations.OpAnswer.TheVariants as answer
use Rattle.cbt_book.specs.declared.operations.OpLog.{OpLog}
use Rattle.cbt_book.specs.declared.operations.Span.{Span}
use Rattle.cbt_book.specs.declared.operations.When.{When}
use Rattle.cbt_core.specs.Laws.{TellsCas, found_none, by_reading, by_staging, expects, MovedInBetween, MovedByOther}
use Rattle.cbt_core.specs.OpAnswers.{StandsOn, StagesOver, TakesBack, HasCas, IsMoved, Answered}
use Rattle.cbt_core.specs.OpAnswers as operations
use Rattle.cbt_core.specs.OpCalls.{OpCalls, write_terms}
use Rattle.cbt_core.specs.Right.{IsAnswer, doc_of}
use Rattle.cbt_core.specs.Runs.{IsLegalRun, LogsFollow, own_of}
use Rattle.cbt_core.specs.Walk.{AttemptTerms, Sofar, OwnWrite, Writes, request_of, content_of}
use Rattle.cbt_core.specs.declared.case.Case.{Case}
use Rattle.cbt_core.proofs.interleaving.Answers.{doc_told, no_doc_told, done_told, effect_told, Meets, stage_refused_told, unstick_not_met_told}
use Rattle.cbt_core.proofs.logs.Before.{op_here, noted_before, none_failed_yet, early_writes, from_at, write_touches}
use Rattle.cbt_core.proofs.logs.Calls.{during_in, in_during, after_gap, own_in, each_of, some_call, call_once, filter_descends}
use Rattle.cbt_core.proofs.k3_answers.Contended.{ChangeBetween, change_between}
use Rattle.cbt_core.proofs.interleaving.Documents.{doc_then, after_stage}
use Rattle.cbt_core.proofs.logs.Index.{OpOf}
use Rattle.cbt_core.proofs.runs.Lawful.{Lawful}
use Rattle.cbt_core.proofs.logs.Noted.{WritesDone, IsNoted}
use Rattle.cbt_core.proofs.runs.Past.{some_same, one_event, Order, first, equal, after as later_one, order, in_at, Member, own_descends}
use Rattle.cbt_core.proofs.k3_answers.Readings.{found_at}

-- a reading of a document has a call that told what a write over it expects
record Told (d : List ℕ) (ex : Expect) (l : List Made) : Type 0 where
  pub call : Made
  pub there : In call l
  pub reads : call.step ≡ step.ReadDoc d
  pub tells : TellsCas d call ex

by_doc : (d : List ℕ) (it : Reading) (l : List Made) (m : Made) (x : ℕ) (body : Option Json) (stage : Option Stage) → it.cas ≡ Some x → In m l → ReadsDoc d x body stage m → Told d (expected it.cas) l
by_doc d it l m x body stage cas there read =
    record { call = m; there = there; reads = read.0; tells = subst (λ e. TellsCas d m e) (sym (ap expected cas)) (by_reading x body stage read) }

told_by : (d : List ℕ) (it : Reading) (l : List Made) → Descends l → IsReadAt d it l → Told d (expected it.cas) l
told_by d it l falls (ways.absent value cas by gone once) =
    let m = some_call (λ m. (m.answer.place ≡ it.moment) × FindsNoDoc d m) l once in
    record { call = m.0; there = m.1; reads = m.2.1.0; tells = subst (λ e. TellsCas d m.0 e) (sym (ap expected cas)) (found_none m.2.1) }
told_by d it l falls (ways.unstaged x cas by gone once) =
    let m = some_call (λ m. (m.answer.place ≡ it.moment) × ReadsDoc d x it.value None m) l once in by_doc d it l m.0 x it.value None cas m.1 m.2.1
told_by d it l falls (ways.uncommitted x stage e cas by gone apart once) =
    let f = found_at (λ m before. ReadsEntry stage.atr stage.attempt e m × Once (λ n _. (n.answer.place ≡ it.moment) × ReadsDoc d x it.value (Some stage) n) before) l falls once in
    let m = some_call (λ n. (n.answer.place ≡ it.moment) × ReadsDoc d x it.value (Some stage) n) f.past f.holds.1 in
    by_doc d it l m.0 x it.value (Some stage) cas (f.older m.0 m.1).0 m.2.1
told_by d it l falls (ways.committed x stage e cas by gone value state once) =
    let f = found_at (λ m before. ((body : Option Json) × (again : Option Stage) × ReadsDoc d x body again m)
    × Once (λ n earlier. (n.answer.place ≡ it.moment) × ReadsEntry stage.atr stage.attempt e n
    × Once (λ k _. (body : Option Json) × ReadsDoc d x body (Some stage) k) earlier) before) l falls once in
    by_doc d it l f.call x f.holds.0.0 f.holds.0.1 cas f.there f.holds.0.2
told_by d it l falls (ways.dead x stage cas by gone once) =
    let f = found_at (λ m before. (m.answer.place ≡ it.moment) × ((again : Option Stage) × ReadsDoc d x it.value again m)
    × Once (λ n earlier. FindsNoEntry stage.atr stage.attempt n
    × Once (λ k _. (body : Option Json) × ReadsDoc d x body (Some stage) k) earlier) before) l falls once in
    by_doc d it l f.call x it.value f.holds.1.0 cas f.there f.holds.1.1

-- an operation that was answered Moved, as a write
record MovedWrite (t : AttemptTerms) (l : List Made) (so : Sofar) (d : List ℕ) (calls : List Made) : Type 0 where
  pub kind : OpKind
  pub content : Option Json
  pub moved : IsMoved t l so d kind content calls
  pub may : WriteCalls (write_terms t) d calls

by_value : (t : AttemptTerms) (l : List Made) (so : Sofar) (d : List ℕ) (kind : OpKind) (v : Result Json ℕ) (calls : List Made) → Answered t l so (Writes d kind (content_of v)) calls answer.Moved
    → OpCalls t so (Writes d kind (content_of v)) calls → MovedWrite t l so d calls
by_value t l so d kind (Ok value) calls told may = record { kind = kind; content = Some value; moved = told; may = may.0 }
by_value t l so d kind (Err part) calls told may = absurd told

moved_write : (t : AttemptTerms) (l : List Made) (so : Sofar) (o : Op) (calls : List Made) → Answered t l so (request_of so.bound o) calls answer.Moved → OpCalls t so (request_of so.bound o) calls
    → MovedWrite t l so (doc_of o) calls
moved_write t l so (op.Get d name) calls told may = absurd told
moved_write t l so (op.Insert d value) calls told may = by_value t l so d Insert (value_of so.bound value) calls told may
moved_write t l so (op.Replace d value) calls told may = by_value t l so d Replace (value_of so.bound value) calls told may
moved_write t l so (op.Remove d) calls told may = record { kind = Remove; content = None; moved = told; may = may.0 }
moved_write t l so (op.Need cond) calls told may = absurd told

no_true : false ≡ true → ⊥
no_true same = cc

no_call_failed : (place : ℕ) → answer.Moved ≡ answer.CallFailed place → ⊥
no_call_failed place same = cc

module _ (s0 : State) (h : List Event) (lawful : Lawful s0 h) (client : ℕ) where
  abbrev l : List Made
  l = own s0 h client (length h)

  -- from some place on the document was as the call at place i told, and what changed it since then came later than the call
  record StoodFrom (d : List ℕ) (ex : Expect) (i : ℕ) : Type 0 where
    pub start : ℕ
    pub low : start ≤ suc i
    pub met : Meets ex (doc_then s0 h lawful start d)
    pub later : (k : ℕ) (e : Event) → TakesEffect s0 h k e → touches_doc e.step ≡ Some d → start ≤ k → i < k

  reads_not : (d : List ℕ) (i k : ℕ) (e f : Event) → slice_get h i ≡ Some f → f.step ≡ step.ReadDoc d → TakesEffect s0 h k e → touches_doc e.step ≡ Some d → i ≤ k → i < k
  reads_not d i k e f at reads takes touches low = go (order i k)
    where
      go : Order i k → i < k
      go (first up) = up
      go (equal same) = absurd (none-some d (sym (ap touches_doc reads) ∙ ap (λ (x : Event). touches_doc x.step) (one_event h k f e (subst (λ n. slice_get h n ≡ Some f) same at) takes.event) ∙ touches))
      go (later_one down) = absurd (omega arith)

  stood_from : (d : List ℕ) (m : Made) (ex : Expect) (it : Member s0 h m client (length h)) → TellsCas d m ex → StoodFrom d ex it.place
  stood_from d m ex it (found_none none) =
      let st = ap (λ (n : Made). n.step) (sym it.made) ∙ none.0 in
      record {
        start = it.place;
        low = omega arith;
        met = no_doc_told s0 h it.place it.event d st (ap (λ (n : Made). n.answer.reply) (sym it.made) ∙ none.1);
        later = λ k e takes touches low. reads_not d it.place k e it.event it.is st takes touches low;
      }
  stood_from d m ex it (by_reading x body stage read) =
      let st = ap (λ (n : Made). n.step) (sym it.made) ∙ read.0 in
      let doc = doc_told s0 h it.place it.event d x body stage st (ap (λ (n : Made). n.answer.reply) (sym it.made) ∙ read.1) in
      record { start = it.place; low = omega arith; met = (doc.doc, doc.there, doc.cas); later = λ k e takes touches low. reads_not d it.place k e it.event it.is st takes touches low }
  stood_from d m ex it (by_staging x stage staged) =
      let done = done_told s0 h it.place it.event x it.is (ap (λ (n : Made). n.answer.reply) (sym it.made) ∙ staged.2) in
      let doc = after_stage s0 h lawful it.place d it.event staged.0 stage done.0 (ap (λ (n : Made). n.step) (sym it.made) ∙ staged.1) in
      record { start = suc it.place; low = omega arith; met = (doc.doc, doc.there, doc.cas ∙ sym done.1); later = λ k e takes touches low. omega arith }

  -- a write that was refused did not meet what it expected
  not_met : (d : List ℕ) (m : Made) (ex : Expect) (it : Member s0 h m client (length h)) → expects m.step ≡ Some (d, ex) → is_refusal m.answer.reply ≡ true → Meets ex (doc_then s0 h lawful it.place d) → ⊥
  not_met d m ex it writes refused = go m.step (ap (λ (n : Made). n.step) (sym it.made)) writes
    where
      answered : is_refusal (made_at s0 h it.place it.event).answer.reply ≡ true
      answered = ap (λ (n : Made). is_refusal n.answer.reply) (sym it.made) ∙ refused

      same_doc : (p q : List ℕ) (e f : Expect) → ◌≡◌ {A = Option (List ℕ × Expect)} (Some (p, e)) (Some (q, f)) → (p ≡ q) × (e ≡ f)
      same_doc p q e f same = (ap (λ (w : List ℕ × Expect). w.0) (some_same same), ap (λ (w : List ℕ × Expect). w.1) (some_same same))

      go : (st : Step) → it.event.step ≡ st → expects st ≡ Some (d, ex) → Meets ex (doc_then s0 h lawful it.place d) → ⊥
      go (step.Stage p e stage) is writes2 met =
          let same = same_doc p d e ex writes2 in stage_refused_told s0 h it.place it.event d ex stage (is ∙ ap (λ q. step.Stage q e stage) same.0 ∙ ap (λ q. step.Stage d q stage) same.1) answered met
      go (step.Unstick p x) is writes2 met =
          let same = same_doc p d (expect.Cas x) ex writes2 in
          unstick_not_met_told s0 h it.place it.event d x (is ∙ ap (λ q. step.Unstick q x) same.0) answered (subst (λ e. Meets e (doc_then s0 h lawful it.place d)) (sym same.1) met)
      go _ is writes2 met = none-some (d, ex) writes2

  -- an own call told what a later one expected in vain, and the client did not change the document in between: another actor did
  moved_between : (d : List ℕ) (attempt operation : Span) (told refused : Made) (ex : Expect) → In told (during attempt l) → In refused (during operation l) → operation.to ≡ suc refused.answer.place
      → TellsCas d told ex → expects refused.step ≡ Some (d, ex) → is_refusal refused.answer.reply ≡ true → told.answer.place < refused.answer.place
      → ((n : Made) → In n l → told.answer.place < n.answer.place → n.answer.place < refused.answer.place → n.answer.reply ≢ reply.Failed)
      → ((n : Made) → In n l → told.answer.place < n.answer.place → n.answer.place < refused.answer.place → touches_doc n.step ≡ Some d → is_done n.answer.reply ≡ true → ⊥)
      → MovedInBetween s0 h client d attempt operation
  moved_between d attempt operation told refused ex told_in refused_in newest tells writes vain below unfailed none = record {
    told = told;
    told_in = told_in;
    refused = refused;
    refused_in = refused_in;
    newest = newest;
    expected = ex;
    tells = tells;
    writes = writes;
    refusal = vain;
    place = change.place;
    event = change.event;
    after = subst (λ i. i < change.place) (sym i_is) (stood.later change.place change.event change.takes change.touches change.from);
    before = subst (λ j. change.place < j) (sym j_is) change.before;
    takes = change.takes;
    touches = change.touches;
    others = λ k e low high takes touches by. own_not k e low high takes touches by;
  }
    where
      from : Member s0 h told client (length h)
      from = in_at s0 h told client (length h) (during_in attempt told l told_in).there

      upto : Member s0 h refused client (length h)
      upto = in_at s0 h refused client (length h) (during_in operation refused l refused_in).there

      i_is : told.answer.place ≡ from.place
      i_is = ap (λ (n : Made). n.answer.place) from.made

      j_is : refused.answer.place ≡ upto.place
      j_is = ap (λ (n : Made). n.answer.place) upto.made

      stood : StoodFrom d ex from.place
      stood = stood_from d told ex from tells

      change : ChangeBetween s0 h lawful d stood.start upto.place
      change =
          change_between s0 h lawful d stood.start upto.place (let a = stood.low in let b = i_is in let c = j_is in omega arith)
          (λ same. not_met d refused ex upto writes vain (subst (λ o. Meets ex o) same stood.met))

      own_not : (k : ℕ) (e : Event) → told.answer.place < k → k < refused.answer.place → TakesEffect s0 h k e → touches_doc e.step ≡ Some d → e.actor ≢ client
      own_not k e low high takes touches by =
          let there = own_in s0 h client (length h) k e (slice_get_within h k e takes.event) takes.event by in
          ⊎_elim (λ done. none (made_at s0 h k e) there low high touches (ap is_done done)) (λ failed. absurd (unfailed (made_at s0 h k e) there low high failed)) (effect_told s0 h k e takes)

module _ (case : Case) (book : Book) (legal : IsLegalRun case book) (follow : LogsFollow case book) (lawful : Lawful book.kept.opening book.kept.history)
    (client txn try_no n : ℕ) (o : Op) (log : OpLog) (so : Sofar) (it : IsAnswer case book client txn try_no n o log so) (answered : log.answer ≡ answer.Moved) where
  abbrev own_list : List Made
  own_list = own_of book client

  abbrev d : List ℕ
  d = doc_of o

  abbrev made : List Made
  made = during log.span own_list

  abbrev here : OpOf case book legal follow client txn try_no it.plan it.attempt o log so
  here = op_here case book legal follow client txn try_no n o log so it

  write : MovedWrite here.t own_list so d made
  write = moved_write here.t own_list so o made (subst (λ a. Answered here.t own_list so (request_of so.bound o) made a) answered here.follows.answered) here.follows.calls

  abbrev newest : Made
  newest = write.moved.newest

  abbrev older : List Made
  older = write.moved.older

  falls : Descends made
  falls = filter_descends (λ x. is_within log.span x.answer.place) own_list (own_descends book.kept.opening book.kept.history client (length book.kept.history))

  older_below : (m : Made) → In m older → m.answer.place < newest.answer.place
  older_below = (subst (λ c. Descends c) write.moved.calls_are falls).0

  newest_in : In newest made
  newest_in = subst (λ c. In newest c) (sym write.moved.calls_are) (inl refl)

  one_of : (m : Made) → In m made → (m ≡ newest) ⊎ In m older
  one_of m there = subst (λ c. In m c) write.moved.calls_are there

  ends : log.span.to ≡ suc newest.answer.place
  ends = go here.follows.spanned.ends
    where
      high : newest.answer.place < log.span.to
      high = (during_in log.span newest own_list newest_in).high

      low : here.at ≤ newest.answer.place
      low = let a = (during_in log.span newest own_list newest_in).low in let b = here.follows.spanned.follows in omega arith

      below : (m : Made) → (m ≡ newest) ⊎ In m older → m.answer.place ≤ newest.answer.place
      below m there =
          ⊎_elim (λ (same : m ≡ newest). subst (λ (x : Made). x.answer.place ≤ newest.answer.place) (sym same) (omega arith))
          (λ (past : In m older). let b = older_below m past in omega arith) there

      go : HasEnds here.at log.span made → log.span.to ≡ suc newest.answer.place
      go (spans.without_calls from to) = absurd (let a = low in let b = high in omega arith)
      go (spans.with_calls front last in_front in_last from to) = let a = high in let b = below last (one_of last in_last) in omega arith

  told_before : IsNoted here.t own_list here.from here.at so
  told_before = noted_before case book legal follow client txn try_no n o log so it

  -- a call since the operation's begin and before its newest does not change the document
  here_none : (m : Made) → In m own_list → here.at ≤ m.answer.place → m.answer.place < newest.answer.place → touches_doc m.step ≡ Some d → ⊥
  here_none m there low high touches = go (one_of m in_made)
    where
      in_made : In m made
      in_made = in_during log.span m own_list there (after_gap own_list here.at log.span m here.follows.spanned there low) (let e = ends in omega arith)

      go : (m ≡ newest) ⊎ In m older → ⊥
      go (inl same) = absurd (let p : m.answer.place ≡ newest.answer.place = ap (λ (x : Made). x.answer.place) same in omega arith)
      go (inr past) =
          (subst (λ c. Each (λ x before. ¬ Once (λ y _. writes_doc y.step ≡ true) before) c) write.moved.calls_are write.may.written_last).0
          (call_once (λ y. writes_doc y.step ≡ true) older m past (write_touches (write_terms here.t) d d m m.step refl (each_of (λ x. MayWrite (write_terms here.t) d x.step) made m write.may.only in_made) touches).0)

  no_failure : (place : ℕ) → log.answer ≢ answer.CallFailed place
  no_failure place same = no_call_failed place (sym answered ∙ same)

  unfailed : (m : Made) → In m own_list → here.from ≤ m.answer.place → m.answer.place < newest.answer.place → m.answer.reply ≢ reply.Failed
  unfailed m there low high = none_failed_yet case book legal follow client txn try_no n o log so it no_failure m there low (let e = ends in omega arith)

  moved_since : (told : Made) (ex : Expect) → In told own_list → here.from ≤ told.answer.place → told.answer.place < newest.answer.place → TellsCas d told ex → expects newest.step ≡ Some (d, ex)
      → ((m : Made) → In m own_list → told.answer.place < m.answer.place → m.answer.place < here.at → WritesDone d m → ⊥)
      → MovedInBetween book.kept.opening book.kept.history client d it.attempt.span log.span
  moved_since told ex there low below tells writes none =
      moved_between book.kept.opening book.kept.history lawful client d it.attempt.span log.span told newest ex in_attempt newest_in ends tells writes write.moved.refused below
      (λ m m_there after before. unfailed m m_there (omega arith) before)
      (λ m m_there after before touches done.
      ⊎_elim (λ (early : m.answer.place < here.at). none m m_there after early (early_writes case book legal follow client txn try_no n o log so it d m m_there (omega arith) early touches done))
      (λ (late : here.at ≤ m.answer.place). here_none m m_there late before touches) (cases_lt m.answer.place here.at))
    where
      in_attempt : In told (during it.attempt.span own_list)
      in_attempt =
          in_during it.attempt.span told own_list there (after_gap own_list here.from it.attempt.span told here.attempt_follows.spanned there low) (let e = ends in let w = here.within in omega arith)

  -- the write stood on a reading
  over_reading : (it_read : Reading) (stage : Stage) → so.own d ≡ None → StandsOn own_list so d write.kind it_read made → newest.step ≡ step.Stage d (expected it_read.cas) stage
      → MovedInBetween book.kept.opening book.kept.history client d it.attempt.span log.span
  over_reading it_read stage free (operations.on_earlier last last_is agrees read value moment) st =
      let since = told_before.read d last free last_is in
      let told = told_by d it_read (during last.span own_list) (filter_descends (λ x. is_within last.span x.answer.place) own_list (own_descends book.kept.opening book.kept.history client (length book.kept.history))) read in
      let inside = during_in last.span told.call own_list told.there in
      let within = during_in log.span newest own_list newest_in in
      let begins = here.follows.spanned.follows in
      let a = since.low in let b = since.high in let c = inside.low in let e = inside.high in let f = within.low in
      moved_since told.call (expected it_read.cas) inside.there (omega arith) (omega arith) told.tells (ap expects st) (λ m there after before writes. since.unwritten m there (omega arith) before writes)
  over_reading it_read stage free (operations.on_own apart read agrees) st =
      let told = told_by d it_read made falls read in
      let inside = during_in log.span told.call own_list told.there in
      let begins = here.follows.spanned.follows in
      let low = inside.low in
      moved_since told.call (expected it_read.cas) inside.there (let f = from_at case book legal follow client txn try_no n o log so it in omega arith) (below told.call told.reads (one_of told.call told.there)) told.tells (ap expects st)
      (λ m there after before writes. absurd (omega arith))
    where
      differ : (q : List ℕ) (ex : Expect) (stage : Stage) → step.ReadDoc q ≡ step.Stage q ex stage → ⊥
      differ q ex stage same = cc

      below : (m : Made) → m.step ≡ step.ReadDoc d → (m ≡ newest) ⊎ In m older → m.answer.place < newest.answer.place
      below m reads (inl same) = absurd (differ d (expected it_read.cas) stage (sym reads ∙ ap (λ (x : Made). x.step) same ∙ st))
      below m reads (inr past) = older_below m past

  -- the write stood on an own write
  over_own : (w : OwnWrite) (x : ℕ) → so.own d ≡ Some w → HasCas own_list d w x → expects newest.step ≡ Some (d, expect.Cas x)
      → MovedInBetween book.kept.opening book.kept.history client d it.attempt.span log.span
  over_own w x own_is cas writes =
      let at = told_before.staged d w own_is in
      let told = some_call (λ m. (m.answer.place ≡ w.place) × ((stage : Stage) × StagesAt d x stage m)) own_list cas in
      let within = during_in log.span newest own_list newest_in in
      let begins = here.follows.spanned.follows in
      let same = at.place_is in let its = told.2.0 in
      let a = at.low in let b = at.high in let f = within.low in
      moved_since told.0 (expect.Cas x) told.1 (omega arith) (omega arith) (by_staging x told.2.1.0 told.2.1.1) writes (λ m there after before done. at.last m there (omega arith) before done)

  moved : MovedInBetween book.kept.opening book.kept.history client d it.attempt.span log.span
  moved = ⊎_elim (λ staged. by_stage staged.0 staged.1) (λ back. over_own back.own back.cas back.own_is back.cas_is (ap expects back.unsticks)) write.moved.writes
    where
      by_stage : (base : When) → StagesOver here.t own_list so d write.kind write.content made base newest.step → MovedInBetween book.kept.opening book.kept.history client d it.attempt.span log.span
      by_stage base (operations.over_reading it_read stage free stands base_is carries st) = over_reading it_read stage free stands st
      by_stage base (operations.over_own w x stage own_is restaged cas base_is carries st) = over_own w x own_is cas (ap expects st)

pub moved_by_other : (case : Case) (book : Book) (legal : IsLegalRun case book) (follow : LogsFollow case book) (lawful : Lawful book.kept.opening book.kept.history) → MovedByOther case book
moved_by_other case book legal follow lawful client txn try_no n o log so it answered = moved case book legal follow lawful client txn try_no n o log so it answered
