-- A write that was blocked was so by an attempt of another transaction.
use Rattle.std.proofs.Common.{◌≡◌, ◌≢◌, ℕ, suc, ◌<◌, ◌≤◌, true, false, inl, inr, ⊎_elim, List, [], ◌∷◌, length, Option, Some, None, Result, Ok, Err, refl, sym, ap, ◌∙◌, subst, arith}
use Rattle.std.proofs.lemmas.Bool.{cases_lt}
use Rattle.std.proofs.lemmas.Option.{none-some}
use Rattle.cbt_json.specs.declared.value.Json.{Json}
use Rattle.cbt_expr.specs.Values.{value_of}
use Rattle.cbt_expr.specs.declared.plans.Op.{Op}
use Rattle.cbt_expr.specs.declared.plans.Op.TheVariants as op
use Rattle.cbt_model.specs.History.{made_at, is_done, TakesEffect}
use Rattle.cbt_model.specs.Table.{touches_doc}
use Rattle.cbt_model.specs.declared.documents.DocState.{DocState}
use Rattle.cbt_model.specs.declared.documents.OpKind.{OpKind}
use Rattle.cbt_model.specs.declared.documents.OpKind.TheVariants.{Insert, Replace, Remove}
use Rattle.cbt_model.specs.declared.documents.Stage.{Stage}
use Rattle.cbt_model.specs.declared.entries.Entry.{Entry}
use Rattle.cbt_model.specs.declared.events.Event.{Event}
use Rattle.cbt_model.specs.declared.events.Made.{Made}
use Rattle.cbt_model.specs.declared.states.State.{State}
use Rattle.cbt_model.specs.declared.steps.Step.TheVariants as step
use Rattle.cbt_book.specs.Numbers.{client_of, txn_of, try_of}
use Rattle.cbt_book.specs.OwnLists.{Once, Each, In, is_within, during, Descends}
use Rattle.cbt_book.specs.ReadAt.{Reading, IsReadAt}
use Rattle.cbt_book.specs.ReadAt as ways
use Rattle.cbt_book.specs.Shown.{ReadsDoc, ReadsEntry, adds}
use Rattle.cbt_book.specs.declared.book.Book.{Book}
use Rattle.cbt_book.specs.declared.clients.AttemptLog.{AttemptLog}
use Rattle.cbt_book.specs.declared.operations.OpAnswer.TheVariants as answer
use Rattle.cbt_book.specs.declared.operations.OpLog.{OpLog}
use Rattle.cbt_book.specs.declared.operations.Span.{Span}
use Rattle.cbt_book.specs.declared.operations.When.{When}
use Rattle.cbt_core.specs.Laws.{IsOfAnother, other_transaction, left_over, BlockedByAnother, leaves_nothing}
use Rattle.cbt_core.specs.OpAnswers.{StandsOn, IsBlocked, Answered}
use Rattle.cbt_core.specs.OpAnswers as operations
use Rattle.cbt_core.specs.Operations.{StandsAt}
use Rattle.cbt_core.specs.Right.{IsAnswer, doc_of}
use Rattle.cbt_core.specs.Runs.{IsLegalRun, LogsFollow, own_of}
use Rattle.cbt_core.specs.Transactions.{IsRetried}
use Rattle.cbt_core.specs.Transactions as transactions
use Rattle.cbt_core.specs.Walk.{AttemptTerms, Sofar, Writes, request_of, content_of}
use Rattle.cbt_core.specs.WriteSets.{attempt_at}
use Rattle.cbt_core.specs.declared.case.Case.{Case}
use Rattle.cbt_core.proofs.interleaving.Answers.{doc_told, entry_told, done_told, effect_told}
use Rattle.cbt_core.proofs.logs.Before.{op_here, noted_before, none_failed_yet, from_at, in_op}
use Rattle.cbt_core.proofs.logs.Calls.{during_in, after_gap, each_of, some_call, in_front, in_back, filter_descends}
use Rattle.cbt_core.proofs.logs.Commits.{Inside, adding, staging, attempt_by, inside_of}
use Rattle.cbt_core.proofs.interleaving.Documents.{doc_then, StagedBy, by_staging, from_first, staged_by}
use Rattle.cbt_core.proofs.k4_cleanup.Ended.{attempts_leave}
use Rattle.cbt_core.proofs.interleaving.Entries.{entry_then, some_of, Came, by_event, at_first, came}
use Rattle.cbt_core.proofs.logs.Index.{OpOf}
use Rattle.cbt_core.proofs.runs.Lawful.{Lawful}
use Rattle.cbt_core.proofs.interleaving.Listed.{changes_it, done_is}
use Rattle.cbt_core.proofs.logs.Noted.{TakenBack, WritesDone}
use Rattle.cbt_core.proofs.k6_once.Once.{one_then_other, back_falls}
use Rattle.cbt_core.proofs.logs.Owners.{AttemptOf}
use Rattle.cbt_core.proofs.runs.Past.{some_same, Order, first, equal, after as later_one, order, in_at, Member, own_descends}
use Rattle.cbt_core.proofs.k3_answers.Readings.{found_at}

-- a call that read a document as staged by an attempt
record StagedRead (d : List ℕ) (a : ℕ) (l : List Made) : Type 0 where
  pub call : Made
  pub there : In call l
  pub cas : ℕ
  pub body : Option Json
  pub stage : Stage
  pub reads : ReadsDoc d cas body (Some stage) call
  pub attempt : stage.attempt ≡ a

none_by : {r a : ℕ} (by : Option (ℕ × ℕ)) → by ≡ None → by ≡ Some (r, a) → ⊥
none_by by none some = none-some _ (sym none ∙ some)

same_attempt : (by : Option (ℕ × ℕ)) (r a q b : ℕ) → by ≡ Some (r, a) → by ≡ Some (q, b) → a ≡ b
same_attempt by r a q b one two = ap (λ (w : ℕ × ℕ). w.1) (some_same (sym one ∙ two))

-- a reading of a staging whose entry it did not find missing
staged_read : (d : List ℕ) (it : Reading) (l : List Made) (r a : ℕ) → Descends l → IsReadAt d it l → it.by ≡ Some (r, a) → it.gone ≡ false → StagedRead d a l
staged_read d it l r a falls (ways.absent value cas by gone once) is there = absurd (none_by it.by by is)
staged_read d it l r a falls (ways.unstaged x cas by gone once) is there = absurd (none_by it.by by is)
staged_read d it l r a falls (ways.uncommitted x stage e cas by gone apart once) is there =
    let f = found_at (λ m before. ReadsEntry stage.atr stage.attempt e m × Once (λ n _. (n.answer.place ≡ it.moment) × ReadsDoc d x it.value (Some stage) n) before) l falls once in
    let m = some_call (λ n. (n.answer.place ≡ it.moment) × ReadsDoc d x it.value (Some stage) n) f.past f.holds.1 in
    record { call = m.0; there = (f.older m.0 m.1).0; cas = x; body = it.value; stage = stage; reads = m.2.1; attempt = same_attempt it.by stage.atr stage.attempt r a by is }
staged_read d it l r a falls (ways.committed x stage e cas by gone value state once) is there =
    let f = found_at (λ m before. ((body : Option Json) × (again : Option Stage) × ReadsDoc d x body again m)
    × Once (λ n earlier. (n.answer.place ≡ it.moment) × ReadsEntry stage.atr stage.attempt e n
    × Once (λ k _. (body : Option Json) × ReadsDoc d x body (Some stage) k) earlier) before) l falls once in
    let g = found_at (λ n earlier. (n.answer.place ≡ it.moment) × ReadsEntry stage.atr stage.attempt e n
    × Once (λ k _. (body : Option Json) × ReadsDoc d x body (Some stage) k) earlier) f.past f.falls f.holds.1 in
    let m = some_call (λ k. (body : Option Json) × ReadsDoc d x body (Some stage) k) g.past g.holds.2 in
    record { call = m.0; there = (f.older m.0 (g.older m.0 m.1).0).0; cas = x; body = m.2.0; stage = stage; reads = m.2.1; attempt = same_attempt it.by stage.atr stage.attempt r a by is }
staged_read d it l r a falls (ways.dead x stage cas by gone once) is there = absurd (differ (sym gone ∙ there))
  where
    differ : true ≡ false → ⊥
    differ same = cc

-- an operation that was answered Blocked, as a write
record BlockedWrite (l : List Made) (so : Sofar) (d : List ℕ) (by : ℕ) (calls : List Made) : Type 0 where
  pub kind : OpKind
  pub blocked : IsBlocked l so d kind by calls

by_value : (t : AttemptTerms) (l : List Made) (so : Sofar) (d : List ℕ) (kind : OpKind) (by : ℕ) (v : Result Json ℕ) (calls : List Made)
    → Answered t l so (Writes d kind (content_of v)) calls (answer.Blocked by) → BlockedWrite l so d by calls
by_value t l so d kind by (Ok value) calls told = record { kind = kind; blocked = told }
by_value t l so d kind by (Err part) calls told = absurd told

blocked_write : (t : AttemptTerms) (l : List Made) (so : Sofar) (by : ℕ) (o : Op) (calls : List Made) → Answered t l so (request_of so.bound o) calls (answer.Blocked by) → BlockedWrite l so (doc_of o) by calls
blocked_write t l so by (op.Get d name) calls told = absurd told
blocked_write t l so by (op.Insert d value) calls told = by_value t l so d Insert by (value_of so.bound value) calls told
blocked_write t l so by (op.Replace d value) calls told = by_value t l so d Replace by (value_of so.bound value) calls told
blocked_write t l so by (op.Remove d) calls told = record { kind = Remove; blocked = told }
blocked_write t l so by (op.Need cond) calls told = absurd told

-- a call that showed the entry
shown_entry : (r a : ℕ) (asked : List Made) → length asked ≡ 4 → Each (λ m _. (e : Entry) × ReadsEntry r a e m) asked → (m : Made) × In m asked × ((e : Entry) × ReadsEntry r a e m)
shown_entry r a [] four all = absurd (omega arith)
shown_entry r a (m ∷ asked) four all = (m, inl refl, all.0)

no_call_failed : (by place : ℕ) → answer.Blocked by ≡ answer.CallFailed place → ⊥
no_call_failed by place same = cc

not_staged : (by place : ℕ) (base : When) → answer.Blocked by ≡ answer.Staged place base → ⊥
not_staged by place base same = cc

retried_leaves : (log : AttemptLog) → IsRetried log → leaves_nothing log.end ≡ true
retried_leaves log (transactions.after_answer end last) = ap leaves_nothing end
retried_leaves log (transactions.after_commits end not) = ap leaves_nothing end
retried_leaves log (transactions.after_loss place end) = ap leaves_nothing end

module _ (case : Case) (book : Book) (legal : IsLegalRun case book) (follow : LogsFollow case book) (lawful : Lawful book.kept.opening book.kept.history)
    (client txn try_no n by : ℕ) (o : Op) (log : OpLog) (so : Sofar) (it : IsAnswer case book client txn try_no n o log so) (answered : log.answer ≡ answer.Blocked by) where
  abbrev s0 : State
  s0 = book.kept.opening

  abbrev h : List Event
  h = book.kept.history

  abbrev own_list : List Made
  own_list = own_of book client

  abbrev d : List ℕ
  d = doc_of o

  abbrev made : List Made
  made = during log.span own_list

  abbrev here : OpOf case book legal follow client txn try_no it.plan it.attempt o log so
  here = op_here case book legal follow client txn try_no n o log so it

  write : BlockedWrite own_list so d by made
  write = blocked_write here.t own_list so by o made (subst (λ a. Answered here.t own_list so (request_of so.bound o) made a) answered here.follows.answered)

  abbrev atr : ℕ
  atr = write.blocked.atr

  -- the calls of a span fall
  span_falls : (span : Span) → Descends (during span own_list)
  span_falls span = filter_descends (λ x. is_within span x.answer.place) own_list (own_descends s0 h client (length h))

  no_failure : (place : ℕ) → log.answer ≢ answer.CallFailed place
  no_failure place same = no_call_failed by place (sym answered ∙ same)

  -- a call of the operation showed the entry
  record EntryShown : Type 0 where
    pub place : ℕ
    pub entry : Entry
    pub low : it.attempt.span.from ≤ place
    pub high : place < it.attempt.span.to
    pub there : entry_then s0 h lawful place (atr, by) ≡ Some entry

  shown : EntryShown
  shown = go (shown_entry atr by write.blocked.asks.asked write.blocked.asks.four write.blocked.asks.shown)
    where
      go : (m : Made) × In m write.blocked.asks.asked × ((e : Entry) × ReadsEntry atr by e m) → EntryShown
      go m =
          let in_made = subst (λ c. In m.0 c) (sym write.blocked.asks.calls_are) (in_front m.0 write.blocked.asks.asked write.blocked.older m.1) in
          let within = during_in log.span m.0 own_list in_made in
          let member = in_at s0 h m.0 client (length h) within.there in
          let place_is = ap (λ (x : Made). x.answer.place) member.made in
          let low = within.low in let high = within.high in
          let from = from_at case book legal follow client txn try_no n o log so it in
          let begins = here.follows.spanned.follows in
          let ends = here.within in
          let front = after_gap own_list here.from it.attempt.span m.0 here.attempt_follows.spanned within.there (omega arith) in
          record {
            place = member.place;
            entry = m.2.0;
            low = omega arith;
            high = omega arith;
            there = entry_told s0 h member.place member.event atr by m.2.0 (ap (λ (x : Made). x.step) (sym member.made) ∙ m.2.1.0) (ap (λ (x : Made). x.answer.reply) (sym member.made) ∙ m.2.1.1);
          }

  -- a reading of the document as staged by that attempt, and after it no write before the operation
  record DocRead : Type 0 where
    pub place : ℕ
    pub doc : DocState
    pub stage : Stage
    pub there : doc_then s0 h lawful place d ≡ Some doc
    pub staged : doc.stage ≡ Some stage
    pub attempt : stage.attempt ≡ by
    pub high : place < log.span.to
    pub unwritten : (m : Made) → In m own_list → place ≤ m.answer.place → m.answer.place < here.at → WritesDone d m → ⊥

  doc_read : (span : Span) → StagedRead d by (during span own_list) → span.to ≤ log.span.to
      → ((m : Made) → In m own_list → span.from ≤ m.answer.place → m.answer.place < here.at → WritesDone d m → ⊥) → DocRead
  doc_read span read high none =
      let within = during_in span read.call own_list read.there in
      let member = in_at s0 h read.call client (length h) within.there in
      let place_is = ap (λ (x : Made). x.answer.place) member.made in
      let low = within.low in let up = within.high in
      let doc =
      doc_told s0 h member.place member.event d read.cas read.body (Some read.stage) (ap (λ (x : Made). x.step) (sym member.made) ∙ read.reads.0) (ap (λ (x : Made). x.answer.reply) (sym member.made) ∙ read.reads.1) in
      record {
        place = member.place;
        doc = doc.doc;
        stage = read.stage;
        there = doc.there;
        staged = doc.stage_is;
        attempt = read.attempt;
        high = omega arith;
        unwritten = λ m there after before writes. none m there (omega arith) before writes;
      }

  read_by : DocRead
  read_by = go write.blocked.stands
    where
      wider : StagedRead d by write.blocked.older → StagedRead d by made
      wider r = record {
        call = r.call;
        there = subst (λ c. In r.call c) (sym write.blocked.asks.calls_are) (in_back r.call write.blocked.asks.asked write.blocked.older r.there);
        cas = r.cas;
        body = r.body;
        stage = r.stage;
        reads = r.reads;
        attempt = r.attempt;
      }

      go : StandsOn own_list so d write.kind write.blocked.it write.blocked.older → DocRead
      go (operations.on_earlier last last_is agrees read value moment) =
          let since = (noted_before case book legal follow client txn try_no n o log so it).read d last write.blocked.own_none last_is in
          let high = since.high in
          doc_read last.span (staged_read d write.blocked.it (during last.span own_list) atr by (span_falls last.span) read write.blocked.staged_by write.blocked.there)
          (let m = shown_in in omega arith) (λ m there after before writes. since.unwritten m there after before writes)
        where
          shown_in : here.at ≤ log.span.to
          shown_in =
              let m = shown_entry atr by write.blocked.asks.asked write.blocked.asks.four write.blocked.asks.shown in
              let within = during_in log.span m.0 own_list (subst (λ c. In m.0 c) (sym write.blocked.asks.calls_are) (in_front m.0 write.blocked.asks.asked write.blocked.older m.1)) in
              let low = within.low in let up = within.high in let begins = here.follows.spanned.follows in omega arith
      go (operations.on_own apart read agrees) =
          let falls = back_falls write.blocked.asks.asked write.blocked.older (subst (λ c. Descends c) write.blocked.asks.calls_are (span_falls log.span)) in
          let begins = here.follows.spanned.follows in
          doc_read log.span (wider (staged_read d write.blocked.it write.blocked.older atr by falls read write.blocked.staged_by write.blocked.there)) (omega arith) (λ m there after before writes. absurd (omega arith))

  module _ (same_client : client_of by ≡ client) (same_txn : txn_of by ≡ txn) (m exp : ℕ) (g : Event) (takes : TakesEffect s0 h m g) (is : g.step ≡ step.AddEntry atr by exp) (before : m < shown.place) where
    -- the attempt that sent the entry, as one of this transaction's
    other : AttemptOf case book legal follow by
    other = attempt_by case book legal follow lawful m by g takes.event (adding atr exp is)

    other_is : attempt_at book.clients client txn (try_of by) ≡ Some other.attempt
    other_is = ap (λ c. attempt_at book.clients c txn (try_of by)) (sym same_client) ∙ ap (λ t. attempt_at book.clients (client_of by) t (try_of by)) (sym same_txn) ∙ other.log_is

    inside : Inside case book legal follow lawful by other m g
    inside = inside_of case book legal follow lawful m by g takes.event (adding atr exp is) other

    sent_from : other.attempt.span.from ≤ m
    sent_from = after_gap (own_of book (client_of by)) other.at other.attempt.span (made_at s0 h m g) other.follows.spanned inside.there inside.low

    -- an earlier attempt has left nothing
    earlier_not : try_of by < try_no → ⊥
    earlier_not low =
        let then = one_then_other case book legal follow lawful client txn (try_of by) try_no other.attempt it.attempt other_is it.attempt_is low in
        let id : other.attempt.id ≡ by = other.follows.id ∙ other.id_is in
        let after = then.1 in let from = shown.low in
        let done = attempts_leave case book legal follow lawful client txn (try_of by) m shown.place other.attempt g other_is (retried_leaves other.attempt then.0) takes.event (ap adds is ∙ ap (λ b. Some b) (sym id)) (omega arith) in
        none-some shown.entry (sym (done.no_entry atr) ∙ ap (λ b. entry_then s0 h lawful shown.place (atr, b)) id ∙ shown.there)

    -- a later one has not begun
    later_not : try_no < try_of by → ⊥
    later_not low =
        let then = one_then_other case book legal follow lawful client txn try_no (try_of by) it.attempt other.attempt it.attempt_is other_is low in
        let after = then.1 in let high = shown.high in let from = sent_from in omega arith

    -- and the attempt itself has not staged the document
    itself_not : try_of by ≡ try_no → ⊥
    itself_not same = go (staged_by s0 h lawful read_by.place d read_by.doc read_by.stage read_by.there read_by.staged)
      where
        same_log : other.attempt ≡ it.attempt
        same_log = some_same (sym other_is ∙ ap (λ k. attempt_at book.clients client txn k) same ∙ it.attempt_is)

        go : StagedBy s0 h lawful d read_by.place read_by.doc read_by.stage → ⊥
        go (from_first since) = lawful.fresh.no_staging m by g d read_by.doc read_by.stage takes.event (ap adds is) (since 0 (omega arith)) read_by.staged read_by.attempt
        go (by_staging j f ex low took st cas since) = ⊎_elim early late (cases_lt j here.at)
          where
            its : Inside case book legal follow lawful by other j f
            its = inside_of case book legal follow lawful j by f took.event (staging d ex read_by.stage st read_by.attempt) other

            there : In (made_at s0 h j f) own_list
            there = subst (λ c. In (made_at s0 h j f) (own_of book c)) same_client its.there

            from : here.from ≤ j
            from =
                let a = after_gap (own_of book (client_of by)) other.at other.attempt.span (made_at s0 h j f) other.follows.spanned its.there its.low in
                let b = ap (λ (x : AttemptLog). x.span.from) same_log in let c = here.attempt_follows.spanned.follows in omega arith

            below : j < log.span.to
            below = let a = read_by.high in omega arith

            done : is_done (made_at s0 h j f).answer.reply ≡ true
            done =
                ⊎_elim (λ ok. ap is_done ok)
                (λ failed. absurd (none_failed_yet case book legal follow client txn try_no n o log so it no_failure (made_at s0 h j f) there from below failed)) (effect_told s0 h j f took)

            late : here.at ≤ j → ⊥
            late high =
                let in_made = in_op case book legal follow client txn try_no n o log so it (made_at s0 h j f) there high below in
                let stands = each_of (λ x. is_done x.answer.reply ≡ true → StandsAt x.answer.place log.answer x.step) made (made_at s0 h j f) here.follows.stands in_made done in
                let base = subst (λ s. StandsAt j log.answer s) st stands in
                not_staged by j base.0 (sym answered ∙ base.1)

            early : j < here.at → ⊥
            early high =
                by_back ((noted_before case book legal follow client txn try_no n o log so it).free d (made_at s0 h j f) write.blocked.own_none there from high (record { expects = ex; stage = read_by.stage; is = st; done = done }))
              where
                by_back : TakenBack own_list here.at d (made_at s0 h j f) → ⊥
                by_back back = ⊎_elim before_read (λ (after : read_by.place ≤ back.call.answer.place). read_by.unwritten back.call back.there after back.high (inr back.unsticks)) (cases_lt back.call.answer.place read_by.place)
                  where
                    member : Member s0 h back.call client (length h)
                    member = in_at s0 h back.call client (length h) back.there

                    place : back.call.answer.place ≡ member.place
                    place = ap (λ (x : Made). x.answer.place) member.made

                    before_read : back.call.answer.place < read_by.place → ⊥
                    before_read low2 =
                        let after = back.after in
                        let told = done_is back.call.answer.reply back.unsticks.done in
                        let took2 = (done_told s0 h member.place member.event told.0 member.is (ap (λ (x : Made). x.answer.reply) (sym member.made) ∙ told.1)).0 in
                        let p = place in
                        changes_it s0 h lawful member.place d member.event read_by.doc took2 (ap touches_doc (ap (λ (x : Made). x.step) (sym member.made) ∙ back.unsticks.is))
                        (since member.place (omega arith) (omega arith)) (since (suc member.place) (omega arith) (omega arith))

    not_same : ⊥
    not_same = go (order (try_of by) try_no)
      where
        go : Order (try_of by) try_no → ⊥
        go (first l) = earlier_not l
        go (equal s) = itself_not s
        go (later_one l) = later_not l

  blocked_by : IsOfAnother s0 client txn by
  blocked_by = go (came s0 h lawful shown.place (atr, by) shown.entry shown.there)
    where
      go : Came s0 h lawful (atr, by) shown.place → IsOfAnother s0 client txn by
      go (by_event m g exp low takes is since) = other_transaction (λ same. not_same same.0 same.1 m exp g takes is low)
      go (at_first since) = let e = some_of (entry_then s0 h lawful 0 (atr, by)) (since 0 (omega arith)) in left_over atr e.0 e.1

pub blocked_by_another : (case : Case) (book : Book) (legal : IsLegalRun case book) (follow : LogsFollow case book) (lawful : Lawful book.kept.opening book.kept.history) → BlockedByAnother case book
blocked_by_another case book legal follow lawful client txn try_no n by o log so it answered = blocked_by case book legal follow lawful client txn try_no n by o log so it answered
