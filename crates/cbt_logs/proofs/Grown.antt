-- What follows its plan on an own list follows it still once newer calls have come before it: it looks at no place past its end.
use Rattle.std.proofs.Common.{◌≡◌, ℕ, suc, ◌+◌, ◌<◌, ◌≤◌, Bool, true, false, cond, inl, inr, ⊎_elim, List, [], ◌∷◌, ◌++◌, Option, Some, None, Ok, Err, refl, sym, ap, ◌∙◌, subst, arith}
use Rattle.std.proofs.lemmas.Option.{none-some}
use Rattle.std.specs.Ordering.{is_eq}
use Rattle.cbt_json.specs.declared.value.Json.{Json}
use Rattle.cbt_expr.specs.declared.plans.Op.{Op}
use Rattle.cbt_expr.specs.declared.plans.TxnPlan.{TxnPlan}
use Rattle.cbt_model.specs.History.{is_done}
use Rattle.cbt_model.specs.Keys.{doc_cmp}
use Rattle.cbt_model.specs.declared.documents.OpKind.{OpKind}
use Rattle.cbt_model.specs.declared.events.Made.{Made}
use Rattle.cbt_model.specs.declared.steps.Reply.TheVariants as reply
use Rattle.cbt_model.specs.declared.steps.Step.{Step}
use Rattle.cbt_book.specs.Outcomes.{DoneAt}
use Rattle.cbt_book.specs.OwnLists.{Once, Each, during}
use Rattle.cbt_book.specs.ReadAt.{Reading, IsReadAt}
use Rattle.cbt_book.specs.Shown.{decides}
use Rattle.cbt_book.specs.Spans.{IsSpan, HasEnds}
use Rattle.cbt_book.specs.declared.clients.AttemptLog.{AttemptLog}
use Rattle.cbt_book.specs.declared.clients.TxnEnd.{TxnEnd}
use Rattle.cbt_book.specs.declared.clients.AttemptEnd.TheVariants as attempt_end
use Rattle.cbt_book.specs.declared.clients.TxnEnd.TheVariants as txn_end
use Rattle.cbt_book.specs.declared.clients.TxnLog.{TxnLog}
use Rattle.cbt_book.specs.declared.operations.OpAnswer.{OpAnswer}
use Rattle.cbt_book.specs.declared.operations.OpAnswer.TheVariants as answer
use Rattle.cbt_book.specs.declared.operations.OpLog.{OpLog}
use Rattle.cbt_book.specs.declared.operations.Span.{Span}
use Rattle.cbt_book.specs.declared.operations.When.{When}
use Rattle.cbt_book.specs.declared.operations.When.TheVariants as when
use Rattle.cbt_core.specs.Attempts.{AttemptFollows, Ends, course_of}
use Rattle.cbt_core.specs.Clients.{TxnsFollow, txns_end}
use Rattle.cbt_core.specs.OpAnswers.{Answered, IsBlocked, IsMoved, StagesOver, StandsOn, TakesBack, WriteAnswered}
use Rattle.cbt_core.specs.OpAnswers as answers
use Rattle.cbt_core.specs.OpCalls.{OpCalls}
use Rattle.cbt_core.specs.Operations.{OpFollows, OpsFollow, StandsAt, ops_end}
use Rattle.cbt_core.specs.Transactions.{AttemptsFollow, CutAt, EndsTxn, IsExpiredAt, LastTry, TriesOn, TxnFollows, TxnTerms, attempt_terms, attempts_end, newest_now, now_before, start_of}
use Rattle.cbt_core.specs.Transactions as transactions
use Rattle.cbt_core.specs.Walk.{AttemptTerms, LastRead, Reads, Request, Sofar, Tests, Writes, noted, noted_as, nothing_yet, request_of}
use Rattle.cbt_core.proofs.logs.Noted.{ops_low, span_order}
use Rattle.cbt_core.proofs.runs.Past.{some_same}
use Rattle.cbt_logs.proofs.Lists.{each_more, once_back, once_more}
use Rattle.cbt_logs.proofs.Spans.{during_front}

-- the readings that an attempt stands on ended by this place
abbrev pub ReadsEnd : Sofar → ℕ → Type 0
ReadsEnd so at = (d : List ℕ) (last : LastRead) → so.read d ≡ Some last → last.span.to ≤ at

-- what is past a place is past a lower one
past_lower : (low at : ℕ) (xs : List Made) → low ≤ at → Each (λ m _. at ≤ m.answer.place) xs → Each (λ m _. low ≤ m.answer.place) xs
past_lower low at xs under high = each_more (λ m. at ≤ m.answer.place) (λ m. low ≤ m.answer.place) xs (λ m it. omega arith) high

-- a part begins past what was before, and ends later still
span_after : (l : List Made) (at : ℕ) (span : Span) → IsSpan l at span → at ≤ span.to
span_after l at span it = let a = it.follows in let b = span_order l at span it in omega arith

-- an answer adds no reading that ends past it
ends_later : (so : Sofar) (at to : ℕ) → at ≤ to → ReadsEnd so at → ReadsEnd so to
ends_later so at to under ends d last is = let it = ends d last is in omega arith

noted_end : (r : Request) (span : Span) (a : OpAnswer) (so : Sofar) (at : ℕ) → at ≤ span.to → ReadsEnd so at → ReadsEnd (noted_as r span a so) span.to
noted_end (Reads q name) span (answer.Value value when.Own) so at under ends = ends_later so at span.to under ends
noted_end (Reads q name) span (answer.Value value (when.At moment)) so at under ends = λ d last is. by_test d last (is_eq (doc_cmp d q)) is
  where
    mine : LastRead
    mine = record { span = span; value = value; moment = moment }

    by_test : (d : List ℕ) (last : LastRead) (b : Bool) → cond b (Some mine) (so.read d) ≡ Some last → last.span.to ≤ span.to
    by_test d last true is = subst (λ (x : LastRead). x.span.to ≤ span.to) (some_same is) (omega arith)
    by_test d last false is = ends_later so at span.to under ends d last is
noted_end (Reads q name) span _ so at under ends = ends_later so at span.to under ends
noted_end (Writes q kind (Ok content)) span (answer.Staged place base) so at under ends = ends_later so at span.to under ends
noted_end (Writes q kind (Ok content)) span (answer.Unstaged place) so at under ends = λ d last is. by_test d last (is_eq (doc_cmp d q)) is
  where
    by_test : (d : List ℕ) (last : LastRead) (b : Bool) → cond b None (so.read d) ≡ Some last → last.span.to ≤ span.to
    by_test d last true is = absurd (none-some last is)
    by_test d last false is = ends_later so at span.to under ends d last is
noted_end (Writes q kind (Ok content)) span _ so at under ends = ends_later so at span.to under ends
noted_end (Writes q kind (Err part)) span a so at under ends = ends_later so at span.to under ends
noted_end (Tests truth) span a so at under ends = ends_later so at span.to under ends

-- a part's span
span_on : (l : List Made) (at : ℕ) (span : Span) (xs : List Made) → IsSpan l at span → Each (λ m _. span.to ≤ m.answer.place) xs → IsSpan (xs ++ l) at span
span_on l at span xs it high = record {
  follows = it.follows;
  next = during_front (record { from = at; to = span.from }) xs l (past_lower span.from span.to xs (span_order l at span it) high) ∙ it.next;
  ends = subst (λ k. HasEnds at span k) (sym (during_front span xs l high)) it.ends;
}

-- the answer of an operation
module _ (t : AttemptTerms) (l : List Made) (at : ℕ) (so : Sofar) (xs : List Made) (ends : ReadsEnd so at) (high : Each (λ m _. at ≤ m.answer.place) xs) where
  stands_on : (d : List ℕ) (kind : OpKind) (it : Reading) (calls : List Made) → StandsOn l so d kind it calls → StandsOn (xs ++ l) so d kind it calls
  stands_on d kind it calls (answers.on_earlier last is agrees read value moment) =
      answers.on_earlier last is agrees
      (subst (λ k. IsReadAt d it k) (sym (during_front last.span xs l (past_lower last.span.to at xs (ends d last is) high))) read) value moment
  stands_on d kind it calls (answers.on_own other read agrees) = answers.on_own other read agrees

  stages_on : (d : List ℕ) (kind : OpKind) (content : Option Json) (calls : List Made) (base : When) (st : Step)
      → StagesOver t l so d kind content calls base st → StagesOver t (xs ++ l) so d kind content calls base st
  stages_on d kind content calls base st (answers.over_reading it stage none stands moment carries is) =
      answers.over_reading it stage none (stands_on d kind it calls stands) moment carries is
  stages_on d kind content calls base st (answers.over_own w x stage own again cas own_base carries is) =
      answers.over_own w x stage own again (once_back _ xs l cas) own_base carries is

  takes_on : (d : List ℕ) (kind : OpKind) (st : Step) → TakesBack l so d kind st → TakesBack (xs ++ l) so d kind st
  takes_on d kind st it = record {
    removes = it.removes;
    own = it.own;
    own_is = it.own_is;
    inserted = it.inserted;
    cas = it.cas;
    cas_is = once_back _ xs l it.cas_is;
    unsticks = it.unsticks;
  }

  moved_on : (d : List ℕ) (kind : OpKind) (content : Option Json) (calls : List Made) → IsMoved t l so d kind content calls
      → IsMoved t (xs ++ l) so d kind content calls
  moved_on d kind content calls it = record {
    newest = it.newest;
    older = it.older;
    calls_are = it.calls_are;
    writes = ⊎_elim
        (λ (s : (base : When) × StagesOver t l so d kind content calls base it.newest.step). inl (s.0, stages_on d kind content calls s.0 it.newest.step s.1))
        (λ (b : TakesBack l so d kind it.newest.step). inr (takes_on d kind it.newest.step b)) it.writes;
    refused = it.refused;
  }

  blocked_on : (d : List ℕ) (kind : OpKind) (by : ℕ) (calls : List Made) → IsBlocked l so d kind by calls → IsBlocked (xs ++ l) so d kind by calls
  blocked_on d kind by calls it = record {
    own_none = it.own_none;
    it = it.it;
    atr = it.atr;
    older = it.older;
    asks = it.asks;
    stands = stands_on d kind it.it it.older it.stands;
    staged_by = it.staged_by;
    there = it.there;
  }

  write_on : (d : List ℕ) (kind : OpKind) (content : Option Json) (calls : List Made) (a : OpAnswer)
      → WriteAnswered t l so d kind content calls a → WriteAnswered t (xs ++ l) so d kind content calls a
  write_on d kind content calls (answer.Staged place base) it =
      once_more (λ m _. DoneAt place m × StagesOver t l so d kind content calls base m.step)
      (λ m _. DoneAt place m × StagesOver t (xs ++ l) so d kind content calls base m.step)
      calls (λ m past is. (is.0, stages_on d kind content calls base m.step is.1)) it
  write_on d kind content calls (answer.Unstaged place) it =
      once_more (λ m _. DoneAt place m × TakesBack l so d kind m.step) (λ m _. DoneAt place m × TakesBack (xs ++ l) so d kind m.step)
      calls (λ m past is. (is.0, takes_on d kind m.step is.1)) it
  write_on d kind content calls (answer.DocExists when.Own) it = it
  write_on d kind content calls (answer.DocExists (when.At moment)) it = it
  write_on d kind content calls (answer.DocNotFound when.Own) it = it
  write_on d kind content calls (answer.DocNotFound (when.At moment)) it = it
  write_on d kind content calls (answer.Blocked by) it = blocked_on d kind by calls it
  write_on d kind content calls answer.Moved it = moved_on d kind content calls it
  write_on d kind content calls answer.Contended it = it
  write_on d kind content calls (answer.CallFailed place) it = it
  write_on d kind content calls _ it = absurd it

  answered_on : (r : Request) (calls : List Made) (a : OpAnswer) → Answered t l so r calls a → Answered t (xs ++ l) so r calls a
  answered_on (Reads d name) calls a it = it
  answered_on (Writes d kind (Ok content)) calls a it = write_on d kind content calls a it
  answered_on (Writes d kind (Err part)) calls a it = it
  answered_on (Tests truth) calls a it = it

pub op_on : (t : AttemptTerms) (l : List Made) (at n : ℕ) (so : Sofar) (o : Op) (log : OpLog) (xs : List Made) → OpFollows t l at n so o log → ReadsEnd so at
    → Each (λ m _. log.span.to ≤ m.answer.place) xs → OpFollows t (xs ++ l) at n so o log
op_on t l at n so o log xs it ends high =
    let same : during log.span l ≡ during log.span (xs ++ l) = sym (during_front log.span xs l high) in
    let past = past_lower at log.span.to xs (span_after l at log.span it.spanned) high in
    record {
      counted = it.counted;
      spanned = span_on l at log.span xs it.spanned high;
      answered = subst (λ k. Answered t (xs ++ l) so (request_of so.bound o) k log.answer) same
          (answered_on t l at so xs ends past (request_of so.bound o) (during log.span l) log.answer it.answered);
      calls = subst (λ k. OpCalls t so (request_of so.bound o) k) same it.calls;
      stands = subst (λ k. Each (λ m _. is_done m.answer.reply ≡ true → StandsAt m.answer.place log.answer m.step) k) same it.stands;
      failed = subst (λ k. Each (λ m _. m.answer.reply ≡ reply.Failed → log.answer ≡ answer.CallFailed m.answer.place) k) same it.failed;
      in_time = subst (λ k. Each (λ m _. m.answer.now ≤ t.latest) k) same it.in_time;
    }

pub ops_on : (t : AttemptTerms) (l : List Made) (at n : ℕ) (so : Sofar) (ops : List Op) (logs : List OpLog) (xs : List Made)
    → OpsFollow t l at n so ops logs → ReadsEnd so at
    → Each (λ m _. ops_end at logs ≤ m.answer.place) xs → OpsFollow t (xs ++ l) at n so ops logs
ops_on t l at n so ops [] xs follow ends high = tt
ops_on t l at n so [] (log ∷ logs) xs follow ends high = absurd follow
ops_on t l at n so (o ∷ ops) (log ∷ logs) xs follow ends high = (
  op_on t l at n so o log xs follow.0 ends
      (past_lower log.span.to (ops_end log.span.to logs) xs (ops_low t l log.span.to (suc n) (noted o log so) ops logs follow.2) high),
  follow.1,
  ops_on t l log.span.to (suc n) (noted o log so) ops logs xs follow.2
      (noted_end (request_of so.bound o) log.span log.answer so at (span_after l at log.span follow.0.spanned) ends) high,
)

pub attempt_on : (t : AttemptTerms) (l : List Made) (at : ℕ) (log : AttemptLog) (xs : List Made) → AttemptFollows t l at log
    → Each (λ m _. log.span.to ≤ m.answer.place) xs → AttemptFollows t (xs ++ l) at log
attempt_on t l at log xs it high = record {
  id = it.id;
  spanned = span_on l at log.span xs it.spanned high;
  ops = ops_on t l at 1 nothing_yet t.plan.ops log.ops xs it.ops (λ d last is. absurd (none-some last is))
      (past_lower (ops_end at log.ops) log.span.to xs it.held high);
  held = it.held;
  cut = it.cut;
  closing = it.closing;
  rest = during_front (record { from = ops_end at log.ops; to = log.span.to }) xs l high ∙ it.rest;
  cut_follows = it.cut_follows;
  ended = it.ended;
  closes = it.closes;
  may_commit = it.may_commit;
  may_abort = it.may_abort;
  third = it.third;
  ends = subst (λ k. Ends t (course_of t log it.cut it.closing) k log.end) (sym (during_front log.span xs l high)) it.ends;
}

-- the time of the newest call before a place
now_on : (l : List Made) (place : ℕ) (xs : List Made) → Each (λ m _. place ≤ m.answer.place) xs → now_before (xs ++ l) place ≡ now_before l place
now_on l place xs high = ap newest_now (during_front (record { from = 0; to = place }) xs l high)

tries_on : (l : List Made) (latest : ℕ) (log : AttemptLog) (logs : List AttemptLog) (xs : List Made) → TriesOn l latest log logs
    → Each (λ m _. log.span.to ≤ m.answer.place) xs → TriesOn (xs ++ l) latest log logs
tries_on l latest log [] xs it high = tt
tries_on l latest log (next ∷ logs) xs it high = (it.0, subst (λ now. now ≤ latest) (sym (now_on l log.span.to xs high)) it.1)

pub attempts_low : (x : TxnTerms) (l : List Made) (start at n : ℕ) (logs : List AttemptLog) → AttemptsFollow x l start at n logs → at ≤ attempts_end at logs
attempts_low x l start at n [] follow = omega arith
attempts_low x l start at n (log ∷ logs) follow =
    let rest = attempts_low x l start log.span.to (suc n) logs follow.2 in let own = span_after l at log.span follow.0.spanned in omega arith

pub attempts_on : (x : TxnTerms) (l : List Made) (start at n : ℕ) (logs : List AttemptLog) (xs : List Made) → AttemptsFollow x l start at n logs
    → Each (λ m _. attempts_end at logs ≤ m.answer.place) xs → AttemptsFollow x (xs ++ l) start at n logs
attempts_on x l start at n [] xs follow high = tt
attempts_on x l start at n (log ∷ logs) xs follow high =
    let own = past_lower log.span.to (attempts_end log.span.to logs) xs (attempts_low x l start log.span.to (suc n) logs follow.2) high in
    let this = attempt_on (attempt_terms x start n) l at log xs follow.0 own in
    (this, tries_on l (start + x.plan.expiry) log logs xs follow.1 own, attempts_on x l start log.span.to (suc n) logs xs follow.2 high)

-- what follows from what is so of the last try, which reaches to the end of all
last_more : (P Q : AttemptLog → Type 0) (at : ℕ) (logs : List AttemptLog)
    → ((log : AttemptLog) → log.span.to ≡ attempts_end at logs → P log → Q log) → LastTry P logs → LastTry Q logs
last_more P Q at [] more last = absurd last
last_more P Q at (log ∷ []) more last = more log refl last
last_more P Q at (log ∷ next ∷ logs) more last = last_more P Q log.span.to (next ∷ logs) more last

expired_on : (x : TxnTerms) (l : List Made) (latest at : ℕ) (logs : List AttemptLog) (now : ℕ) (xs : List Made) → IsExpiredAt x l latest logs now
    → Each (λ m _. attempts_end at logs ≤ m.answer.place) xs → IsExpiredAt x (xs ++ l) latest logs now
expired_on x l latest at logs now xs (transactions.in_operation last) high =
    transactions.in_operation
    (last_more (λ log. (log.end ≡ attempt_end.RolledBack) × CutAt l latest now log)
    (λ log. (log.end ≡ attempt_end.RolledBack) × CutAt (xs ++ l) latest now log) at logs
    (λ log reach it. (
      it.0,
      subst (λ k. Once (λ m before. (m.answer.now ≡ now) × (latest < now) × (¬ Once (λ n _. decides n.step ≡ Some log.id) (m ∷ before))) k)
          (sym (during_front log.span xs l (past_lower log.span.to (attempts_end at logs) xs (omega arith) high))) it.1,
    )) last)
expired_on x l latest at logs now xs (transactions.before_try left last late) high =
    transactions.before_try left
    (last_more (λ log. now_before l log.span.to ≡ now) (λ log. now_before (xs ++ l) log.span.to ≡ now) at logs
    (λ log reach it. now_on l log.span.to xs (past_lower log.span.to (attempts_end at logs) xs (omega arith) high) ∙ it) last) late

pub ends_txn_on : (x : TxnTerms) (l : List Made) (latest at : ℕ) (logs : List AttemptLog) (end : TxnEnd) (xs : List Made) → EndsTxn x l latest logs end
    → Each (λ m _. attempts_end at logs ≤ m.answer.place) xs → EndsTxn x (xs ++ l) latest logs end
ends_txn_on x l latest at logs (txn_end.Committed complete) xs it high = it
ends_txn_on x l latest at logs txn_end.Empty xs it high = it
ends_txn_on x l latest at logs txn_end.RolledBack xs it high = it
ends_txn_on x l latest at logs (txn_end.Failed reason) xs it high = it
ends_txn_on x l latest at logs (txn_end.Expired now) xs it high = expired_on x l latest at logs now xs it high
ends_txn_on x l latest at logs txn_end.TriesSpent xs it high = it
ends_txn_on x l latest at logs txn_end.Unknown xs it high = it
ends_txn_on x l latest at logs (txn_end.CallFailed place) xs it high = it
ends_txn_on x l latest at logs txn_end.Stopped xs it high = it

pub txn_on : (x : TxnTerms) (l : List Made) (at : ℕ) (log : TxnLog) (xs : List Made) → TxnFollows x l at log
    → Each (λ m _. attempts_end at log.attempts ≤ m.answer.place) xs → TxnFollows x (xs ++ l) at log
txn_on x l at log xs it high = record {
  start = it.start;
  start_is = it.start_is ∙ sym (ap start_of (during_front (record { from = at; to = attempts_end at log.attempts }) xs l high));
  attempts = attempts_on x l it.start at 1 log.attempts xs it.attempts high;
  few = it.few;
  ends = ends_txn_on x l (it.start + x.plan.expiry) at log.attempts log.end xs it.ends high;
}

pub txns_low : (client atrs : ℕ) (l : List Made) (at n : ℕ) (plans : List TxnPlan) (logs : List TxnLog) → TxnsFollow client atrs l at n plans logs
    → at ≤ txns_end at logs
txns_low client atrs l at n plans [] follow = omega arith
txns_low client atrs l at n [] (log ∷ logs) follow = absurd follow
txns_low client atrs l at n (plan ∷ plans) (log ∷ logs) follow =
    let rest = txns_low client atrs l (attempts_end at log.attempts) (suc n) plans logs follow.2 in
    let own = attempts_low (record { client = client; number = n; plan = plan; atrs = atrs }) l follow.0.start at 1 log.attempts follow.0.attempts in
    omega arith

pub txns_on : (client atrs : ℕ) (l : List Made) (at n : ℕ) (plans : List TxnPlan) (logs : List TxnLog) (xs : List Made) → TxnsFollow client atrs l at n plans logs
    → Each (λ m _. txns_end at logs ≤ m.answer.place) xs → TxnsFollow client atrs (xs ++ l) at n plans logs
txns_on client atrs l at n plans [] xs follow high = tt
txns_on client atrs l at n [] (log ∷ logs) xs follow high = absurd follow
txns_on client atrs l at n (plan ∷ plans) (log ∷ logs) xs follow high =
    let end : ℕ = attempts_end at log.attempts in
    let own = past_lower end (txns_end end logs) xs (txns_low client atrs l end (suc n) plans logs follow.2) high in
    let this : TxnTerms = record { client = client; number = n; plan = plan; atrs = atrs } in
    (txn_on this l at log xs follow.0 own, follow.1, txns_on client atrs l end (suc n) plans logs xs follow.2 high)
