-- What is known of the newest calls makes the log of the part that they are follow its plan.
use Rattle.std.proofs.Common.{◌≡◌, ◌≢◌, ℕ, suc, ◌+◌, ◌<◌, ◌≤◌, true, false, inr, List, [], ◌∷◌, ◌++◌, length, refl, sym, ap, ◌∙◌, subst, arith}
use Rattle.std.proofs.lemmas.List.{append_assoc}
use Rattle.std.proofs.lemmas.Option.{none-some}
use Rattle.cbt_expr.specs.declared.plans.ClientPlan.{ClientPlan}
use Rattle.cbt_expr.specs.declared.plans.Op.{Op}
use Rattle.cbt_expr.specs.declared.plans.TxnPlan.{TxnPlan}
use Rattle.cbt_model.specs.History.{is_done}
use Rattle.cbt_model.specs.declared.events.Made.{Made}
use Rattle.cbt_model.specs.declared.steps.Reply.TheVariants as reply
use Rattle.cbt_book.specs.OwnLists.{Descends, Each, during}
use Rattle.cbt_book.specs.Spans.{IsSpan, past_of, span_of}
use Rattle.cbt_book.specs.declared.clients.AttemptEnd.TheVariants as attempt_end
use Rattle.cbt_book.specs.declared.clients.AttemptLog.{AttemptLog}
use Rattle.cbt_book.specs.declared.clients.TxnEnd.{TxnEnd}
use Rattle.cbt_book.specs.declared.clients.TxnEnd.TheVariants as txn_end
use Rattle.cbt_book.specs.declared.clients.TxnLog.{TxnLog}
use Rattle.cbt_book.specs.declared.operations.OpAnswer.{OpAnswer}
use Rattle.cbt_book.specs.declared.operations.OpAnswer.TheVariants as answer
use Rattle.cbt_book.specs.declared.operations.OpLog.{OpLog}
use Rattle.cbt_core.specs.Attempts as attempts
use Rattle.cbt_core.specs.Attempts.{AttemptFollows, CutFollows, Ends, course_of}
use Rattle.cbt_core.specs.Clients.{FollowsPlan, TxnsFollow, txns_end}
use Rattle.cbt_core.specs.OpAnswers.{Answered}
use Rattle.cbt_core.specs.OpCalls.{OpCalls}
use Rattle.cbt_core.specs.Operations.{OpFollows, OpsFollow, StandsAt, ops_end}
use Rattle.cbt_core.specs.Transactions as transactions
use Rattle.cbt_core.specs.Transactions.{AttemptsFollow, EndsTxn, IsRetried, TxnFollows, TxnTerms, attempt_terms, attempts_end, newest_now, now_before, start_of}
use Rattle.cbt_core.specs.Walk.{AttemptTerms, nothing_yet}
use Rattle.cbt_logs.specs.Closing.{ClosesWell}
use Rattle.cbt_logs.specs.Operating.{ComesNext, IsAnswered, Operates, Told, asked, log_of, sofar}
use Rattle.cbt_logs.specs.Running.{IsNextTxn, Ran, terms_next}
use Rattle.cbt_logs.specs.Trying.{MayTryOn, Tried}
use Rattle.cbt_logs.proofs.Grown.{ReadsEnd, ops_on, attempts_on, txns_on}
use Rattle.cbt_logs.proofs.Lists.{above, below, each_more}
use Rattle.cbt_logs.proofs.Snoc.{one_more, length_snoc, ops_end_snoc, ops_snoc, attempts_end_snoc, attempts_snoc, may_snoc, retried_last}
use Rattle.cbt_logs.proofs.Snoc.{txns_end_snoc, txns_snoc, run_snoc, whole_all, whole_stopped}
use Rattle.cbt_logs.proofs.Spans.{during_front, during_rest, during_span, newest_is, span_is, span_to}

-- the newest calls stand at or past where the parts before them end
from_end : (xs l : List Made) (end : ℕ) → Descends (xs ++ l) → end ≡ past_of l → Each (λ m _. end ≤ m.answer.place) xs
from_end xs l end falls reach = subst (λ k. Each (λ m _. k ≤ m.answer.place) xs) (sym reach) (above xs l falls)

past_grows : (xs l : List Made) → Descends (xs ++ l) → past_of l ≤ past_of (xs ++ l)
past_grows [] l falls = omega arith
past_grows (x ∷ xs) l falls = let high = above (x ∷ xs) l falls in let first = high.0 in omega arith

-- nothing was read before the first operation
unread : (at : ℕ) → ReadsEnd nothing_yet at
unread at = λ d last is. absurd (none-some last is)

-- ---- operations

pub op_closed : (t : AttemptTerms) (older calls : List Made) (logs : List OpLog) (o : Op) (a : OpAnswer) → Descends (calls ++ older)
    → IsAnswered t (calls ++ older) logs o calls a
    → OpFollows t (calls ++ older) (past_of older) (suc (length logs)) (sofar t logs) o (log_of logs older calls a)
op_closed t older calls logs o a falls it =
    let own : calls ≡ during (span_of (past_of older) calls) (calls ++ older) = sym (during_span calls older falls) in
    record {
      counted = refl;
      spanned = span_is calls older falls;
      answered = subst (λ c. Answered t (calls ++ older) (sofar t logs) (asked t logs o) c a) own it.answered;
      calls = subst (λ c. OpCalls t (sofar t logs) (asked t logs o) c) own it.bounded;
      stands = subst (λ c. Each (λ m _. is_done m.answer.reply ≡ true → StandsAt m.answer.place a m.step) c) own it.stands;
      failed = subst (λ c. Each (λ m _. m.answer.reply ≡ reply.Failed → a ≡ answer.CallFailed m.answer.place) c) own it.failed;
      in_time = subst (λ c. Each (λ m _. m.answer.now ≤ t.latest) c) own it.in_time;
    }

-- the operations that were answered before, on the longer list
told_on : (t : AttemptTerms) (l0 told calls : List Made) (logs : List OpLog) → Descends (calls ++ (told ++ l0)) → Told t l0 told logs
    → OpsFollow t (calls ++ (told ++ l0)) (past_of l0) 1 nothing_yet t.plan.ops logs
told_on t l0 told calls logs falls it =
    ops_on t (told ++ l0) (past_of l0) 1 nothing_yet t.plan.ops logs calls it.follow (unread (past_of l0))
    (from_end calls (told ++ l0) (ops_end (past_of l0) logs) falls it.reach)

pub told_more : (t : AttemptTerms) (l0 told calls : List Made) (logs : List OpLog) (o : Op) (a : OpAnswer) → Descends (calls ++ (told ++ l0)) → Told t l0 told logs
    → ComesNext t logs o → IsAnswered t (calls ++ (told ++ l0)) logs o calls a → Told t l0 (calls ++ told) (logs ++ log_of logs (told ++ l0) calls a ∷ [])
told_more t l0 told calls logs o a falls it next is =
    let log = log_of logs (told ++ l0) calls a in
    let same : calls ++ (told ++ l0) ≡ (calls ++ told) ++ l0 = sym (append_assoc calls told l0) in
    let here : OpFollows t (calls ++ (told ++ l0)) (ops_end (past_of l0) logs) (1 + length logs) (sofar t logs) o log =
    subst (λ k. OpFollows t (calls ++ (told ++ l0)) k (1 + length logs) (sofar t logs) o log) (sym it.reach)
    (subst (λ n. OpFollows t (calls ++ (told ++ l0)) (past_of (told ++ l0)) n (sofar t logs) o log) (one_more (length logs))
    (op_closed t (told ++ l0) calls logs o a falls is)) in
    record {
      follow = subst (λ l. OpsFollow t l (past_of l0) 1 nothing_yet t.plan.ops (logs ++ log ∷ [])) same
          (ops_snoc t (calls ++ (told ++ l0)) (past_of l0) 1 nothing_yet t.plan.ops logs o next.rest log
          (told_on t l0 told calls logs falls it) next.good next.left here);
      reach = ops_end_snoc (past_of l0) logs log ∙ span_to calls (told ++ l0) ∙ ap past_of same;
    }

-- ---- tries

pub attempt_closed : (t : AttemptTerms) (l0 told closing cut : List Made) (log : AttemptLog) → Descends ((closing ++ cut) ++ (told ++ l0))
    → Told t l0 told log.ops → log.id ≡ t.id → log.span ≡ span_of (past_of l0) ((closing ++ cut) ++ told) → ClosesWell t log closing cut
    → Ends t (course_of t log cut closing) ((closing ++ cut) ++ told) log.end
    → AttemptFollows t ((closing ++ cut) ++ (told ++ l0)) (past_of l0) log
attempt_closed t l0 told closing cut log falls it id spans well ends =
    let calls = closing ++ cut in
    let l = calls ++ (told ++ l0) in
    let same : (calls ++ told) ++ l0 ≡ l = append_assoc calls told l0 in
    let falls_joined : Descends ((calls ++ told) ++ l0) = subst Descends (sym same) falls in
    let to_is : log.span.to ≡ past_of l = ap (λ s. s.to) spans ∙ span_to (calls ++ told) l0 ∙ ap past_of same in
    let grows : past_of (told ++ l0) ≤ past_of l = past_grows calls (told ++ l0) falls in
    let reach : ops_end (past_of l0) log.ops ≡ past_of (told ++ l0) = it.reach in
    record {
      id = id;
      spanned = subst (λ s. IsSpan l (past_of l0) s) (sym spans)
          (subst (λ k. IsSpan k (past_of l0) (span_of (past_of l0) (calls ++ told))) same (span_is (calls ++ told) l0 falls_joined));
      ops = told_on t l0 told calls log.ops falls it;
      held = subst (λ k. k ≤ log.span.to) (sym reach) (subst (λ k. past_of (told ++ l0) ≤ k) (sym to_is) grows);
      cut = cut;
      closing = closing;
      rest = ap (λ k. during (record { from = k; to = log.span.to }) l) reach ∙ ap (λ k. during (record { from = past_of (told ++ l0); to = k }) l) to_is
          ∙ during_rest calls (told ++ l0) falls;
      cut_follows = well.cut_follows;
      ended = well.ended;
      closes = well.closes;
      may_commit = well.may_commit;
      may_abort = well.may_abort;
      third = well.third;
      ends = subst (λ c. Ends t (course_of t log cut closing) c log.end)
          (sym (ap (λ s. during s l) spans ∙ ap (λ k. during (span_of (past_of l0) (calls ++ told)) k) (sym same)
          ∙ during_span (calls ++ told) l0 falls_joined)) ends;
    }

-- its parts are these
pub attempt_parts : (t : AttemptTerms) (l0 told closing cut : List Made) (log : AttemptLog) → Descends ((closing ++ cut) ++ (told ++ l0))
    → Told t l0 told log.ops → log.id ≡ t.id → log.span ≡ span_of (past_of l0) ((closing ++ cut) ++ told) → ClosesWell t log closing cut
    → Ends t (course_of t log cut closing) ((closing ++ cut) ++ told) log.end
    → (it : AttemptFollows t ((closing ++ cut) ++ (told ++ l0)) (past_of l0) log) × (it.cut ≡ cut) × (it.closing ≡ closing)
unfolding attempt_closed
attempt_parts t l0 told closing cut log falls it id spans well ends = (attempt_closed t l0 told closing cut log falls it id spans well ends, refl, refl)

-- a stop cuts the operation under way off
cut_by_stop : (t : AttemptTerms) (log : AttemptLog) (calls : List Made) → Operates t log.ops calls → log.end ≡ attempt_end.Stopped
    → CutFollows t (course_of t log calls []) calls
cut_by_stop t log [] it stopped = tt
cut_by_stop t log (m ∷ older) it stopped =
    record {
      next = it.op;
      rest = it.next.rest;
      left_is = it.next.left;
      good = it.next.good;
      calls = it.bounded;
      in_time = each_more (λ n. (n.answer.now ≤ t.latest) × (n.answer.reply ≢ reply.Failed)) (λ n. n.answer.now ≤ t.latest) older (λ n fine. fine.0) it.fine;
      answered = each_more (λ n. (n.answer.now ≤ t.latest) × (n.answer.reply ≢ reply.Failed)) (λ n. n.answer.reply ≢ reply.Failed) older (λ n fine. fine.1) it.fine;
      why = inr (stopped, refl);
    }

true-false : true ≡ false → ⊥
true-false both = cc

pub closed_by_stop : (t : AttemptTerms) (log : AttemptLog) (calls : List Made) → Operates t log.ops calls → log.end ≡ attempt_end.Stopped → log.not_committed ≡ false
    → ClosesWell t log [] calls
closed_by_stop t log calls it stopped none =
    record {
      cut_follows = cut_by_stop t log calls it stopped;
      ended = attempts.stopped stopped;
      closes = tt;
      may_commit = λ once. absurd once;
      may_abort = λ once. absurd once;
      third = ((λ is. absurd (true-false (sym is ∙ none))), (λ vain. absurd vain));
    }

-- ---- transactions

-- a further try stays due and in time
may_on : (l : List Made) (latest at : ℕ) (logs : List AttemptLog) (xs : List Made) → MayTryOn l latest logs → Each (λ m _. attempts_end at logs ≤ m.answer.place) xs
    → MayTryOn (xs ++ l) latest logs
may_on l latest at [] xs may high = tt
may_on l latest at (log ∷ []) xs may high =
    (may.0, subst (λ now. now ≤ latest) (ap newest_now (sym (during_front (record { from = 0; to = log.span.to }) xs l high))) may.1)
may_on l latest at (log ∷ next ∷ logs) xs may high = may_on l latest log.span.to (next ∷ logs) xs may high

-- one try more, on the longer list
tries_more : (x : TxnTerms) (start : ℕ) (before tried mine : List Made) (tries : List AttemptLog) (log : AttemptLog) → Descends (mine ++ (tried ++ before))
    → Tried x start before tried tries
    → AttemptFollows (attempt_terms x start (suc (length tries))) (mine ++ (tried ++ before)) (past_of (tried ++ before)) log
    → AttemptsFollow x (mine ++ (tried ++ before)) start (past_of before) 1 (tries ++ log ∷ [])
tries_more x start before tried mine tries log falls it follows =
    let l = mine ++ (tried ++ before) in
    let high = from_end mine (tried ++ before) (attempts_end (past_of before) tries) falls it.reach in
    attempts_snoc x l start (past_of before) 1 tries log (attempts_on x (tried ++ before) start (past_of before) 1 tries mine it.follow high)
    (may_on (tried ++ before) (start + x.plan.expiry) (past_of before) tries mine it.may high)
    (subst (λ k. AttemptFollows (attempt_terms x start (1 + length tries)) l k log) (sym it.reach)
    (subst (λ n. AttemptFollows (attempt_terms x start n) l (past_of (tried ++ before)) log) (one_more (length tries)) follows))

pub tried_more : (x : TxnTerms) (start : ℕ) (before tried mine : List Made) (tries : List AttemptLog) (log : AttemptLog) → Descends (mine ++ (tried ++ before))
    → Tried x start before tried tries
    → AttemptFollows (attempt_terms x start (suc (length tries))) (mine ++ (tried ++ before)) (past_of (tried ++ before)) log
    → log.span.to ≡ past_of (mine ++ (tried ++ before)) → IsRetried log → newest_now (mine ++ (tried ++ before)) ≤ start + x.plan.expiry
    → suc (length tries) < x.plan.tries → Tried x start before (mine ++ tried) (tries ++ log ∷ [])
tried_more x start before tried mine tries log falls it follows reach due in_time few =
    let l = mine ++ (tried ++ before) in
    let same : l ≡ (mine ++ tried) ++ before = sym (append_assoc mine tried before) in
    let newest : now_before l log.span.to ≡ newest_now l = ap (λ k. now_before l k) reach ∙ newest_is l falls in
    record {
      follow = subst (λ k. AttemptsFollow x k start (past_of before) 1 (tries ++ log ∷ [])) same (tries_more x start before tried mine tries log falls it follows);
      reach = attempts_end_snoc (past_of before) tries log ∙ reach ∙ ap past_of same;
      may = subst (λ k. MayTryOn k (start + x.plan.expiry) (tries ++ log ∷ [])) same
          (may_snoc l (start + x.plan.expiry) tries log due (subst (λ k. k ≤ start + x.plan.expiry) (sym newest) in_time));
      few = subst (λ k. k < x.plan.tries) (sym (length_snoc tries log)) few;
    }

few_at_most : (n m k : ℕ) → n ≡ suc m → m < k → n ≤ k
few_at_most n m k is few = omega arith

pub txn_over : (x : TxnTerms) (start : ℕ) (before tried mine : List Made) (tries : List AttemptLog) (log : AttemptLog) (end : TxnEnd)
    → Descends (mine ++ (tried ++ before)) → start ≡ start_of (mine ++ tried) → Tried x start before tried tries
    → AttemptFollows (attempt_terms x start (suc (length tries))) (mine ++ (tried ++ before)) (past_of (tried ++ before)) log
    → log.span.to ≡ past_of (mine ++ (tried ++ before))
    → EndsTxn x (mine ++ (tried ++ before)) (start + x.plan.expiry) (tries ++ log ∷ []) end
    → TxnFollows x (mine ++ (tried ++ before)) (past_of before) (record { attempts = tries ++ log ∷ []; end = end })
txn_over x start before tried mine tries log end falls begins it follows reach ends =
    let l = mine ++ (tried ++ before) in
    let same : (mine ++ tried) ++ before ≡ l = append_assoc mine tried before in
    let own : during (record { from = past_of before; to = past_of l }) l ≡ mine ++ tried =
    subst (λ k. during (record { from = past_of before; to = past_of k }) k ≡ mine ++ tried) same
    (during_rest (mine ++ tried) before (subst Descends (sym same) falls)) in
    let to_is : attempts_end (past_of before) (tries ++ log ∷ []) ≡ past_of l = attempts_end_snoc (past_of before) tries log ∙ reach in
    record {
      start = start;
      start_is = begins ∙ ap start_of (sym (ap (λ k. during (record { from = past_of before; to = k }) l) to_is ∙ own));
      attempts = tries_more x start before tried mine tries log falls it follows;
      few = few_at_most (length (tries ++ log ∷ [])) (length tries) x.plan.tries (length_snoc tries log) it.few;
      ends = ends;
    }

pub txn_unbegun : (x : TxnTerms) (before : List Made) → TxnFollows x before (past_of before) (record { attempts = []; end = txn_end.Stopped })
txn_unbegun x before =
    record {
      start = start_of (during (record { from = past_of before; to = past_of before }) before);
      start_is = refl;
      attempts = tt;
      few = omega arith;
      ends = transactions.unbegun refl;
    }

pub txn_between : (x : TxnTerms) (start : ℕ) (before tried : List Made) (tries : List AttemptLog) → Descends (tried ++ before)
    → start ≡ start_of tried → tries ≢ [] → Tried x start before tried tries
    → TxnFollows x (tried ++ before) (past_of before) (record { attempts = tries; end = txn_end.Stopped })
txn_between x start before tried tries falls begins some it =
    let own : during (record { from = past_of before; to = attempts_end (past_of before) tries }) (tried ++ before) ≡ tried =
    ap (λ k. during (record { from = past_of before; to = k }) (tried ++ before)) it.reach ∙ during_rest tried before falls in
    let few = it.few in
    record {
      start = start;
      start_is = begins ∙ ap start_of (sym own);
      attempts = it.follow;
      few = omega arith;
      ends = transactions.before_try (record { retried = retried_last (tried ++ before) (start + x.plan.expiry) tries some it.may; left = it.few });
    }

-- ---- clients

-- one transaction more, on the longer list
txns_more : (client atrs : ℕ) (plan : ClientPlan) (before mine : List Made) (txns : List TxnLog) (this : TxnPlan) (log : TxnLog) → Descends (mine ++ before)
    → Ran client atrs plan before txns → IsNextTxn plan txns this → TxnFollows (terms_next client atrs this txns) (mine ++ before) (past_of before) log
    → TxnsFollow client atrs (mine ++ before) 0 1 plan.txns (txns ++ log ∷ [])
txns_more client atrs plan before mine txns this log falls it next follows =
    txns_snoc client atrs (mine ++ before) 0 1 plan.txns txns this next.rest log
    (txns_on client atrs before 0 1 plan.txns txns mine it.follow (from_end mine before (txns_end 0 txns) falls it.reach)) it.run next.left
    (subst (λ k. TxnFollows (record { client = client; number = 1 + length txns; plan = this; atrs = atrs }) (mine ++ before) k log) (sym it.reach)
    (subst (λ n. TxnFollows (record { client = client; number = n; plan = this; atrs = atrs }) (mine ++ before) (past_of before) log)
    (one_more (length txns)) follows))

reach_more : (before mine : List Made) (txns : List TxnLog) (log : TxnLog) → txns_end 0 txns ≡ past_of before
    → attempts_end (past_of before) log.attempts ≡ past_of (mine ++ before) → txns_end 0 (txns ++ log ∷ []) ≡ past_of (mine ++ before)
reach_more before mine txns log reach own = txns_end_snoc 0 txns log ∙ ap (λ k. attempts_end k log.attempts) reach ∙ own

pub ran_more : (client atrs : ℕ) (plan : ClientPlan) (before mine : List Made) (txns : List TxnLog) (this : TxnPlan) (log : TxnLog) → Descends (mine ++ before)
    → Ran client atrs plan before txns → IsNextTxn plan txns this → TxnFollows (terms_next client atrs this txns) (mine ++ before) (past_of before) log
    → attempts_end (past_of before) log.attempts ≡ past_of (mine ++ before) → log.end ≢ txn_end.Stopped
    → Ran client atrs plan (mine ++ before) (txns ++ log ∷ [])
ran_more client atrs plan before mine txns this log falls it next follows reach runs =
    record {
      follow = txns_more client atrs plan before mine txns this log falls it next follows;
      run = run_snoc txns log it.run runs;
      reach = reach_more before mine txns log it.reach reach;
    }

-- each call lies before the end of the transactions
all_inside : (l : List Made) (txns : List TxnLog) → Descends l → txns_end 0 txns ≡ past_of l → Each (λ m _. m.answer.place < txns_end 0 txns) l
all_inside l txns falls reach = subst (λ k. Each (λ m _. m.answer.place < k) l) (sym reach) (below l falls)

pub client_done : (client atrs : ℕ) (plan : ClientPlan) (l : List Made) (txns : List TxnLog) → Descends l → Ran client atrs plan l txns
    → length txns ≡ length plan.txns → FollowsPlan client atrs plan l (record { txns = txns; calls = length l })
client_done client atrs plan l txns falls it all =
    record { txns = it.follow; whole = whole_all plan.txns txns all; inside = all_inside l txns falls it.reach; counted = refl }

pub client_stopped : (client atrs : ℕ) (plan : ClientPlan) (before mine : List Made) (txns : List TxnLog) (this : TxnPlan) (log : TxnLog) → Descends (mine ++ before)
    → Ran client atrs plan before txns → IsNextTxn plan txns this → TxnFollows (terms_next client atrs this txns) (mine ++ before) (past_of before) log
    → attempts_end (past_of before) log.attempts ≡ past_of (mine ++ before) → log.end ≡ txn_end.Stopped
    → FollowsPlan client atrs plan (mine ++ before) (record { txns = txns ++ log ∷ []; calls = length (mine ++ before) })
client_stopped client atrs plan before mine txns this log falls it next follows reach stopped =
    record {
      txns = txns_more client atrs plan before mine txns this log falls it next follows;
      whole = whole_stopped plan.txns txns this next.rest log next.left stopped;
      inside = all_inside (mine ++ before) (txns ++ log ∷ []) falls (reach_more before mine txns log it.reach reach);
      counted = refl;
    }
