-- Where a call of a client stands in its log: in which transaction, attempt and operation.
use Rattle.std.proofs.Common.{◌≡◌, ◌≢◌, ℕ, suc, ◌+◌, ◌^◌, ◌<◌, ◌≤◌, true, false, ⊎_elim, List, [], ◌∷◌, slice_get, Some, refl, sym, ap, ◌∙◌, subst, arith}
use Rattle.std.proofs.lemmas.Bool.{cases_lt, and_parts}
use Rattle.cbt_base.specs.Ids.{attempt_number}
use Rattle.cbt_expr.specs.declared.plans.ClientPlan.{ClientPlan}
use Rattle.cbt_expr.specs.declared.plans.Op.{Op}
use Rattle.cbt_expr.specs.declared.plans.TxnPlan.{TxnPlan}
use Rattle.cbt_model.specs.declared.events.Made.{Made}
use Rattle.cbt_model.specs.declared.steps.Reply.TheVariants as reply
use Rattle.cbt_book.specs.Numbers.{client_of, txn_of, try_of}
use Rattle.cbt_book.specs.OwnLists.{In, during}
use Rattle.cbt_book.specs.declared.clients.AttemptLog.{AttemptLog}
use Rattle.cbt_book.specs.declared.clients.ClientLog.{ClientLog}
use Rattle.cbt_book.specs.declared.clients.TxnLog.{TxnLog}
use Rattle.cbt_book.specs.declared.operations.OpAnswer.{OpAnswer}
use Rattle.cbt_book.specs.declared.operations.OpAnswer.TheVariants as answer
use Rattle.cbt_book.specs.declared.operations.OpLog.{OpLog}
use Rattle.cbt_core.specs.Attempts.{AttemptFollows, all_good}
use Rattle.cbt_core.specs.Clients.{FollowsPlan, TxnsFollow, txns_end}
use Rattle.cbt_core.specs.Walk.{AttemptTerms, Sofar, noted}
use Rattle.cbt_core.specs.Operations.{OpFollows, OpsFollow, ops_end, is_good}
use Rattle.cbt_core.specs.Transactions.{TxnTerms, attempt_terms, AttemptsFollow, TxnFollows, attempts_end}
use Rattle.cbt_core.specs.WriteSets.{numbered}
use Rattle.cbt_core.proofs.logs.Calls.{in_during, after_gap, each_of}

-- the operation in which a call was made
pub record OpHome (t : AttemptTerms) (l : List Made) (logs : List OpLog) (m : Made) : Type 0 where
  pub at : ℕ
  pub number : ℕ
  pub sofar : Sofar
  pub op : Op
  pub log : OpLog
  pub follows : OpFollows t l at number sofar op log
  pub inside : In m (during log.span l)
  pub good : all_good logs ≡ true → is_good log.answer ≡ true

pub find_op : (t : AttemptTerms) (l : List Made) (at n : ℕ) (so : Sofar) (ops : List Op) (logs : List OpLog) (m : Made) → OpsFollow t l at n so ops logs → In m l → at ≤ m.answer.place
    → m.answer.place < ops_end at logs → OpHome t l logs m
find_op t l at n so ops [] m follow there low high = absurd (omega arith)
find_op t l at n so [] (log ∷ logs) m follow there low high = absurd follow
find_op t l at n so (o ∷ ops) (log ∷ logs) m follow there low high =
    ⊎_elim (λ (inside : m.answer.place < log.span.to). record {
      at = at;
      number = n;
      sofar = so;
      op = o;
      log = log;
      follows = follow.0;
      inside = in_during log.span m l there (after_gap l at log.span m follow.0.spanned there low) inside;
      good = λ all. (and_parts (is_good log.answer) (all_good logs) all).0;
    })
    (λ (past : log.span.to ≤ m.answer.place).
    let it = find_op t l log.span.to (suc n) (noted o log so) ops logs m follow.2 there past high in
    record {
      at = it.at;
      number = it.number;
      sofar = it.sofar;
      op = it.op;
      log = it.log;
      follows = it.follows;
      inside = it.inside;
      good = λ all. it.good (and_parts (is_good log.answer) (all_good logs) all).1;
    })
    (cases_lt m.answer.place log.span.to)

failed_no_good : (place : ℕ) (a : OpAnswer) → a ≡ answer.CallFailed place → is_good a ≡ true → ⊥
failed_no_good place a is good = differ (sym (ap is_good is) ∙ good)
  where
    differ : false ≡ true → ⊥
    differ e = cc

-- where all answers are good no call of an operation failed
pub none_failed : (t : AttemptTerms) (l : List Made) (at n : ℕ) (so : Sofar) (ops : List Op) (logs : List OpLog) (m : Made) → OpsFollow t l at n so ops logs → all_good logs ≡ true → In m l
    → at ≤ m.answer.place → m.answer.place < ops_end at logs → m.answer.reply ≢ reply.Failed
none_failed t l at n so ops logs m follow all there low high =
    let it = find_op t l at n so ops logs m follow there low high in
    λ failed. absurd (failed_no_good m.answer.place it.log.answer (each_of (λ x. x.answer.reply ≡ reply.Failed → it.log.answer ≡ answer.CallFailed x.answer.place) (during it.log.span l) m it.follows.failed it.inside failed) (it.good all))

-- the attempt in which a place lies
pub record AttemptHome (x : TxnTerms) (l : List Made) (start n : ℕ) (logs : List AttemptLog) (p : ℕ) : Type 0 where
  pub index : ℕ
  pub at : ℕ
  pub log : AttemptLog
  pub is : slice_get logs index ≡ Some log
  pub follows : AttemptFollows (attempt_terms x start (n + index)) l at log
  pub low : at ≤ p
  pub high : p < log.span.to

pub find_attempt : (x : TxnTerms) (l : List Made) (start at n : ℕ) (logs : List AttemptLog) (p : ℕ) → AttemptsFollow x l start at n logs → at ≤ p → p < attempts_end at logs → AttemptHome x l start n logs p
find_attempt x l start at n [] p follow low high = absurd (omega arith)
find_attempt x l start at n (log ∷ logs) p follow low high =
    ⊎_elim (λ (inside : p < log.span.to). record {
      index = 0;
      at = at;
      log = log;
      is = refl;
      follows = subst (λ k. AttemptFollows (attempt_terms x start k) l at log) (plus_none n) follow.0;
      low = low;
      high = inside;
    })
    (λ (past : log.span.to ≤ p).
    let it = find_attempt x l start log.span.to (suc n) logs p follow.2 past high in
    record { index = suc it.index; at = it.at; log = it.log; is = it.is; follows = subst (λ k. AttemptFollows (attempt_terms x start k) l it.at it.log) (plus_one n it.index) it.follows; low = it.low; high = it.high })
    (cases_lt p log.span.to)
  where
    plus_none : (n : ℕ) → n ≡ n + 0
    plus_none n = omega arith

    plus_one : (n i : ℕ) → suc n + i ≡ n + suc i
    plus_one n i = omega arith

-- the transaction in which a place lies
pub record TxnHome (client atrs : ℕ) (l : List Made) (n : ℕ) (plans : List TxnPlan) (logs : List TxnLog) (p : ℕ) : Type 0 where
  pub index : ℕ
  pub at : ℕ
  pub plan : TxnPlan
  pub log : TxnLog
  pub plan_is : slice_get plans index ≡ Some plan
  pub log_is : slice_get logs index ≡ Some log
  pub follows : TxnFollows (record { client = client; number = n + index; plan = plan; atrs = atrs }) l at log
  pub low : at ≤ p
  pub high : p < attempts_end at log.attempts

pub find_txn : (client atrs : ℕ) (l : List Made) (at n : ℕ) (plans : List TxnPlan) (logs : List TxnLog) (p : ℕ) → TxnsFollow client atrs l at n plans logs → at ≤ p → p < txns_end at logs
    → TxnHome client atrs l n plans logs p
find_txn client atrs l at n plans [] p follow low high = absurd (omega arith)
find_txn client atrs l at n [] (log ∷ logs) p follow low high = absurd follow
find_txn client atrs l at n (plan ∷ plans) (log ∷ logs) p follow low high =
    ⊎_elim (λ (inside : p < attempts_end at log.attempts). record {
      index = 0;
      at = at;
      plan = plan;
      log = log;
      plan_is = refl;
      log_is = refl;
      follows = subst (λ k. TxnFollows (record { client = client; number = k; plan = plan; atrs = atrs }) l at log) (plus_none n) follow.0;
      low = low;
      high = inside;
    })
    (λ (past : attempts_end at log.attempts ≤ p).
    let it = find_txn client atrs l (attempts_end at log.attempts) (suc n) plans logs p follow.2 past high in
    record {
      index = suc it.index;
      at = it.at;
      plan = it.plan;
      log = it.log;
      plan_is = it.plan_is;
      log_is = it.log_is;
      follows = subst (λ k. TxnFollows (record { client = client; number = k; plan = it.plan; atrs = atrs }) l it.at it.log) (plus_one n it.index) it.follows;
      low = it.low;
      high = it.high;
    })
    (cases_lt p (attempts_end at log.attempts))
  where
    plus_none : (n : ℕ) → n ≡ n + 0
    plus_none n = omega arith

    plus_one : (n i : ℕ) → suc n + i ≡ n + suc i
    plus_one n i = omega arith

-- both
pub record Home (client atrs : ℕ) (plan : ClientPlan) (l : List Made) (log : ClientLog) (m : Made) : Type 0 where
  pub txn : ℕ
  pub try_no : ℕ
  pub txn_plan : TxnPlan
  pub txn_log : TxnLog
  pub txn_start : ℕ
  pub at : ℕ
  pub start : ℕ
  pub attempt : AttemptLog
  pub plan_is : numbered plan.txns txn ≡ Some txn_plan
  pub txn_is : numbered log.txns txn ≡ Some txn_log
  pub attempt_is : numbered txn_log.attempts try_no ≡ Some attempt
  pub txn_follows : TxnFollows (record { client = client; number = txn; plan = txn_plan; atrs = atrs }) l txn_start txn_log
  pub follows : AttemptFollows (attempt_terms (record { client = client; number = txn; plan = txn_plan; atrs = atrs }) start try_no) l at attempt
  pub low : at ≤ m.answer.place
  pub high : m.answer.place < attempt.span.to

one_more : (i : ℕ) → 1 + i ≡ suc i
one_more i = omega arith

find_in : (client atrs : ℕ) (plan : ClientPlan) (l : List Made) (log : ClientLog) (m : Made) (txn at : ℕ) (txn_plan : TxnPlan) (txn_log : TxnLog) → numbered plan.txns txn ≡ Some txn_plan
    → numbered log.txns txn ≡ Some txn_log → TxnFollows (record { client = client; number = txn; plan = txn_plan; atrs = atrs }) l at txn_log → at ≤ m.answer.place
    → m.answer.place < attempts_end at txn_log.attempts → Home client atrs plan l log m
find_in client atrs plan l log m txn at txn_plan txn_log plan_is txn_is follows low high =
    let x : TxnTerms = record { client = client; number = txn; plan = txn_plan; atrs = atrs } in
    let it = find_attempt x l follows.start at 1 txn_log.attempts m.answer.place follows.attempts low high in
    record {
      txn = txn;
      try_no = suc it.index;
      txn_plan = txn_plan;
      txn_log = txn_log;
      txn_start = at;
      at = it.at;
      start = follows.start;
      attempt = it.log;
      plan_is = plan_is;
      txn_is = txn_is;
      attempt_is = it.is;
      txn_follows = follows;
      follows = subst (λ k. AttemptFollows (attempt_terms x follows.start k) l it.at it.log) (one_more it.index) it.follows;
      low = it.low;
      high = it.high;
    }

pub find : (client atrs : ℕ) (plan : ClientPlan) (l : List Made) (log : ClientLog) (m : Made) → FollowsPlan client atrs plan l log → In m l → Home client atrs plan l log m
find client atrs plan l log m follows there =
    let it = find_txn client atrs l 0 1 plan.txns log.txns m.answer.place follows.txns (omega arith) (each_of (λ x. x.answer.place < txns_end 0 log.txns) l m follows.inside there) in
    find_in client atrs plan l log m (suc it.index) it.at it.plan it.log it.plan_is it.log_is
    (subst (λ k. TxnFollows (record { client = client; number = k; plan = it.plan; atrs = atrs }) l it.at it.log) (one_more it.index) it.follows) it.low it.high

-- the numbers in an attempt's identifier
pub record Decodes (a client txn try_no : ℕ) : Type 0 where
  pub client_is : client_of a ≡ client
  pub txn_is : txn_of a ≡ txn
  pub try_is : try_of a ≡ try_no

pub decodes : (client txn try_no : ℕ) → txn < 2 ^ 16 → try_no < 2 ^ 32 → Decodes (attempt_number client txn try_no) client txn try_no
decodes client txn try_no small low = record { client_is = omega arith; txn_is = omega arith; try_is = omega arith }
