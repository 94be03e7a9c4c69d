-- One part more at the end of a list of logs.
use Rattle.std.proofs.Common.{◌≡◌, ◌≢◌, ℕ, suc, ◌+◌, ◌≤◌, true, inl, inr, List, [], ◌∷◌, ◌++◌, length, drop, refl, sym, ap, subst, arith}
use Rattle.std.proofs.lemmas.Bool.{and_parts}
use Rattle.cbt_expr.specs.declared.plans.Op.{Op}
use Rattle.cbt_expr.specs.declared.plans.TxnPlan.{TxnPlan}
use Rattle.cbt_model.specs.declared.events.Made.{Made}
use Rattle.cbt_book.specs.declared.clients.AttemptLog.{AttemptLog}
use Rattle.cbt_book.specs.declared.clients.TxnEnd.TheVariants as txn_end
use Rattle.cbt_book.specs.declared.clients.TxnLog.{TxnLog}
use Rattle.cbt_book.specs.declared.operations.OpLog.{OpLog}
use Rattle.cbt_core.specs.Attempts.{AttemptFollows, all_good}
use Rattle.cbt_core.specs.Clients.{IsWhole, RunsOn, TxnsFollow, txns_end}
use Rattle.cbt_core.specs.Operations.{OpFollows, OpsFollow, GoesOn, is_good, ops_end}
use Rattle.cbt_core.specs.Transactions.{TxnTerms, AttemptsFollow, IsRetried, LastTry, TriesOn, TxnFollows, attempt_terms, attempts_end, now_before}
use Rattle.cbt_core.specs.Walk.{AttemptTerms, Sofar, noted, walked}
use Rattle.cbt_logs.specs.Running.{AllRun}
use Rattle.cbt_logs.specs.Trying.{MayTryOn}

pub plus_none : (n : ℕ) → n + 0 ≡ n
plus_none n = omega arith

pub plus_one : (n k : ℕ) → n + suc k ≡ suc n + k
plus_one n k = omega arith

pub one_more : (k : ℕ) → suc k ≡ 1 + k
one_more k = omega arith

pub nil_cons : {X : Type 0} {x : X} {xs : List X} → [] ≡ x ∷ xs → ⊥
nil_cons same = cc

-- ---- operations

pub ops_end_snoc : (at : ℕ) (logs : List OpLog) (log : OpLog) → ops_end at (logs ++ log ∷ []) ≡ log.span.to
ops_end_snoc at [] log = refl
ops_end_snoc at (x ∷ logs) log = ops_end_snoc x.span.to logs log

walked_none : (ops : List Op) (so : Sofar) → walked ops [] so ≡ so
walked_none [] so = refl
walked_none (o ∷ ops) so = refl

pub walked_snoc : (ops : List Op) (logs : List OpLog) (so : Sofar) (o : Op) (rest : List Op) (log : OpLog) → drop (length logs) ops ≡ o ∷ rest
    → walked ops (logs ++ log ∷ []) so ≡ noted o log (walked ops logs so)
walked_snoc ops [] so o rest log left = subst (λ q. walked q (log ∷ []) so ≡ noted o log (walked q [] so)) (sym left) (walked_none rest (noted o log so))
walked_snoc [] (x ∷ logs) so o rest log left = absurd (nil_cons left)
walked_snoc (p ∷ ops) (x ∷ logs) so o rest log left = walked_snoc ops logs (noted p x so) o rest log left

pub ops_snoc : (t : AttemptTerms) (l : List Made) (at n : ℕ) (so : Sofar) (ops : List Op) (logs : List OpLog) (o : Op) (rest : List Op) (log : OpLog)
    → OpsFollow t l at n so ops logs → all_good logs ≡ true → drop (length logs) ops ≡ o ∷ rest
    → OpFollows t l (ops_end at logs) (n + length logs) (walked ops logs so) o log → OpsFollow t l at n so ops (logs ++ log ∷ [])
ops_snoc t l at n so ops [] o rest log follow good left op = subst (λ q. OpsFollow t l at n so q (log ∷ [])) (sym left) (first, tt, tt)
  where
    first : OpFollows t l at n so o log
    first = subst (λ k. OpFollows t l at k so o log) (plus_none n) (subst (λ s. OpFollows t l at (n + 0) s o log) (walked_none ops so) op)
ops_snoc t l at n so [] (x ∷ logs) o rest log follow good left op = absurd follow
ops_snoc t l at n so (p ∷ ops) (x ∷ logs) o rest log follow good left op =
    let both = and_parts (is_good x.answer) (all_good logs) good in (
      follow.0,
      goes_on logs both.0,
      ops_snoc t l x.span.to (suc n) (noted p x so) ops logs o rest log follow.2 both.1 left
          (subst (λ k. OpFollows t l (ops_end x.span.to logs) k (walked ops logs (noted p x so)) o log) (plus_one n (length logs)) op),
    )
  where
    goes_on : (logs : List OpLog) → is_good x.answer ≡ true → GoesOn x (logs ++ log ∷ [])
    goes_on [] good = good
    goes_on (y ∷ logs) good = good

-- ---- tries

pub attempts_end_snoc : (at : ℕ) (logs : List AttemptLog) (log : AttemptLog) → attempts_end at (logs ++ log ∷ []) ≡ log.span.to
attempts_end_snoc at [] log = refl
attempts_end_snoc at (x ∷ logs) log = attempts_end_snoc x.span.to logs log

pub length_snoc : {X : Type 0} (xs : List X) (x : X) → length (xs ++ x ∷ []) ≡ suc (length xs)
length_snoc [] x = refl
length_snoc (y ∷ xs) x = ap suc (length_snoc xs x)

pub attempts_snoc : (x : TxnTerms) (l : List Made) (start at n : ℕ) (logs : List AttemptLog) (log : AttemptLog) → AttemptsFollow x l start at n logs
    → MayTryOn l (start + x.plan.expiry) logs → AttemptFollows (attempt_terms x start (n + length logs)) l (attempts_end at logs) log
    → AttemptsFollow x l start at n (logs ++ log ∷ [])
attempts_snoc x l start at n [] log follow may one = (subst (λ k. AttemptFollows (attempt_terms x start k) l at log) (plus_none n) one, tt, tt)
attempts_snoc x l start at n (y ∷ logs) log follow may one = (
  follow.0,
  tries_on logs follow.1 may,
  attempts_snoc x l start y.span.to (suc n) logs log follow.2 (may_rest logs may)
      (subst (λ k. AttemptFollows (attempt_terms x start k) l (attempts_end y.span.to logs) log) (plus_one n (length logs)) one),
)
  where
    tries_on : (logs : List AttemptLog) → TriesOn l (start + x.plan.expiry) y logs → MayTryOn l (start + x.plan.expiry) (y ∷ logs)
        → TriesOn l (start + x.plan.expiry) y (logs ++ log ∷ [])
    tries_on [] on may = may
    tries_on (z ∷ logs) on may = on

    may_rest : (logs : List AttemptLog) → MayTryOn l (start + x.plan.expiry) (y ∷ logs) → MayTryOn l (start + x.plan.expiry) logs
    may_rest [] may = tt
    may_rest (z ∷ logs) may = may

pub may_snoc : (l : List Made) (latest : ℕ) (logs : List AttemptLog) (log : AttemptLog) → IsRetried log → now_before l log.span.to ≤ latest
    → MayTryOn l latest (logs ++ log ∷ [])
may_snoc l latest [] log due in_time = (due, in_time)
may_snoc l latest (x ∷ logs) log due in_time = behind logs (may_snoc l latest logs log due in_time)
  where
    behind : (logs : List AttemptLog) → MayTryOn l latest (logs ++ log ∷ []) → MayTryOn l latest (x ∷ (logs ++ log ∷ []))
    behind [] may = may
    behind (y ∷ logs) may = may

-- a further try is due after the last one, where there was one
pub retried_last : (l : List Made) (latest : ℕ) (logs : List AttemptLog) → logs ≢ [] → MayTryOn l latest logs → LastTry IsRetried logs
retried_last l latest [] some may = absurd (some refl)
retried_last l latest (log ∷ []) some may = may.0
retried_last l latest (log ∷ next ∷ logs) some may = retried_last l latest (next ∷ logs) (λ none. nil_cons (sym none)) may

-- ---- transactions

pub txns_end_snoc : (at : ℕ) (logs : List TxnLog) (log : TxnLog) → txns_end at (logs ++ log ∷ []) ≡ attempts_end (txns_end at logs) log.attempts
txns_end_snoc at [] log = refl
txns_end_snoc at (x ∷ logs) log = txns_end_snoc (attempts_end at x.attempts) logs log

pub run_snoc : (logs : List TxnLog) (log : TxnLog) → AllRun logs → log.end ≢ txn_end.Stopped → AllRun (logs ++ log ∷ [])
run_snoc [] log run runs = (runs, tt)
run_snoc (x ∷ logs) log run runs = (run.0, run_snoc logs log run.1 runs)

pub txns_snoc : (client atrs : ℕ) (l : List Made) (at n : ℕ) (plans : List TxnPlan) (logs : List TxnLog) (this : TxnPlan) (rest : List TxnPlan) (log : TxnLog)
    → TxnsFollow client atrs l at n plans logs → AllRun logs → drop (length logs) plans ≡ this ∷ rest
    → TxnFollows (record { client = client; number = n + length logs; plan = this; atrs = atrs }) l (txns_end at logs) log
    → TxnsFollow client atrs l at n plans (logs ++ log ∷ [])
txns_snoc client atrs l at n plans [] this rest log follow run left one =
    subst (λ q. TxnsFollow client atrs l at n q (log ∷ [])) (sym left)
    (subst (λ k. TxnFollows (record { client = client; number = k; plan = this; atrs = atrs }) l at log) (plus_none n) one, tt, tt)
txns_snoc client atrs l at n [] (x ∷ logs) this rest log follow run left one = absurd follow
txns_snoc client atrs l at n (plan ∷ plans) (x ∷ logs) this rest log follow run left one = (
  follow.0,
  runs_on logs,
  txns_snoc client atrs l (attempts_end at x.attempts) (suc n) plans logs this rest log follow.2 run.1 left
      (subst (λ k. TxnFollows (record { client = client; number = k; plan = this; atrs = atrs }) l (txns_end (attempts_end at x.attempts) logs) log)
      (plus_one n (length logs)) one),
)
  where
    runs_on : (logs : List TxnLog) → RunsOn x (logs ++ log ∷ [])
    runs_on [] = run.0
    runs_on (y ∷ logs) = run.0

-- all of the plan's transactions have ended
pub whole_all : (plans : List TxnPlan) (logs : List TxnLog) → length logs ≡ length plans → IsWhole plans logs
whole_all [] [] same = tt
whole_all (plan ∷ plans) [] same = absurd (omega arith)
whole_all [] (log ∷ logs) same = absurd (omega arith)
whole_all (plan ∷ plans) (log ∷ []) same = inl (none plans (omega arith))
  where
    none : (plans : List TxnPlan) → length plans ≡ 0 → plans ≡ []
    none [] same = refl
    none (p ∷ plans) same = absurd (omega arith)
whole_all (plan ∷ plans) (log ∷ next ∷ logs) same = whole_all plans (next ∷ logs) (omega arith)

-- or the last that has one was stopped
pub whole_stopped : (plans : List TxnPlan) (logs : List TxnLog) (this : TxnPlan) (rest : List TxnPlan) (log : TxnLog) → drop (length logs) plans ≡ this ∷ rest
    → log.end ≡ txn_end.Stopped → IsWhole plans (logs ++ log ∷ [])
whole_stopped plans [] this rest log left stopped = subst (λ q. IsWhole q (log ∷ [])) (sym left) (inr stopped)
whole_stopped [] (x ∷ logs) this rest log left stopped = absurd (nil_cons left)
whole_stopped (plan ∷ plans) (x ∷ logs) this rest log left stopped = behind logs (whole_stopped plans logs this rest log left stopped)
  where
    behind : (logs : List TxnLog) → IsWhole plans (logs ++ log ∷ []) → IsWhole (plan ∷ plans) (x ∷ (logs ++ log ∷ []))
    behind [] whole = whole
    behind (y ∷ logs) whole = whole
