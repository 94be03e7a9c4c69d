-- The parts of a log by their numbers.
use Rattle.std.proofs.Common.{◌≡◌, ℕ, zero, suc, ◌+◌, ◌-◌, ◌<◌, ◌≤◌, true, ◌&&◌, ⊎_elim, List, [], ◌∷◌, take, slice_get, option_and_then, Option, Some, None, refl, sym, ap, ◌∙◌, subst, arith}
use Rattle.std.proofs.lemmas.Bool.{cases_lt}
use Rattle.std.proofs.lemmas.Option.{none-some}
use Rattle.cbt_expr.specs.declared.plans.ClientPlan.{ClientPlan}
use Rattle.cbt_expr.specs.declared.plans.Op.{Op}
use Rattle.cbt_expr.specs.declared.plans.TxnPlan.{TxnPlan}
use Rattle.cbt_model.specs.declared.events.Made.{Made}
use Rattle.cbt_book.specs.OwnLists.{In, during}
use Rattle.cbt_book.specs.declared.book.Book.{Book}
use Rattle.cbt_book.specs.declared.clients.AttemptLog.{AttemptLog}
use Rattle.cbt_book.specs.declared.clients.ClientLog.{ClientLog}
use Rattle.cbt_book.specs.declared.clients.TxnLog.{TxnLog}
use Rattle.cbt_book.specs.declared.operations.OpLog.{OpLog}
use Rattle.cbt_core.specs.Attempts.{AttemptFollows, all_good}
use Rattle.cbt_core.specs.Clients.{TxnsFollow}
use Rattle.cbt_core.specs.Walk.{AttemptTerms, Sofar, noted, walked, nothing_yet}
use Rattle.cbt_core.specs.Operations.{OpFollows, OpsFollow, GoesOn, is_good, ops_end}
use Rattle.cbt_core.specs.Right.{IsAnswer}
use Rattle.cbt_core.specs.Runs.{IsLegalRun, LogsFollow, own_of}
use Rattle.cbt_core.specs.Transactions.{TxnTerms, attempt_terms, AttemptsFollow, TxnFollows, attempts_end}
use Rattle.cbt_core.specs.WriteSets.{numbered, plan_at, txn_at, attempt_at}
use Rattle.cbt_core.specs.declared.case.Case.{Case}
use Rattle.cbt_core.proofs.logs.Calls.{in_during, after_gap}
use Rattle.cbt_core.proofs.logs.Noted.{span_order, ops_low}
use Rattle.cbt_core.proofs.runs.Past.{some_same}

plus_none : (n : ℕ) → n ≡ n + 0
plus_none n = omega arith

plus_one : (n i : ℕ) → suc n + i ≡ n + suc i
plus_one n i = omega arith

one_more : (i : ℕ) → 1 + i ≡ suc i
one_more i = omega arith

pub minus_one : (j : ℕ) → suc j - 1 ≡ j
minus_one j = omega arith

-- the operation with this number
pub record OpAt (t : AttemptTerms) (l : List Made) (at : ℕ) (o : Op) (log : OpLog) (so : Sofar) : Type 0 where
  pub number : ℕ
  pub follows : OpFollows t l at number so o log

pub op_at : (t : AttemptTerms) (l : List Made) (at n : ℕ) (so : Sofar) (ops : List Op) (logs : List OpLog) (j : ℕ) (o : Op) (log : OpLog) → OpsFollow t l at n so ops logs → slice_get ops j ≡ Some o
    → slice_get logs j ≡ Some log → OpAt t l (ops_end at (take j logs)) o log (walked (take j ops) (take j logs) so)
op_at t l at n so ops [] j o log follow op_is log_is = absurd (none_there j)
  where
    none_there : (j : ℕ) → ⊥
    none_there j = none-some log (sym (empty j) ∙ log_is)
      where
        empty : (j : ℕ) → slice_get {X = OpLog} [] j ≡ None
        empty j = refl
op_at t l at n so [] (x ∷ logs) j o log follow op_is log_is = absurd follow
op_at t l at n so (p ∷ ops) (x ∷ logs) zero o log follow op_is log_is =
    let op_same : p ≡ o = some_same op_is in
    let log_same : x ≡ log = some_same log_is in
    record { number = n; follows = subst (λ q. OpFollows t l at n so q log) op_same (subst (λ y. OpFollows t l at n so p y) log_same follow.0) }
op_at t l at n so (p ∷ ops) (x ∷ logs) (suc j) o log follow op_is log_is = op_at t l x.span.to (suc n) (noted p x so) ops logs j o log follow.2 op_is log_is

-- the operations before this one follow the plan too, and were answered well; it ends before the operations do
pub ops_before : (t : AttemptTerms) (l : List Made) (at n : ℕ) (so : Sofar) (ops : List Op) (logs : List OpLog) (j : ℕ) (log : OpLog) → OpsFollow t l at n so ops logs → slice_get logs j ≡ Some log
    → OpsFollow t l at n so (take j ops) (take j logs) × (all_good (take j logs) ≡ true) × (log.span.to ≤ ops_end at logs)
ops_before t l at n so [] [] j log follow log_is = absurd (none-some log log_is)
ops_before t l at n so (p ∷ ops) [] j log follow log_is = absurd (none-some log log_is)
ops_before t l at n so [] (x ∷ logs) j log follow log_is = absurd follow
ops_before t l at n so (p ∷ ops) (x ∷ logs) zero log follow log_is =
    (tt, refl, subst (λ (y : OpLog). y.span.to ≤ ops_end x.span.to logs) (some_same log_is) (ops_low t l x.span.to (suc n) (noted p x so) ops logs follow.2))
ops_before t l at n so (p ∷ ops) (x ∷ logs) (suc j) log follow log_is =
    let rest = ops_before t l x.span.to (suc n) (noted p x so) ops logs j log follow.2 log_is in
    let good = goes logs j log_is follow.1 in
    ((follow.0, goes_on (take j logs) good, rest.0), ap (λ b. b && all_good (take j logs)) good ∙ rest.1, rest.2)
  where
    goes : (logs : List OpLog) (j : ℕ) → slice_get logs j ≡ Some log → GoesOn x logs → is_good x.answer ≡ true
    goes [] j is on = absurd (none-some log is)
    goes (y ∷ logs) j is on = on

    goes_on : (logs : List OpLog) → is_good x.answer ≡ true → GoesOn x logs
    goes_on [] good = tt
    goes_on (y ∷ logs) good = good

-- the operation of a call, with its number
pub record OpIndex (t : AttemptTerms) (l : List Made) (so : Sofar) (ops : List Op) (logs : List OpLog) (m : Made) : Type 0 where
  pub index : ℕ
  pub at : ℕ
  pub number : ℕ
  pub op : Op
  pub log : OpLog
  pub op_is : slice_get ops index ≡ Some op
  pub log_is : slice_get logs index ≡ Some log
  pub follows : OpFollows t l at number (walked (take index ops) (take index logs) so) op log
  pub inside : In m (during log.span l)

pub op_index : (t : AttemptTerms) (l : List Made) (at n : ℕ) (so : Sofar) (ops : List Op) (logs : List OpLog) (m : Made) → OpsFollow t l at n so ops logs → In m l → at ≤ m.answer.place
    → m.answer.place < ops_end at logs → OpIndex t l so ops logs m
op_index t l at n so ops [] m follow there low high = absurd (omega arith)
op_index t l at n so [] (x ∷ logs) m follow there low high = absurd follow
op_index t l at n so (p ∷ ops) (x ∷ logs) m follow there low high =
    ⊎_elim (λ (inside : m.answer.place < x.span.to). record {
      index = 0;
      at = at;
      number = n;
      op = p;
      log = x;
      op_is = refl;
      log_is = refl;
      follows = follow.0;
      inside = in_during x.span m l there (after_gap l at x.span m follow.0.spanned there low) inside;
    })
    (λ (past : x.span.to ≤ m.answer.place).
    let it = op_index t l x.span.to (suc n) (noted p x so) ops logs m follow.2 there past high in
    record { index = suc it.index; at = it.at; number = it.number; op = it.op; log = it.log; op_is = it.op_is; log_is = it.log_is; follows = it.follows; inside = it.inside })
    (cases_lt m.answer.place x.span.to)

-- operations follow one another in place
later_from : (t : AttemptTerms) (l : List Made) (at n : ℕ) (so : Sofar) (ops : List Op) (logs : List OpLog) (j : ℕ) (y : OpLog) → OpsFollow t l at n so ops logs → slice_get logs j ≡ Some y → at ≤ y.span.from
later_from t l at n so ops [] j y follow is = absurd (none-some y is)
later_from t l at n so [] (x ∷ logs) j y follow is = absurd follow
later_from t l at n so (p ∷ ops) (x ∷ logs) zero y follow is = subst (λ (w : OpLog). at ≤ w.span.from) (some_same is) follow.0.spanned.follows
later_from t l at n so (p ∷ ops) (x ∷ logs) (suc j) y follow is =
    let rest = later_from t l x.span.to (suc n) (noted p x so) ops logs j y follow.2 is in
    let a = follow.0.spanned.follows in let b = span_order l at x.span follow.0.spanned in omega arith

pub ends_before : (t : AttemptTerms) (l : List Made) (at n : ℕ) (so : Sofar) (ops : List Op) (logs : List OpLog) (i j : ℕ) (x y : OpLog) → OpsFollow t l at n so ops logs → slice_get logs i ≡ Some x
    → slice_get logs j ≡ Some y → i < j → x.span.to ≤ y.span.from
ends_before t l at n so ops [] i j x y follow is its low = absurd (none-some x is)
ends_before t l at n so [] (z ∷ logs) i j x y follow is its low = absurd follow
ends_before t l at n so (p ∷ ops) (z ∷ logs) i zero x y follow is its low = absurd (omega arith)
ends_before t l at n so (p ∷ ops) (z ∷ logs) zero (suc j) x y follow is its low =
    subst (λ (w : OpLog). w.span.to ≤ y.span.from) (some_same is) (later_from t l z.span.to (suc n) (noted p z so) ops logs j y follow.2 its)
ends_before t l at n so (p ∷ ops) (z ∷ logs) (suc i) (suc j) x y follow is its low = ends_before t l z.span.to (suc n) (noted p z so) ops logs i j x y follow.2 is its (omega arith)

-- the attempt with this number
pub record TryAt (x : TxnTerms) (l : List Made) (start k : ℕ) (log : AttemptLog) : Type 0 where
  pub at : ℕ
  pub follows : AttemptFollows (attempt_terms x start k) l at log

pub try_at : (x : TxnTerms) (l : List Made) (start at n : ℕ) (logs : List AttemptLog) (j : ℕ) (log : AttemptLog) → AttemptsFollow x l start at n logs → slice_get logs j ≡ Some log → TryAt x l start (n + j) log
try_at x l start at n [] j log follow is = absurd (none-some log is)
try_at x l start at n (y ∷ logs) zero log follow is =
    record { at = at; follows = subst (λ z. AttemptFollows (attempt_terms x start (n + 0)) l at z) (some_same is) (subst (λ k. AttemptFollows (attempt_terms x start k) l at y) (plus_none n) follow.0) }
try_at x l start at n (y ∷ logs) (suc j) log follow is =
    let it = try_at x l start y.span.to (suc n) logs j log follow.2 is in record { at = it.at; follows = subst (λ k. AttemptFollows (attempt_terms x start k) l it.at log) (plus_one n j) it.follows }

-- attempts follow one another in place
tries_from : (x : TxnTerms) (l : List Made) (start at n : ℕ) (logs : List AttemptLog) (j : ℕ) (log : AttemptLog) → AttemptsFollow x l start at n logs → slice_get logs j ≡ Some log → at ≤ log.span.from
tries_from x l start at n [] j log follow is = absurd (none-some log is)
tries_from x l start at n (y ∷ logs) zero log follow is = subst (λ (z : AttemptLog). at ≤ z.span.from) (some_same is) follow.0.spanned.follows
tries_from x l start at n (y ∷ logs) (suc j) log follow is =
    let rest = tries_from x l start y.span.to (suc n) logs j log follow.2 is in
    let a = follow.0.spanned.follows in let b = span_order l at y.span follow.0.spanned in omega arith

pub tries_apart : (x : TxnTerms) (l : List Made) (start at n : ℕ) (logs : List AttemptLog) (i j : ℕ) (one other : AttemptLog) → AttemptsFollow x l start at n logs → slice_get logs i ≡ Some one
    → slice_get logs j ≡ Some other → i < j → one.span.to ≤ other.span.from
tries_apart x l start at n [] i j one other follow is its low = absurd (none-some one is)
tries_apart x l start at n (y ∷ logs) i zero one other follow is its low = absurd (omega arith)
tries_apart x l start at n (y ∷ logs) zero (suc j) one other follow is its low =
    subst (λ (z : AttemptLog). z.span.to ≤ other.span.from) (some_same is) (tries_from x l start y.span.to (suc n) logs j other follow.2 its)
tries_apart x l start at n (y ∷ logs) (suc i) (suc j) one other follow is its low = tries_apart x l start y.span.to (suc n) logs i j one other follow.2 is its (omega arith)

-- the transaction with this number
pub record TxnAt (client atrs : ℕ) (l : List Made) (number : ℕ) (plan : TxnPlan) (log : TxnLog) : Type 0 where
  pub at : ℕ
  pub follows : TxnFollows (record { client = client; number = number; plan = plan; atrs = atrs }) l at log

pub txn_by : (client atrs : ℕ) (l : List Made) (at n : ℕ) (plans : List TxnPlan) (logs : List TxnLog) (j : ℕ) (log : TxnLog) → TxnsFollow client atrs l at n plans logs → slice_get logs j ≡ Some log
    → (plan : TxnPlan) × (slice_get plans j ≡ Some plan) × TxnAt client atrs l (n + j) plan log
txn_by client atrs l at n plans [] j log follow is = absurd (none-some log is)
txn_by client atrs l at n [] (y ∷ logs) j log follow is = absurd follow
txn_by client atrs l at n (p ∷ plans) (y ∷ logs) zero log follow is = (
  p,
  refl,
  record {
    at = at;
    follows = subst (λ z. TxnFollows (record { client = client; number = n + 0; plan = p; atrs = atrs }) l at z) (some_same is)
        (subst (λ k. TxnFollows (record { client = client; number = k; plan = p; atrs = atrs }) l at y) (plus_none n) follow.0);
  },
)
txn_by client atrs l at n (p ∷ plans) (y ∷ logs) (suc j) log follow is =
    let it = txn_by client atrs l (attempts_end at y.attempts) (suc n) plans logs j log follow.2 is in
    (it.0, it.1, record { at = it.2.at; follows = subst (λ k. TxnFollows (record { client = client; number = k; plan = it.0; atrs = atrs }) l it.2.at log) (plus_one n j) it.2.follows })

pub found : {X Y : Type 0} (o : Option X) (f : X → Option Y) (y : Y) → option_and_then f o ≡ Some y → (x : X) × (o ≡ Some x) × (f x ≡ Some y)
found None f y is = absurd (none-some y is)
found (Some x) f y is = (x, refl, is)

pub from_one : {X : Type 0} (xs : List X) (n : ℕ) (x : X) → numbered xs n ≡ Some x → (j : ℕ) × (n ≡ suc j) × (slice_get xs j ≡ Some x)
from_one xs zero x is = absurd (none-some x is)
from_one xs (suc j) x is = (j, refl, is)

module _ (case : Case) (book : Book) (legal : IsLegalRun case book) (follow : LogsFollow case book) where
  -- a client's transaction by its numbers
  pub record TxnOf (client txn : ℕ) (log : TxnLog) : Type 0 where
    pub plan : TxnPlan
    pub plan_is : plan_at case.plans client txn ≡ Some plan
    pub at : ℕ
    pub follows : TxnFollows (record { client = client; number = txn; plan = plan; atrs = case.atrs }) (own_of book client) at log

  pub txn_of_run : (client txn : ℕ) (plan : ClientPlan) (log : TxnLog) → numbered case.plans client ≡ Some plan → txn_at book.clients client txn ≡ Some log → TxnOf client txn log
  txn_of_run client txn plan log plan_is is =
      let c = found (numbered book.clients client) (λ (x : ClientLog). numbered x.txns txn) log is in
      let j = from_one c.0.txns txn log c.2 in
      let it = txn_by client case.atrs (own_of book client) 0 1 plan.txns c.0.txns j.0 log (follow.clients.each client plan c.0 plan_is c.1).txns j.2 in
      let number : 1 + j.0 ≡ txn = one_more j.0 ∙ sym j.1 in
      record {
        plan = it.0;
        plan_is = ap (λ o. option_and_then (λ (x : ClientPlan). numbered x.txns txn) o) plan_is ∙ ap (λ k. numbered plan.txns k) j.1 ∙ it.1;
        at = it.2.at;
        follows = subst (λ k. TxnFollows (record { client = client; number = k; plan = it.0; atrs = case.atrs }) (own_of book client) it.2.at log) number it.2.follows;
      }

  -- one of its attempts
  pub record TryOf (client txn try_no : ℕ) (plan : TxnPlan) (log : AttemptLog) : Type 0 where
    pub start : ℕ
    pub at : ℕ
    pub follows : AttemptFollows (attempt_terms (record { client = client; number = txn; plan = plan; atrs = case.atrs }) start try_no) (own_of book client) at log

  pub try_of_run : (client txn try_no : ℕ) (plan : ClientPlan) (log : AttemptLog) (x : TxnPlan) → numbered case.plans client ≡ Some plan → plan_at case.plans client txn ≡ Some x
      → attempt_at book.clients client txn try_no ≡ Some log → TryOf client txn try_no x log
  try_of_run client txn try_no plan log x plan_is x_is is =
      let tx = found (txn_at book.clients client txn) (λ (y : TxnLog). numbered y.attempts try_no) log is in
      let it = txn_of_run client txn plan tx.0 plan_is tx.1 in
      let j = from_one tx.0.attempts try_no log tx.2 in
      let one = try_at (record { client = client; number = txn; plan = it.plan; atrs = case.atrs }) (own_of book client) it.follows.start it.at 1 tx.0.attempts j.0 log it.follows.attempts j.2 in
      let number : 1 + j.0 ≡ try_no = one_more j.0 ∙ sym j.1 in
      let same : it.plan ≡ x = some_same (sym it.plan_is ∙ x_is) in
      record {
        start = it.follows.start;
        at = one.at;
        follows = subst (λ y. AttemptFollows (attempt_terms (record { client = client; number = txn; plan = y; atrs = case.atrs }) it.follows.start try_no) (own_of book client) one.at log) same
            (subst (λ k. AttemptFollows (attempt_terms (record { client = client; number = txn; plan = it.plan; atrs = case.atrs }) it.follows.start k) (own_of book client) one.at log) number one.follows);
      }

  -- the operation of an answer
  pub record OpOf (client txn try_no : ℕ) (plan : TxnPlan) (attempt : AttemptLog) (o : Op) (log : OpLog) (so : Sofar) : Type 0 where
    pub t : AttemptTerms
    pub at : ℕ
    pub number : ℕ
    pub follows : OpFollows t (own_of book client) at number so o log
    -- those before it
    pub from : ℕ
    pub ops : List Op
    pub logs : List OpLog
    pub before : OpsFollow t (own_of book client) from 1 nothing_yet ops logs
    pub good : all_good logs ≡ true
    pub at_is : at ≡ ops_end from logs
    pub so_is : so ≡ walked ops logs nothing_yet
    -- and its attempt
    pub start : ℕ
    pub t_is : t ≡ attempt_terms (record { client = client; number = txn; plan = plan; atrs = case.atrs }) start try_no
    pub attempt_follows : AttemptFollows t (own_of book client) from attempt
    pub within : log.span.to ≤ attempt.span.to

  pub op_of_run : (client txn try_no n : ℕ) (o : Op) (log : OpLog) (so : Sofar) (it : IsAnswer case book client txn try_no n o log so) → OpOf client txn try_no it.plan it.attempt o log so
  op_of_run client txn try_no n o log so it =
      let c = found (numbered case.plans client) (λ (p : ClientPlan). numbered p.txns txn) it.plan it.plan_is in
      let try_is = try_of_run client txn try_no c.0 it.attempt it.plan c.1 it.plan_is it.attempt_is in
      let j = from_one it.plan.ops n o it.op_is in
      let log_is : slice_get it.attempt.ops j.0 ≡ Some log = ap (λ k. numbered it.attempt.ops k) (sym j.1) ∙ it.log_is in
      let t = attempt_terms (record { client = client; number = txn; plan = it.plan; atrs = case.atrs }) try_is.start try_no in
      let op = op_at t (own_of book client) try_is.at 1 nothing_yet it.plan.ops it.attempt.ops j.0 o log try_is.follows.ops j.2 log_is in
      let index : n - 1 ≡ j.0 = ap (λ k. k - 1) j.1 ∙ minus_one j.0 in
      let so_is : so ≡ walked (take j.0 it.plan.ops) (take j.0 it.attempt.ops) nothing_yet = it.sofar_is ∙ ap (λ k. walked (take k it.plan.ops) (take k it.attempt.ops) nothing_yet) index in
      let before = ops_before t (own_of book client) try_is.at 1 nothing_yet it.plan.ops it.attempt.ops j.0 log try_is.follows.ops log_is in
      record {
        t = t;
        at = ops_end try_is.at (take j.0 it.attempt.ops);
        number = op.number;
        follows = subst (λ s. OpFollows t (own_of book client) (ops_end try_is.at (take j.0 it.attempt.ops)) op.number s o log) (sym so_is) op.follows;
        from = try_is.at;
        ops = take j.0 it.plan.ops;
        logs = take j.0 it.attempt.ops;
        before = before.0;
        good = before.1;
        at_is = refl;
        so_is = so_is;
        start = try_is.start;
        t_is = refl;
        attempt_follows = try_is.follows;
        within = (let a = before.2 in let b = try_is.follows.held in omega arith);
      }
