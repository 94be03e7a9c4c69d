-- Stops: an actor is stopped by the script alone, once it has made just as many calls as its stop names and has a next one.
use Rattle.std.specs.Prelude.{◌≡◌, ◌≢◌, ℕ, suc, ◌+◌, ◌≤◌, Bool, true, false, List, [], ◌∷◌, ◌++◌, length, Some, Ok, Err}
use Rattle.cbt_expr.specs.declared.plans.ClientPlan.{ClientPlan}
use Rattle.cbt_expr.specs.declared.plans.Op.{Op}
use Rattle.cbt_expr.specs.declared.plans.TxnPlan.{TxnPlan}
use Rattle.cbt_model.specs.Stops.{stop_of}
use Rattle.cbt_model.specs.declared.events.Made.{Made}
use Rattle.cbt_book.specs.Cleaners.{AtLast, HasNext}
use Rattle.cbt_book.specs.OwnLists.{In, during}
use Rattle.cbt_book.specs.declared.book.Book.{Book}
use Rattle.cbt_book.specs.declared.cleaners.CleanerLog.{CleanerLog}
use Rattle.cbt_book.specs.declared.clients.AttemptEnd.{AttemptEnd}
use Rattle.cbt_book.specs.declared.clients.AttemptEnd.TheVariants as attempt_end
use Rattle.cbt_book.specs.declared.clients.AttemptLog.{AttemptLog}
use Rattle.cbt_book.specs.declared.clients.ClientLog.{ClientLog}
use Rattle.cbt_book.specs.declared.clients.TxnEnd.TheVariants as txn_end
use Rattle.cbt_book.specs.declared.clients.TxnLog.{TxnLog}
use Rattle.cbt_book.specs.declared.operations.OpAnswer.{OpAnswer}
use Rattle.cbt_core.specs.Attempts.{AttemptFollows, Course, Ends, IsLate, LastIs, all_good, course_of}
use Rattle.cbt_core.specs.OpAnswers.{Answered}
use Rattle.cbt_core.specs.Operations.{is_good}
use Rattle.cbt_core.specs.Runs.{cleaner_plan, own_of}
use Rattle.cbt_core.specs.Transactions.{TxnTerms, HasTry, attempt_terms, attempts_end, now_before, start_of}
use Rattle.cbt_core.specs.Walk.{AttemptTerms, Request, Reads, Writes, Tests, nothing_yet, request_of}
use Rattle.cbt_core.specs.WriteSets.{numbered}
use Rattle.cbt_core.specs.declared.case.Case.{Case}

-- a client was stopped: its last transaction tells so
abbrev pub WasStopped : List TxnLog → Type 0
WasStopped [] = ⊥
WasStopped (log ∷ []) = log.end ≡ txn_end.Stopped
WasStopped (log ∷ next ∷ logs) = WasStopped (next ∷ logs)

-- why operations of an attempt, or what follows them, have a call to make
pub data Asks (t : AttemptTerms) (l : List Made) (c : Course) : Type 0 where
  -- it closes, or is to close
  closing : c.closing ≢ [] → Asks t l c
  all_answered : c.left ≡ [] → Asks t l c
  refused : LastIs (λ log. is_good log.answer ≡ false) c.log.ops → Asks t l c
  late : IsLate t c.cut → Asks t l c
  -- an operation is under way, or is to begin, that has no answer by the calls that it has made
  unanswered : (next : Op) (rest : List Op) → c.left ≡ next ∷ rest → all_good c.log.ops ≡ true
      → ((a : OpAnswer) → ¬ Answered t l c.sofar (request_of c.sofar.bound next) c.cut a) → Asks t l c

-- an attempt that was stopped had a call to make: it has no other end, and its operations or what follows them ask for one
pub record HasCall (t : AttemptTerms) (l : List Made) (at : ℕ) (log : AttemptLog) : Type 0 where
  pub stopped : log.end ≡ attempt_end.Stopped
  pub follows : AttemptFollows t l at log
  pub unended : (e : AttemptEnd) → Ends t (course_of t log follows.cut follows.closing) (during log.span l) e → e ≡ attempt_end.Stopped
  pub asks : Asks t l (course_of t log follows.cut follows.closing)

-- whether this is asked by a call, where none was made so far; a test that holds is passed over
abbrev pub is_call : Request → Bool → Bool
is_call (Reads d name) rest = true
is_call (Writes d kind (Ok content)) rest = true
is_call (Writes d kind (Err part)) rest = false
is_call (Tests (Ok true)) rest = rest
is_call (Tests truth) rest = false

-- whether the operations of a try begin with a call
abbrev pub begins_with_call : List Op → Bool
begins_with_call [] = false
begins_with_call (o ∷ ops) = is_call (request_of nothing_yet.bound o) (begins_with_call ops)

-- the time of a transaction's first answer
abbrev pub began : List Made → ℕ → TxnLog → ℕ
began l at log = start_of (during (record { from = at; to = attempts_end at log.attempts }) l)

-- a transaction that was stopped had a call to make: its first, one of its last try, or the first of a further try that was due,
-- left and in time
pub data TxnHasCall (x : TxnTerms) (l : List Made) (at : ℕ) (log : TxnLog) : Type 0 where
  unbegun : log.attempts ≡ [] → begins_with_call x.plan.ops ≡ true → TxnHasCall x l at log
  in_try : (earlier : List AttemptLog) (last : AttemptLog) → log.attempts ≡ earlier ++ last ∷ []
      → HasCall (attempt_terms x (began l at log) (length log.attempts)) l (attempts_end at earlier) last → TxnHasCall x l at log
  before_try : HasTry x log.attempts → now_before l (attempts_end at log.attempts) ≤ began l at log + x.plan.expiry → TxnHasCall x l at log

-- the last of a client's transactions, from the n-th on, had a call to make
abbrev pub LastHasCall : ℕ → ℕ → List Made → ℕ → ℕ → List TxnPlan → List TxnLog → Type 0
LastHasCall client atrs l at n plans [] = ⊥
LastHasCall client atrs l at n [] (log ∷ logs) = ⊥
LastHasCall client atrs l at n (plan ∷ plans) (log ∷ []) = TxnHasCall (record { client = client; number = n; plan = plan; atrs = atrs }) l at log
LastHasCall client atrs l at n (plan ∷ plans) (log ∷ next ∷ logs) = LastHasCall client atrs l (attempts_end at log.attempts) (suc n) plans (next ∷ logs)

-- stops are kept
pub record StopsKept (case : Case) (book : Book) : Type 0 where
  -- no client and no cleaner made more calls than its stop names
  pub within : (actor most : ℕ) → actor ≤ length case.plans + length case.rounds → stop_of case.stops actor ≡ Some most → length (own_of book actor) ≤ most
  -- a log says stopped only where its actor made just as many, and had a next call
  pub client : (n : ℕ) (plan : ClientPlan) (log : ClientLog) → numbered case.plans n ≡ Some plan → numbered book.clients n ≡ Some log → WasStopped log.txns
      → (stop_of case.stops n ≡ Some log.calls) × LastHasCall n case.atrs (own_of book n) 0 1 plan.txns log.txns
  pub cleaner : (n rounds : ℕ) (log : CleanerLog) → numbered case.rounds n ≡ Some rounds → numbered book.cleaners n ≡ Some log → log.stopped ≡ true
      → (stop_of case.stops (length case.plans + n) ≡ Some log.calls)
      × AtLast (HasNext (cleaner_plan case n rounds) (own_of book (length case.plans + n))) log.rounds
  -- the sweep never is
  pub sweep : (log : CleanerLog) → numbered book.cleaners (suc (length case.rounds)) ≡ Some log → log.stopped ≡ false

-- a client began and ended all its transactions
pub record IsComplete (plan : ClientPlan) (log : ClientLog) : Type 0 where
  pub all : length log.txns ≡ length plan.txns
  pub ended : (txn : TxnLog) → In txn log.txns → txn.end ≢ txn_end.Stopped

-- clients that made another number of calls than their stops name began and ended all their transactions
abbrev pub ClientsComplete : Case → Book → Type 0
ClientsComplete case book = (n : ℕ) (plan : ClientPlan) (log : ClientLog) → numbered case.plans n ≡ Some plan → numbered book.clients n ≡ Some log
    → stop_of case.stops n ≢ Some log.calls → IsComplete plan log

-- and so did cleaners all their rounds
abbrev pub CleanersComplete : Case → Book → Type 0
CleanersComplete case book = (n rounds : ℕ) (log : CleanerLog) → numbered case.rounds n ≡ Some rounds → numbered book.cleaners n ≡ Some log
    → stop_of case.stops (length case.plans + n) ≢ Some log.calls → length log.rounds ≡ rounds
