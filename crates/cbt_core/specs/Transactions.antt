-- What it is that the log of a transaction follows its plan: its tries, and how it ended.
use Rattle.std.specs.Prelude.{◌≡◌, ℕ, suc, ◌+◌, ◌<◌, ◌≤◌, Bool, true, false, List, [], ◌∷◌, length, Some}
use Rattle.cbt_base.specs.Ids.{attempt_number}
use Rattle.cbt_expr.specs.declared.plans.TxnPlan.{TxnPlan}
use Rattle.cbt_model.specs.declared.events.Made.{Made}
use Rattle.cbt_book.specs.OwnLists.{Once, during}
use Rattle.cbt_book.specs.Shown.{decides}
use Rattle.cbt_book.specs.declared.clients.AttemptEnd.TheVariants as attempt_end
use Rattle.cbt_book.specs.declared.clients.AttemptLog.{AttemptLog}
use Rattle.cbt_book.specs.declared.clients.TxnEnd.{TxnEnd}
use Rattle.cbt_book.specs.declared.clients.TxnEnd.TheVariants as txn_end
use Rattle.cbt_book.specs.declared.clients.TxnLog.{TxnLog}
use Rattle.cbt_book.specs.declared.clients.Why.{Why}
use Rattle.cbt_book.specs.declared.clients.Why.TheVariants as why
use Rattle.cbt_book.specs.declared.operations.OpAnswer.{OpAnswer}
use Rattle.cbt_book.specs.declared.operations.OpAnswer.TheVariants as answer
use Rattle.cbt_book.specs.declared.operations.When.{When}
use Rattle.cbt_core.specs.Attempts.{AttemptFollows, LastIs, all_good}
use Rattle.cbt_core.specs.Walk.{AttemptTerms}

-- under what a transaction is made: by which client, with which number, by which plan, and with how many transaction records
pub record TxnTerms : Type 0 where
  pub client : ℕ
  pub number : ℕ
  pub plan : TxnPlan
  pub atrs : ℕ

-- the time of the first of these calls, newest first
abbrev pub start_of : List Made → ℕ
start_of [] = 0
start_of (m ∷ []) = m.answer.now
start_of (m ∷ next ∷ older) = start_of (next ∷ older)

-- under what the n-th try is made, of a transaction that began at this time
abbrev pub attempt_terms : TxnTerms → ℕ → ℕ → AttemptTerms
attempt_terms x start n = record { id = attempt_number x.client x.number n; plan = x.plan; atrs = x.atrs; latest = start + x.plan.expiry }

-- the answers after which a transaction is tried again
abbrev pub is_retried : OpAnswer → Bool
is_retried (answer.Blocked by) = true
is_retried answer.Moved = true
is_retried answer.Contended = true
is_retried (answer.CallFailed place) = true
is_retried _ = false

-- a further try is due after this one
pub data IsRetried (log : AttemptLog) : Type 0 where
  after_answer : log.end ≡ attempt_end.RolledBack → LastIs (λ it. is_retried it.answer ≡ true) log.ops → IsRetried log
  after_commits : log.end ≡ attempt_end.RolledBack → log.not_committed ≡ true → IsRetried log
  after_loss : (place : ℕ) → log.end ≡ attempt_end.EntryLost place → IsRetried log

-- the time of the newest of these calls
abbrev pub newest_now : List Made → ℕ
newest_now [] = 0
newest_now (m ∷ older) = m.answer.now

-- the time of the last own answer before this place
abbrev pub now_before : List Made → ℕ → ℕ
now_before l place = newest_now (during (record { from = 0; to = place }) l)

-- a try has another one after it only where that was due and in time
abbrev pub TriesOn : List Made → ℕ → AttemptLog → List AttemptLog → Type 0
TriesOn l latest log [] = Unit {0}
TriesOn l latest log (next ∷ logs) = IsRetried log × (now_before l log.span.to ≤ latest)

-- the tries of a transaction, in their order, from the n-th on
abbrev pub AttemptsFollow : TxnTerms → List Made → ℕ → ℕ → ℕ → List AttemptLog → Type 0
AttemptsFollow x l start at n [] = Unit {0}
AttemptsFollow x l start at n (log ∷ logs) =
    AttemptFollows (attempt_terms x start n) l at log × TriesOn l (start + x.plan.expiry) log logs × AttemptsFollow x l start log.span.to (suc n) logs

-- one past the last place of attempts that begin at `at`
abbrev pub attempts_end : ℕ → List AttemptLog → ℕ
attempts_end at [] = at
attempts_end at (log ∷ logs) = attempts_end log.span.to logs

-- P is so of the last attempt
abbrev pub LastTry : (AttemptLog → Type 0) → List AttemptLog → Type 0
LastTry P [] = ⊥
LastTry P (log ∷ []) = P log
LastTry P (log ∷ next ∷ logs) = LastTry P (next ∷ logs)

-- all operations of the attempt were answered well
pub record AnsweredWell (x : TxnTerms) (log : AttemptLog) : Type 0 where
  pub all : length log.ops ≡ length x.plan.ops
  pub good : all_good log.ops ≡ true

-- an operation of the attempt, before it was decided, had an answer at this time, which was too late
abbrev pub CutAt : List Made → ℕ → ℕ → AttemptLog → Type 0
CutAt l latest now log =
    Once (λ m before. (m.answer.now ≡ now) × (latest < now) × (¬ Once (λ n _. decides n.step ≡ Some log.id) (m ∷ before))) (during log.span l)

-- an operation's answer ends its transaction, for this reason
pub data Refuses : OpAnswer → Why → Type 0 where
  not_found : (read : When) → Refuses (answer.DocNotFound read) why.NotFound
  exists : (read : When) → Refuses (answer.DocExists read) why.Exists
  need_false : Refuses answer.NeedFalse why.NeedFalse
  bad_value : (part : ℕ) → Refuses (answer.BadValue part) why.BadValue

-- a further try is due, and there is one left
pub record HasTry (x : TxnTerms) (attempts : List AttemptLog) : Type 0 where
  pub retried : LastTry IsRetried attempts
  pub left : length attempts < x.plan.tries

-- a transaction without a cause to end otherwise expired: an operation was cut off, or the time of a further try was past
pub data IsExpiredAt (x : TxnTerms) (l : List Made) (latest : ℕ) (attempts : List AttemptLog) (now : ℕ) : Type 0 where
  in_operation : LastTry (λ log. (log.end ≡ attempt_end.RolledBack) × CutAt l latest now log) attempts → IsExpiredAt x l latest attempts now
  before_try : HasTry x attempts → LastTry (λ log. now_before l log.span.to ≡ now) attempts → latest < now → IsExpiredAt x l latest attempts now

-- a transaction was stopped: before its first call, in its last attempt, or before a further try
pub data IsStopped (x : TxnTerms) (attempts : List AttemptLog) : Type 0 where
  unbegun : attempts ≡ [] → IsStopped x attempts
  in_attempt : LastTry (λ log. log.end ≡ attempt_end.Stopped) attempts → IsStopped x attempts
  before_try : HasTry x attempts → IsStopped x attempts

-- how a transaction may end, `latest` being the last time at which it goes on
abbrev pub EndsTxn : TxnTerms → List Made → ℕ → List AttemptLog → TxnEnd → Type 0
EndsTxn x l latest attempts (txn_end.Committed complete) = LastTry (λ log. (place : ℕ) × (log.end ≡ attempt_end.Committed place complete)) attempts
EndsTxn x l latest attempts txn_end.Empty = LastTry (λ log. log.end ≡ attempt_end.Empty) attempts
EndsTxn x l latest attempts txn_end.RolledBack =
    LastTry (λ log. (log.end ≡ attempt_end.RolledBack) × AnsweredWell x log × (x.plan.keep ≡ false)) attempts
EndsTxn x l latest attempts (txn_end.Failed reason) =
    LastTry (λ log. (log.end ≡ attempt_end.RolledBack) × LastIs (λ it. Refuses it.answer reason) log.ops) attempts
EndsTxn x l latest attempts (txn_end.Expired now) = IsExpiredAt x l latest attempts now
EndsTxn x l latest attempts txn_end.TriesSpent = LastTry IsRetried attempts × (length attempts ≡ x.plan.tries)
EndsTxn x l latest attempts txn_end.Unknown = LastTry (λ log. (commit reading : ℕ) × (log.end ≡ attempt_end.Unknown commit reading)) attempts
EndsTxn x l latest attempts (txn_end.CallFailed place) = LastTry (λ log. log.end ≡ attempt_end.Incomplete place) attempts
EndsTxn x l latest attempts txn_end.Stopped = IsStopped x attempts

-- the log of a transaction
pub record TxnFollows (x : TxnTerms) (l : List Made) (at : ℕ) (log : TxnLog) : Type 0 where
  -- the time of its first answer
  pub start : ℕ
  pub start_is : start ≡ start_of (during (record { from = at; to = attempts_end at log.attempts }) l)
  pub attempts : AttemptsFollow x l start at 1 log.attempts
  pub few : length log.attempts ≤ x.plan.tries
  pub ends : EndsTxn x l (start + x.plan.expiry) log.attempts log.end
