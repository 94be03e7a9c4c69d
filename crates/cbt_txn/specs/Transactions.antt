-- What a transaction is on its client's own list, and what that list has to show for the licence of its calls: `mine` are its calls,
-- behind those of the transactions before it.
use Rattle.std.specs.Prelude.{◌≡◌, ◌≢◌, ℕ, suc, ◌+◌, ◌-◌, ◌<◌, ◌^◌, ◌⊎◌, Bool, true, false, nat_lt, List, [], ◌∷◌, ◌++◌, length, slice_set, Option, Some, None}
use Rattle.cbt_base.specs.Ids.{attempt_number}
use Rattle.cbt_model.specs.declared.events.Made.{Made}
use Rattle.cbt_model.specs.declared.steps.Step.{Step}
use Rattle.cbt_book.specs.Numbers.{Identity}
use Rattle.cbt_book.specs.OwnLists.{Each, Once}
use Rattle.cbt_book.specs.Shown.{adds}
use Rattle.cbt_book.specs.Spans.{past_of}
use Rattle.cbt_book.specs.declared.clients.AttemptLog.{AttemptLog}
use Rattle.cbt_book.specs.declared.clients.TxnEnd.{TxnEnd}
use Rattle.cbt_book.specs.declared.clients.TxnEnd.TheVariants as txn_end
use Rattle.cbt_book.specs.declared.clients.TxnLog.{TxnLog}
use Rattle.cbt_core.specs.Transactions.{TxnTerms, TxnFollows, attempt_terms, attempts_end, start_of}
use Rattle.cbt_logs.specs.Trying.{BeginsAt, Tried}
use Rattle.cbt_txn.specs.Closings.{IsOf, NamesOnly, TryFollows, TryMayGoOn, log_of}
use Rattle.cbt_txn.specs.Tries.{outcome}
use Rattle.cbt_txn.specs.declared.tries.Outcome.{Outcome}
use Rattle.cbt_txn.specs.declared.tries.Outcome.TheVariants.{Again, Ends}
use Rattle.cbt_txn.specs.declared.keeping.Terms.{Terms}
use Rattle.cbt_txn.specs.declared.transactions.Transaction.{Transaction}

-- a transaction that has not ended is told as one that was stopped
abbrev pub told_end : Option TxnEnd → TxnEnd
told_end None = txn_end.Stopped
told_end (Some end) = end

-- these logs, the last of which is told anew
abbrev pub with_last : List AttemptLog → AttemptLog → List AttemptLog
with_last logs log = slice_set logs (length logs - 1) log

-- the log of a transaction
abbrev pub txn_log_of : Transaction → TxnLog
txn_log_of txn = record { attempts = with_last txn.attempts (log_of txn.trying.it); end = told_end txn.end }

-- whether another try is due
abbrev pub is_retried : Option Outcome → Bool
is_retried (Some Again) = true
is_retried _ = false

-- how a transaction ends by its last try where no further one is made; it goes on with that
abbrev pub end_without_try : Option Outcome → Option TxnEnd
end_without_try None = None
end_without_try (Some (Ends end)) = Some end
end_without_try (Some Again) = Some txn_end.TriesSpent

-- whether the newest answer came after the time of the transaction, which began with its first answer
abbrev pub past_start : Option ℕ → ℕ → ℕ → Bool
past_start None expiry now = false
past_start (Some start) expiry now = nat_lt (start + expiry) now

abbrev pub is_past : Transaction → ℕ → Bool
is_past txn expiry = past_start txn.start expiry txn.newest

-- the transaction is made under these terms
pub record IsMadeUnder (x : TxnTerms) (terms : Terms) : Type 0 where
  pub client : x.client ≡ terms.client
  pub number : x.number ≡ terms.number
  pub atrs : x.atrs ≡ terms.atrs

-- the time of the first of these calls
abbrev pub first_time : List Made → Option ℕ
first_time [] = None
first_time (m ∷ calls) = Some (start_of (m ∷ calls))

-- this is the time of the newest of these calls
abbrev pub IsNewestTime : ℕ → List Made → Type 0
IsNewestTime now [] = Unit {0}
IsNewestTime now (m ∷ calls) = now ≡ m.answer.now

-- the tries before the one under way, `tries`, made the calls `tried`, and that one `this`
pub record Tries (x : TxnTerms) (txn : Transaction) (before mine : List Made) : Type 0 where
  pub tries : List AttemptLog
  pub untold : AttemptLog
  pub tried : List Made
  pub this : List Made
  pub attempts_are : txn.attempts ≡ tries ++ untold ∷ []
  pub mine_is : mine ≡ this ++ tried
  pub start_is : txn.start ≡ first_time mine
  pub now_is : IsNewestTime txn.newest mine
  -- no call before that try adds its entry
  pub unsent : ¬ Once (λ m _. adds m.step ≡ Some (attempt_number x.client x.number (suc (length tries)))) (tried ++ before)
  pub add_up : (start : ℕ) → BeginsAt start mine → Tried x start before tried tries
  pub follows : (start : ℕ) → BeginsAt start mine → TryFollows (attempt_terms x start (suc (length tries))) txn.trying.it (tried ++ before) this

-- its log follows the plan, and ends with its newest call
pub record Tells (x : TxnTerms) (txn : Transaction) (before mine : List Made) : Type 0 where
  pub follows : TxnFollows x (mine ++ before) (past_of before) (txn_log_of txn)
  pub reach : attempts_end (past_of before) (txn_log_of txn).attempts ≡ past_of (mine ++ before)

-- it goes on, or has ended
pub data Stands (x : TxnTerms) (txn : Transaction) (before mine : List Made) : Option TxnEnd → Type 0 where
  goes : outcome txn.trying.it ≡ None → Tries x txn before mine → Stands x txn before mine None
  over : (end : TxnEnd) → end ≢ txn_end.Stopped → Tells x txn before mine → Stands x txn before mine (Some end)

abbrev pub TxnStands : TxnTerms → Transaction → List Made → List Made → Type 0
TxnStands x txn before mine = Stands x txn before mine txn.end

-- a step names no attempt but one that comes before this try of this transaction, where it adds an entry, stages or decides
pub record IsEarlier (client number try_no : ℕ) (s : Step) : Type 0 where
  pub txn : ℕ
  pub try_of : ℕ
  pub names : NamesOnly (attempt_number client txn try_of) s
  pub small : (txn < 2 ^ 16) × (try_of < 2 ^ 32)
  pub earlier : (txn < number) ⊎ ((txn ≡ number) × (try_of < try_no))

-- so all calls of the list
abbrev pub AreEarlier : ℕ → ℕ → ℕ → List Made → Type 0
AreEarlier client number try_no l = Each (λ m _. IsEarlier client number try_no m.step) l

-- the calls of the transaction go on licensed
pub record TxnMayGoOn (who : Identity) (txn : Transaction) (l : List Made) : Type 0 where
  pub client : who.number ≡ txn.terms.client
  pub few : length txn.attempts < 2 ^ 32
  pub of : IsOf (attempt_number txn.terms.client txn.terms.number (length txn.attempts)) txn.terms.atrs txn.trying.it
  pub earlier : AreEarlier txn.terms.client txn.terms.number (suc (length txn.attempts)) l
  pub goes_on : TryMayGoOn who txn.trying.it l
