-- What the tries of a transaction have come to, on the client's own list: `tried` are the calls of those that have ended, behind the
-- calls of the transactions before, `before`.
use Rattle.std.specs.Prelude.{◌≡◌, ℕ, ◌+◌, ◌<◌, ◌≤◌, List, [], ◌∷◌, ◌++◌, length}
use Rattle.cbt_model.specs.declared.events.Made.{Made}
use Rattle.cbt_book.specs.Spans.{past_of}
use Rattle.cbt_book.specs.declared.clients.AttemptLog.{AttemptLog}
use Rattle.cbt_core.specs.Transactions.{TxnTerms, AttemptsFollow, IsRetried, attempts_end, now_before, start_of}

-- a transaction with these calls may count as begun at this time; without calls at any
abbrev pub BeginsAt : ℕ → List Made → Type 0
BeginsAt start [] = Unit {0}
BeginsAt start (m ∷ calls) = start ≡ start_of (m ∷ calls)

-- a further try is due and in time, where there was one before
abbrev pub MayTryOn : List Made → ℕ → List AttemptLog → Type 0
MayTryOn l latest [] = Unit {0}
MayTryOn l latest (log ∷ []) = IsRetried log × (now_before l log.span.to ≤ latest)
MayTryOn l latest (log ∷ next ∷ logs) = MayTryOn l latest (next ∷ logs)

-- the tries that have ended follow the plan, and another one may begin
pub record Tried (x : TxnTerms) (start : ℕ) (before tried : List Made) (tries : List AttemptLog) : Type 0 where
  pub follow : AttemptsFollow x (tried ++ before) start (past_of before) 1 tries
  pub reach : attempts_end (past_of before) tries ≡ past_of (tried ++ before)
  pub may : MayTryOn (tried ++ before) (start + x.plan.expiry) tries
  pub few : length tries < x.plan.tries
