-- What a client is on its own list.
use Rattle.std.specs.Prelude.{◌≡◌, ℕ, suc, ◌+◌, ◌<◌, ◌^◌, Bool, true, false, if◌then◌else◌, nat_le, List, [], ◌∷◌, ◌++◌, length, take, drop, slice_get, slice_set, Option, Some, None, refl}
use Rattle.std.proofs.Common.{suc-ne-zero, zero}
use Rattle.cbt_expr.specs.declared.plans.TxnPlan.{TxnPlan}
use Rattle.cbt_model.specs.declared.events.Made.{Made}
use Rattle.cbt_model.specs.declared.steps.Step.{Step}
use Rattle.cbt_book.specs.Licence.{IsLicensed}
use Rattle.cbt_book.specs.Numbers.{Identity}
use Rattle.cbt_book.specs.OwnLists.{Descends}
use Rattle.cbt_book.specs.declared.clients.ClientLog.{ClientLog}
use Rattle.cbt_book.specs.declared.clients.TxnEnd.TheVariants as txn_end
use Rattle.cbt_book.specs.declared.clients.TxnLog.{TxnLog}
use Rattle.cbt_core.specs.Transactions.{TxnTerms}
use Rattle.cbt_logs.specs.Running.{Ran}
use Rattle.cbt_txn.specs.Transactions.{Tells, Tries, TxnMayGoOn, txn_log_of}
use Rattle.cbt_txn.specs.Tries.{outcome, step_now as asked_by}
use Rattle.cbt_txn.specs.TxnBounds.{txn_left, txn_most}
use Rattle.cbt_txn.specs.declared.clients.Client.{Client}
use Rattle.cbt_txn.specs.declared.origins.Origin.{Origin}
use Rattle.cbt_txn.specs.declared.transactions.Transaction.{Transaction}

-- the call that a transaction of the plan asks for
abbrev pub step_in : Option TxnPlan → Option Transaction → Option Step
step_in (Some plan) (Some txn) = asked_by txn.trying.it
step_in _ _ = None

-- the call that a client asks for
abbrev pub step_now : Client → Option Step
step_now c = if c.stopped then None else step_in (slice_get c.origin.plan.txns c.at) c.txn

-- whether all its transactions have ended
abbrev pub has_ended : Client → Bool
has_ended c = nat_le (length c.origin.plan.txns) c.at

-- a transaction that was not begun
abbrev pub unbegun : TxnLog
unbegun = record { attempts = []; end = txn_end.Stopped }

abbrev pub AreUnbegun : List TxnLog → Type 0
AreUnbegun [] = Unit {0}
AreUnbegun (log ∷ logs) = (log ≡ unbegun) × AreUnbegun logs

-- these logs, in which the transaction under way is told
abbrev pub told_in : List TxnLog → ℕ → Option Transaction → List TxnLog
told_in logs at None = logs
told_in logs at (Some txn) = slice_set logs at (txn_log_of txn)

-- the log of a client: of the transactions that have ended, and of the one behind them
abbrev pub client_log_of : Client → ClientLog
client_log_of c = record { txns = take (c.at + 1) (told_in c.txns c.at c.txn); calls = c.calls }

-- the transactions that have ended, `done`, made the calls `before`; those behind them were not begun
pub record Parts (o : Origin) (txns : List TxnLog) (at : ℕ) (before : List Made) : Type 0 where
  pub done : List TxnLog
  pub behind : List TxnLog
  pub txns_are : txns ≡ done ++ behind
  pub at_is : at ≡ length done
  pub unbegun_are : AreUnbegun behind
  pub all : length txns ≡ length o.plan.txns
  pub ran : Ran o.actor o.atrs o.plan before done

-- under what the transaction at this place of the plan is made
abbrev pub terms_of : Origin → ℕ → TxnPlan → TxnTerms
terms_of o at this = record { client = o.actor; number = suc at; plan = this; atrs = o.atrs }

-- the transaction is the one at this place of the plan, and has not ended
pub record IsUnderWay (o : Origin) (at : ℕ) (txn : Transaction) : Type 0 where
  pub this : TxnPlan
  pub at_plan : slice_get o.plan.txns at ≡ Some this
  pub client : txn.terms.client ≡ o.actor
  pub number : txn.terms.number ≡ suc at
  pub atrs : txn.terms.atrs ≡ o.atrs
  pub going : txn.end ≡ None

-- so it goes on, behind the transactions that have ended, with the calls `mine`
pub record Runs (o : Origin) (txns : List TxnLog) (at : ℕ) (l : List Made) (txn : Transaction) : Type 0 where
  pub before : List Made
  pub mine : List Made
  pub l_is : l ≡ mine ++ before
  pub parts : Parts o txns at before
  pub way : IsUnderWay o at txn
  pub going : outcome txn.trying.it ≡ None
  pub tries : Tries (terms_of o at way.this) txn before mine

-- or it was cut off
pub record IsCut (o : Origin) (txns : List TxnLog) (at : ℕ) (l : List Made) (txn : Transaction) : Type 0 where
  pub before : List Made
  pub mine : List Made
  pub l_is : l ≡ mine ++ before
  pub parts : Parts o txns at before
  pub way : IsUnderWay o at txn
  pub tells : Tells (terms_of o at way.this) txn before mine

-- a client that goes on: all its transactions have ended, or the one under way goes on
abbrev pub GoesWith : Origin → List TxnLog → ℕ → List Made → Option Transaction → Type 0
GoesWith o txns at l None = (parts : Parts o txns at l) × (parts.behind ≡ [])
GoesWith o txns at l (Some txn) = Runs o txns at l txn

-- a client that was stopped: between two transactions, or in one
abbrev pub RestsWith : Origin → List TxnLog → ℕ → List Made → Option Transaction → Type 0
RestsWith o txns at l None = Parts o txns at l
RestsWith o txns at l (Some txn) = IsCut o txns at l txn

abbrev pub Goes : Client → List Made → Type 0
Goes c l = GoesWith c.origin c.txns c.at l c.txn

abbrev pub Rests : Client → List Made → Type 0
Rests c l = RestsWith c.origin c.txns c.at l c.txn

-- no transaction is under way, and the next one is to begin
abbrev pub IsBetween : Client → List Made → Type 0
IsBetween c l = (c.txn ≡ None) × Parts c.origin c.txns c.at l

-- the next transaction has begun: it has ended without a call, and the one behind it is to begin, or it goes on
abbrev pub GoesOn : Bool → Client → List Made → Type 0
GoesOn true c l = IsBetween c l
GoesOn false c l = Goes c l

abbrev pub Stands : Bool → Client → List Made → Type 0
Stands false c l = Goes c l
Stands true c l = Rests c l

-- the transaction under way goes on with licensed calls; its number is that of its place
abbrev pub MayGoOnWith : Identity → ℕ → Option Transaction → List Made → Type 0
MayGoOnWith who at None l = Unit {0}
MayGoOnWith who at (Some txn) l = (txn.terms.number ≡ suc at) × TxnMayGoOn who txn l

abbrev pub MayGoOn : Identity → Client → List Made → Type 0
MayGoOn who c l = MayGoOnWith who c.at c.txn l

-- the client's own list, newest call first, is this one
pub record StandsFor (c : Client) (l : List Made) : Type 0 where
  pub counted : c.calls ≡ length l
  pub few : c.stopped ≡ false → length l < 2 ^ 62
  pub licensed : (who : Identity) → who.number ≡ c.origin.actor → IsLicensed who l
  pub goes_on : (who : Identity) → who.number ≡ c.origin.actor → c.stopped ≡ false → MayGoOn who c l
  pub follows : Descends l → Stands c.stopped c l

-- how many calls transactions that were not begun make at most
abbrev pub most_of : List TxnPlan → ℕ
most_of [] = 0
most_of (plan ∷ plans) = txn_most plan + most_of plans

abbrev pub left_in : Option TxnPlan → Option Transaction → ℕ
left_in (Some plan) (Some txn) = txn_left plan txn
left_in _ _ = 0

-- the calls that are left at most: of the transaction under way, and of those behind it
abbrev pub running_left : Client → ℕ
running_left c = left_in (slice_get c.origin.plan.txns c.at) c.txn + most_of (drop (c.at + 1) c.origin.plan.txns)

-- where the next transaction is to begin
abbrev pub due_left : Client → ℕ
due_left c = most_of (drop c.at c.origin.plan.txns)

-- once it has begun: where the one behind it is to begin, or it goes on
abbrev pub begun_left : Bool → Client → ℕ
begun_left true c = due_left c
begun_left false c = running_left c

-- none where it asks for none
abbrev pub asked_left : Option Step → ℕ → ℕ
asked_left None left = 0
asked_left (Some s) zero = 1
asked_left (Some s) (suc left) = suc left

-- how many calls a client has left at most
abbrev pub calls_left : Client → ℕ
calls_left c = asked_left (step_now c) (running_left c)

-- so it asks for a call just where one is left
pub none_asked : (asked : Option Step) (left : ℕ) → asked_left asked left ≡ 0 → asked ≡ None
none_asked None left none = refl
none_asked (Some s) zero none = absurd (suc-ne-zero 0 none)
none_asked (Some s) (suc left) none = absurd (suc-ne-zero left none)
