-- A run: its case and its book. Which runs are legal, licensed, and have logs that follow their plans.
use Rattle.std.specs.Prelude.{◌≡◌, ℕ, suc, ◌+◌, ◌-◌, ◌^◌, ◌<◌, List, length, Option, Some, None}
use Rattle.cbt_base.specs.Ids.{cleaner_number}
use Rattle.cbt_expr.specs.declared.plans.ClientPlan.{ClientPlan}
use Rattle.cbt_expr.specs.declared.plans.TxnPlan.{TxnPlan}
use Rattle.cbt_model.specs.History.{own}
use Rattle.cbt_model.specs.Legal.{Terms, IsLegal}
use Rattle.cbt_model.specs.Stops.{stop_of}
use Rattle.cbt_model.specs.declared.events.Made.{Made}
use Rattle.cbt_book.specs.Cleaners.{CleanerPlan, CleanerFollows, SweepFollows}
use Rattle.cbt_book.specs.Licence.{IsLicensed}
use Rattle.cbt_book.specs.Numbers.{Identity}
use Rattle.cbt_book.specs.declared.book.Book.{Book}
use Rattle.cbt_book.specs.declared.cleaners.CleanerLog.{CleanerLog}
use Rattle.cbt_book.specs.declared.clients.ClientLog.{ClientLog}
use Rattle.cbt_core.specs.Clients.{FollowsPlan}
use Rattle.cbt_core.specs.WriteSets.{numbered, plan_at}
use Rattle.cbt_core.specs.declared.case.Case.{Case}

-- the own list of an actor of a run
abbrev pub own_of : Book → ℕ → List Made
own_of book actor = own book.kept.opening book.kept.history actor (length book.kept.history)

-- cleaners are numbered from 1, and stand behind the clients among the actors
abbrev pub identity_of : Case → ℕ → Identity
identity_of case actor = record { number = actor; cleaner = cleaner_number (actor - length case.plans) }

-- under what the node of a case makes its calls
abbrev pub terms_of : Case → Terms
terms_of case = record { faults = case.faults; line = case.line }

-- how many sweeps there are
abbrev pub sweeps : Option ℕ → ℕ
sweeps None = 0
sweeps (Some ms) = 1

-- the numbers of transactions and tries fit into an attempt's identifier, and the actors are the clients, the cleaners and the sweep
pub record IsWithinLimits (case : Case) : Type 0 where
  pub txns : (n : ℕ) (plan : ClientPlan) → numbered case.plans n ≡ Some plan → length plan.txns < 2 ^ 16
  pub tries : (n k : ℕ) (plan : TxnPlan) → plan_at case.plans n k ≡ Some plan → plan.tries < 2 ^ 32
  pub actors : case.actors ≡ length case.plans + length case.rounds + sweeps case.sweep

-- a legal run begins at its case's opening, and its history keeps the case's terms and has its actors alone
pub record IsLegalRun (case : Case) (book : Book) : Type 0 where
  pub limits : IsWithinLimits case
  pub opening : book.kept.opening ≡ case.opening
  pub history : IsLegal (terms_of case) case.actors book.kept.history book.kept.marks

-- each step of each actor was one that the actor might make
abbrev pub AreLicensed : Case → Book → Type 0
AreLicensed case book = (actor : ℕ) → IsLicensed (identity_of case actor) (own_of book actor)

-- each client has a log, which follows its plan
pub record ClientsFollow (case : Case) (book : Book) : Type 0 where
  pub all : length book.clients ≡ length case.plans
  pub each : (n : ℕ) (plan : ClientPlan) (log : ClientLog) → numbered case.plans n ≡ Some plan → numbered book.clients n ≡ Some log
      → FollowsPlan n case.atrs plan (own_of book n) log

-- what the n-th cleaner is to do; the sweep is the last
abbrev pub cleaner_plan : Case → ℕ → ℕ → CleanerPlan
cleaner_plan case n rounds =
    record { id = cleaner_number n; rounds = rounds; atrs = case.atrs; lapse = case.lapse; stop = stop_of case.stops (length case.plans + n) }

-- each cleaner has a log, which follows its plan, and so has the sweep
pub record CleanersFollow (case : Case) (book : Book) : Type 0 where
  pub all : length book.cleaners ≡ length case.rounds + sweeps case.sweep
  pub each : (n rounds : ℕ) (log : CleanerLog) → numbered case.rounds n ≡ Some rounds → numbered book.cleaners n ≡ Some log
      → CleanerFollows (cleaner_plan case n rounds) (own_of book (length case.plans + n)) log
  pub sweep : (ms : ℕ) (log : CleanerLog) → case.sweep ≡ Some ms → numbered book.cleaners (suc (length case.rounds)) ≡ Some log
      → SweepFollows (cleaner_plan case (suc (length case.rounds)) 1) (own_of book (length case.plans + suc (length case.rounds))) log

-- the logs of clients and cleaners follow their plans
pub record LogsFollow (case : Case) (book : Book) : Type 0 where
  pub clients : ClientsFollow case book
  pub cleaners : CleanersFollow case book
