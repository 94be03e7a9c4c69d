-- What actors promise of each list of calls that they stand for, so that the laws speak of a run of them. Here `workers` and
-- `sweep` are the actors as they were begun, `worked` and `swept` the same at the end, and `kind` has the members of the trait
-- of actors. The workers are the clients and then the cleaners.
use Rattle.std.specs.Prelude.{◌≡◌, ℕ, suc, ◌+◌, true, false, List, length, Option, Some}
use Rattle.cbt_expr.specs.declared.plans.ClientPlan.{ClientPlan}
use Rattle.cbt_model.specs.Stops.{stop_of}
use Rattle.cbt_model.specs.declared.actors.Actor.{Ghosts as ActorOf}
use Rattle.cbt_model.specs.declared.events.Made.{Made}
use Rattle.cbt_book.specs.Cleaners.{AtLast, HasNext, CleanerFollows, SweepFollows}
use Rattle.cbt_book.specs.Licence.{IsLicensed}
use Rattle.cbt_book.specs.declared.book.Book.{Book}
use Rattle.cbt_book.specs.declared.cleaners.CleanerLog.{CleanerLog}
use Rattle.cbt_book.specs.declared.clients.ClientLog.{ClientLog}
use Rattle.cbt_core.specs.Clients.{FollowsPlan}
use Rattle.cbt_core.specs.Runs.{cleaner_plan, identity_of, own_of, sweeps}
use Rattle.cbt_core.specs.Stops.{LastHasCall, WasStopped}
use Rattle.cbt_core.specs.WriteSets.{numbered}
use Rattle.cbt_core.specs.declared.case.Case.{Case}
use Rattle.cbt_sched.specs.Stopping.{StopReached}
use Rattle.cbt_runs.specs.Driven.{HasRun}

-- the actors are those of the case, and each has a log
pub record AreAll {A : Type 0} (case : Case) (book : Book) (workers sweep : List A) : Type 0 where
  pub all_workers : length workers ≡ length case.plans + length case.rounds
  pub all_sweeps : length sweep ≡ sweeps case.sweep
  pub clients : length book.clients ≡ length case.plans
  pub cleaners : length book.cleaners ≡ length case.rounds + sweeps case.sweep

-- each call was licensed, whatever became of an actor that was so begun
pub record PromiseLicence {A : Type 0} (kind : ActorOf A) (case : Case) (workers sweep : List A) : Type 0 where
  pub of_worker : (n : ℕ) (begun now : A) (l : List Made) → numbered workers n ≡ Some begun
      → kind.same_origin begun now → kind.stands_for now l → IsLicensed (identity_of case n) l
  pub of_sweep : (begun now : A) (l : List Made) → numbered sweep 1 ≡ Some begun
      → kind.same_origin begun now → kind.stands_for now l → IsLicensed (identity_of case (length case.plans + suc (length case.rounds))) l

-- the log of each actor follows its plan, once the actor has run
pub record PromiseLogs {A : Type 0} (kind : ActorOf A) (case : Case) (book : Book) (workers worked sweep swept : List A) : Type 0 where
  pub of_client : (n : ℕ) (plan : ClientPlan) (log : ClientLog) (begun now : A) (l : List Made)
      → numbered case.plans n ≡ Some plan → numbered book.clients n ≡ Some log
      → numbered workers n ≡ Some begun → numbered worked n ≡ Some now
      → HasRun kind begun now l → FollowsPlan n case.atrs plan l log
  pub of_cleaner : (n rounds : ℕ) (log : CleanerLog) (begun now : A) (l : List Made)
      → numbered case.rounds n ≡ Some rounds → numbered book.cleaners n ≡ Some log
      → numbered workers (length case.plans + n) ≡ Some begun → numbered worked (length case.plans + n) ≡ Some now
      → HasRun kind begun now l → CleanerFollows (cleaner_plan case n rounds) l log
  pub of_sweep : (log : CleanerLog) (begun now : A) (l : List Made)
      → numbered book.cleaners (suc (length case.rounds)) ≡ Some log
      → numbered sweep 1 ≡ Some begun → numbered swept 1 ≡ Some now
      → HasRun kind begun now l → SweepFollows (cleaner_plan case (suc (length case.rounds)) 1) l log

-- an actor whose log says that it was stopped was so, and has counted its calls; where it had come to its stop, its log shows
-- that it had a call to make
pub record TellsStop {A : Type 0} (kind : ActorOf A) (stop : Option ℕ) (begun now : A) (l : List Made) (calls : ℕ) (HasCall : Type 0) : Type 0 where
  pub stopped : kind.is_stopped now ≡ true
  pub counted : calls ≡ length l
  pub asked : StopReached kind.stands_for kind.step_now kind.same_origin kind.stopped_as stop begun now l → HasCall

-- no actor was begun stopped, and each log tells of a stop as it was, on the own list that the actor has in the history
pub record PromiseStops {A : Type 0} (kind : ActorOf A) (case : Case) (book : Book) (workers worked sweep swept : List A) : Type 0 where
  pub workers_run : (n : ℕ) (begun : A) → numbered workers n ≡ Some begun → kind.is_stopped begun ≡ false
  pub sweep_runs : (begun : A) → numbered sweep 1 ≡ Some begun → kind.is_stopped begun ≡ false
  pub of_client : (n : ℕ) (plan : ClientPlan) (log : ClientLog) (begun now : A)
      → numbered case.plans n ≡ Some plan → numbered book.clients n ≡ Some log
      → numbered workers n ≡ Some begun → numbered worked n ≡ Some now
      → HasRun kind begun now (own_of book n) → WasStopped log.txns
      → TellsStop kind (stop_of case.stops n) begun now (own_of book n) log.calls
      (LastHasCall n case.atrs (own_of book n) 0 1 plan.txns log.txns)
  pub of_cleaner : (n rounds : ℕ) (log : CleanerLog) (begun now : A)
      → numbered case.rounds n ≡ Some rounds → numbered book.cleaners n ≡ Some log
      → numbered workers (length case.plans + n) ≡ Some begun → numbered worked (length case.plans + n) ≡ Some now
      → HasRun kind begun now (own_of book (length case.plans + n)) → log.stopped ≡ true
      → TellsStop kind (stop_of case.stops (length case.plans + n)) begun now (own_of book (length case.plans + n)) log.calls
      (AtLast (HasNext (cleaner_plan case n rounds) (own_of book (length case.plans + n))) log.rounds)
  pub of_sweep : (log : CleanerLog) (begun now : A)
      → numbered book.cleaners (suc (length case.rounds)) ≡ Some log
      → numbered sweep 1 ≡ Some begun → numbered swept 1 ≡ Some now
      → HasRun kind begun now (own_of book (length case.plans + suc (length case.rounds))) → kind.is_stopped now ≡ false → log.stopped ≡ false
