-- What driven actors of a script leave is a legal run of licensed actors, whose logs follow their plans, and stops are kept.
use Rattle.std.proofs.Common.{◌≡◌, ℕ, Bool, false, List, ◌++◌, length, subst}
use Rattle.cbt_book.specs.declared.book.Book.{Book}
use Rattle.cbt_core.specs.Lawful.{IsLawfulRun}
use Rattle.cbt_core.specs.Openings.{AreFresh, IsSound}
use Rattle.cbt_core.specs.Runs.{own_of, terms_of, AreLicensed, IsLegalRun, IsWithinLimits, LogsFollow}
use Rattle.cbt_core.specs.Staying.{StaysAsShown}
use Rattle.cbt_core.specs.Stops.{StopsKept}
use Rattle.cbt_core.specs.declared.case.Case.{Case}
use Rattle.cbt_json.specs.declared.tree.Tree.{Tree}
use Rattle.cbt_model.specs.Fresh.{IsFresh}
use Rattle.cbt_model.specs.declared.events.Event.{Event}
use Rattle.cbt_model.specs.declared.events.Kept.{Kept}
use Rattle.cbt_model.specs.declared.states.State.{State}
use Rattle.cbt_runs.specs.Driven.{AreDriven}
use Rattle.cbt_runs.specs.Promises.{AreAll, PromiseLicence, PromiseLogs, PromiseStops}
use Rattle.cbt_runs.specs.Stopped.{AreStopped, StayWithin}
use Rattle.cbt_script.specs.Opening.{opening_of}
use Rattle.cbt_script.specs.Rules.{IsScript}
use Rattle.cbt_script.specs.declared.script.Script.{Script}
use Rattle.cbtx.specs.Cases.{case_of}
use Rattle.cbtx.specs.Crew.{IsCrew, IsSweep}
use Rattle.cbtx.specs.Told.{cleaner_logs, client_logs}
use Rattle.cbtx.specs.contracts.workers.WorkerActor.TheImpl.{ghosts}
use Rattle.cbtx.specs.declared.workers.Worker.{Worker}
use Rattle.cbtx.proofs.Limits.{within-limits}
use Rattle.cbtx.proofs.Promising.{CleanersAreLicensed, promise-licence}
use Rattle.cbtx.proofs.Stopping.{CleanersStop, ClientsStop, promise-stops}
use Rattle.cbtx.proofs.Telling.{ClientsTell, CleanersTell, are-all, promise-logs}

-- the laws over driven actors
pub record DrivenLaws : Type 0 where
  pub legal : (case : Case) (book : Book) (workers worked sweep swept : List Worker) → AreAll case book workers sweep
      → AreDriven ghosts (terms_of case) book.kept workers worked sweep swept
      → IsWithinLimits case → book.kept.opening ≡ case.opening → IsLegalRun case book
  pub licensed : (case : Case) (book : Book) (workers worked sweep swept : List Worker) → AreAll case book workers sweep
      → AreDriven ghosts (terms_of case) book.kept workers worked sweep swept
      → PromiseLicence ghosts case workers sweep → AreLicensed case book
  pub follow : (case : Case) (book : Book) (workers worked sweep swept : List Worker) → AreAll case book workers sweep
      → AreDriven ghosts (terms_of case) book.kept workers worked sweep swept
      → PromiseLogs ghosts case book workers worked sweep swept → LogsFollow case book
  pub stops : (case : Case) (book : Book) (workers worked sweep swept : List Worker) → AreAll case book workers sweep
      → AreDriven ghosts (terms_of case) book.kept workers worked sweep swept
      → StayWithin case.stops (length workers) book.kept → AreStopped ghosts case.stops book.kept workers worked sweep swept
      → PromiseStops ghosts case book workers worked sweep swept → StopsKept case book

-- the laws on what actors are shown, from an opening in which nobody has written
pub record ShownLaws : Type 0 where
  pub unwritten : (docs : List (List ℕ × Tree × Tree)) → IsFresh (opening_of docs)
  pub sound : (s : State) → IsFresh s → IsSound s
  pub fresh : (s : State) (h : List Event) → IsFresh s → AreFresh s h
  pub stays : (case : Case) (book : Book) → IsLawfulRun case book → (actor : ℕ) → StaysAsShown (own_of book actor)

pub record IsRun (script : Script) (book : Book) : Type 0 where
  pub legal : IsLegalRun (case_of script) book
  pub licensed : AreLicensed (case_of script) book
  pub follow : LogsFollow (case_of script) book

pub is-run : (script : Script) (book : Book) (workers worked sweep swept : List Worker) → IsScript script → IsCrew script workers → IsSweep script sweep
    → AreDriven ghosts (terms_of (case_of script)) book.kept workers worked sweep swept → book.kept.opening ≡ opening_of script.docs
    → book.clients ≡ client_logs (worked ++ swept) → book.cleaners ≡ cleaner_logs (worked ++ swept)
    → CleanersAreLicensed → ClientsTell → CleanersTell → DrivenLaws → IsRun script book
is-run script book workers worked sweep swept rules crew is_sweep driven opening clients cleaners licence client_law cleaner_law laws = record {
  legal = laws.legal (case_of script) book workers worked sweep swept all driven (within-limits script rules) opening;
  licensed = laws.licensed (case_of script) book workers worked sweep swept all driven (promise-licence script workers sweep crew is_sweep licence);
  follow = laws.follow (case_of script) book workers worked sweep swept all driven
      (promise-logs script book workers worked sweep swept crew is_sweep driven.have_worked driven.have_swept clients cleaners client_law cleaner_law);
}
  where
    all : AreAll (case_of script) book workers sweep
    all = are-all script book workers worked sweep swept crew is_sweep driven.have_worked driven.have_swept clients cleaners

-- stops are kept, where no memory was refused
pub keeps-stops : (script : Script) (book : Book) (kept : Kept) (refused : Bool) (workers worked sweep swept : List Worker) → IsScript script → IsCrew script workers
    → IsSweep script sweep → AreDriven ghosts (terms_of (case_of script)) book.kept workers worked sweep swept
    → book.clients ≡ client_logs (worked ++ swept) → book.cleaners ≡ cleaner_logs (worked ++ swept)
    → kept ≡ book.kept → StayWithin script.stops (length workers) kept → (refused ≡ false → AreStopped ghosts script.stops kept workers worked sweep swept)
    → IsRun script book → ClientsStop → CleanersStop → ShownLaws → DrivenLaws → refused ≡ false → StopsKept (case_of script) book
keeps-stops script book kept refused workers worked sweep swept rules crew is_sweep driven clients cleaners same within stopped run client_law cleaner_law shown laws none =
    laws.stops (case_of script) book workers worked sweep swept
    (are-all script book workers worked sweep swept crew is_sweep driven.have_worked driven.have_swept clients cleaners) driven
    (subst (λ k. StayWithin script.stops (length workers) k) same within)
    (subst (λ k. AreStopped ghosts script.stops k workers worked sweep swept) same (stopped none))
    (promise-stops script book workers worked sweep swept crew is_sweep driven.have_worked driven.have_swept clients cleaners client_law cleaner_law
    (shown.stays (case_of script) book lawful))
  where
    lawful : IsLawfulRun (case_of script) book
    lawful = record {
      legal = run.legal;
      licensed = run.licensed;
      sound = shown.sound (opening_of script.docs) (shown.unwritten script.docs);
      fresh = shown.fresh (opening_of script.docs) book.kept.history (shown.unwritten script.docs);
    }
