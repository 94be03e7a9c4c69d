-- What the laws ask of a case and a book is met by the row in which a cleaner frees a pending stage.
use Rattle.std.proofs.Common.{List, refl, inl}
use Rattle.cbt_model.specs.Fresh.{IsFresh}
use Rattle.cbt_model.specs.declared.events.Event.{Event}
use Rattle.cbt_model.specs.declared.states.State.{State}
use Rattle.cbt_core.specs.Laws.{IsPass}
use Rattle.cbt_core.specs.Lawful.{IsLawfulRun}
use Rattle.cbt_core.specs.Openings.{IsSound, AreFresh}
use Rattle.cbt_core.specs.Runs.{LogsFollow}
use Rattle.cbt_core.specs.Stops.{StopsKept}
use Rattle.cbt_rows.proofs.CleanerFreesPendingStageTrial as trial
use Rattle.cbt_rows.specs.CleanerFreesPendingStage.{opening, history, run_case, book, cleaner_1, round_1_1, pass_1_1_1}

pub record Met : Type 0 where
  pub lawful : IsLawfulRun run_case book
  pub follow : LogsFollow run_case book
  pub kept : StopsKept run_case book

pub met : ((s : State) → IsFresh s → IsSound s) → ((s : State) (h : List Event) → IsFresh s → AreFresh s h) → Met
met sound fresh = record {
  lawful = record { legal = trial.legal; licensed = trial.licensed; sound = sound opening trial.fresh; fresh = fresh opening history trial.fresh };
  follow = trial.follow;
  kept = trial.stops_kept;
}

-- the cleaner's pass
pub its_pass : IsPass book pass_1_1_1
its_pass = record { number = 1; cleaner = cleaner_1; cleaner_is = refl; round = round_1_1; round_in = inl refl; pass_in = inl refl }
