-- Actors that are added to a list, one after another.
use Rattle.std.specs.Prelude.{◌≡◌, ℕ, suc, ◌+◌, ◌<◌, List, length, slice_get, Some}
use Rattle.cbt_expr.specs.declared.plans.ClientPlan.{ClientPlan}
use Rattle.cbt_script.specs.declared.script.Script.{Script}
use Rattle.cbtx.specs.Crew.{CleansAs, TransactsAs, cleaner_terms}
use Rattle.cbtx.specs.declared.workers.Worker.{Worker}

-- the actors are these clients, numbered from 1
abbrev pub AreClients : ℕ → List (List ℕ × ClientPlan) → List Worker → Type 0
AreClients atrs clients workers = (k : ℕ) (client : List ℕ × ClientPlan) (w : Worker) → slice_get clients k ≡ Some client
    → slice_get workers k ≡ Some w → TransactsAs (suc k) atrs client.1 w

-- so many cleaners of the script were added
pub record AddsCleaners (script : Script) (count : ℕ) (old new : List Worker) : Type 0 where
  pub counted : length new ≡ length old + count
  pub kept : (k : ℕ) → k < length old → slice_get new k ≡ slice_get old k
  pub each : (k : ℕ) (cleaner : List ℕ × ℕ) (w : Worker) → slice_get script.cleaners k ≡ Some cleaner → slice_get new (length old + k) ≡ Some w
      → CleansAs (cleaner_terms script (suc k)) cleaner.1 w
