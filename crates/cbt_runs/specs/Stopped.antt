-- Why driven actors were stopped.
use Rattle.std.specs.Prelude.{◌≡◌, ℕ, ◌≤◌, true, false, List, length, Some}
use Rattle.cbt_model.specs.Stops.{stop_of}
use Rattle.cbt_model.specs.declared.actors.Actor.{Ghosts as ActorOf}
use Rattle.cbt_model.specs.declared.events.Kept.{Kept}
use Rattle.cbt_core.specs.WriteSets.{numbered}
use Rattle.cbt_sched.specs.Stopping.{StopReached}
use Rattle.cbt_runs.specs.Driven.{own_in}

-- none of so many workers made more calls than its stop names
abbrev pub StayWithin : List (ℕ × ℕ) → ℕ → Kept → Type 0
StayWithin stops count kept = (number most : ℕ) → number ≤ count → stop_of stops number ≡ Some most → length (own_in kept number) ≤ most

-- a worker was stopped at its stop alone, where it had a next step, and the sweep was not stopped
pub record AreStopped {A : Type 0} (kind : ActorOf A) (stops : List (ℕ × ℕ)) (kept : Kept) (workers worked sweep swept : List A) : Type 0 where
  pub reached : (n : ℕ) (begun now : A) → numbered workers n ≡ Some begun → numbered worked n ≡ Some now
      → kind.is_stopped begun ≡ false → kind.is_stopped now ≡ true
      → StopReached kind.stands_for kind.step_now kind.same_origin kind.stopped_as (stop_of stops n) begun now (own_in kept n)
  pub never : (n : ℕ) (begun now : A) → numbered sweep n ≡ Some begun → numbered swept n ≡ Some now
      → kind.is_stopped begun ≡ false → kind.is_stopped now ≡ false
