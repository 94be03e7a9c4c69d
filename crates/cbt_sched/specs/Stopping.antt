-- How an actor comes to its stop.
use Rattle.std.specs.Prelude.{◌≡◌, ℕ, List, length, Option, Some, IsSome}
use Rattle.cbt_model.specs.declared.events.Made.{Made}
use Rattle.cbt_model.specs.declared.steps.Step.{Step}

-- an actor with this own list came to its stop, had a next step then, made with what it was begun with, and is what it was, stopped
pub record StopReached {A : Type 0} (stands_for : A → List Made → Type 0) (step_now : A → Option Step) (same_origin stopped_as : A → A → Type 0)
    (stop : Option ℕ) (begun now : A) (l : List Made) : Type 0 where
  pub reached : stop ≡ Some (length l)
  pub before : A
  pub origin : same_origin begun before
  pub stands : stands_for before l
  pub asks : IsSome (step_now before)
  pub stopped : stopped_as before now
