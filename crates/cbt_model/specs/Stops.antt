-- Stops: how many calls an actor may make.
use Rattle.std.specs.Prelude.{ℕ, ◌==◌, List, find, Option}
use Rattle.std.specs.Option.{option_map}

-- an actor's stop; of two the first counts
abbrev pub stop_of : List (ℕ × ℕ) → ℕ → Option ℕ
stop_of stops actor = option_map (λ s. s.1) (find (λ s. s.0 == actor) stops)
