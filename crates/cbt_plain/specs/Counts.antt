-- Counts by actor.
use Rattle.std.specs.Prelude.{ℕ, List, unwrap_or}
use Rattle.std.specs.Ordering.{nat_cmp}
use Rattle.cbt_base.specs.Keyed.{at_key}

-- an actor's count, which is 0 where it has none
abbrev pub count_of : List (ℕ × ℕ) → ℕ → ℕ
count_of calls actor = unwrap_or (at_key nat_cmp calls actor) 0
