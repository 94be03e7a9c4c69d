-- The order of the calls of a run: those of the workers, and behind them those of the sweep.
use Rattle.std.specs.Prelude.{◌≡◌, ℕ, zero, suc, ◌<◌, Bool, List, [], ◌∷◌, ◌++◌, length}
use Rattle.std.specs.List.{range_with_len}
use Rattle.cbt_model.specs.declared.events.Event.{Event}
use Rattle.cbt_model.specs.declared.events.Item.{Item}
use Rattle.cbt_model.specs.declared.events.Mark.{Mark}
use Rattle.cbt_sched.specs.Turns.{AddsMarks, callers, calls_of, marks_of, turns}

-- the clock is moved ahead before a sweep, where there is one
abbrev pub sweep_mark : ℕ → ℕ → ℕ → List Mark
sweep_mark zero ahead place = []
sweep_mark (suc sweeps) ahead place = record { place = place; ms = ahead } ∷ []

-- so many workers follow the order's items and then call in turns, then the clock is moved ahead, and the sweep makes its calls
pub record AreInTurns (workers sweep ahead : ℕ) (order : List Item) (refused : Bool) (history : List Event) (old new : List Mark) : Type 0 where
  -- the calls of the workers, among which are none of another number
  pub by_workers : List ℕ
  pub alone : (number : ℕ) → workers < number → calls_of by_workers number ≡ 0
  pub in_turns : by_workers ≡ turns (calls_of by_workers) (range_with_len 1 workers) order []
  pub behind : callers history ≡ turns (calls_of (callers history)) (range_with_len (suc workers) sweep) [] by_workers
  pub marks : AddsMarks refused (marks_of (calls_of by_workers) order [] ++ sweep_mark sweep ahead (length by_workers)) old new
