-- How a node's readings follow its clock.
use Rattle.std.specs.Prelude.{◌≡◌, ℕ, ◌+◌, List, length, Option, Some, None}
use Rattle.cbt_model.specs.Legal.{AreReadings}
use Rattle.cbt_model.specs.declared.events.Event.{Event}
use Rattle.cbt_model.specs.declared.events.Mark.{Mark}

-- how many readings wait to be used
abbrev pub waiting : Option ℕ → ℕ
waiting None = 0
waiting (Some reading) = 1

-- without a clock line the events were made at the first of the readings f, one that waits is the next, and the rest is due
pub record ReadsBy (due : (ℕ → ℕ) → Type 0) (taken : Option ℕ) (h : List Event) (marks : List Mark) (f : ℕ → ℕ) : Type 0 where
  pub so_far : AreReadings f h marks
  pub next : (reading : ℕ) → taken ≡ Some reading → f (length h) ≡ reading
  pub rest : due (λ k. f (length h + waiting taken + k))
