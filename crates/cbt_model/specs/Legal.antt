-- Which histories a run may have: fates by the faults, readings by the clock line and the marks, and steps that fit.
use Rattle.std.specs.Prelude.{◌≡◌, ℕ, zero, suc, ◌+◌, ◌*◌, ◌<◌, ◌≤◌, true, ◌==◌, nat_le, if◌then◌else◌, List, [], ◌∷◌, ◌++◌, slice_get, Option, Some, None}
use Rattle.cbt_base.specs.Clock.{held}
use Rattle.cbt_model.specs.Faults.{fate_of}
use Rattle.cbt_model.specs.Fitting.{step_fits}
use Rattle.cbt_model.specs.declared.events.Event.{Event}
use Rattle.cbt_model.specs.declared.events.Fate.{Fate}
use Rattle.cbt_model.specs.declared.events.Faults.{Faults}
use Rattle.cbt_model.specs.declared.events.Mark.{Mark}
use Rattle.cbt_model.specs.declared.steps.Step.{Step}

-- under what a node makes its calls: the faults, and the clock line with its start and step, where there is one
pub record Terms : Type 0 where
  pub faults : Faults
  pub line : Option (ℕ × ℕ)

abbrev pub one_of : ℕ → Option Event → ℕ
one_of actor None = 0
one_of actor (Some e) = if e.actor == actor then 1 else 0

-- how many of the first i events are an actor's
abbrev pub calls_below : List Event → ℕ → ℕ → ℕ
calls_below h actor zero = 0
calls_below h actor (suc i) = calls_below h actor i + one_of actor (slice_get h i)

-- the milliseconds of the marks that stand at or before place i
abbrev pub ahead_at : List Mark → ℕ → ℕ
ahead_at [] i = 0
ahead_at (m ∷ marks) i = (if nat_le m.place i then m.ms else 0) + ahead_at marks i

-- the readings of a clock line
abbrev pub line_due : ℕ × ℕ → ℕ → ℕ
line_due line i = line.0 + line.1 * i

-- the reading of event i is the one that was due, and the marks so far
pub record AreReadings (due : ℕ → ℕ) (h : List Event) (marks : List Mark) : Type 0 where
  pub each : (i : ℕ) (e : Event) → slice_get h i ≡ Some e → e.reading ≡ held (due i + ahead_at marks i)

-- a history keeps the terms
pub record KeepsTerms (terms : Terms) (h : List Event) (marks : List Mark) : Type 0 where
  -- the fate of each event is the one that the faults name for this call of its actor, and else Plain
  pub fates : (i : ℕ) (e : Event) → slice_get h i ≡ Some e → e.fate ≡ fate_of terms.faults e.actor (suc (calls_below h e.actor i))
  pub fitting : (i : ℕ) (e : Event) → slice_get h i ≡ Some e → step_fits e.step ≡ true
  pub readings : (line : ℕ × ℕ) → terms.line ≡ Some line → AreReadings (line_due line) h marks

-- a legal history keeps the terms, and each of its events is of one of the actors
pub record IsLegal (terms : Terms) (actors : ℕ) (h : List Event) (marks : List Mark) : Type 0 where
  pub keeps : KeepsTerms terms h marks
  pub numbered : (i : ℕ) (e : Event) → slice_get h i ≡ Some e → (0 < e.actor) × (e.actor ≤ actors)

-- one event more, with this actor, step and fate
pub record AddsOne (old new : List Event) (actor : ℕ) (step : Step) (fate : Fate) : Type 0 where
  pub reading : ℕ
  pub added : new ≡ old ++ record { actor = actor; step = step; fate = fate; reading = reading } ∷ []
