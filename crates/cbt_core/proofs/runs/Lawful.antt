-- What the laws are given of a history: a sound opening, fresh attempts, licensed actors, and steps that fit.
use Rattle.std.proofs.Common.{◌≡◌, ℕ, true, List, length, slice_get, Some, refl, subst}
use Rattle.std.proofs.lemmas.Option.{slice_get_within}
use Rattle.cbt_model.specs.Fitting.{step_fits}
use Rattle.cbt_model.specs.History.{own}
use Rattle.cbt_model.specs.declared.events.Event.{Event}
use Rattle.cbt_model.specs.declared.states.State.{State}
use Rattle.cbt_model.specs.declared.steps.Step.{Step}
use Rattle.cbt_book.specs.Licence.{MayTake, IsLicensed}
use Rattle.cbt_book.specs.Numbers.{Identity}
use Rattle.cbt_core.specs.Openings.{IsSound, AreFresh}
use Rattle.cbt_core.proofs.runs.Past.{licensed_at}

-- the identities of actors, by their numbers
abbrev pub known_as : (ℕ → ℕ) → ℕ → Identity
known_as cleaner actor = record { number = actor; cleaner = cleaner actor }

pub record Lawful (s0 : State) (h : List Event) : Type 0 where
  pub sound : IsSound s0
  pub fresh : AreFresh s0 h
  pub cleaner : ℕ → ℕ
  pub licensed : (actor : ℕ) → IsLicensed (known_as cleaner actor) (own s0 h actor (length h))
  pub fits : (i : ℕ) (e : Event) → slice_get h i ≡ Some e → step_fits e.step ≡ true

module _ (s0 : State) (h : List Event) (lawful : Lawful s0 h) where
  -- what an event's actor had to have seen
  pub may : (i : ℕ) (e : Event) (st : Step) → slice_get h i ≡ Some e → e.step ≡ st → MayTake (known_as lawful.cleaner e.actor) (own s0 h e.actor i) st
  may i e st at is =
      subst (λ x. MayTake (known_as lawful.cleaner e.actor) (own s0 h e.actor i) x) is
      (licensed_at s0 h (known_as lawful.cleaner e.actor) e.actor i (length h) e (lawful.licensed e.actor) (slice_get_within h i e at) at refl)
