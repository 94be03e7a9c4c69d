-- What the calls of a pass are, newest first, as far as it has come.
use Rattle.std.specs.Prelude.{◌≡◌, ℕ, true, List, [], ◌∷◌, Some}
use Rattle.cbt_model.specs.Fitting.{fits}
use Rattle.cbt_model.specs.declared.events.Made.{Made}
use Rattle.cbt_clean.specs.Phases.{step_for, after}
use Rattle.cbt_clean.specs.declared.passes.Pass.{Pass}
use Rattle.cbt_clean.specs.declared.phases.Phase.{Phase}
use Rattle.cbt_clean.specs.declared.phases.Phase.TheVariants.{Begun}

-- a pass over record r came to this phase by these calls, each the one that it asked for and with a fitting answer
pub data Runs (r : ℕ) : Phase → List Made → Type 0 where
  begun : Runs r Begun []
  goes_on : (p : Phase) (mine : List Made) (m : Made) → Runs r p mine → step_for r p ≡ Some m.step → fits m.step m.answer.reply ≡ true
      → Runs r (after r p m.answer.place m.answer.now m.answer.reply) (m ∷ mine)

-- these are the calls of the pass
abbrev pub StandsFor : Pass → List Made → Type 0
StandsFor pass mine = Runs pass.atr pass.phase mine
