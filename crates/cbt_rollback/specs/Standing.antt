-- What the calls of a rollback are, newest first, as far as it has come.
use Rattle.std.specs.Prelude.{◌≡◌, true, List, [], ◌∷◌, Some}
use Rattle.cbt_model.specs.Fitting.{fits}
use Rattle.cbt_model.specs.declared.events.Made.{Made}
use Rattle.cbt_rollback.specs.Phases.{Task, task_of, step_for, after}
use Rattle.cbt_rollback.specs.declared.phases.Phase.{Phase}
use Rattle.cbt_rollback.specs.declared.phases.Phase.TheVariants.{Aborting}
use Rattle.cbt_rollback.specs.declared.undos.Undo.{Undo}

-- the machine came to this phase by these calls, each the one that it asked for and with a fitting answer
pub data Runs (t : Task) : Phase → List Made → Type 0 where
  begun : Runs t Aborting []
  goes_on : (p : Phase) (mine : List Made) (m : Made) → Runs t p mine → step_for t p ≡ Some m.step → fits m.step m.answer.reply ≡ true
      → Runs t (after t p m.answer.place m.answer.reply) (m ∷ mine)

-- these are the calls of the rollback
abbrev pub StandsFor : Undo → List Made → Type 0
StandsFor undo mine = Runs (task_of undo) undo.phase mine
