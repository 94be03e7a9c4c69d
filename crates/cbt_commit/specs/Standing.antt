-- What the calls of a commit are, newest first, as far as it has come.
use Rattle.std.specs.Prelude.{◌≡◌, ℕ, true, List, [], ◌∷◌, slice_get, Some}
use Rattle.cbt_model.specs.Fitting.{fits}
use Rattle.cbt_model.specs.declared.events.Made.{Made}
use Rattle.cbt_book.specs.Licence.{IsListed}
use Rattle.cbt_commit.specs.Phases.{Task, task_of, step_for, after}
use Rattle.cbt_commit.specs.Written.{Written}
use Rattle.cbt_commit.specs.declared.finishes.Finish.{Finish}
use Rattle.cbt_commit.specs.declared.phases.Phase.{Phase}
use Rattle.cbt_commit.specs.declared.phases.Phase.TheVariants.{Sending}

-- each document to be published stands once, and is listed
pub record IsListedOnce (t : Task) : Type 0 where
  pub apart : (i j : ℕ) (v w : List ℕ × Written) → slice_get t.works i ≡ Some v → slice_get t.works j ≡ Some w → v.0 ≡ w.0 → i ≡ j
  pub listed : (at : ℕ) (w : List ℕ × Written) → slice_get t.works at ≡ Some w → IsListed w.0 t.lists

-- the machine came to this phase by these calls, each the one that it asked for and with a fitting answer
pub data Runs (t : Task) : Phase → List Made → Type 0 where
  begun : Runs t (Sending 2) []
  goes_on : (p : Phase) (mine : List Made) (m : Made) → Runs t p mine → step_for t p ≡ Some m.step → fits m.step m.answer.reply ≡ true
      → Runs t (after t p m.answer.place m.answer.reply) (m ∷ mine)

-- these are the calls of the commit
pub record StandsFor (finish : Finish) (mine : List Made) : Type 0 where
  pub listed : IsListedOnce (task_of finish)
  pub runs : Runs (task_of finish) finish.phase mine
