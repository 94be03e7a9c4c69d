-- What a drive of workers, and of a sweep behind them, leaves. The numbers of the workers begin with 1, those of the sweep
-- follow them. Here `workers` and `sweep` are the actors as they were begun, `worked` and `swept` the same at the end, and
-- `kind` has the members of the trait of actors.
use Rattle.std.specs.Prelude.{◌≡◌, ℕ, suc, ◌+◌, List, length, slice_get, Some, None}
use Rattle.cbt_model.specs.History.{own}
use Rattle.cbt_model.specs.Legal.{Terms, IsLegal}
use Rattle.cbt_model.specs.declared.actors.Actor.{Ghosts as ActorOf}
use Rattle.cbt_model.specs.declared.events.Kept.{Kept}
use Rattle.cbt_model.specs.declared.events.Made.{Made}
use Rattle.cbt_model.specs.declared.nodes.Node.{Ghosts as NodeOf}
use Rattle.cbt_book.specs.OwnLists.{Descends}

-- an actor's own list in all that was kept
abbrev pub own_in : Kept → ℕ → List Made
own_in kept number = own kept.opening kept.history number (length kept.history)

-- what a node has kept so far
abbrev pub kept_by : {N : Type 0} → NodeOf N → N → Kept
kept_by nodes node = record { opening = nodes.opening node; history = nodes.history node; marks = nodes.marks node }

-- an actor has come to its end with this own list: it stands for it, was made with what it was begun with, and has no next step
pub record HasRun {A : Type 0} (kind : ActorOf A) (begun now : A) (l : List Made) : Type 0 where
  pub stands : kind.stands_for now l
  pub descends : Descends l
  pub origin : kind.same_origin begun now
  pub ended : kind.step_now now ≡ None

-- so has each actor of a list, whose numbers begin with first
pub record HaveRun {A : Type 0} (kind : ActorOf A) (first : ℕ) (kept : Kept) (begun now : List A) : Type 0 where
  pub same_length : length now ≡ length begun
  pub each : (k : ℕ) (b a : A) → slice_get begun k ≡ Some b → slice_get now k ≡ Some a → HasRun kind b a (own_in kept (first + k))

-- workers have run, and a sweep behind them, and the history that was kept is a legal one of these actors alone
pub record AreDriven {A : Type 0} (kind : ActorOf A) (terms : Terms) (kept : Kept) (workers worked sweep swept : List A) : Type 0 where
  pub have_worked : HaveRun kind 1 kept workers worked
  pub have_swept : HaveRun kind (suc (length workers)) kept sweep swept
  pub legal : IsLegal terms (length workers + length sweep) kept.history kept.marks
