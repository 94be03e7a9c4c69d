-- What a rollback needs of the attempt that it was begun with, and of its client's own list before.
use Rattle.std.specs.Prelude.{◌≡◌, ℕ, List, map, slice_get, Option, Some, None}
use Rattle.cbt_model.specs.declared.events.Made.{Made}
use Rattle.cbt_model.specs.declared.steps.Step.TheVariants as step
use Rattle.cbt_attempt.specs.Notes.{NotesWrites}
use Rattle.cbt_attempt.specs.OwnWrites.{NamesByKind}
use Rattle.cbt_attempt.specs.declared.own.Own.{Own}
use Rattle.cbt_book.specs.Licence.{CommitsUnsettled}
use Rattle.cbt_book.specs.OwnLists.{Once}
use Rattle.cbt_book.specs.Shown.{aborts}
use Rattle.cbt_rollback.specs.Phases.{Work, Task}

-- the CAS of an own write, where there is one and it is known
abbrev pub stamp_of : Option Own → Option ℕ
stamp_of None = None
stamp_of (Some w) = w.cas

-- own writes as works, in their order
abbrev pub works_in : List (List ℕ × Own) → List Work
works_in writes = map (λ e. (e.0, e.1.cas)) writes

-- the works are just the own writes that are noted, each document once
pub record CopiesNotes (own : List ℕ → Option Own) (works : List Work) : Type 0 where
  pub noted : (at : ℕ) (w : Work) → slice_get works at ≡ Some w → (v : Own) × (own w.0 ≡ Some v) × (v.cas ≡ w.1)
  pub all : (d : List ℕ) (v : Own) → own d ≡ Some v → (at : ℕ) × (w : Work) × (slice_get works at ≡ Some w) × (w.0 ≡ d)
  pub apart : (i j : ℕ) (v w : Work) → slice_get works i ≡ Some v → slice_get works j ≡ Some w → v.0 ≡ w.0 → i ≡ j

-- a rollback was begun with an attempt that has noted these own writes: its works are theirs, and its lists name them by kind
pub record IsOf (own : List ℕ → Option Own) (t : Task) : Type 0 where
  pub works : CopiesNotes own t.works
  pub lists : NamesByKind own t.lists

-- attempt a may be aborted after the list l: what it has noted is right, its entry was sent to record r, and it was neither aborted
-- nor committed
pub record IsAbortable (a r : ℕ) (own : List ℕ → Option Own) (l : List Made) : Type 0 where
  pub notes : NotesWrites a r own l
  pub sent : Once (λ m _. (exp : ℕ) × (m.step ≡ step.AddEntry r a exp)) l
  pub unaborted : ¬ Once (λ m _. aborts m.step ≡ Some a) l
  pub unsettled : CommitsUnsettled l r a

-- a rollback may begin after the list l
pub record IsReady (t : Task) (l : List Made) : Type 0 where
  pub own : List ℕ → Option Own
  pub is_of : IsOf own t
  pub abortable : IsAbortable t.attempt t.atr own l
