-- What a commit needs of the attempt that it was begun with, and of its client's own list before.
use Rattle.std.specs.Prelude.{◌≡◌, ℕ, List, [], ◌∷◌, slice_get, Option, Some, None, bytes_eq}
use Rattle.indexmap.specs.IndexMap.{insert_entry}
use Rattle.cbt_model.specs.History.{commits}
use Rattle.cbt_model.specs.declared.events.Made.{Made}
use Rattle.cbt_attempt.specs.Notes.{NotesAll}
use Rattle.cbt_attempt.specs.OwnWrites.{noted, NamesByKind}
use Rattle.cbt_attempt.specs.declared.own.Own.{Own}
use Rattle.cbt_book.specs.OwnLists.{Once}
use Rattle.cbt_book.specs.Shown.{AddsEntry, aborts}
use Rattle.cbt_commit.specs.Phases.{Task}
use Rattle.cbt_commit.specs.Written.{Written}

-- what was staged, with its CAS where that is known
abbrev pub written_at : Own → Option ℕ → Option Written
written_at v None = None
written_at v (Some x) = Some (record { cas = x; content = v.content })

abbrev pub written_of : Option Own → Option Written
written_of None = None
written_of (Some v) = written_at v v.cas

-- a staging is put behind those that are copied
abbrev pub with_copy : List (List ℕ × Written) → List ℕ → Option Written → List (List ℕ × Written)
with_copy works d None = works
with_copy works d (Some w) = insert_entry bytes_eq works d w

-- the stagings of these documents, in their order, behind those that are copied
abbrev pub copied_behind : (List ℕ → Option Own) → List (List ℕ × Written) → List (List ℕ × Own) → List (List ℕ × Written)
copied_behind own works [] = works
copied_behind own works (w ∷ writes) = copied_behind own (with_copy works w.0 (written_of (own w.0))) writes

-- what was staged by these own writes, in their order
abbrev pub copied : List (List ℕ × Own) → List (List ℕ × Written)
copied writes = copied_behind (noted writes) [] writes

-- the works are just the own writes that are noted with their CAS, each document once
pub record CopiesNotes (own : List ℕ → Option Own) (works : List (List ℕ × Written)) : Type 0 where
  pub known : (at : ℕ) (w : List ℕ × Written) → slice_get works at ≡ Some w
      → (v : Own) × (own w.0 ≡ Some v) × (v.cas ≡ Some w.1.cas) × (v.content ≡ w.1.content)
  pub all : (d : List ℕ) (v : Own) (x : ℕ) → own d ≡ Some v → v.cas ≡ Some x → (at : ℕ) × (w : List ℕ × Written) × (slice_get works at ≡ Some w) × (w.0 ≡ d)
  pub apart : (i j : ℕ) (v w : List ℕ × Written) → slice_get works i ≡ Some v → slice_get works j ≡ Some w → v.0 ≡ w.0 → i ≡ j

-- a commit was begun with an attempt that has noted these own writes: its works are those with a CAS, and its lists name all by kind
pub record IsOf (own : List ℕ → Option Own) (t : Task) : Type 0 where
  pub works : CopiesNotes own t.works
  pub lists : NamesByKind own t.lists

-- all has gone well for attempt a so far, by its client's own list: what it has noted of its own writes is right, its entry was
-- added to record r, and it was neither aborted nor committed
pub record GoesWell (own : List ℕ → Option Own) (r a : ℕ) (l : List Made) : Type 0 where
  pub notes : NotesAll a r own l
  pub added : Once (λ m _. AddsEntry r a m) l
  pub unaborted : ¬ Once (λ m _. aborts m.step ≡ Some a) l
  pub uncommitted : ¬ Once (λ m _. commits m.step ≡ Some a) l

-- the client's own list before the commit is as it needs it
pub record IsReady (t : Task) (l : List Made) : Type 0 where
  pub own : List ℕ → Option Own
  pub is_of : IsOf own t
  pub well : GoesWell own t.atr t.attempt l
