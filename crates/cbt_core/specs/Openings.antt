-- What a run may begin with: a sound state, in which the attempts that are made in the run have left nothing yet.
use Rattle.std.specs.Prelude.{◌≡◌, ◌≢◌, ℕ, ◌≤◌, List, slice_get, Some}
use Rattle.cbt_model.specs.Keys.{IsOrdered, doc_at, entry_at, row_at}
use Rattle.cbt_model.specs.declared.documents.DocState.{DocState}
use Rattle.cbt_model.specs.declared.documents.Stage.{Stage}
use Rattle.cbt_model.specs.declared.entries.ClientRow.{ClientRow}
use Rattle.cbt_model.specs.declared.entries.Entry.{Entry}
use Rattle.cbt_model.specs.declared.entries.EntryState.TheVariants.{Committed, Aborted}
use Rattle.cbt_model.specs.declared.events.Event.{Event}
use Rattle.cbt_model.specs.declared.states.State.{State}
use Rattle.cbt_book.specs.Licence.{listed, IsListed}
use Rattle.cbt_book.specs.OwnLists.{In}
use Rattle.cbt_book.specs.Shown.{adds}

-- a state that the protocol may have left
pub record IsSound (s : State) : Type 0 where
  pub ordered : IsOrdered s
  -- no stamp is above the clock
  pub docs : (d : List ℕ) (x : DocState) → doc_at s d ≡ Some x → x.cas ≤ s.last
  pub starts : (key : ℕ × ℕ) (e : Entry) → entry_at s key ≡ Some e → e.start ≤ s.last
  pub rows : (id : ℕ) (row : ClientRow) → row_at s id ≡ Some row → row.heartbeat ≤ s.last
  -- an attempt has at most one entry, in the record that its stagings name
  pub one : (r q a : ℕ) (e f : Entry) → entry_at s (r, a) ≡ Some e → entry_at s (q, a) ≡ Some f → r ≡ q
  pub named : (d : List ℕ) (x : DocState) (stage : Stage) (r : ℕ) (e : Entry) → doc_at s d ≡ Some x → x.stage ≡ Some stage
      → entry_at s (r, stage.attempt) ≡ Some e → r ≡ stage.atr
  -- which lists them once it is decided
  pub committed : (d : List ℕ) (x : DocState) (stage : Stage) (e : Entry) → doc_at s d ≡ Some x → x.stage ≡ Some stage
      → entry_at s (stage.atr, stage.attempt) ≡ Some e → e.state ≡ Committed → In d (listed stage.kind e.lists)
  pub aborted : (d : List ℕ) (x : DocState) (stage : Stage) (e : Entry) → doc_at s d ≡ Some x → x.stage ≡ Some stage
      → entry_at s (stage.atr, stage.attempt) ≡ Some e → e.state ≡ Aborted → IsListed d e.lists

-- the attempts whose entries a history adds have no entry and no staging before it
pub record AreFresh (s : State) (h : List Event) : Type 0 where
  pub no_entry : (i r a : ℕ) (e : Event) (x : Entry) → slice_get h i ≡ Some e → adds e.step ≡ Some a → entry_at s (r, a) ≡ Some x → ⊥
  pub no_staging : (i a : ℕ) (e : Event) (d : List ℕ) (x : DocState) (stage : Stage) → slice_get h i ≡ Some e → adds e.step ≡ Some a
      → doc_at s d ≡ Some x → x.stage ≡ Some stage → stage.attempt ≢ a
