-- What stands in a node's state at a key. A state is seen by these look-ups alone.
use Rattle.std.specs.Prelude.{ℕ, List, Option}
use Rattle.std.specs.declared.cmp.Ordering.{Ordering}
use Rattle.std.specs.Ordering.{nat_cmp, ordering_then}
use Rattle.std.specs.Cmp.Lexicographic.{slice_cmp}
use Rattle.cbt_base.specs.Keyed.{at_key, Rises}
use Rattle.cbt_model.specs.declared.documents.DocState.{DocState}
use Rattle.cbt_model.specs.declared.entries.ClientRow.{ClientRow}
use Rattle.cbt_model.specs.declared.entries.Entry.{Entry}
use Rattle.cbt_model.specs.declared.states.State.{State}

-- documents stand by the bytes of their ids
abbrev pub doc_cmp : List ℕ → List ℕ → Ordering
doc_cmp = slice_cmp nat_cmp

-- entries stand by the number of their transaction record, and then by their attempt
abbrev pub entry_cmp : ℕ × ℕ → ℕ × ℕ → Ordering
entry_cmp a b = ordering_then (nat_cmp a.0 b.0) (nat_cmp a.1 b.1)

-- the rows of the client record stand by id
abbrev pub id_cmp : ℕ → ℕ → Ordering
id_cmp = nat_cmp

-- the document with this id, or its tombstone
abbrev pub doc_at : State → List ℕ → Option DocState
doc_at s doc = at_key doc_cmp s.docs doc

-- the entry of this attempt in this transaction record
abbrev pub entry_at : State → ℕ × ℕ → Option Entry
entry_at s key = at_key entry_cmp s.entries key

-- the row of this cleaner in the client record
abbrev pub row_at : State → ℕ → Option ClientRow
row_at s id = at_key id_cmp s.clients id

-- the keys of a state's maps rise
pub record IsOrdered (s : State) : Type 0 where
  pub docs : Rises doc_cmp s.docs
  pub entries : Rises entry_cmp s.entries
  pub clients : Rises id_cmp s.clients
