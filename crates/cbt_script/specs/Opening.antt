-- The state of the node before a script's run.
use Rattle.std.specs.Prelude.{ℕ, ◌+◌, List, [], ◌∷◌, length, Some, None}
use Rattle.cbt_base.specs.Keyed.{with_pair}
use Rattle.cbt_json.specs.declared.tree.Tree.{Tree}
use Rattle.cbt_model.specs.Keys.{doc_cmp}
use Rattle.cbt_model.specs.declared.documents.DocState.{DocState}
use Rattle.cbt_model.specs.declared.states.State.{State}

-- a document that nobody has written yet
abbrev pub first_state : ℕ → Tree → Tree → DocState
first_state cas body attrs = record { cas = cas; body = Some body; attrs = attrs; stage = None }

-- the documents with those of a list, the first of these with the CAS that is next
abbrev pub docs_from : ℕ → List (List ℕ × Tree × Tree) → List (List ℕ × DocState) → List (List ℕ × DocState)
docs_from next [] docs = docs
docs_from next (d ∷ ds) docs = docs_from (next + 1) ds (with_pair doc_cmp docs d.0 (first_state next d.1 d.2))

-- the documents in their order, the k-th with CAS k, and nothing else
abbrev pub opening_of : List (List ℕ × Tree × Tree) → State
opening_of docs = record { last = length docs; docs = docs_from 1 docs []; entries = []; clients = [] }
