-- The attribute `attempts` of a transaction record.
use Rattle.std.specs.Prelude.{◌≡◌, ℕ, pos, ◌^◌, ◌<◌, List, [], ◌∷◌, ◌++◌, map, codes}
use Rattle.std.specs.List.{AllByRecursion}
use Rattle.cbt_base.specs.Ids.{id_text, txn_number, IsDocId}
use Rattle.cbt_json.specs.declared.tree.Tree.{Tree}
use Rattle.cbt_json.specs.declared.tree.Tree.TheVariants as tree
use Rattle.cbt_model.specs.declared.entries.Entry.{Entry}
use Rattle.cbt_model.specs.declared.entries.EntryState.{EntryState}
use Rattle.cbt_model.specs.declared.entries.EntryState.TheVariants.{Pending, Committed, Aborted}
use Rattle.cbt_model.specs.declared.entries.Lists.{Lists}
use Rattle.cbt_subdoc.specs.Members.{Members}
use Rattle.cbt_subdoc.specs.Values.{macro_text}

abbrev pub state_text : EntryState → List ℕ
state_text Pending = codes "PENDING"
state_text Committed = codes "COMMITTED"
state_text Aborted = codes "ABORTED"

-- a document, as an object with its identifier
abbrev pub doc_tree : List ℕ → Tree
doc_tree doc = tree.Object ((codes "id", tree.Text doc) ∷ [])

abbrev pub docs_tree : List (List ℕ) → Tree
docs_tree docs = tree.List (map doc_tree docs)

-- what an entry has once it is decided: its lists, and `p`, which is 0
abbrev pub decided_fields : Lists → Members
decided_fields lists =
    (codes "ins", docs_tree lists.ins)
    ∷ (codes "p", tree.Whole (pos 0))
    ∷ (codes "rem", docs_tree lists.rem)
    ∷ (codes "rep", docs_tree lists.rep) ∷ []

abbrev pub state_fields : EntryState → Lists → Members
state_fields Pending lists = []
state_fields Committed lists = decided_fields lists
state_fields Aborted lists = decided_fields lists

-- its state, its transaction and its start, in the macro's form
abbrev pub last_fields : ℕ → Entry → Members
last_fields id entry =
    (codes "st", tree.Text (state_text entry.state))
    ∷ (codes "tid", tree.Text (id_text (txn_number id)))
    ∷ (codes "tst", tree.Text (macro_text entry.start)) ∷ []

abbrev pub entry_fields : ℕ → Entry → Members
entry_fields id entry = (codes "exp", tree.Whole (pos entry.exp)) ∷ state_fields entry.state entry.lists ++ last_fields id entry

abbrev pub written_entry : ℕ × Entry → List ℕ × Tree
written_entry e = (id_text e.0, tree.Object (entry_fields e.0 e.1))

-- the written form of entries by their attempts
abbrev pub written : List (ℕ × Entry) → Tree
written entries = tree.Object (map written_entry entries)

-- ---- which entries are read back

-- a pending entry has empty lists
abbrev pub HasLists : EntryState → Lists → Type 0
HasLists Pending lists = (lists.ins ≡ []) × (lists.rep ≡ []) × (lists.rem ≡ [])
HasLists Committed lists = Unit {0}
HasLists Aborted lists = Unit {0}

abbrev pub AreDocs : List (List ℕ) → Type 0
AreDocs docs = AllByRecursion IsDocId docs

-- the numbers and documents of an entry are those of their types
pub record IsEntry (e : ℕ × Entry) : Type 0 where
  pub id : e.0 < 2 ^ 128
  pub start : e.1.start < 2 ^ 64
  pub exp : e.1.exp < 2 ^ 64
  pub ins : AreDocs e.1.lists.ins
  pub rep : AreDocs e.1.lists.rep
  pub rem : AreDocs e.1.lists.rem
  pub lists : HasLists e.1.state e.1.lists
