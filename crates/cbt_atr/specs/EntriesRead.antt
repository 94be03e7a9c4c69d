-- The entries for which the value of an attribute `attempts` stands. The fields of an entry are `exp`, `ins`, `p`, `rem`, `rep`, `st`, `tid` and `tst`.
use Rattle.std.specs.Prelude.{ℕ, Bool, ◌==◌, if◌then◌else◌, List, [], ◌∷◌, Option, Some, None, Result, Ok, Err, is_none, codes, bytes_eq}
use Rattle.std.specs.Option.{option_and_then}
use Rattle.cbt_base.specs.Ids.{id_fault}
use Rattle.cbt_json.specs.declared.tree.Tree.{Tree, out-Tree}
use Rattle.cbt_json.specs.declared.tree.Tree.TheOpen.{Tree-F}
use Rattle.cbt_model.specs.declared.entries.Entry.{Entry}
use Rattle.cbt_model.specs.declared.entries.EntryState.{EntryState}
use Rattle.cbt_model.specs.declared.entries.EntryState.TheVariants.{Pending, Committed, Aborted}
use Rattle.cbt_model.specs.declared.entries.Lists.{Lists}
use Rattle.cbt_subdoc.specs.Members.{Members, member}
use Rattle.cbt_shape.specs.declared.fault.ShapeFault.{ShapeFault}
use Rattle.cbt_shape.specs.declared.fault.ShapeFault.TheVariants.{Shape}
use Rattle.cbt_shape.specs.declared.fields.Field.{Field}
use Rattle.cbt_shape.specs.declared.fields.Field.TheVariants.{Missing, OtherForm, Good}
use Rattle.cbt_shape.specs.Fields.{field, wanted, absent, formed}
use Rattle.cbt_shape.specs.Forms.{text_form, txn_form, whole_form, macro_form, where_true}
use Rattle.cbt_shape.specs.Names.{id_in}
use Rattle.cbt_shape.specs.Objects.{members_of, has_only}
use Rattle.cbt_shape.specs.Readings.{◌>>=◌, require}

-- ---- forms

abbrev pub state_in : List ℕ → Option EntryState
state_in text =
    if bytes_eq text (codes "PENDING") then Some Pending
    else (if bytes_eq text (codes "COMMITTED") then Some Committed
    else (if bytes_eq text (codes "ABORTED") then Some Aborted
    else None))

abbrev pub state_form : Tree → Option EntryState
state_form t = text_form state_in t

-- the number 0
abbrev pub zero_form : Tree → Option (Unit {0})
zero_form t = option_and_then (λ n. where_true (n == 0)) (whole_form t)

-- the document that has this identifier
abbrev pub doc_in : List ℕ → Option (List ℕ)
doc_in text = if is_none (id_fault text) then Some text else None

abbrev pub doc_of : Members → Option (List ℕ)
doc_of (m ∷ []) = if bytes_eq m.0 (codes "id") then text_form doc_in m.1 else None
doc_of _ = None

abbrev pub doc_inside : Tree-F Tree → Option (List ℕ)
doc_inside (Tree-F.Object ms) = doc_of ms
doc_inside _ = None

-- an object with the identifier of a document, and nothing else
abbrev pub doc_form : Tree → Option (List ℕ)
doc_form t = doc_inside (out-Tree t)

abbrev pub with_doc : Option (List ℕ) → Option (List (List ℕ)) → Option (List (List ℕ))
with_doc (Some doc) (Some docs) = Some (doc ∷ docs)
with_doc (Some doc) None = None
with_doc None docs = None

abbrev pub docs_in : List Tree → Option (List (List ℕ))
docs_in [] = Some []
docs_in (t ∷ ts) = with_doc (doc_form t) (docs_in ts)

abbrev pub docs_inside : Tree-F Tree → Option (List (List ℕ))
docs_inside (Tree-F.List ts) = docs_in ts
docs_inside _ = None

-- a list of documents
abbrev pub docs_form : Tree → Option (List (List ℕ))
docs_form t = docs_inside (out-Tree t)

-- ---- the fields of a decided entry

abbrev pub empty_lists : Lists
empty_lists = record { ins = []; rep = []; rem = [] }

abbrev pub decided_lists : Members → Result Lists ShapeFault
decided_lists ms = do
  ins ← wanted 2 (field docs_form (member (codes "ins") ms))
  _ ← wanted 3 (field zero_form (member (codes "p") ms))
  rem ← wanted 4 (field docs_form (member (codes "rem") ms))
  rep ← wanted 5 (field docs_form (member (codes "rep") ms))
  Ok (record { ins = ins; rep = rep; rem = rem })

abbrev pub no_lists : Members → Result Lists ShapeFault
no_lists ms = do
  _ ← absent 2 (member (codes "ins") ms)
  _ ← absent 3 (member (codes "p") ms)
  _ ← absent 4 (member (codes "rem") ms)
  _ ← absent 5 (member (codes "rep") ms)
  Ok empty_lists

abbrev pub formed_lists : Members → Result Lists ShapeFault
formed_lists ms = do
  _ ← formed 2 (field docs_form (member (codes "ins") ms))
  _ ← formed 3 (field zero_form (member (codes "p") ms))
  _ ← formed 4 (field docs_form (member (codes "rem") ms))
  _ ← formed 5 (field docs_form (member (codes "rep") ms))
  Ok empty_lists

-- the state says whether they should be there; where it does not, each is judged by its form alone
abbrev pub lists_of : Field EntryState → Members → Result Lists ShapeFault
lists_of (Good Pending) ms = no_lists ms
lists_of (Good Committed) ms = decided_lists ms
lists_of (Good Aborted) ms = decided_lists ms
lists_of Missing ms = formed_lists ms
lists_of OtherForm ms = formed_lists ms

-- ---- an entry, and all

abbrev pub names : List (List ℕ)
names = codes "exp" ∷ codes "ins" ∷ codes "p" ∷ codes "rem" ∷ codes "rep" ∷ codes "st" ∷ codes "tid" ∷ codes "tst" ∷ []

-- no names but those of the fields
abbrev pub are_fields : Members → Bool
are_fields ms = has_only names ms

-- the fields of an attempt's entry, in their order
abbrev pub entry_of : ℕ → Members → Result Entry ShapeFault
entry_of id ms = do
  _ ← require (are_fields ms)
  exp ← wanted 1 (field whole_form (member (codes "exp") ms))
  lists ← lists_of (field state_form (member (codes "st") ms)) ms
  state ← wanted 6 (field state_form (member (codes "st") ms))
  _ ← wanted 7 (field (txn_form id) (member (codes "tid") ms))
  start ← wanted 8 (field macro_form (member (codes "tst") ms))
  Ok (record { state = state; start = start; exp = exp; lists = lists })

abbrev pub named : Option ℕ → Result ℕ ShapeFault
named (Some id) = Ok id
named None = Err (Shape 0)

-- the entry of an attempt
abbrev pub entry_at : List ℕ × Tree → Result (ℕ × Entry) ShapeFault
entry_at m = do
  id ← named (id_in m.0)
  ms ← members_of (out-Tree m.1)
  entry ← entry_of id ms
  Ok (id, entry)

abbrev pub entries_in : Members → Result (List (ℕ × Entry)) ShapeFault
entries_in [] = Ok []
entries_in (m ∷ ms) = do
  entry ← entry_at m
  entries ← entries_in ms
  Ok (entry ∷ entries)

abbrev pub entries_of : Tree → Result (List (ℕ × Entry)) ShapeFault
entries_of t = do
  ms ← members_of (out-Tree t)
  entries_in ms
