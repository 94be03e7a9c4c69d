-- Short words for the histories that are written out here.
use Rattle.std.specs.Prelude.{◌≡◌, ℕ, pos, List, [], ◌∷◌, Option, Some, None}
use Rattle.cbt_json.specs.declared.tree.Tree.TheVariants as tree
use Rattle.cbt_json.specs.declared.tree.Tree.{Tree}
use Rattle.cbt_json.specs.Attributes.{no_attributes}
use Rattle.cbt_model.specs.History.{after}
use Rattle.cbt_model.specs.View.{view}
use Rattle.cbt_model.specs.declared.documents.DocState.{DocState}
use Rattle.cbt_model.specs.declared.documents.OpKind.{OpKind}
use Rattle.cbt_model.specs.declared.documents.Stage.{Stage}
use Rattle.cbt_model.specs.declared.entries.Entry.{Entry}
use Rattle.cbt_model.specs.declared.entries.EntryState.{EntryState}
use Rattle.cbt_model.specs.declared.entries.Lists.{Lists}
use Rattle.cbt_model.specs.declared.events.Event.{Event}
use Rattle.cbt_model.specs.declared.events.Fate.{Fate}
use Rattle.cbt_model.specs.declared.events.Faults.{Faults}
use Rattle.cbt_model.specs.declared.events.Made.{Made}
use Rattle.cbt_model.specs.declared.steps.Reply.{Reply}
use Rattle.cbt_model.specs.declared.steps.Step.{Step}
use Rattle.cbt_book.specs.declared.book.Book.{Book}
use Rattle.cbt_book.specs.declared.operations.Span.{Span}
use Rattle.cbt_core.specs.Committed.{table_at}
use Rattle.cbt_core.specs.WriteSets.{write_set}
use Rattle.cbt_core.specs.declared.case.Case.{Case}

-- the documents `a`, `b`, `seen` and `z`, and the names `x` and `y`
abbrev pub doc_a : List ℕ
doc_a = 97 ∷ []

abbrev pub doc_b : List ℕ
doc_b = 98 ∷ []

abbrev pub doc_seen : List ℕ
doc_seen = 115 ∷ 101 ∷ 101 ∷ 110 ∷ []

abbrev pub doc_z : List ℕ
doc_z = 122 ∷ []

abbrev pub name_x : List ℕ
name_x = 120 ∷ []

abbrev pub name_y : List ℕ
name_y = 121 ∷ []

-- the body {"n":k}
abbrev pub n : ℕ → Tree
n k = tree.Object ((110 ∷ [], tree.Whole (pos k)) ∷ [])

-- the body {"got":k}
abbrev pub got : ℕ → Tree
got k = tree.Object ((103 ∷ 111 ∷ 116 ∷ [], tree.Whole (pos k)) ∷ [])

abbrev pub stage_of : ℕ → ℕ → OpKind → Option Tree → Stage
stage_of attempt atr kind content = record { attempt = attempt; atr = atr; kind = kind; content = content }

abbrev pub lists_of : List (List ℕ) → List (List ℕ) → List (List ℕ) → Lists
lists_of ins rep rem = record { ins = ins; rep = rep; rem = rem }

abbrev pub entry_of : EntryState → ℕ → ℕ → Lists → Entry
entry_of state start exp lists = record { state = state; start = start; exp = exp; lists = lists }

-- a document that nobody has written yet
abbrev pub first_doc : ℕ → Tree → DocState
first_doc cas body = record { cas = cas; body = Some body; attrs = no_attributes; stage = None }

abbrev pub event_of : ℕ → Fate → ℕ → Step → Event
event_of actor fate reading step = record { actor = actor; step = step; fate = fate; reading = reading }

-- what its actor was told of an event: the place, the time and the reply
abbrev pub told : Event → ℕ → ℕ → Reply → Made
told e place now reply = record { step = e.step; answer = record { place = place; now = now; reply = reply } }

-- these calls, by actor and number, have these fates
abbrev pub faults_of : List ((ℕ × ℕ) × Fate) → Faults
faults_of fates = record { fates = fates }

abbrev pub span_of : ℕ → ℕ → Span
span_of from to = record { from = from; to = to }

-- after the first i events a document resolves to this value, and the committed table has it
abbrev pub HasValue : Case → Book → ℕ → List ℕ → Option Tree → Type 0
HasValue run book i d value = (view (after book.kept.opening book.kept.history i) d ≡ value)
    × (table_at (write_set run.plans book.clients) book.kept.opening book.kept.history i d ≡ value)
