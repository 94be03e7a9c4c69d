-- What documents resolve to. It looks at a document and at an entry at once, as no step can.
use Rattle.std.specs.Prelude.{ℕ, ◌+◌, ◌<◌, Bool, true, false, if◌then◌else◌, List, Option, Some, None}
use Rattle.cbt_base.specs.Clock.{ms_of}
use Rattle.cbt_json.specs.declared.value.Json.{Json}
use Rattle.cbt_model.specs.Keys.{doc_at, entry_at}
use Rattle.cbt_model.specs.declared.documents.DocState.{DocState}
use Rattle.cbt_model.specs.declared.documents.Stage.{Stage}
use Rattle.cbt_model.specs.declared.entries.Entry.{Entry}
use Rattle.cbt_model.specs.declared.entries.EntryState.{EntryState}
use Rattle.cbt_model.specs.declared.entries.EntryState.TheVariants.{Pending, Committed, Aborted}
use Rattle.cbt_model.specs.declared.states.State.{State}

abbrev pub is_committed : EntryState → Bool
is_committed Pending = false
is_committed Committed = true
is_committed Aborted = false

-- what is staged counts where the entry of its attempt is committed
abbrev pub resolved : Option Json → Option Json → Option Entry → Option Json
resolved body content None = body
resolved body content (Some e) = if is_committed e.state then content else body

abbrev pub view_staged : State → Option Json → Option Stage → Option Json
view_staged s body None = body
view_staged s body (Some stage) = resolved body stage.content (entry_at s (stage.atr, stage.attempt))

abbrev pub view_doc : State → Option DocState → Option Json
view_doc s None = None
view_doc s (Some d) = view_staged s d.body d.stage

-- what a document resolves to
abbrev pub view : State → List ℕ → Option Json
view s doc = view_doc s (doc_at s doc)

-- the entry has stood for longer than it may
abbrev pub IsExpired : Entry → ℕ → Type 0
IsExpired entry now = ms_of entry.start + entry.exp < now
