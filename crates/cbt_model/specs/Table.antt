-- The step table: what each step answers, and what it changes, by what stands at the keys that it names.
use Rattle.std.specs.Prelude.{ℕ, Bool, true, false, ◌==◌, not, if◌then◌else◌, List, [], ◌∷◌, Option, Some, None}
use Rattle.std.specs.List.{filter_map}
use Rattle.cbt_base.specs.Clock.{clock_read, clock_mutated}
use Rattle.cbt_base.specs.Keyed.{with_pair, without_key}
use Rattle.cbt_json.specs.declared.value.Json.{Json}
use Rattle.cbt_json.specs.Attributes.{no_attributes, kept_attributes}
use Rattle.cbt_model.specs.Keys.{doc_cmp, entry_cmp, id_cmp, doc_at, entry_at}
use Rattle.cbt_model.specs.declared.documents.DocState.{DocState}
use Rattle.cbt_model.specs.declared.documents.Stage.{Stage}
use Rattle.cbt_model.specs.declared.entries.ClientRow.{ClientRow}
use Rattle.cbt_model.specs.declared.entries.Entry.{Entry}
use Rattle.cbt_model.specs.declared.entries.EntryState.{EntryState}
use Rattle.cbt_model.specs.declared.entries.EntryState.TheVariants.{Pending, Committed, Aborted}
use Rattle.cbt_model.specs.declared.entries.Lists.{Lists}
use Rattle.cbt_model.specs.declared.states.State.{State}
use Rattle.cbt_model.specs.declared.steps.Expect.{Expect}
use Rattle.cbt_model.specs.declared.steps.Expect.TheVariants as expect
use Rattle.cbt_model.specs.declared.steps.Reply.{Reply}
use Rattle.cbt_model.specs.declared.steps.Reply.TheVariants as reply
use Rattle.cbt_model.specs.declared.steps.Step.{Step}
use Rattle.cbt_model.specs.declared.steps.Step.TheVariants as step

-- what a step changes
pub data Change : Type 0 where
  Nothing : Change
  SetsDoc : List ℕ → DocState → Change
  SetsEntry : ℕ × ℕ → Entry → Change
  DropsEntry : ℕ × ℕ → Change
  SetsClients : List (ℕ × ClientRow) → Change

-- a row of the table at one state: the answer and the change
pub record Row : Type 0 where
  pub reply : Reply
  pub change : Change

-- a row that changes nothing
abbrev pub refused : Reply → Row
refused reply = record { reply = reply; change = Nothing }

-- a row that changes something, with the stamp c
abbrev pub takes : ℕ → Change → Row
takes c change = record { reply = reply.Done c; change = change }

abbrev pub read_doc_row : Option DocState → Row
read_doc_row None = refused reply.Absent
read_doc_row (Some d) = refused (reply.Doc d.cas d.body d.stage)

abbrev pub stage_row : ℕ → List ℕ → Expect → Stage → Option DocState → Row
stage_row c doc expect.New stage (Some d) = refused reply.Exists
stage_row c doc expect.New stage None = takes c (SetsDoc doc (record { cas = c; body = None; attrs = no_attributes; stage = Some stage }))
stage_row c doc (expect.Cas x) stage None = refused reply.Absent
stage_row c doc (expect.Cas x) stage (Some d) =
    if d.cas == x
    then takes c (SetsDoc doc (record { cas = c; body = d.body; attrs = d.attrs; stage = Some stage }))
    else refused (reply.CasMismatch d.cas)

abbrev pub publish_row : ℕ → List ℕ → ℕ → Json → Option DocState → Row
publish_row c doc x body None = refused (reply.CasMismatch 0)
publish_row c doc x body (Some d) =
    if d.cas == x
    then takes c (SetsDoc doc (record { cas = c; body = Some body; attrs = d.attrs; stage = None }))
    else refused (reply.CasMismatch d.cas)

abbrev pub delete_row : ℕ → List ℕ → ℕ → Option DocState → Row
delete_row c doc x None = refused (reply.CasMismatch 0)
delete_row c doc x (Some d) =
    if d.cas == x
    then takes c (SetsDoc doc (record { cas = c; body = None; attrs = kept_attributes d.attrs; stage = None }))
    else refused (reply.CasMismatch d.cas)

abbrev pub unstick_row : ℕ → List ℕ → ℕ → Option DocState → Row
unstick_row c doc x None = refused (reply.CasMismatch 0)
unstick_row c doc x (Some d) =
    if d.cas == x
    then takes c (SetsDoc doc (record { cas = c; body = d.body; attrs = d.attrs; stage = None }))
    else refused (reply.CasMismatch d.cas)

abbrev pub read_entry_row : Option Entry → Row
read_entry_row None = refused reply.NoEntry
read_entry_row (Some e) = refused (reply.Entry e)

abbrev pub no_lists : Lists
no_lists = record { ins = []; rep = []; rem = [] }

abbrev pub add_entry_row : ℕ → ℕ × ℕ → ℕ → Option Entry → Row
add_entry_row c key exp (Some e) = refused reply.Exists
add_entry_row c key exp None = takes c (SetsEntry key (record { state = Pending; start = c; exp = exp; lists = no_lists }))

abbrev pub is_pending : EntryState → Bool
is_pending Pending = true
is_pending Committed = false
is_pending Aborted = false

-- a commit and an abort: the entry is decided, with these lists
abbrev pub decide_row : ℕ → ℕ × ℕ → EntryState → Lists → Option Entry → Row
decide_row c key state lists None = refused reply.NoEntry
decide_row c key state lists (Some e) =
    if is_pending e.state
    then takes c (SetsEntry key (record { state = state; start = e.start; exp = e.exp; lists = lists }))
    else refused reply.Decided

-- a guarded drop needs a pending entry
abbrev pub may_drop : Bool → EntryState → Bool
may_drop guarded Pending = true
may_drop guarded Committed = not guarded
may_drop guarded Aborted = not guarded

abbrev pub drop_entry_row : ℕ → ℕ × ℕ → Bool → Option Entry → Row
drop_entry_row c key guarded None = refused reply.NoEntry
drop_entry_row c key guarded (Some e) = if may_drop guarded e.state then takes c (DropsEntry key) else refused reply.Decided

-- the attempt of an entry and the entry, where it is of this transaction record
abbrev pub of_record : ℕ → (ℕ × ℕ) × Entry → Option (ℕ × Entry)
of_record atr e = if e.0.0 == atr then Some (e.0.1, e.1) else None

-- the entries of one transaction record
abbrev pub entries_of : ℕ → List ((ℕ × ℕ) × Entry) → List (ℕ × Entry)
entries_of atr entries = filter_map (of_record atr) entries

-- the rows without those of the ids in gone, me excepted
abbrev pub without_gone : ℕ → List ℕ → List (ℕ × ClientRow) → List (ℕ × ClientRow)
without_gone me [] rows = rows
without_gone me (id ∷ gone) rows = without_gone me gone (if id == me then rows else without_key id_cmp rows id)

abbrev pub beat_row : ℕ → ℕ → ℕ → ℕ → List ℕ → List (ℕ × ClientRow) → Row
beat_row c me expires num_atrs gone rows =
    takes c (SetsClients (without_gone me gone (with_pair id_cmp rows me (record { heartbeat = c; expires = expires; num_atrs = num_atrs }))))

-- the row of the table that a step meets at a state; c is the stamp of a change made now
unfoldable pub row : State → ℕ → Step → Row
row s c (step.ReadDoc doc) = read_doc_row (doc_at s doc)
row s c (step.Stage doc expect stage) = stage_row c doc expect stage (doc_at s doc)
row s c (step.Publish doc x body) = publish_row c doc x body (doc_at s doc)
row s c (step.Delete doc x) = delete_row c doc x (doc_at s doc)
row s c (step.Unstick doc x) = unstick_row c doc x (doc_at s doc)
row s c (step.ReadEntry atr attempt) = read_entry_row (entry_at s (atr, attempt))
row s c (step.AddEntry atr attempt exp) = add_entry_row c (atr, attempt) exp (entry_at s (atr, attempt))
row s c (step.Commit atr attempt lists) = decide_row c (atr, attempt) Committed lists (entry_at s (atr, attempt))
row s c (step.Abort atr attempt lists) = decide_row c (atr, attempt) Aborted lists (entry_at s (atr, attempt))
row s c (step.DropEntry atr attempt guarded) = drop_entry_row c (atr, attempt) guarded (entry_at s (atr, attempt))
row s c (step.ReadAtr atr) = refused (reply.Entries (entries_of atr s.entries))
row s c step.ReadClients = refused (reply.Clients s.clients)
row s c (step.Beat me expires num_atrs gone) = beat_row c me expires num_atrs gone s.clients

-- the state with a change made at a reading: the clock follows the read rule where nothing changes, and else the mutate rule
abbrev pub changed : State → ℕ → Change → State
changed s r Nothing = record s { last = clock_read s.last r }
changed s r (SetsDoc doc d) = record s { last = clock_mutated s.last r; docs = with_pair doc_cmp s.docs doc d }
changed s r (SetsEntry key e) = record s { last = clock_mutated s.last r; entries = with_pair entry_cmp s.entries key e }
changed s r (DropsEntry key) = record s { last = clock_mutated s.last r; entries = without_key entry_cmp s.entries key }
changed s r (SetsClients rows) = record s { last = clock_mutated s.last r; clients = rows }

-- the state after a row at a reading, and its reply
abbrev pub made : State → ℕ → Row → State × Reply
made s r it = (changed s r it.change, it.reply)

-- a step on a state at a reading: the new state and the reply
abbrev pub apply_to : State → ℕ → Step → State × Reply
apply_to s r step = made s r (row s (clock_mutated s.last r) step)

-- the entry that a step changes where it takes effect
abbrev pub touches : Step → Option (ℕ × ℕ)
touches (step.AddEntry r a exp) = Some (r, a)
touches (step.Commit r a lists) = Some (r, a)
touches (step.Abort r a lists) = Some (r, a)
touches (step.DropEntry r a guarded) = Some (r, a)
touches _ = None

-- the document that a step changes where it takes effect
abbrev pub touches_doc : Step → Option (List ℕ)
touches_doc (step.Stage d e stage) = Some d
touches_doc (step.Publish d x body) = Some d
touches_doc (step.Delete d x) = Some d
touches_doc (step.Unstick d x) = Some d
touches_doc _ = None
