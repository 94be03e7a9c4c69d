-- A script as far as its lines were read, and what a further line makes of it.
use Rattle.std.specs.Prelude.{ℕ, Bool, true, false, not, is_some, nat_lt, if◌then◌else◌, List, [], length, Result, Ok, Err}
use Rattle.std.specs.Bool.{beq}
use Rattle.std.specs.Option.{unwrap_or}
use Rattle.cbt_base.specs.Keyed.{at_key}
use Rattle.cbt_model.specs.Keys.{doc_cmp}
use Rattle.cbt_model.specs.declared.events.Fate.{Fate}
use Rattle.cbt_model.specs.declared.events.Fate.TheVariants.{Lost, Late}
use Rattle.cbt_script.specs.declared.cause.Cause.{Cause}
use Rattle.cbt_script.specs.declared.cause.Cause.TheVariants.{Word, Twice, Limit}
use Rattle.cbt_script.specs.declared.draft.Draft.{Draft}
use Rattle.cbt_script.specs.declared.draft.Group.{Group}
use Rattle.cbt_script.specs.declared.draft.Group.TheVariants as group
use Rattle.cbt_script.specs.declared.keywords.Keyword.{Keyword}
use Rattle.cbt_script.specs.declared.keywords.Keyword.TheVariants as k
use Rattle.cbt_script.specs.declared.keywords.Operation.{Operation}
use Rattle.cbt_script.specs.declared.keywords.Setting.{Setting}
use Rattle.cbt_script.specs.declared.script.Script.{Script}
use Rattle.cbt_script.specs.Causes.{◌>>=◌, require}
use Rattle.cbt_script.specs.Clients.{no_clients, with_client, is_inside, begin_txn, add_operation, end_txn, last_done}
use Rattle.cbt_script.specs.Course.{no_course, with_actor, add_cleaner, add_stop, add_fault, add_order, set_sweep}
use Rattle.cbt_script.specs.Documents.{no_documents, add_doc, add_attrs}
use Rattle.cbt_script.specs.Fields.{actor_field, end_field}
use Rattle.cbt_script.specs.Settings.{no_settings, set_setting}

-- before the first line
abbrev pub start : Draft
start = record { group = group.Settings; settings = no_settings; documents = no_documents; actors = []; clients = no_clients; course = no_course }

-- the place of a group in their order
abbrev pub group_number : Group → ℕ
group_number group.Settings = 0
group_number group.Documents = 1
group_number group.Clients = 2
group_number group.Cleaners = 3
group_number group.Faults = 4
group_number group.Order = 5
group_number group.Sweep = 6

-- a line of this group may stand here, where no line of a later group has stood
abbrev pub enter : Group → Draft → Result Draft Cause
enter next d = if nat_lt (group_number next) (group_number d.group) then Err Word else Ok (record d { group = next })

-- ---- settings that were not given

abbrev pub atrs_of : Draft → ℕ
atrs_of d = unwrap_or d.settings.atrs 16

abbrev pub expiry_of : Draft → ℕ
expiry_of d = unwrap_or d.settings.expiry 15000

abbrev pub tries_of : Draft → ℕ
tries_of d = unwrap_or d.settings.tries 8

abbrev pub lapse_of : Draft → ℕ
lapse_of d = unwrap_or d.settings.lapse 60000

-- ---- lines

unfoldable pub setting_line : Setting → Draft → List ℕ → Result Draft Cause
setting_line which d rest = do
  e ← enter group.Settings d
  s ← set_setting which e.settings rest
  Ok (record e { settings = s })

unfoldable pub doc_line : Draft → List ℕ → Result Draft Cause
doc_line d rest = do
  e ← enter group.Documents d
  docs ← add_doc e.documents rest
  Ok (record e { documents = docs })

unfoldable pub attrs_line : Draft → List ℕ → Result Draft Cause
attrs_line d rest = do
  e ← enter group.Documents d
  docs ← add_attrs e.documents rest
  Ok (record e { documents = docs })

-- `client NAME`
unfoldable pub client_line : Draft → List ℕ → Result Draft Cause
client_line d rest = do
  e ← enter group.Clients d
  name ← actor_field rest
  _ ← require (not (is_some (at_key doc_cmp e.actors name.0))) Twice
  _ ← end_field name.1
  _ ← require (nat_lt (length e.actors) 64) Limit
  Ok (record e { actors = with_actor name.0 e.actors; clients = with_client name.0 e.clients })

unfoldable pub begin_line : Draft → List ℕ → Result Draft Cause
begin_line d rest = do
  e ← enter group.Clients d
  clients ← begin_txn (expiry_of e) (tries_of e) e.clients rest
  Ok (record e { clients = clients })

unfoldable pub operation_line : Operation → Draft → List ℕ → Result Draft Cause
operation_line which d rest = do
  clients ← add_operation which d.clients rest
  Ok (record d { clients = clients })

unfoldable pub end_line : Bool → Draft → List ℕ → Result Draft Cause
end_line keep d rest = do
  clients ← end_txn keep d.clients rest
  Ok (record d { clients = clients })

unfoldable pub cleaner_line : Draft → List ℕ → Result Draft Cause
cleaner_line d rest = do
  e ← enter group.Cleaners d
  both ← add_cleaner (atrs_of e) e.actors e.course rest
  Ok (record e { actors = both.0; course = both.1 })

unfoldable pub stop_line : Draft → List ℕ → Result Draft Cause
stop_line d rest = do
  e ← enter group.Faults d
  course ← add_stop e.actors e.course rest
  Ok (record e { course = course })

unfoldable pub fault_line : Fate → Draft → List ℕ → Result Draft Cause
fault_line fate d rest = do
  e ← enter group.Faults d
  course ← add_fault fate e.actors e.course rest
  Ok (record e { course = course })

unfoldable pub order_line : Draft → List ℕ → Result Draft Cause
order_line d rest = do
  e ← enter group.Order d
  course ← add_order e.actors e.course rest
  Ok (record e { course = course })

unfoldable pub sweep_line : Draft → List ℕ → Result Draft Cause
sweep_line d rest = do
  e ← enter group.Sweep d
  course ← set_sweep e.course rest
  Ok (record e { course = course })

-- whether a line stands inside a transaction
abbrev pub stands_inside : Keyword → Bool
stands_inside (k.Operation which) = true
stands_inside k.Commit = true
stands_inside k.Rollback = true
stands_inside _ = false

-- a line that may stand here, by its first word
abbrev pub take_line : Keyword → Draft → List ℕ → Result Draft Cause
take_line (k.Setting which) d rest = setting_line which d rest
take_line k.Doc d rest = doc_line d rest
take_line k.Attrs d rest = attrs_line d rest
take_line k.Client d rest = client_line d rest
take_line k.Begin d rest = begin_line d rest
take_line (k.Operation which) d rest = operation_line which d rest
take_line k.Commit d rest = end_line true d rest
take_line k.Rollback d rest = end_line false d rest
take_line k.Cleaner d rest = cleaner_line d rest
take_line k.Stop d rest = stop_line d rest
take_line k.Lost d rest = fault_line Lost d rest
take_line k.Late d rest = fault_line Late d rest
take_line k.Order d rest = order_line d rest
take_line k.Sweep d rest = sweep_line d rest

-- operations and the ends of transactions stand inside a transaction, and other lines outside
abbrev pub take_keyword : Keyword → Draft → List ℕ → Result Draft Cause
take_keyword keyword d rest = if beq (stands_inside keyword) (is_inside d.clients) then take_line keyword d rest else Err Word

-- ---- the end

-- the script that the lines have said
abbrev pub script_from : Draft → Script
script_from d = record {
  atrs = atrs_of d;
  expiry = expiry_of d;
  tries = tries_of d;
  lapse = lapse_of d;
  line = d.settings.line;
  docs = d.documents.docs;
  clients = last_done d.clients.last d.clients.txns d.clients.done;
  cleaners = d.course.cleaners;
  stops = d.course.stops;
  faults = d.course.faults;
  order = d.course.order;
  sweep = d.course.sweep;
}
