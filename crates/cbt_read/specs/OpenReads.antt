-- What leaves a read open.
use Rattle.std.specs.Prelude.{◌≡◌, ℕ, List, Option, Some}
use Rattle.cbt_json.specs.declared.value.Json.{Json}
use Rattle.cbt_model.specs.declared.documents.Stage.{Stage}
use Rattle.cbt_model.specs.declared.entries.Entry.{Entry}
use Rattle.cbt_model.specs.declared.entries.EntryState.TheVariants.{Committed}
use Rattle.cbt_model.specs.declared.events.Made.{Made}
use Rattle.cbt_book.specs.Shown.{ReadsDoc, ReadsEntry, FindsNoEntry}

-- a read is not over with this call: it showed the document staged, or that an entry is committed or not there
pub data LeavesOpen (d : List ℕ) (m : Made) : Type 0 where
  staged : (x : ℕ) (body : Option Json) (stage : Stage) → ReadsDoc d x body (Some stage) m → LeavesOpen d m
  committed : (r a : ℕ) (e : Entry) → ReadsEntry r a e m → e.state ≡ Committed → LeavesOpen d m
  missing : (r a : ℕ) → FindsNoEntry r a m → LeavesOpen d m
