-- What leaves a put open.
use Rattle.std.specs.Prelude.{ℕ}
use Rattle.cbt_model.specs.declared.entries.Entry.{Entry}
use Rattle.cbt_model.specs.declared.events.Made.{Made}
use Rattle.cbt_book.specs.Shown.{ReadsEntry, FindsNoEntry, AddsEntry}
use Rattle.cbt_stage.specs.declared.tasks.Task.{Task}

-- a put is not over with this call: it showed an entry, or that there is none, or that the attempt's own entry is there
pub data LeavesOpen (o : Task) (m : Made) : Type 0 where
  shown : (r by : ℕ) (e : Entry) → ReadsEntry r by e m → LeavesOpen o m
  missing : (r by : ℕ) → FindsNoEntry r by m → LeavesOpen o m
  entered : AddsEntry o.atr o.attempt m → LeavesOpen o m
