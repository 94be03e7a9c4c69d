-- Actors before their first call.
use Rattle.std.specs.Prelude.{◌≡◌, ℕ, List, Some, slice_get}
use Rattle.cbt_node_rows.specs.declared.workers.Worker.{Worker}
use Rattle.cbt_node_rows.specs.declared.workers.Worker.TheVariants.{Reads, Watches}

-- a worker has made no call
abbrev pub IsFresh : Worker → Type 0
IsFresh (Reads reader) = reader.made ≡ 0
IsFresh (Watches watcher) = watcher.looks ≡ watcher.left

-- none has made a call
abbrev pub AreFresh : List Worker → Type 0
AreFresh workers = (k : ℕ) (worker : Worker) → slice_get workers k ≡ Some worker → IsFresh worker
