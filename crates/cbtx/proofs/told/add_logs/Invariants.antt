use Rattle.std.proofs.Common.{◌≡◌, ◌++◌}
use Rattle.std.specs.Vec.Iter.{into_iter_items}
use Rattle.cbtx.specs.Told.{cleaner_logs, client_logs}
use Rattle.cbtx.proofs.told.add_logs.Given as goal

-- what is told and the logs that are left make the whole
abbrev pub invariant-loop-worker : goal.invariant-loop-worker
invariant-loop-worker l = record {
  clients : l.clients ++ client_logs (into_iter_items l.worker-iterator) ≡ l.fn.clients ++ client_logs l.fn.workers;
  cleaners : l.cleaners ++ cleaner_logs (into_iter_items l.worker-iterator) ≡ l.fn.cleaners ++ cleaner_logs l.fn.workers;
}
