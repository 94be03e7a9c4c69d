use Rattle.std.proofs.Common.{[], arith}
use Rattle.cbt_node_rows.specs.Fresh.{IsFresh}
use Rattle.cbt_node_rows.specs.contracts.workers.WorkerActor.TheImpl.{ghosts}
use Rattle.cbt_node_rows.specs.declared.workers.Worker.{Worker}
use Rattle.cbt_node_rows.specs.declared.workers.Worker.TheVariants.{Reads, Watches}
use Rattle.cbt_node_rows.proofs.drives.run.Goals as goal

-- a worker that has made no call stands for the empty list
stands : (worker : Worker) → IsFresh worker → ghosts.stands_for worker []
stands (Reads reader) fresh = fresh
stands (Watches watcher) fresh = omega arith

pub drive_in_order-refused-requires-clause-fresh : goal.drive_in_order-refused-requires-clause-fresh
drive_in_order-refused-requires-clause-fresh c = λ k worker at. stands worker (c.requires.fresh k worker at)
