use Rattle.std.proofs.Common.{◌≡◌, length}
use Rattle.cbt_txn.specs.Clients.{AreUnbegun}
use Rattle.cbt_txn.proofs.clients.unbegun.Given as goal

abbrev pub invariant-loop-at : goal.invariant-loop-at
invariant-loop-at l = record { long : length l.logs ≡ l._at; unbegun : AreUnbegun l.logs }
