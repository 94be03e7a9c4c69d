use Rattle.std.proofs.Common.{◌≡◌, length}
use Rattle.cbtx.specs.Adding.{AreClients}
use Rattle.cbtx.proofs.crew.clients_of.Given as goal

-- the actors so far are the first clients
abbrev pub invariant-loop-k : goal.invariant-loop-k
invariant-loop-k l = record {
  clients : AreClients l.atrs l.clients l.workers;
  counted : length l.workers ≡ l.k;
}
