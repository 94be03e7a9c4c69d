use Rattle.cbt_txn.proofs.Answering.{stops_now}
use Rattle.cbt_txn.proofs.clients.ClientActor.stop.Goals as goal

pub returns-clause-stands : goal.returns-clause-stands
returns-clause-stands c l stands = record {
  counted = stands.counted;
  few = λ is. cc;
  licensed = stands.licensed;
  goes_on = λ who is going. cc;
  follows = λ falls. stops_now c.args.self.now.stopped c.args.self.now l falls (stands.follows falls);
}
