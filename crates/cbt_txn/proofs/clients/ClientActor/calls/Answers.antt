use Rattle.cbt_txn.proofs.clients.ClientActor.calls.Goals as goal

pub returns : goal.returns
returns c l stands = stands.counted
