use Rattle.cbt_txn.proofs.ClientCalls.{client_has_call, client_was_stopped}
use Rattle.cbt_txn.proofs.laws.clients_have_calls.Goals as goal

pub returns-clause-stopped : goal.returns-clause-stopped
returns-clause-stopped c it l s stands falls asked = client_was_stopped it l s stands falls asked

pub returns-clause-has_call : goal.returns-clause-has_call
returns-clause-has_call c it l s stands falls stays asked = client_has_call it l s stands falls asked stays
