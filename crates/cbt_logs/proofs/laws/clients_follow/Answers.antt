use Rattle.cbt_logs.proofs.Closed.{client_done, client_stopped}
use Rattle.cbt_logs.proofs.laws.clients_follow.Goals as goal

pub returns-clause-done : goal.returns-clause-done
returns-clause-done c = client_done

pub returns-clause-stopped : goal.returns-clause-stopped
returns-clause-stopped c = client_stopped
