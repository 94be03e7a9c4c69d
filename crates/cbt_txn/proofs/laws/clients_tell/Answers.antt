use Rattle.cbt_txn.proofs.Standing.{asks_unstopped, log_follows, log_stopped}
use Rattle.cbt_txn.proofs.laws.clients_tell.Goals as goal

pub returns-clause-follows : goal.returns-clause-follows
returns-clause-follows c it l stands falls = log_follows it l stands falls

pub returns-clause-calls : goal.returns-clause-calls
returns-clause-calls c it l stands = stands.counted

pub returns-clause-stopped : goal.returns-clause-stopped
returns-clause-stopped c it l stands falls = log_stopped it l stands falls

pub returns-clause-asks : goal.returns-clause-asks
returns-clause-asks c it l stands falls = asks_unstopped it l stands falls
