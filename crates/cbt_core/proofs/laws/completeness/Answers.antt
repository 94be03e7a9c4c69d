use Rattle.cbt_core.proofs.runs.Complete.{clients_complete, cleaners_complete}
use Rattle.cbt_core.proofs.laws.completeness.Goals as goal

pub returns-clause-clients : goal.returns-clause-clients
returns-clause-clients c case book follow kept = clients_complete case book follow kept

pub returns-clause-cleaners : goal.returns-clause-cleaners
returns-clause-cleaners c case book follow kept = cleaners_complete case book follow kept
