use Rattle.std.proofs.Common.{refl}
use Rattle.cbt_logs.proofs.Closed.{tried_more}
use Rattle.cbt_logs.proofs.laws.tries_add_up.Goals as goal

pub returns-clause-first : goal.returns-clause-first
returns-clause-first c x start before few = record { follow = tt; reach = refl; may = tt; few = few }

pub returns-clause-more : goal.returns-clause-more
returns-clause-more c = tried_more
