use Rattle.std.proofs.Common.{refl}
use Rattle.cbt_logs.proofs.Closed.{ran_more}
use Rattle.cbt_logs.proofs.laws.transactions_add_up.Goals as goal

pub returns-clause-first : goal.returns-clause-first
returns-clause-first c client atrs plan = record { follow = tt; run = tt; reach = refl }

pub returns-clause-more : goal.returns-clause-more
returns-clause-more c = ran_more
