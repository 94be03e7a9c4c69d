use Rattle.cbt_lost.proofs.Licensing.{asked_licensed}
use Rattle.cbt_lost.proofs.laws.cleaners_are_licensed.Goals as goal

pub returns-clause-made : goal.returns-clause-made
returns-clause-made c who it l own stands = stands.licensed who own

pub returns-clause-asked : goal.returns-clause-asked
returns-clause-asked c who it l s own stands asked = asked_licensed who it l s own stands asked
