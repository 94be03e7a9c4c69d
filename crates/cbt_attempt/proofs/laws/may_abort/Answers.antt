use Rattle.cbt_attempt.proofs.Notes.{abort_licensed}
use Rattle.cbt_attempt.proofs.laws.may_abort.Goals as goal

pub returns : goal.returns
returns c a r own l lists notes sent unaborted named unsettled = abort_licensed a r own l lists named unaborted unsettled notes sent
