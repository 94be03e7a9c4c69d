use Rattle.cbt_attempt.proofs.Notes.{commit_licensed}
use Rattle.cbt_attempt.proofs.laws.may_commit.Goals as goal

pub returns : goal.returns
returns c a r own l lists notes added unaborted named unsettled = commit_licensed a r own l lists named unaborted unsettled notes added
