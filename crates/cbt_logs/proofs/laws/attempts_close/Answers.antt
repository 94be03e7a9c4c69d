use Rattle.cbt_logs.proofs.Closed.{attempt_closed}
use Rattle.cbt_logs.proofs.laws.attempts_close.Goals as goal

pub returns : goal.returns
returns c = attempt_closed
