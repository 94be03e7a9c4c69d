use Rattle.cbt_lost.proofs.Coming.{stands_stopped}
use Rattle.cbt_lost.proofs.cleaners.CleanerActor.stop.Goals as goal

pub returns-clause-stands : goal.returns-clause-stands
returns-clause-stands c l stands = stands_stopped c.args.self.now l stands
