use Rattle.cbt_stage.proofs.Rewriting.{stands_first}
use Rattle.cbt_stage.proofs.agains.Again.begin.Goals as goal

pub returns-clause-stands : goal.returns-clause-stands
returns-clause-stands c = stands_first c.args.attempt.now c.args.doc c.args.kind c.args.content c.in_ok-task.task c.in_ok-task.ensures
