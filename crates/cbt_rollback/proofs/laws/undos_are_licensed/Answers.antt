use Rattle.cbt_rollback.specs.Phases.{task_of}
use Rattle.cbt_rollback.proofs.Licensed.{licensed}
use Rattle.cbt_rollback.proofs.laws.undos_are_licensed.Goals as goal

pub returns : goal.returns
returns c who undo mine before s stands ready asked = licensed who (task_of undo) before ready undo.phase mine s stands asked
