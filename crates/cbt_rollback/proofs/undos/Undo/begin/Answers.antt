use Rattle.cbt_rollback.specs.Standing.{begun}
use Rattle.cbt_rollback.proofs.undos.Undo.begin.Goals as goal

pub returns-clause-stands : goal.returns-clause-stands
returns-clause-stands c = begun
