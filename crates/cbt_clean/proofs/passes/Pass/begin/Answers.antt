use Rattle.cbt_clean.specs.Standing.{begun}
use Rattle.cbt_clean.proofs.passes.Pass.begin.Goals as goal

pub returns-clause-stands : goal.returns-clause-stands
returns-clause-stands c = begun
