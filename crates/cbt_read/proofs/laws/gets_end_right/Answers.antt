use Rattle.cbt_read.specs.declared.ends.GetEnd.TheVariants.{Value}
use Rattle.cbt_read.proofs.Knowing.{ends_by}
use Rattle.cbt_read.proofs.laws.gets_end_right.Goals as goal

pub returns-clause-value : goal.returns-clause-value
returns-clause-value c get mine seen stands ended = ends_by get.doc get.phase mine (Value seen) stands.knows ended
