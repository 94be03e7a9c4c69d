use Rattle.cbt_subdoc.proofs.FirstBad.{BadAt-first}
use Rattle.cbt_subdoc.proofs.laws.bad_byte_is_first.Goals as goal

pub returns : goal.returns
returns c = BadAt-first
