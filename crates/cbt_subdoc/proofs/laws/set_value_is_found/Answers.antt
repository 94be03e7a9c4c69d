use Rattle.cbt_subdoc.proofs.Found.{set-found}
use Rattle.cbt_subdoc.proofs.laws.set_value_is_found.Goals as goal

pub returns : goal.returns
returns c = set-found
