use Rattle.cbt_subdoc.proofs.Sorted.{keyed}
use Rattle.cbt_subdoc.proofs.laws.names_are_keys.Goals as goal

pub returns : goal.returns
returns c = keyed
