use Rattle.std.proofs.Common.{subst}
use Rattle.cbt_txn.specs.Closings.{NamesOnly}
use Rattle.cbt_txn.proofs.TryLicensing.{try_names}
use Rattle.cbt_txn.proofs.laws.steps_name_attempt.Goals as goal

pub returns : goal.returns
returns c who id atrs it l s may of asked = subst (λ a. NamesOnly a s) of.0 (try_names who it l it.closing s may asked)
