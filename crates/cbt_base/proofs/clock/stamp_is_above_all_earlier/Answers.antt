use Rattle.std.proofs.Common.{arith}
use Rattle.cbt_base.proofs.Stamps.{clock_after-above}
use Rattle.cbt_base.proofs.clock.stamp_is_above_all_earlier.Goals as goal

pub returns : goal.returns
returns c = λ last calls r. omega (arith, clock_after-above last calls)
