use Rattle.std.proofs.Common.{◌≡◌, ◌+◌, sum_by, take}
use Rattle.cbt_base.specs.Clock.{held}
use Rattle.cbt_report.specs.Cleaners.{failed_passes, unshared_rounds}
use Rattle.cbt_report.proofs.cleaners.failed.Given as goal

-- the sum over the rounds so far
abbrev pub invariant-loop-round : goal.invariant-loop-round
invariant-loop-round l = l.sum ≡ held (unshared_rounds l.log + sum_by failed_passes (take l.round-index l.log.rounds))
