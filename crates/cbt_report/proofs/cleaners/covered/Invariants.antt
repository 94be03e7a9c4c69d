use Rattle.std.proofs.Common.{◌≡◌, ◌+◌, sum_by, take}
use Rattle.cbt_base.specs.Clock.{held}
use Rattle.cbt_report.specs.Cleaners.{round_covered}
use Rattle.cbt_report.proofs.cleaners.covered.Given as goal

-- the sum over the rounds so far
abbrev pub invariant-loop-round : goal.invariant-loop-round
invariant-loop-round l = l.sum ≡ held (0 + sum_by round_covered (take l.round-index l.rounds))
