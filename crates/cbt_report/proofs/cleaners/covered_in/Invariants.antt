use Rattle.std.proofs.Common.{◌≡◌, ◌+◌, sum_by, take}
use Rattle.cbt_base.specs.Clock.{held}
use Rattle.cbt_report.specs.Cleaners.{covered_by}
use Rattle.cbt_report.proofs.cleaners.covered_in.Given as goal

-- the sum over the passs so far
abbrev pub invariant-loop-pass : goal.invariant-loop-pass
invariant-loop-pass l = l.sum ≡ held (0 + sum_by (λ pass. covered_by pass.end) (take l.pass-index l.passes))
