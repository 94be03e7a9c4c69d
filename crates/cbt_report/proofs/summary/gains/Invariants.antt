use Rattle.std.proofs.Common.{◌≡◌, ◌+◌, ◌<◌, ◌^◌, sum_by}
use Rattle.cbt_base.specs.Clock.{held}
use Rattle.cbt_model.specs.View.{view}
use Rattle.cbt_report.specs.Summary.{amount_of, gain, gains}
use Rattle.cbt_report.proofs.summary.gains.Given as goal

-- the sum so far, and what the documents that are left add
abbrev pub invariant-loop-id : goal.invariant-loop-id
invariant-loop-id l = (held (l.sum + sum_by (λ d. gain (amount_of (view l.state d.0))) l.id-iterator) ≡ gains l.state l.state.docs) × (l.sum < 2 ^ 64)
