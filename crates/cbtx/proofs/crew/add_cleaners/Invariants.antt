use Rattle.cbtx.specs.Adding.{AddsCleaners}
use Rattle.cbtx.proofs.crew.add_cleaners.Given as goal

-- so many cleaners were added
abbrev pub invariant-loop-k : goal.invariant-loop-k
invariant-loop-k l = AddsCleaners l.script l.k l.fn.workers l.workers
