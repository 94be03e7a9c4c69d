use Rattle.std.proofs.Common.{◌≡◌, length}
use Rattle.cbt_lost.proofs.cleaners.unbegun.Given as goal

abbrev pub invariant-loop : goal.invariant-loop
invariant-loop l = length l.logs ≡ l.counter
