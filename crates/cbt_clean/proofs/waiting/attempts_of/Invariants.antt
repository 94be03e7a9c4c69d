use Rattle.std.proofs.Common.{◌≡◌, map, take}
use Rattle.cbt_clean.proofs.waiting.attempts_of.Given as goal

abbrev pub invariant-loop-entry : goal.invariant-loop-entry
invariant-loop-entry l = l.ids ≡ map (λ e. e.0) (take l.entry-index l.entries)
