use Rattle.std.proofs.Common.{◌≡◌, ◌++◌}
use Rattle.cbt_base.proofs.map.MapDuplicate.copy.Given as goal

-- what is copied and what is left make the whole
abbrev pub invariant-loop-key : goal.invariant-loop-key
invariant-loop-key g l = l.second ++ l.key-iterator ≡ l.self
