use Rattle.std.proofs.Common.{◌≡◌, drop, map}
use Rattle.cbt_shape.specs.Objects.{has_only}
use Rattle.cbt_shape.proofs.objects.has_only.Given as goal

-- each name so far is one of them
abbrev pub invariant-loop-name : goal.invariant-loop-name
invariant-loop-name l = has_only (map (λ n. n.now) l.names) (drop l.name-index l.members) ≡ has_only (map (λ n. n.now) l.names) l.members
