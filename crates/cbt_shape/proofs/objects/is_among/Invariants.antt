use Rattle.std.proofs.Common.{◌≡◌, drop, map}
use Rattle.cbt_shape.specs.Objects.{is_among}
use Rattle.cbt_shape.proofs.objects.is_among.Given as goal

-- none of the names so far is it
abbrev pub invariant-loop-other : goal.invariant-loop-other
invariant-loop-other l = is_among (map (λ n. n.now) (drop l.other-index l.names)) l.name ≡ is_among (map (λ n. n.now) l.names) l.name
