use Rattle.std.proofs.Common.{◌≡◌, drop}
use Rattle.cbt_subdoc.specs.Members.{member}
use Rattle.cbt_shape.proofs.objects.member_at.Given as goal

-- each name so far is below it
abbrev pub invariant-loop-other : goal.invariant-loop-other
invariant-loop-other l = member l.name (drop l.other-index l.members) ≡ member l.name l.members
