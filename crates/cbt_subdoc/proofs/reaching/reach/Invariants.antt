use Rattle.std.proofs.Common.{◌≡◌, drop}
use Rattle.cbt_subdoc.specs.Reach.{reached}
use Rattle.cbt_subdoc.proofs.reaching.reach.Given as goal

abbrev pub invariant-loop-part : goal.invariant-loop-part
invariant-loop-part l = reached (drop l.part-index l.path) l.at ≡ reached l.path l.tree
