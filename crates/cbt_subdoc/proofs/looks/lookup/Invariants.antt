use Rattle.std.proofs.Common.{◌≡◌, map, take}
use Rattle.cbt_subdoc.specs.Reach.{look_answer}
use Rattle.cbt_subdoc.proofs.looks.lookup.Given as goal

abbrev pub invariant-loop-look : goal.invariant-loop-look
invariant-loop-look l = l.answers ≡ map (look_answer l.tree) (take l.look-index l.looks)
