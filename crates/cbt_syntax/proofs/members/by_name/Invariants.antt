use Rattle.std.proofs.Common.{◌≡◌}
use Rattle.std.specs.Prelude.{fold}
use Rattle.std.specs.Vec.Iter.{into_iter_items}
use Rattle.cbt_syntax.specs.Named.{with_member, by_name}
use Rattle.cbt_syntax.proofs.members.by_name.Given as goal

abbrev pub invariant-loop-name : goal.invariant-loop-name
invariant-loop-name l = fold with_member l.map.entries (into_iter_items l.name-iterator) ≡ by_name l.fn.members
