use Rattle.std.proofs.Common.{◌≡◌, drop}
use Rattle.cbt_syntax.specs.Named.{rise_after, names_rise}
use Rattle.cbt_syntax.proofs.members.names_rise.Given as goal

abbrev pub invariant-loop-name : goal.invariant-loop-name
invariant-loop-name l = rise_after l.last (drop l.name-index l.rest) ≡ names_rise l.fn.members
