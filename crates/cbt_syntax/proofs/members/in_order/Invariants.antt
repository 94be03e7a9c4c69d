use Rattle.std.proofs.Common.{◌≡◌, ◌++◌}
use Rattle.cbt_syntax.proofs.members.in_order.Given as goal

abbrev pub invariant-loop-member : goal.invariant-loop-member
invariant-loop-member l = l.list ++ l.member-iterator ≡ l.initial.member-iterator
