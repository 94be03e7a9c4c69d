use Rattle.std.proofs.Common.{◌≡◌, take}
use Rattle.cbt_expr.proofs.copying.+copy.Given as goal

abbrev pub invariant-copy_expr-loop-sign : goal.invariant-copy_expr-loop-sign
invariant-copy_expr-loop-sign l = l.rest ≡ take l.sign-index l.sign-items

abbrev pub invariant-copy_items-loop-item : goal.invariant-copy_items-loop-item
invariant-copy_items-loop-item l = l.second ≡ take l.item-index l.items

abbrev pub invariant-copy_members-loop-name : goal.invariant-copy_members-loop-name
invariant-copy_members-loop-name l = l.second ≡ take l.name-index l.members
