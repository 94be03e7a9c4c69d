use Rattle.std.proofs.Common.{◌≡◌, take}
use Rattle.cbt_base.proofs.list.ListDuplicate.copy.Given as goal

-- so far the first items are copied
abbrev pub invariant-loop-item : goal.invariant-loop-item
invariant-loop-item g l = l.items.items ≡ take l.item-index l.item-items
