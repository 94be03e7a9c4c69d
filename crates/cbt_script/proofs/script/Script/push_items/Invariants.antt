use Rattle.std.proofs.Common.{◌≡◌, ◌++◌, drop}
use Rattle.cbt_script.specs.Printed.{items_text}
use Rattle.cbt_script.proofs.script.Script.push_items.Given as goal

-- what is written and the lines that are left make the whole
abbrev pub invariant-loop-item : goal.invariant-loop-item
invariant-loop-item l = l.out ++ items_text l.self (drop l.item-index l.items) ≡ l.fn.out ++ items_text l.self l.items
