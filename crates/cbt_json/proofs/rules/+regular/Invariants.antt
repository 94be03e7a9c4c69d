use Rattle.std.proofs.Common.{◌≡◌, drop}
use Rattle.cbt_json.specs.Trees.{items_data, members_data}
use Rattle.cbt_json.specs.Rules.{items_are_regular, members_are_regular}
use Rattle.cbt_json.proofs.rules.+regular.Given as goal

abbrev pub invariant-are_regular_items-loop-item : goal.invariant-are_regular_items-loop-item
invariant-are_regular_items-loop-item l = items_are_regular (items_data (drop l.item-index l.items)) ≡ items_are_regular (items_data l.items)

abbrev pub invariant-are_regular_members-loop-value : goal.invariant-are_regular_members-loop-value
invariant-are_regular_members-loop-value l = members_are_regular (members_data (drop l.value-index l.members)) ≡ members_are_regular (members_data l.members)
