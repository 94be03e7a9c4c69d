use Rattle.std.proofs.Common.{◌≡◌, drop}
use Rattle.cbt_json.specs.Trees.{items_data, members_data}
use Rattle.cbt_json.specs.Same.{items_eq, members_eq}
use Rattle.cbt_json.proofs.same.+same.Given as goal

abbrev pub invariant-same_items-loop-at : goal.invariant-same_items-loop-at
invariant-same_items-loop-at l = items_eq (items_data (drop l.at l.items)) (items_data (drop l.at l.others)) ≡ items_eq (items_data l.items) (items_data l.others)

abbrev pub invariant-same_members-loop-at : goal.invariant-same_members-loop-at
invariant-same_members-loop-at l =
    members_eq (members_data (drop l.at l.members)) (members_data (drop l.at l.others)) ≡ members_eq (members_data l.members) (members_data l.others)
