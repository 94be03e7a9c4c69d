use Rattle.std.proofs.Common.{◌≡◌, drop, leb}
use Rattle.serde_json.specs.Data.{items_depth, members_depth}
use Rattle.cbt_json.specs.Trees.{items_data, members_data}
use Rattle.cbt_json.proofs.rules.+levels.Given as goal

abbrev pub invariant-items_within-loop-item : goal.invariant-items_within-loop-item
invariant-items_within-loop-item l =
    leb (items_depth (items_data (drop l.item-index l.items))) l.room ≡ leb (items_depth (items_data l.items)) l.room

abbrev pub invariant-members_within-loop-value : goal.invariant-members_within-loop-value
invariant-members_within-loop-value l =
    leb (members_depth (members_data (drop l.value-index l.members))) l.room ≡ leb (members_depth (members_data l.members)) l.room
