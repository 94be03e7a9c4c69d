use Rattle.std.proofs.Common.{◌≡◌, drop, length, false, ltb}
use Rattle.serde_json.specs.Written.{items_text, members_text}
use Rattle.cbt_json.specs.Trees.{items_data, members_data}
use Rattle.cbt_json.specs.Fit.{left_of}
use Rattle.cbt_json.proofs.fit.+fit.Given as goal

abbrev pub invariant-room_after_items-loop-at : goal.invariant-room_after_items-loop-at
invariant-room_after_items-loop-at l =
    left_of l.left (length (items_text (ltb 0 l.at) (items_data (drop l.at l.items)))) ≡ left_of l.fn.room (length (items_text false (items_data l.items)))

abbrev pub invariant-room_after_members-loop-at : goal.invariant-room_after_members-loop-at
invariant-room_after_members-loop-at l =
    left_of l.left (length (members_text (ltb 0 l.at) (members_data (drop l.at l.members)))) ≡ left_of l.fn.room (length (members_text false (members_data l.members)))
