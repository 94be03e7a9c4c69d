use Rattle.std.proofs.Common.{◌≡◌, ◌++◌, true, map, take, drop}
use Rattle.serde_json.specs.View.{view, items_view, members_view}
use Rattle.serde_json.specs.Written.{items_have_float, members_have_float}
use Rattle.cbt_json.specs.Trees.{data_of}
use Rattle.cbt_json.proofs.Values.{read_pairs, tree_pairs}
use Rattle.cbt_json.proofs.reading.+reading.Given as goal

abbrev pub invariant-items_of_values-loop-value : goal.invariant-items_of_values-loop-value
invariant-items_of_values-loop-value l =
    (map data_of l.items.items ≡ map view (take l.value-index l.value-items))
    × (items_have_float (items_view (drop l.value-index l.value-items)) ≡ true → items_have_float (items_view l.value-items) ≡ true)

abbrev pub invariant-members_of_map-loop-name : goal.invariant-members_of_map-loop-name
invariant-members_of_map-loop-name l =
    (tree_pairs l.members.items ++ read_pairs l.name-iterator ≡ read_pairs l.map.entries)
    × (members_have_float (members_view l.name-iterator) ≡ true → members_have_float (members_view l.map.entries) ≡ true)
