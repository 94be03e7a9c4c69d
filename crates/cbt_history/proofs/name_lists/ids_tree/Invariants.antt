use Rattle.std.proofs.Common.{◌≡◌, map, take}
use Rattle.cbt_base.specs.Ids.{id_text}
use Rattle.cbt_json.specs.declared.tree.Tree.TheVariants as tree
use Rattle.cbt_history.proofs.name_lists.ids_tree.Given as goal

-- the names so far
abbrev pub invariant-loop-id : goal.invariant-loop-id
invariant-loop-id l = l.names ≡ map (λ id. tree.Text (id_text id)) (take l.id-index l.ids)
