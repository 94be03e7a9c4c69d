use Rattle.cbt_history.proofs.NamesOn.{next_id}
use Rattle.cbt_history.proofs.names_read.ids_of.Goals as goal

pub loop-tree-preserved : goal.loop-tree-preserved
loop-tree-preserved c =
    next_id c.args.trees.now c.loop-tree.tree-index c.tree-item.result c.loop-tree-test.true c.tree-item.is c.loop-tree.ids c.push.new.self
    c.in_ok-id_of.field-0 c.in_ok-id_of.ensures c.in_ok-push.ensures.ok c.loop-tree.invariant
