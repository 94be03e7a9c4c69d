use Rattle.cbt_subdoc.proofs.Alike.{same-tree_eq}
use Rattle.cbt_subdoc.proofs.edits.are_same.Goals as goal

pub returns : goal.returns
returns c = same-tree_eq c.args.item.now c.args.value.now c.same.result c.same.ensures
