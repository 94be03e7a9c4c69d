use Rattle.cbt_subdoc.proofs.Alike.{same-tree_eq}
use Rattle.cbt_expr.proofs.operators.are_same.Goals as goal

pub returns : goal.returns
returns c = same-tree_eq c.args.x.now c.args.y.now c.same.result c.same.ensures
