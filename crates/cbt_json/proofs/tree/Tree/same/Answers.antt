use Rattle.cbt_json.proofs.Alike.{same_exactly}
use Rattle.cbt_json.proofs.tree.Tree.same.Goals as goal

pub returns : goal.returns
returns c = same_exactly _ _ _ c.same_tree.ensures
