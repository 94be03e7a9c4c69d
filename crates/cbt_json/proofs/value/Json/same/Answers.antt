use Rattle.std.proofs.Common.{◌∙◌, ap₂}
use Rattle.cbt_json.specs.Same.{tree_eq}
use Rattle.cbt_json.proofs.Alike.{same_exactly}
use Rattle.cbt_json.proofs.value.Json.same.Goals as goal

pub returns : goal.returns
returns c = same_exactly _ _ _ (c.same_tree.ensures ∙ ap₂ tree_eq c.tree.ensures.same c.tree-2.ensures.same)
