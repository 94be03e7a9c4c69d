use Rattle.std.proofs.Common.{◌≡◌, map, take}
use Rattle.cbt_json.specs.declared.tree.Tree.TheVariants as tree
use Rattle.cbt_history.proofs.name_lists.names_tree.Given as goal

-- the names so far
abbrev pub invariant-loop-doc : goal.invariant-loop-doc
invariant-loop-doc l = l.names ≡ map tree.Text (take l.doc-index l.docs)
