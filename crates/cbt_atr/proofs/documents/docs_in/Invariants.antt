use Rattle.std.proofs.Common.{◌≡◌, drop}
use Rattle.cbt_atr.specs.EntriesRead.{docs_in}
use Rattle.cbt_atr.proofs.Walks.{behind}
use Rattle.cbt_atr.proofs.documents.docs_in.Given as goal

-- the documents so far, with those of the trees that are left, are all
abbrev pub invariant-loop-tree : goal.invariant-loop-tree
invariant-loop-tree l = behind l.docs (docs_in (drop l.tree-index l.trees)) ≡ docs_in l.trees
