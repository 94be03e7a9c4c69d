use Rattle.std.proofs.Common.{◌≡◌, drop}
use Rattle.cbt_history.specs.NamesRead.{docs_of}
use Rattle.cbt_history.proofs.NamesOn.{behind}
use Rattle.cbt_history.proofs.names_read.docs_of.Given as goal

-- the documents so far, with those of the trees that are left, are all
abbrev pub invariant-loop-tree : goal.invariant-loop-tree
invariant-loop-tree l = behind l.docs (docs_of (drop l.tree-index l.trees)) ≡ docs_of l.trees
