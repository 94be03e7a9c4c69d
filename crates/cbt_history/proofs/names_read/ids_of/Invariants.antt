use Rattle.std.proofs.Common.{◌≡◌, drop}
use Rattle.cbt_history.specs.NamesRead.{ids_of}
use Rattle.cbt_history.proofs.NamesOn.{behind}
use Rattle.cbt_history.proofs.names_read.ids_of.Given as goal

-- the identifiers so far, with those of the trees that are left, are all
abbrev pub invariant-loop-tree : goal.invariant-loop-tree
invariant-loop-tree l = behind l.ids (ids_of (drop l.tree-index l.trees)) ≡ ids_of l.trees
