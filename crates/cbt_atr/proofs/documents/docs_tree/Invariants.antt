use Rattle.std.proofs.Common.{◌≡◌, map, take}
use Rattle.cbt_atr.specs.Entries.{doc_tree}
use Rattle.cbt_atr.proofs.documents.docs_tree.Given as goal

-- the documents so far
abbrev pub invariant-loop-doc : goal.invariant-loop-doc
invariant-loop-doc l = l.trees ≡ map doc_tree (take l.doc-index l.docs)
