use Rattle.std.proofs.Common.{◌≡◌, ◌++◌, drop}
use Rattle.cbt_lex.specs.Lines.{lined}
use Rattle.cbt_script.specs.Printed.{doc_lines}
use Rattle.cbt_script.proofs.printing.push_docs.Given as goal

-- what is written and the lines that are left make the whole
abbrev pub invariant-loop-id : goal.invariant-loop-id
invariant-loop-id l = l.out ++ lined (doc_lines (drop l.id-index l.docs)) ≡ l.fn.out ++ lined (doc_lines l.docs)
