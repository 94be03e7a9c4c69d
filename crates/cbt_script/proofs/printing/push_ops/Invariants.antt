use Rattle.std.proofs.Common.{◌≡◌, ◌++◌, drop}
use Rattle.cbt_lex.specs.Lines.{lined}
use Rattle.cbt_script.specs.Printed.{op_lines}
use Rattle.cbt_script.proofs.printing.push_ops.Given as goal

-- what is written and the lines that are left make the whole
abbrev pub invariant-loop-op : goal.invariant-loop-op
invariant-loop-op l = l.out ++ lined (op_lines (drop l.op-index l.ops)) ≡ l.fn.out ++ lined (op_lines l.ops)
