use Rattle.std.proofs.Common.{◌≡◌, ◌++◌, drop}
use Rattle.cbt_lex.specs.Lines.{lined}
use Rattle.cbt_script.specs.Printed.{txn_lines}
use Rattle.cbt_script.proofs.printing.push_plans.Given as goal

-- what is written and the lines that are left make the whole
abbrev pub invariant-loop-plan : goal.invariant-loop-plan
invariant-loop-plan l = l.out ++ lined (txn_lines (drop l.plan-index l.plans)) ≡ l.fn.out ++ lined (txn_lines l.plans)
