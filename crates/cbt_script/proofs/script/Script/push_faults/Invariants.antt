use Rattle.std.proofs.Common.{◌≡◌, ◌++◌}
use Rattle.cbt_lex.specs.Lines.{lined}
use Rattle.cbt_script.specs.Printed.{fault_lines}
use Rattle.cbt_script.proofs.script.Script.push_faults.Given as goal

-- what is written and the lines that are left make the whole
abbrev pub invariant-loop-actor : goal.invariant-loop-actor
invariant-loop-actor l = l.out ++ lined (fault_lines l.fate l.self l.actor-iterator) ≡ l.fn.out ++ lined (fault_lines l.fate l.self l.self.faults.fates)
