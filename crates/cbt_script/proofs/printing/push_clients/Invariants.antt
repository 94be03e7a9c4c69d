use Rattle.std.proofs.Common.{◌≡◌, ◌++◌, drop}
use Rattle.cbt_lex.specs.Lines.{lined}
use Rattle.cbt_script.specs.Printed.{client_lines}
use Rattle.cbt_script.proofs.printing.push_clients.Given as goal

-- what is written and the lines that are left make the whole
abbrev pub invariant-loop-name : goal.invariant-loop-name
invariant-loop-name l = l.out ++ lined (client_lines (drop l.name-index l.clients)) ≡ l.fn.out ++ lined (client_lines l.clients)
