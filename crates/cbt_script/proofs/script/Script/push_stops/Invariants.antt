use Rattle.std.proofs.Common.{◌≡◌, ◌++◌, drop}
use Rattle.cbt_lex.specs.Lines.{lined}
use Rattle.cbt_script.specs.Printed.{stop_lines}
use Rattle.cbt_script.proofs.script.Script.push_stops.Given as goal

-- what is written and the lines that are left make the whole
abbrev pub invariant-loop-actor : goal.invariant-loop-actor
invariant-loop-actor l = l.out ++ lined (stop_lines l.self (drop l.actor-index l.actor-items)) ≡ l.fn.out ++ lined (stop_lines l.self l.self.stops)
