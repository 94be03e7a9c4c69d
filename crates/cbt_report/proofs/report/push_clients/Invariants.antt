use Rattle.std.proofs.Common.{◌≡◌, ◌++◌, drop}
use Rattle.cbt_report.specs.Report.{client_lines}
use Rattle.cbt_report.proofs.report.push_clients.Given as goal

-- what is written and the lines that are left make the whole
abbrev pub invariant-loop-k : goal.invariant-loop-k
invariant-loop-k l = l.out ++ client_lines (drop l.k l.clients) (drop l.k l.logs) ≡ l.fn.out ++ client_lines l.clients l.logs
