use Rattle.std.proofs.Common.{◌≡◌, ◌+◌, ◌++◌, drop}
use Rattle.cbt_report.specs.Report.{txn_lines}
use Rattle.cbt_report.proofs.report.push_txns.Given as goal

-- what is written and the lines that are left make the whole
abbrev pub invariant-loop-k : goal.invariant-loop-k
invariant-loop-k l = l.out ++ txn_lines l.name (l.k + 1) (drop l.k l.txns) ≡ l.fn.out ++ txn_lines l.name 1 l.txns
