use Rattle.std.proofs.Common.{◌≡◌, ◌++◌, drop}
use Rattle.cbt_report.specs.Cleaners.{cleaner_lines}
use Rattle.cbt_report.proofs.cleaners.push_cleaners.Given as goal

-- what is written and the lines that are left make the whole
abbrev pub invariant-loop-k : goal.invariant-loop-k
invariant-loop-k l = l.out ++ cleaner_lines (drop l.k l.cleaners) (drop l.k l.logs) ≡ l.fn.out ++ cleaner_lines l.cleaners l.logs
