use Rattle.std.proofs.Common.{◌≡◌, ◌+◌, ◌-◌, ◌≤◌, length}
use Rattle.cbt_history.proofs.BadLines.{bad_line_at}
use Rattle.cbt_history.proofs.scripts_read.bad_line.Given as goal

-- the canonical texts go on with the lines so far
abbrev pub invariant-loop-first : goal.invariant-loop-first
invariant-loop-first l = record {
  left : bad_line_at l.line l.text l.at ≡ bad_line_at 2 l.text 0;
  within : l.at ≤ length l.text;
  few : l.line ≤ l.at + 2;
}

abbrev pub decreases-loop-first : goal.decreases-loop-first
decreases-loop-first l = length l.text - l.at
