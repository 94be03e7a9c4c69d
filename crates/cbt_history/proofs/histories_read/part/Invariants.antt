use Rattle.std.proofs.Common.{◌-◌, length}
use Rattle.cbt_history.proofs.Sections.{AreBefore}
use Rattle.cbt_history.proofs.histories_read.part.Given as goal

-- the lines so far are of the script
abbrev pub invariant-loop-line : goal.invariant-loop-line
invariant-loop-line l = AreBefore l.text l.at l.lines

abbrev pub decreases-loop-line : goal.decreases-loop-line
decreases-loop-line l = length l.text - l.at
