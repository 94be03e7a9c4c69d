use Rattle.std.proofs.Common.{◌≡◌, length}
use Rattle.cbt_lex.specs.Lines.{skip_spaces}
use Rattle.cbt_lex.proofs.lines.trim_start.Given as goal

abbrev pub invariant-loop-line : goal.invariant-loop-line
invariant-loop-line l = skip_spaces l.line ≡ skip_spaces l.fn.line

abbrev pub decreases-loop-line : goal.decreases-loop-line
decreases-loop-line l = length l.line
