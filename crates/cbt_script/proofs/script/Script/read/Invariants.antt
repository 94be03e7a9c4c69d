use Rattle.std.proofs.Common.{◌≡◌, ◌+◌, ◌≤◌, length}
use Rattle.cbt_lex.specs.Lines.{lines_of}
use Rattle.cbt_script.specs.Drafts.{start}
use Rattle.cbt_script.specs.Reading.{read_lines}
use Rattle.cbt_script.proofs.script.Script.read.Given as goal

-- what is left, read onto the draft, gives what all gives
abbrev pub invariant-loop-rest : goal.invariant-loop-rest
invariant-loop-rest l = (read_lines l.line l.draft (lines_of l.rest) ≡ read_lines 1 start (lines_of l.bytes)) × (l.line + length l.rest ≤ length l.bytes + 1)

abbrev pub decreases-loop-rest : goal.decreases-loop-rest
decreases-loop-rest l = length l.rest
