use Rattle.std.proofs.Common.{◌≡◌, length}
use denote.Shadow.{shadow}
use denote.Text.{Utf8}
use Rattle.cbt_lex.specs.Lines.{skip_spaces}
use Rattle.cbt_lex.proofs.words.past_spaces.Given as goal

abbrev pub invariant-loop-rest : goal.invariant-loop-rest
invariant-loop-rest l = (skip_spaces l.text ≡ skip_spaces l.fn.text) × shadow (Utf8 l.text)

abbrev pub decreases-loop-rest : goal.decreases-loop-rest
decreases-loop-rest l = length l.text
