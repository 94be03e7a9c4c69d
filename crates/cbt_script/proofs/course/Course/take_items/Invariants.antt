use Rattle.std.proofs.Common.{◌≡◌, length}
use denote.Text.{Utf8}
use denote.Shadow.{shadow}
use Rattle.cbt_lex.specs.Lines.{skip_spaces}
use Rattle.cbt_lex.specs.Words.{words_of}
use Rattle.cbt_script.specs.Course.{add_items}
use Rattle.cbt_script.proofs.course.Course.take_items.Given as goal

-- the items so far, with those of the words that are left, are all
abbrev pub invariant-loop-rest : goal.invariant-loop-rest
invariant-loop-rest l = (add_items l.actors l.self (words_of l.rest) ≡ add_items l.actors l.fn.self (words_of l.words)) × (skip_spaces l.rest ≡ l.rest) × shadow (Utf8 l.rest)

abbrev pub decreases-loop-rest : goal.decreases-loop-rest
decreases-loop-rest l = length l.rest
