use Rattle.std.proofs.Common.{◌≡◌, ◌++◌, length}
use denote.Text.{Utf8}
use denote.Shadow.{shadow}
use Rattle.cbt_subdoc.specs.Written.{doubled}
use Rattle.cbt_syntax.proofs.paths.push_doubled.Given as goal

abbrev pub invariant-loop-piece : goal.invariant-loop-piece
invariant-loop-piece l = shadow (Utf8 l.rest) × (l.out ++ doubled l.rest ≡ l.initial.out ++ doubled l.name)

abbrev pub decreases-loop-piece : goal.decreases-loop-piece
decreases-loop-piece l = length l.rest
