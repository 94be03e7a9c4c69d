use Rattle.std.proofs.Common.{length}
use denote.Text.{Utf8}
use denote.Shadow.{shadow}
use Rattle.cbt_subdoc.specs.Paths.{parts_of}
use Rattle.cbt_subdoc.proofs.Shorter.{StandsBefore}
use Rattle.cbt_subdoc.proofs.parsing.parts_of.Given as goal

abbrev pub invariant-loop-rest : goal.invariant-loop-rest
invariant-loop-rest l = shadow (Utf8 l.rest) × StandsBefore (parts_of l.text) l.parts l.rest

abbrev pub decreases-loop-rest : goal.decreases-loop-rest
decreases-loop-rest l = length l.rest
