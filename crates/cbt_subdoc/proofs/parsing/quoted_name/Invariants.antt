use Rattle.std.proofs.Common.{◌≡◌, length}
use denote.Text.{Utf8}
use denote.Shadow.{shadow}
use Rattle.cbt_subdoc.specs.Paths.{quoted}
use Rattle.cbt_subdoc.proofs.Quotes.{fronted}
use Rattle.cbt_subdoc.proofs.parsing.quoted_name.Given as goal

abbrev pub invariant-loop-piece : goal.invariant-loop-piece
invariant-loop-piece l = shadow (Utf8 l.rest) × (quoted l.text ≡ fronted l.name (quoted l.rest))

abbrev pub decreases-loop-piece : goal.decreases-loop-piece
decreases-loop-piece l = length l.rest
