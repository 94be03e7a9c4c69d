use Rattle.std.proofs.Common.{◌≡◌, drop}
use Rattle.std.specs.Str.{IsCharBoundary}
use Rattle.cbt_subdoc.specs.Paths.{digits}
use Rattle.cbt_subdoc.proofs.parsing.numbered.Given as goal

abbrev pub invariant-loop-at : goal.invariant-loop-at
invariant-loop-at l = record { same : digits l.n (drop l.at l.text) ≡ digits l.fn.first l.text; boundary : IsCharBoundary l.text l.at }
