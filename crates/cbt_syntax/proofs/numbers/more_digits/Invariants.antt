use Rattle.std.proofs.Common.{◌≡◌, drop}
use Rattle.std.specs.Str.{IsCharBoundary}
use Rattle.cbt_syntax.specs.Numbers.{digits}
use Rattle.cbt_syntax.proofs.numbers.more_digits.Given as goal

abbrev pub invariant-loop-at : goal.invariant-loop-at
invariant-loop-at l = record { same : digits l.n (drop l.at l.text) ≡ digits l.fn.first l.text; boundary : IsCharBoundary l.text l.at }
