use Rattle.std.proofs.Common.{◌≡◌, false, drop}
use Rattle.cbt_syntax.specs.Strings.{closing}
use Rattle.cbt_syntax.proofs.strings.closing_quote.Given as goal

abbrev pub invariant-loop-at : goal.invariant-loop-at
invariant-loop-at l = closing l.at l.escaped (drop l.at l.text) ≡ closing 0 false l.text
