use Rattle.std.proofs.Common.{◌≡◌, drop}
use Rattle.cbt_lex.specs.Decimals.{digits_from}
use Rattle.cbt_lex.proofs.decimals.all_digits.Given as goal

-- the number so far, with the digits that are left, gives the whole
abbrev pub invariant-loop-digit : goal.invariant-loop-digit
invariant-loop-digit l = digits_from l.number (drop l.digit-index l.digits) ≡ digits_from 0 l.digits
