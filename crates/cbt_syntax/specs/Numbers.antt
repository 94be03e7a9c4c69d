-- Whole numbers at the front of a text.
use Rattle.std.specs.Prelude.{ℕ, ◌+◌, ◌-◌, ◌*◌, ◌^◌, ℤ, pos, neg_ℤ, Bool, false, ◌==◌, ◌||◌, nat_lt, if◌then◌else◌, List, [], ◌∷◌, Ok, Err}
use Rattle.cbt_lex.specs.Decimals.{is_digit}
use Rattle.cbt_syntax.specs.declared.fault.SyntaxFault.TheVariants.{NotWhole, Malformed}
use Rattle.cbt_syntax.specs.Readings.{Read, ◌>>=◌}

-- the number below 2^64 that some digits make with those at the front
abbrev pub digits : ℕ → List ℕ → Read ℕ
digits n [] = Ok (n, [])
digits n (b ∷ bs) =
    if is_digit b
    then (if nat_lt (n * 10 + (b - 48)) (2 ^ 64) then digits (n * 10 + (b - 48)) bs else Err NotWhole)
    else Ok (n, b ∷ bs)

-- a decimal number without a leading zero
abbrev pub decimal_at : List ℕ → Read ℕ
decimal_at [] = Err Malformed
decimal_at (b ∷ bs) =
    if b == 48 then Ok (0, bs)
    else (if is_digit b then digits (b - 48) bs
    else Err Malformed)

-- whether a number would go on as one that is not whole
abbrev pub goes_on : List ℕ → Bool
goes_on [] = false
goes_on (b ∷ bs) = (b == 46) || (b == 101) || (b == 69)

-- a number where it ends so
abbrev pub ended : ℤ → List ℕ → Read ℤ
ended z text = if goes_on text then Err NotWhole else Ok (z, text)

-- a number behind its minus sign: there is no `-0`, and none below -2^63
abbrev pub negative_at : List ℕ → Read ℤ
negative_at text = do
  n ← decimal_at text
  if (n.0 == 0) || nat_lt (2 ^ 63) n.0 then Err NotWhole else ended (neg_ℤ (pos n.0)) n.1

-- a number without a sign
abbrev pub positive_at : List ℕ → Read ℤ
positive_at text = do
  n ← decimal_at text
  ended (pos n.0) n.1

-- the whole number at the front
unfoldable pub number_at : List ℕ → Read ℤ
number_at [] = Err Malformed
number_at (b ∷ bs) = if b == 45 then negative_at bs else positive_at (b ∷ bs)
