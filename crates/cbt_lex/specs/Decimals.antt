-- Whole numbers in decimal.
use Rattle.std.specs.Prelude.{ℕ, ◌+◌, ◌-◌, ◌*◌, ◌^◌, Bool, true, false, ◌==◌, ◌&&◌, not, nat_lt, nat_le, if◌then◌else◌, List, [], ◌∷◌, Option, Some, None}
use Rattle.std.specs.Option.{option_and_then}

-- a decimal digit
abbrev pub is_digit : ℕ → Bool
is_digit b = nat_le 48 b && nat_le b 57

-- a number with one digit more, below 2^64
abbrev pub one_more : ℕ → ℕ → Option ℕ
one_more n b = if is_digit b && nat_lt (n * 10 + (b - 48)) (2 ^ 64) then Some (n * 10 + (b - 48)) else None

-- a number with further digits
abbrev pub digits_from : ℕ → List ℕ → Option ℕ
digits_from n [] = Some n
digits_from n (b ∷ bs) = option_and_then (λ m. digits_from m bs) (one_more n b)

-- not empty, and with no zero in front of another digit
abbrev pub is_plain : List ℕ → Bool
is_plain [] = false
is_plain (b ∷ []) = true
is_plain (b ∷ c ∷ bs) = not (b == 48)

-- a whole number below 2^64 in decimal, without a leading zero
abbrev pub number_of : List ℕ → Option ℕ
number_of word = if is_plain word then digits_from 0 word else None
