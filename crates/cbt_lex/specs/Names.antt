-- Names.
use Rattle.std.specs.Prelude.{ℕ, Bool, false, ◌==◌, ◌&&◌, ◌||◌, nat_le, List, [], ◌∷◌, length}
use Rattle.std.specs.List.{list_all}
use Rattle.cbt_lex.specs.Decimals.{is_digit}

abbrev pub is_lower : ℕ → Bool
is_lower b = nat_le 97 b && nat_le b 122

-- a byte of a name behind its first: a lower-case letter, a digit or an underscore
abbrev pub is_name_byte : ℕ → Bool
is_name_byte b = is_lower b || is_digit b || (b == 95)

-- a lower-case letter and up to 31 further bytes of a name
abbrev pub is_name : List ℕ → Bool
is_name [] = false
is_name (b ∷ bs) = is_lower b && nat_le (length bs) 31 && list_all is_name_byte bs
