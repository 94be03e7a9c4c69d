-- The names of accounts, their owners and clients, which are numbered from 1.
use Rattle.std.specs.Prelude.{ℕ, ◌+◌, ◌/◌, ◌%◌, List, [], ◌∷◌, ◌++◌, codes}

-- the last digit of a number
abbrev pub digit : ℕ → ℕ
digit n = 48 + n % 10

abbrev pub two_digits : ℕ → List ℕ
two_digits n = digit (n / 10) ∷ digit n ∷ []

abbrev pub four_digits : ℕ → List ℕ
four_digits n = digit (n / 1000) ∷ digit (n / 100) ∷ digit (n / 10) ∷ digit n ∷ []

-- the document of an account
abbrev pub account_id : ℕ → List ℕ
account_id number = codes "acc-" ++ four_digits number

abbrev pub owner_name : ℕ → List ℕ
owner_name number = codes "o" ++ four_digits number

abbrev pub client_name : ℕ → List ℕ
client_name number = codes "c" ++ two_digits number
