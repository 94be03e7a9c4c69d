-- The numbers in an attempt's identifier, and who an actor is.
use Rattle.std.specs.Prelude.{ℕ, ◌/◌, ◌%◌, ◌^◌}

-- the client whose attempt it is
abbrev pub client_of : ℕ → ℕ
client_of attempt = attempt / 2 ^ 96

-- the number of its transaction among the client's, from 1
abbrev pub txn_of : ℕ → ℕ
txn_of attempt = attempt / 2 ^ 80 % 2 ^ 16

-- the number of the try, from 1
abbrev pub try_of : ℕ → ℕ
try_of attempt = attempt % 2 ^ 32

-- who an actor is: its number among the actors, and the identifier under which it writes into the client record
pub record Identity : Type 0 where
  pub number : ℕ
  pub cleaner : ℕ
