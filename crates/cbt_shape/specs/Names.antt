-- The texts of identifiers and the names of transaction records.
use Rattle.std.specs.Prelude.{ℕ, ◌^◌, Bool, false, ◌==◌, ◌&&◌, nat_lt, nat_le, if◌then◌else◌, List, [], ◌∷◌, ◌++◌, Option, Some, None, bytes_eq, codes, decimal}
use Rattle.std.specs.Int.{from_be_bytes, w128}
use Rattle.std.specs.Option.{option_and_then}
use Rattle.uuid.specs.Text.{parsed}
use Rattle.cbt_base.specs.Ids.{id_text, txn_number}
use Rattle.cbt_lex.specs.Decimals.{number_of}

-- a number of 128 bits whose text this is
abbrev pub with_text : List ℕ → Option (List ℕ) → Option ℕ
with_text text (Some bytes) =
    if nat_lt (from_be_bytes w128 bytes) (2 ^ 128) && bytes_eq text (id_text (from_be_bytes w128 bytes)) then Some (from_be_bytes w128 bytes) else None
with_text text None = None

-- the identifier that has this text
abbrev pub id_in : List ℕ → Option ℕ
id_in text = with_text text (parsed text)

abbrev pub is_number : ℕ → Option ℕ → Bool
is_number n (Some m) = m == n
is_number n None = false

-- the text of an attempt's transaction
abbrev pub is_txn_text : ℕ → List ℕ → Bool
is_txn_text attempt text = is_number (txn_number attempt) (id_in text)

-- ---- transaction records

abbrev pub atr_prefix : List ℕ
atr_prefix = codes "_txn:atr-"

-- the name of the transaction record with this number
abbrev pub atr_name : ℕ → List ℕ
atr_name n = atr_prefix ++ decimal n

-- what stands behind a piece at the front of a text, where it is there
abbrev pub behind : List ℕ → List ℕ → Option (List ℕ)
behind [] text = Some text
behind (w ∷ ws) [] = None
behind (w ∷ ws) (b ∷ bs) = if w == b then behind ws bs else None

abbrev pub up_to : ℕ → Option ℕ → Option ℕ
up_to most (Some n) = if nat_le n most then Some n else None
up_to most None = None

-- the number of the transaction record that has this name
abbrev pub atr_in : List ℕ → Option ℕ
atr_in name = up_to 65535 (option_and_then number_of (behind atr_prefix name))
