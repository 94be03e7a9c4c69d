-- Whole numbers, and stamps in the form of the server's macro.
use Rattle.std.specs.Prelude.{ℕ, ℤ, pos, negsuc, ◌^◌, nat_lt, if◌then◌else◌, List, drop, Option, Some, None, Result, Ok, Err, bytes_eq}
use Rattle.std.specs.Int.{from_le_bytes, w64}
use Rattle.hex.specs.declared.error.FromHexError.{FromHexError}
use Rattle.hex.specs.Hex.{decode_sized}
use Rattle.cbt_json.specs.declared.tree.Tree.{Tree}
use Rattle.cbt_json.specs.declared.tree.Tree.TheOpen.{Tree-F}
use Rattle.cbt_subdoc.specs.Values.{macro_text}

abbrev pub natural : ℤ → Option ℕ
natural (pos n) = if nat_lt n (2 ^ 64) then Some n else None
natural (negsuc n) = None

-- the whole number from 0 to 2^64-1 that a value is
abbrev pub whole_of : Tree-F Tree → Option ℕ
whole_of (Tree-F.Whole z) = natural z
whole_of _ = None

-- bytes, where digits stand for them
abbrev pub decoded : Result (List ℕ) FromHexError → Option (List ℕ)
decoded (Ok bytes) = Some bytes
decoded (Err fault) = None

-- a number of 64 bits that the macro writes so
abbrev pub with_macro : List ℕ → Option (List ℕ) → Option ℕ
with_macro text (Some bytes) = if bytes_eq text (macro_text (from_le_bytes w64 bytes)) then Some (from_le_bytes w64 bytes) else None
with_macro text None = None

-- the stamp that the macro writes so: its eight bytes are the digits behind `0x`
abbrev pub macro_in : List ℕ → Option ℕ
macro_in text = with_macro text (decoded (decode_sized (drop 2 text) 8))
