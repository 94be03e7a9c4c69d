-- Lemmas on the texts of identifiers: each parses to the bytes of its number, so it gives the number back.
use Rattle.std.proofs.Common.{◌≡◌, ℕ, zero, suc, ◌<◌, ◌^◌, List, All, Some, length, unwrap_or, [], inl, refl, sym, ap, ◌∙◌, arith}
use Rattle.std.proofs.lemmas.List.Elements.{All-nil, All-cons}
use Rattle.std.specs.Int.{from_be_bytes, to_be_bytes, w128, byte_at, bytes_high_first}
use Rattle.uuid.specs.Text.{parsed, lower}
use Rattle.uuid.proofs.RoundTrips.{parses_hyphenated}
use Rattle.uuid.proofs.TextLemmas.{by_index_length}
use Rattle.uuid.proofs.OrderLemmas.{from_be_bytes-to_be_bytes_16}
use Rattle.cbt_base.specs.Ids.{id_text}

-- each byte of a number is below 256
byte_fits : (k n : ℕ) → byte_at k n < 256
byte_fits zero n = omega arith
byte_fits (suc k) n = omega arith

bytes_fit : (k n : ℕ) → All (λ b. b < 256) (bytes_high_first k n)
bytes_fit zero n = All-nil (λ b. b < 256)
bytes_fit (suc k) n = All-cons (λ b. b < 256) (byte_at k n) (bytes_high_first k n) (byte_fits k n) (bytes_fit k n)

-- the text of a number parses to its bytes
pub parsed-id_text : (n : ℕ) → parsed (id_text n) ≡ Some (to_be_bytes w128 n)
parsed-id_text n = sym (parses_hyphenated lower (to_be_bytes w128 n) (inl refl) refl (bytes_fit 16 n))

-- what a text parses to is the number whose text it is
pub number_of_text : (n : ℕ) (text bytes : List ℕ) → n < 2 ^ 128 → text ≡ id_text n → Some bytes ≡ parsed text
    → from_be_bytes w128 bytes ≡ n
number_of_text n text bytes fits is_text reads =
    ap (λ o. from_be_bytes w128 (unwrap_or o [])) (reads ∙ ap parsed is_text ∙ parsed-id_text n) ∙ from_be_bytes-to_be_bytes_16 n fits

-- different numbers have different texts
pub id_text-differ : (m n : ℕ) → m < 2 ^ 128 → n < 2 ^ 128 → id_text m ≡ id_text n → m ≡ n
id_text-differ m n fits_m fits_n same =
    sym (from_be_bytes-to_be_bytes_16 m fits_m) ∙ number_of_text n (id_text m) (to_be_bytes w128 m) fits_n same (sym (parsed-id_text m))

-- each text has thirty-six bytes
pub length-id_text : (n : ℕ) → length (id_text n) ≡ 36
length-id_text n = by_index_length 36 _
