-- The stamps that the macro writes.
use Rattle.std.proofs.Common.{◌≡◌, ℕ, zero, suc, ◌^◌, ◌<◌, Bool, true, false, cond, List, drop, length, ◌%◌, ◌/◌, Some, None, Result, Ok, Err, bytes_eq, refl, sym, ap, ◌∙◌, arith}
use Rattle.std.proofs.lemmas.Slice.Eq.{bytes_eq-Decides}
use Rattle.std.proofs.lemmas.Nat.{from_le_bytes-to_le_bytes_8}
use Rattle.std.specs.Int.{from_le_bytes, to_le_bytes, w64, byte_at}
use Rattle.hex.specs.Hex.{decode_sized, IsBytes}
use Rattle.hex.specs.declared.error.FromHexError.{FromHexError}
use Rattle.hex.proofs.HexLemmas.{decode_sized-encode_lower, decode_sized-ok, decode_pairs-ok}
use Rattle.hex.proofs.Pairs.{decode_sized-pairs}
use Rattle.cbt_subdoc.specs.Values.{macro_text}
use Rattle.cbt_shape.specs.Numbers.{decoded, with_macro, macro_in}

byte_fits : (k n : ℕ) → byte_at k n < 256
byte_fits zero n = omega arith
byte_fits (suc k) n = omega arith

bytes_fit : (n : ℕ) → IsBytes (to_le_bytes w64 n)
bytes_fit n zero = byte_fits 0 n
bytes_fit n (suc zero) = byte_fits 1 n
bytes_fit n (suc (suc zero)) = byte_fits 2 n
bytes_fit n (suc (suc (suc zero))) = byte_fits 3 n
bytes_fit n (suc (suc (suc (suc zero)))) = byte_fits 4 n
bytes_fit n (suc (suc (suc (suc (suc zero))))) = byte_fits 5 n
bytes_fit n (suc (suc (suc (suc (suc (suc zero)))))) = byte_fits 6 n
bytes_fit n (suc (suc (suc (suc (suc (suc (suc zero))))))) = byte_fits 7 n
bytes_fit n (suc (suc (suc (suc (suc (suc (suc (suc i)))))))) = omega arith

pub macro_found : (n : ℕ) → n < 2 ^ 64 → macro_in (macro_text n) ≡ Some n
macro_found n fits =
    ap (λ r. with_macro (macro_text n) (decoded r)) (decode_sized-encode_lower (to_le_bytes w64 n) 8 refl (bytes_fit n))
    ∙ ap (λ m. cond (bytes_eq (macro_text n) (macro_text m)) (Some m) None) (from_le_bytes-to_le_bytes_8 n fits)
    ∙ ap (λ t. cond t (Some n) None) ((bytes_eq-Decides (macro_text n) (macro_text n)).1 refl)

by_test : (t : Bool) (m n : ℕ) (text : List ℕ) → m < 2 ^ 64 → bytes_eq text (macro_text m) ≡ t → cond t (Some m) None ≡ Some n → (n < 2 ^ 64) × (text ≡ macro_text n)
by_test true m n text fits same is = let e : m ≡ n = cc in (omega arith, (bytes_eq-Decides text (macro_text m)).0 same ∙ ap macro_text e)
by_test false m n text fits same is = absurd (cc)

number_fits : (bytes : List ℕ) → IsBytes bytes → from_le_bytes w64 bytes < 2 ^ 64
number_fits bytes fit =
    let a = fit 0 in let b = fit 1 in let c = fit 2 in let d = fit 3 in let e = fit 4 in let f = fit 5 in let g = fit 6 in let h = fit 7 in
    omega arith

by_bytes : (r : Result (List ℕ) FromHexError) (text : List ℕ) (n : ℕ) → ((bytes : List ℕ) → r ≡ Ok bytes → IsBytes bytes) → with_macro text (decoded r) ≡ Some n
    → (n < 2 ^ 64) × (text ≡ macro_text n)
by_bytes (Ok bytes) text n fit is = let m = from_le_bytes w64 bytes in by_test (bytes_eq text (macro_text m)) m n text (number_fits bytes (fit bytes refl)) refl is
by_bytes (Err fault) text n fit is = absurd (cc)

-- sixteen digits stand for bytes
bytes_of : (digits bytes : List ℕ) → decode_sized digits 8 ≡ Ok bytes → IsBytes bytes
bytes_of digits bytes is =
    let long = decode_sized-ok digits 8 bytes is in
    (decode_pairs-ok 0 digits bytes (sym (decode_sized-pairs digits 8 (let e : length digits % 2 ≡ 0 = omega arith in e) (let e : length digits / 2 ≡ 8 = omega arith in e)) ∙ is)).2

pub macro_is : (text : List ℕ) (n : ℕ) → macro_in text ≡ Some n → (n < 2 ^ 64) × (text ≡ macro_text n)
macro_is text n is = by_bytes (decode_sized (drop 2 text) 8) text n (bytes_of (drop 2 text)) is
