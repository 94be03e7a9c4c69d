-- A name ends where a text may be cut.
use Rattle.std.proofs.Common.{◌≡◌, ℕ, zero, suc, ◌+◌, ◌<◌, ◌≤◌, true, List, get_or, arith}
use Rattle.std.proofs.lemmas.Bool.Decides.{nat_tests}
use Rattle.std.proofs.lemmas.List.Sums.{prefix_len-le-length, prefix_len_passes}
use Rattle.std.proofs.lemmas.Str.{IsCharBoundary-start, IsCharBoundary-after_ascii}
use Rattle.std.specs.Str.{IsCharBoundary, IsUtf8}
use Rattle.std.specs.List.{prefix_len}
use Rattle.cbt_lex.specs.Names.{is_name_byte}

ascii_name : (b : ℕ) → is_name_byte b ≡ true → b < 128
ascii_name b e = grind (arith, nat_tests)

bound_at : (text : List ℕ) (n : ℕ) → IsUtf8 text → n ≤ prefix_len is_name_byte text → IsCharBoundary text n
bound_at text zero utf8 within = IsCharBoundary-start text utf8
bound_at text (suc k) utf8 within =
    let le = prefix_len-le-length is_name_byte text in
    let small = ascii_name (get_or text k 0) (prefix_len_passes is_name_byte text k 0 (omega arith)) in
    let e : k + 1 ≡ suc k = omega arith in
    let there : IsCharBoundary text (k + 1) = IsCharBoundary-after_ascii text k utf8 (omega arith) small in
    rw e at there

pub boundary-name : (text : List ℕ) (n : ℕ) → IsUtf8 text → n ≡ prefix_len is_name_byte text → IsCharBoundary text n
boundary-name text n utf8 is = bound_at text n utf8 (omega arith)
