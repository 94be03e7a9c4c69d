-- Names are words.
use Rattle.std.proofs.Common.{◌≡◌, ℕ, ◌<◌, true, ◌&&◌, leb, List, [], ◌∷◌, length, arith}
use Rattle.std.specs.List.{list_all}
use Rattle.std.proofs.lemmas.Bool.{and_parts, and_from}
use Rattle.std.proofs.lemmas.Bool.Decides.{nat_tests}
use Rattle.cbt_lex.specs.Names.{is_lower, is_name_byte, is_name}
use Rattle.cbt_lex.proofs.ByRecursion.{all_weaker, all_pass}
use Rattle.cbt_lex.proofs.WordsBack.{IsWord}

lower_byte : (b : ℕ) → is_lower b ≡ true → is_name_byte b ≡ true
lower_byte b is = grind (arith, nat_tests)

pub name_bytes : (name : List ℕ) → is_name name ≡ true → list_all is_name_byte name ≡ true
name_bytes [] named = absurd (cc)
name_bytes (b ∷ bs) named =
    let p = and_parts (is_lower b && leb (length bs) 31) (list_all is_name_byte bs) named in
    and_from (is_name_byte b) (list_all is_name_byte bs) (lower_byte b (and_parts (is_lower b) (leb (length bs) 31) p.0).0) p.1

name_above : (b : ℕ) → is_name_byte b ≡ true → 32 < b
name_above b is = grind (arith, nat_tests)

some_name : (name : List ℕ) → is_name name ≡ true → 0 < length name
some_name [] named = absurd (cc)
some_name (b ∷ bs) named = omega arith

pub name_word : (name : List ℕ) → is_name name ≡ true → IsWord name
name_word name named = record { some = some_name name named; solid = all_weaker name_above name (all_pass is_name_byte name (name_bytes name named)) }
