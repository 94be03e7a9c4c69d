-- The texts of attempts and of cleaners are words.
use Rattle.std.proofs.Common.{ℕ, zero, suc, ◌+◌, ◌-◌, ◌<◌, Bool, true, false, cond, nat_lt, [], ◌∷◌, arith}
use Rattle.std.specs.Int.{to_be_bytes, w128}
use Rattle.std.specs.List.{AllByRecursion}
use Rattle.uuid.specs.Text.{by_index, hex_digit, nibble, digit_place, is_hyphen_place, lower}
use Rattle.cbt_base.specs.Ids.{id_text}
use Rattle.cbt_base.proofs.IdTexts.{length-id_text}
use Rattle.cbt_lex.proofs.ByRecursion.{all_behind}
use Rattle.cbt_lex.proofs.WordsBack.{IsWord}

all_at : (P : ℕ → Type 0) (n : ℕ) (f : ℕ → ℕ) → ((k : ℕ) → P (f k)) → AllByRecursion P (by_index n f)
unfolding by_index
all_at P zero f each = tt
all_at P (suc n) f each = all_behind P (by_index n f) (f n ∷ []) (all_at P n f each) (each n, tt)

digit_above : (t : Bool) (d : ℕ) → 32 < cond t (48 + d) (97 + d - 10)
digit_above true d = omega arith
digit_above false d = omega arith

byte_above : (t : Bool) (d : ℕ) → 32 < cond t 45 (hex_digit lower d)
byte_above true d = omega arith
byte_above false d = digit_above (nat_lt d 10) d

pub id_text_word : (n : ℕ) → IsWord (id_text n)
id_text_word n = record {
  some = (let l = length-id_text n in omega arith);
  solid = all_at (λ b. 32 < b) 36 (λ k. cond (is_hyphen_place k) 45 (hex_digit lower (nibble (to_be_bytes w128 n) (digit_place k))))
      (λ k. byte_above (is_hyphen_place k) (nibble (to_be_bytes w128 n) (digit_place k)));
}
