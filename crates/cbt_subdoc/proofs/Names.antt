-- A name of plain bytes ends where a text may be cut.
use Rattle.std.proofs.Common.{◌≡◌, ℕ, suc, ◌+◌, ◌<◌, ◌≤◌, Bool, true, false, cond, List, [], ◌∷◌, length, get_or, refl, arith}
use Rattle.std.proofs.lemmas.Bool.Decides.{nat_tests}
use Rattle.std.specs.Str.{IsCharBoundary}
use Rattle.std.specs.List.{prefix_len}
use Rattle.cbt_subdoc.specs.Paths.{is_plain}

ends_ascii : (b : ℕ) → is_plain b ≡ false → b < 128
ends_ascii b e = grind (arith, nat_tests)

end_step : (t : Bool) (b : ℕ) (n : ℕ) (rest : List ℕ) → is_plain b ≡ t → (n < length rest → get_or rest n 0 < 128) → cond t (1 + n) 0 < suc (length rest)
    → get_or (b ∷ rest) (cond t (1 + n) 0) 0 < 128
end_step true b n rest is tail within = let next : get_or rest n 0 < 128 = tail (omega arith) in let e : 1 + n ≡ suc n = omega arith in rw e next
end_step false b n rest is tail within = ends_ascii b is

plain_end : (text : List ℕ) → prefix_len is_plain text < length text → get_or text (prefix_len is_plain text) 0 < 128
plain_end [] within = absurd (omega arith)
plain_end (b ∷ rest) within = end_step (is_plain b) b (prefix_len is_plain rest) rest refl (plain_end rest) within

pub boundary-plain : (text : List ℕ) (n : ℕ) → n ≡ prefix_len is_plain text → n ≤ length text → IsCharBoundary text n
boundary-plain text n is within = (within, λ more high. let low : get_or text n 0 < 128 = rw is (plain_end text (omega arith)) in absurd (omega arith))
