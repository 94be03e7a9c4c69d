-- The text of a string is read as it.
use Rattle.std.proofs.Common.{◌≡◌, ℕ, ◌+◌, ◌/◌, ◌%◌, Bool, true, false, cond, ◌||◌, eqb, ltb, List, [], ◌∷◌, ◌++◌, length, take, drop, Some, Ok, refl, sym, ap, ◌∙◌, arith, rules, append_assoc, length-append}
use Rattle.std.proofs.lemmas.Bool.{eqb-true}
use Rattle.std.proofs.Math.Seq.{take-append_seam, drop-append_seam}
use Rattle.std.proofs.lemmas.Bool.Decides.{nat_tests}
use Rattle.std.specs.Char.{digit_char}
use Rattle.json.specs.Print.{escape_letter, escape_byte, escape, quoted}
use Rattle.cbt_json.specs.declared.tree.Tree.{out-Tree, the_lemmas}
use Rattle.cbt_json.specs.declared.tree.Tree.TheOpen.{Tree-F}
use Rattle.cbt_json.specs.declared.tree.Tree.TheVariants as t
use Rattle.cbt_json.specs.Reading.{json_of}
use Rattle.serde_json.specs.Written.{compact_text}
use Rattle.cbt_json.proofs.Views.{data_of-Text}
use Rattle.cbt_json.proofs.Read.{json_of-text_of}
use Rattle.cbt_syntax.specs.Readings.{◌>>=◌}
use Rattle.cbt_syntax.specs.Strings.{closing, text_in, text_of_json, literal, closed_at, string_at}
use Rattle.cbt_syntax.specs.Texts.{string_text}
use Rattle.cbt_syntax.proofs.Ranges.{text-is_json}

-- a byte that neither closes nor escapes
closing-other : (at b : ℕ) (rest : List ℕ) → eqb b 34 ≡ false → eqb b 92 ≡ false → closing at false (b ∷ rest) ≡ closing (at + 1) false rest
closing-other at b rest quote slash =
    ap (λ c. cond c (Some at) (closing (at + 1) (eqb b 92) rest)) quote ∙ ap (λ c. closing (at + 1) c rest) slash

closing-escaped : (at b : ℕ) (rest : List ℕ) → closing at false (92 ∷ b ∷ rest) ≡ closing (at + 2) false rest
closing-escaped at b rest = let e : at + 1 + 1 ≡ at + 2 = omega arith in ap (λ n. closing n false rest) e

digit_by : (n : ℕ) (small : Bool) → ltb n 10 ≡ small → (eqb (cond small (48 + n) (87 + n)) 34 ≡ false) × (eqb (cond small (48 + n) (87 + n)) 92 ≡ false)
digit_by n true is = (grind (arith, nat_tests), grind (arith, nat_tests))
digit_by n false is = (grind (arith, nat_tests), grind (arith, nat_tests))

digit-other : (n : ℕ) → (eqb (digit_char n) 34 ≡ false) × (eqb (digit_char n) 92 ≡ false)
digit-other n = digit_by n (ltb n 10) refl

-- the short escapes but those of a quote and a backslash
abbrev letter_else : ℕ → ℕ
letter_else b = cond (eqb b 8) 98 (cond (eqb b 12) 102 (cond (eqb b 10) 110 (cond (eqb b 13) 114 (cond (eqb b 9) 116 0))))

letter_by : (b : ℕ) (quote slash : Bool) → eqb b 34 ≡ quote → eqb b 92 ≡ slash → ltb 0 (cond (quote || slash) b (letter_else b)) ≡ false
    → (quote ≡ false) × (slash ≡ false)
letter_by b true slash q s e = absurd (let is : b ≡ 34 = eqb-true b 34 q in grind (arith, nat_tests))
letter_by b false true q s e = absurd (let is : b ≡ 92 = eqb-true b 92 s in grind (arith, nat_tests))
letter_by b false false q s e = (refl, refl)

letter-other : (b : ℕ) → ltb 0 (escape_letter b) ≡ false → (eqb b 34 ≡ false) × (eqb b 92 ≡ false)
letter-other b e = letter_by b (eqb b 34) (eqb b 92) refl refl e

pub by_escape : (at b : ℕ) (rest : List ℕ) (letter low : Bool) → ltb 0 (escape_letter b) ≡ letter
    → let text = cond letter (92 ∷ escape_letter b ∷ []) (cond low (92 ∷ 117 ∷ 48 ∷ 48 ∷ digit_char (b / 16) ∷ digit_char (b % 16) ∷ []) (b ∷ [])) in
    closing at false (text ++ rest) ≡ closing (at + length text) false rest
by_escape at b rest true low is = closing-escaped at (escape_letter b) rest
by_escape at b rest false true is =
    let d = digit-other (b / 16) in
    let e = digit-other (b % 16) in
    let n : at + 2 + 1 + 1 + 1 + 1 ≡ at + 6 = omega arith in
    closing-escaped at 117 (48 ∷ 48 ∷ digit_char (b / 16) ∷ digit_char (b % 16) ∷ rest)
    ∙ closing-other (at + 2 + 1 + 1) (digit_char (b / 16)) (digit_char (b % 16) ∷ rest) d.0 d.1
    ∙ closing-other (at + 2 + 1 + 1 + 1) (digit_char (b % 16)) rest e.0 e.1
    ∙ ap (λ m. closing m false rest) n
by_escape at b rest false false is = let o = letter-other b is in closing-other at b rest o.0 o.1

closing-byte : (at b : ℕ) (rest : List ℕ) → closing at false (escape_byte b ++ rest) ≡ closing (at + length (escape_byte b)) false rest
unfolding escape_byte
closing-byte at b rest = by_escape at b rest (ltb 0 (escape_letter b)) (ltb b 32) refl

closing-escape : (at : ℕ) (s rest : List ℕ) → closing at false (escape s ++ (34 ∷ rest)) ≡ Some (at + length (escape s))
closing-escape at [] rest = let e : at ≡ at + 0 = omega arith in ap Some e
closing-escape at (b ∷ s) rest =
    let n : at + length (escape_byte b) + length (escape s) ≡ at + length (escape_byte b ++ escape s) = omega (arith, length-append (escape_byte b) (escape s)) in
    ap (closing at false) (append_assoc (escape_byte b) (escape s) (34 ∷ rest))
    ∙ closing-byte at b (escape s ++ (34 ∷ rest)) ∙ closing-escape (at + length (escape_byte b)) s rest ∙ ap Some n

out-text : (s : List ℕ) → out-Tree (t.Text s) ≡ Tree-F.Text s
out-text s = search (rules, the_lemmas)

pub string_text-quoted : (s : List ℕ) → string_text s ≡ quoted s
string_text-quoted s = ap compact_text (data_of-Text s)

literal-quoted : (n : ℕ) (s rest : List ℕ) → n ≡ length (quoted s) → literal n (quoted s ++ rest) ≡ Ok (s, rest)
literal-quoted n s rest is =
    let read : json_of (quoted s) ≡ Ok (t.Text s) = ap json_of (sym (string_text-quoted s)) ∙ json_of-text_of (t.Text s) (text-is_json s) in
    let front : text_of_json (json_of (take n (quoted s ++ rest))) ≡ Ok s =
    ap (λ k. text_of_json (json_of (take k (quoted s ++ rest)))) is ∙ ap (λ w. text_of_json (json_of w)) (take-append_seam (quoted s) rest)
    ∙ ap text_of_json read ∙ ap text_in (out-text s) in
    ap (λ r. r >>= (λ x. Ok (x, drop n (quoted s ++ rest)))) front
    ∙ ap (λ k. Ok (s, drop k (quoted s ++ rest))) is ∙ ap (λ w. Ok (s, w)) (drop-append_seam (quoted s) rest)

pub string_at-text : (s rest : List ℕ) → string_at (string_text s ++ rest) ≡ Ok (s, rest)
unfolding string_at
string_at-text s rest =
    let n : 0 + length (escape s) + 2 ≡ length (quoted s) = omega (arith, length-append (escape s) (34 ∷ [])) in
    ap (λ w. string_at (w ++ rest)) (string_text-quoted s)
    ∙ ap (λ w. closed_at (closing 0 false w) (quoted s ++ rest)) (append_assoc (escape s) (34 ∷ []) rest)
    ∙ ap (λ o. closed_at o (quoted s ++ rest)) (closing-escape 0 s rest)
    ∙ literal-quoted (0 + length (escape s) + 2) s rest n
