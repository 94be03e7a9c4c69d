-- A string between quotes of which each byte stands for itself.
use Rattle.std.proofs.Common.{◌≡◌, ℕ, ◌/◌, ◌%◌, true, false, cond, ltb, List, [], ◌∷◌, ◌++◌, Ok, refl, sym, ap, ◌∙◌, arith, append_assoc}
use Rattle.std.specs.List.{list_all}
use Rattle.std.specs.Char.{digit_char}
use Rattle.std.proofs.lemmas.Bool.{and_parts}
use Rattle.std.proofs.lemmas.Bool.Decides.{nat_tests}
use Rattle.json.specs.Print.{escape_letter, escape_byte, escape, quoted}
use Rattle.cbt_syntax.specs.Strings.{is_verbatim, string_at}
use Rattle.cbt_syntax.proofs.StringsBack.{string_text-quoted, string_at-text}

no_letter : (b : ℕ) → is_verbatim b ≡ true → ltb 0 (escape_letter b) ≡ false
no_letter b e = grind (arith, nat_tests)

no_low : (b : ℕ) → is_verbatim b ≡ true → ltb b 32 ≡ false
no_low b e = grind (arith, nat_tests)

escape_byte-verbatim : (b : ℕ) → is_verbatim b ≡ true → escape_byte b ≡ b ∷ []
unfolding escape_byte
escape_byte-verbatim b e =
    let low : List ℕ = 92 ∷ 117 ∷ 48 ∷ 48 ∷ digit_char (b / 16) ∷ digit_char (b % 16) ∷ [] in
    ap (λ t. cond t (92 ∷ escape_letter b ∷ []) (cond (ltb b 32) low (b ∷ []))) (no_letter b e) ∙ ap (λ t. cond t low (b ∷ [])) (no_low b e)

escape-verbatim : (s : List ℕ) → list_all is_verbatim s ≡ true → escape s ≡ s
escape-verbatim [] all = refl
escape-verbatim (b ∷ s) all =
    let parts = and_parts (is_verbatim b) (list_all is_verbatim s) all in
    ap (λ front. front ++ escape s) (escape_byte-verbatim b parts.0) ∙ ap (λ rest. b ∷ rest) (escape-verbatim s parts.1)

pub string_at-verbatim : (text s rest : List ℕ) → text ≡ 34 ∷ (s ++ (34 ∷ rest)) → list_all is_verbatim s ≡ true → string_at text ≡ Ok (s, rest)
string_at-verbatim text s rest is all =
    let body : quoted s ++ rest ≡ 34 ∷ (s ++ (34 ∷ rest)) =
    ap (λ w. 34 ∷ ((w ++ (34 ∷ [])) ++ rest)) (escape-verbatim s all) ∙ ap (λ w. 34 ∷ w) (append_assoc s (34 ∷ []) rest) in
    ap string_at (is ∙ sym body) ∙ ap (λ w. string_at (w ++ rest)) (sym (string_text-quoted s)) ∙ string_at-text s rest
