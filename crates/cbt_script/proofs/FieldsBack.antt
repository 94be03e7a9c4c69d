-- The fields of a printed line, read one after another.
use Rattle.std.proofs.Common.{◌≡◌, ℕ, ◌^◌, ◌<◌, ◌≤◌, true, false, cond, eqb, leb, not, List, [], ◌∷◌, ◌++◌, length, Ok, Err, is_none, decimal, bytes_eq, codes, refl, sym, ap, ◌∙◌, arith, append-nil, length-append}
use Rattle.std.proofs.lemmas.Bool.{ne_eqb, le-leb, and_from, false_from_ne_true}
use Rattle.std.proofs.lemmas.Slice.Eq.{bytes_eq-Decides}
use Rattle.cbt_base.specs.Ids.{IsDocId, id_fault}
use Rattle.cbt_lex.specs.Lines.{skip_spaces}
use Rattle.cbt_lex.specs.Names.{is_name}
use Rattle.cbt_lex.specs.Words.{word_and_rest}
use Rattle.cbt_lex.proofs.DecimalsBack.{number_of-decimal, decimal_word}
use Rattle.cbt_lex.proofs.Spaces.{behind_space}
use Rattle.cbt_lex.proofs.WordsBack.{IsWord, no_space, IsTail, word_next, led_word}
use Rattle.cbt_script.specs.declared.cause.Cause.TheVariants.{Form, Name, Id, Number}
use Rattle.cbt_script.specs.Causes.{◌>>=◌, require}
use Rattle.cbt_script.specs.Fields.{word_field, name_field, actor_field, within, number_in, number_field, id_field, fixed_field, option_field}

filled : (word tail : List ℕ) → 0 < length word → eqb (length (word ++ tail)) 0 ≡ false
filled word tail some = ne_eqb (length (word ++ tail)) 0 (λ e. omega (arith, length-append word tail, e))

pub word_field-next : (word tail : List ℕ) → IsWord word → IsTail tail → word_field (word ++ tail) ≡ Ok (word, skip_spaces tail)
word_field-next word tail is end = ap (λ t. cond t (Err Form) (Ok (word_and_rest (word ++ tail)))) (filled word tail is.some) ∙ ap Ok (word_next word tail (no_space word is) end)

pub name_field-next : (word tail : List ℕ) → IsWord word → IsTail tail → is_name word ≡ true → name_field (word ++ tail) ≡ Ok (word, skip_spaces tail)
unfolding name_field
name_field-next word tail is end named =
    ap (λ r. r >>= (λ w. require (is_name w.0) Name >>= (λ _. Ok w))) (word_field-next word tail is end)
    ∙ ap (λ t. require t Name >>= (λ _. Ok (word, skip_spaces tail))) named

pub actor_field-next : (word tail : List ℕ) → IsWord word → IsTail tail → is_name word ≡ true → bytes_eq word (codes "sweep") ≡ false → actor_field (word ++ tail) ≡ Ok (word, skip_spaces tail)
unfolding actor_field
actor_field-next word tail is end named other =
    ap (λ r. r >>= (λ w. require (not (bytes_eq w.0 (codes "sweep"))) Name >>= (λ _. Ok w))) (name_field-next word tail is end named)
    ∙ ap (λ t. require (not t) Name >>= (λ _. Ok (word, skip_spaces tail))) other

pub id_field-next : (word tail : List ℕ) → IsWord word → IsTail tail → IsDocId word → id_field (word ++ tail) ≡ Ok (word, skip_spaces tail)
unfolding id_field
id_field-next word tail is end fit =
    ap (λ r. r >>= (λ w. require (is_none (id_fault w.0)) Id >>= (λ _. Ok w))) (word_field-next word tail is end)
    ∙ ap (λ o. require (is_none o) Id >>= (λ _. Ok (word, skip_spaces tail))) fit

pub bytes_same : (word : List ℕ) → bytes_eq word word ≡ true
bytes_same word = (bytes_eq-Decides word word).1 refl

pub bytes_other : (a b : List ℕ) → (a ≡ b → ⊥) → bytes_eq a b ≡ false
bytes_other a b apart = false_from_ne_true (bytes_eq a b) (λ t. apart ((bytes_eq-Decides a b).0 t))

pub fixed_field-next : (word tail : List ℕ) → IsWord word → IsTail tail → fixed_field word (word ++ tail) ≡ Ok (skip_spaces tail)
unfolding fixed_field
fixed_field-next word tail is end =
    ap (λ r. r >>= (λ w. require (bytes_eq w.0 word) Form >>= (λ _. Ok w.1))) (word_field-next word tail is end)
    ∙ ap (λ t. require t Form >>= (λ _. Ok (skip_spaces tail))) (bytes_same word)

-- ---- numbers

pub number_in-decimal : (least most n : ℕ) → least ≤ n → n ≤ most → n < 2 ^ 64 → number_in least most (decimal n) ≡ Ok n
number_in-decimal least most n low high below =
    ap (within least most) (number_of-decimal n below)
    ∙ ap (λ t. cond t (Ok n) (Err Number)) (and_from (leb least n) (leb n most) (le-leb least n low) (le-leb n most high))

pub number_field-next : (least most n : ℕ) (tail : List ℕ) → least ≤ n → n ≤ most → n < 2 ^ 64 → IsTail tail → number_field least most (decimal n ++ tail) ≡ Ok (n, skip_spaces tail)
unfolding number_field
number_field-next least most n tail low high below end =
    ap (λ r. r >>= (λ w. number_in least most w.0 >>= (λ m. Ok (m, w.1)))) (word_field-next (decimal n) tail (decimal_word n below) end)
    ∙ ap (λ r. r >>= (λ m. Ok (m, skip_spaces tail))) (number_in-decimal least most n low high below)

pub option_field-next : (name : List ℕ) (most default n : ℕ) (tail : List ℕ) → IsWord name → 1 ≤ n → n ≤ most → n < 2 ^ 64 → IsTail tail
    → option_field name most default (name ++ 32 ∷ (decimal n ++ tail)) ≡ Ok (n, skip_spaces tail)
option_field-next name most default n tail is low high below end =
    let rest = decimal n ++ tail in
    let cut : word_and_rest (name ++ 32 ∷ rest) ≡ (name, rest) = word_next name (32 ∷ rest) (no_space name is) refl ∙ ap (λ r. (name, r)) (behind_space rest (led_word (decimal n) tail (decimal_word n below))) in
    ap (λ (p : List ℕ × List ℕ). cond (bytes_eq p.0 name) (number_field 1 most p.1) (Ok (default, name ++ 32 ∷ rest))) cut
    ∙ ap (λ t. cond t (number_field 1 most rest) (Ok (default, name ++ 32 ∷ rest))) (bytes_same name) ∙ number_field-next 1 most n tail low high below end

-- ---- fields at the end of a line

pub number_field-last : (least most n : ℕ) → least ≤ n → n ≤ most → n < 2 ^ 64 → number_field least most (decimal n) ≡ Ok (n, [])
number_field-last least most n low high below = ap (number_field least most) (sym (append-nil (decimal n))) ∙ number_field-next least most n [] low high below tt

pub id_field-last : (id : List ℕ) → IsWord id → IsDocId id → id_field id ≡ Ok (id, [])
id_field-last id is fit = ap id_field (sym (append-nil id)) ∙ id_field-next id [] is tt fit

pub name_field-last : (name : List ℕ) → IsWord name → is_name name ≡ true → name_field name ≡ Ok (name, [])
name_field-last name is named = ap name_field (sym (append-nil name)) ∙ name_field-next name [] is tt named
