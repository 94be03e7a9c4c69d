-- The fields of a written line, read one after another.
use Rattle.std.proofs.Common.{◌≡◌, ℕ, ◌+◌, ◌^◌, ◌<◌, ◌≤◌, true, cond, nat_lt, List, ◌∷◌, ◌++◌, length, take, drop, Option, Some, None, is_none, decimal, bytes_eq, refl, sym, ap, ◌∙◌, arith, take_at, length-append}
use Rattle.std.specs.List.{position_or_len}
use Rattle.std.proofs.lemmas.Bool.{lt-ltb, le-ltb, le-leb}
use Rattle.std.proofs.lemmas.Slice.Eq.{bytes_eq-Decides}
use Rattle.cbt_base.specs.Ids.{IsDocId, id_text}
use Rattle.cbt_json.specs.declared.tree.Tree.{Tree}
use Rattle.cbt_json.specs.Rules.{IsJson}
use Rattle.cbt_json.specs.Trees.{text_of}
use Rattle.cbt_json.proofs.Read.{json_of-text_of}
use Rattle.cbt_lex.proofs.DecimalsBack.{number_of-decimal, decimal_word}
use Rattle.cbt_lex.proofs.Pieces.{is_end, drop_past, place_behind, place_past}
use Rattle.cbt_lex.proofs.WordsBack.{NoSpace, no_space}
use Rattle.cbt_model.specs.Bodies.{body_fits_of}
use Rattle.cbt_history.specs.Fields.{word_field, up_to, number_in, number_field, id_in, id_field, doc_in, doc_field, with_canonical_text, json_in, body_in}
use Rattle.cbt_history.specs.Readings.{◌>>=◌, require}
use Rattle.cbt_history.proofs.Names.{id_found}

pub bytes_same : (word : List ℕ) → bytes_eq word word ≡ true
bytes_same word = (bytes_eq-Decides word word).1 refl

-- ---- words

abbrev Parts : Type 0
Parts = Option (List ℕ × List ℕ)

parted_at : (n : ℕ) (word rest : List ℕ) → n ≡ length word
    → cond {A = Parts} (nat_lt n (length (word ++ 32 ∷ rest))) (Some (take n (word ++ 32 ∷ rest), drop (n + 1) (word ++ 32 ∷ rest))) None ≡ Some (word, rest)
parted_at n word rest is =
    let text = word ++ 32 ∷ rest in
    let within : nat_lt n (length text) ≡ true = lt-ltb n (length text) (omega (arith, length-append word (32 ∷ rest))) in
    ap (λ t. cond {A = Parts} t (Some (take n text, drop (n + 1) text)) None) within
    ∙ ap (λ w. Some (w, drop (n + 1) text)) (take_at word (32 ∷ rest) n (sym is)) ∙ ap (λ r. Some (word, r)) (drop_past word 32 rest n is)

pub word_next : (word rest : List ℕ) → NoSpace word → word_field (word ++ 32 ∷ rest) ≡ Some (word, rest)
word_next word rest none = parted_at (position_or_len (is_end 32) (word ++ 32 ∷ rest)) word rest (place_behind 32 word rest none)

pub word_last : (text : List ℕ) → NoSpace text → word_field text ≡ None
word_last text none =
    let n = position_or_len (is_end 32) text in
    let place : n ≡ length text = place_past 32 text none in
    ap (λ t. cond {A = Parts} t (Some (take n text, drop (n + 1) text)) None) (le-ltb n (length text) (omega arith))

-- ---- numbers

pub number_back : (most n : ℕ) → n ≤ most → n < 2 ^ 64 → number_in most (decimal n) ≡ Some n
number_back most n low below = ap (up_to most) (number_of-decimal n below) ∙ ap (λ t. cond t (Some n) None) (le-leb n most low)

pub number_next : (most n : ℕ) (rest : List ℕ) → n ≤ most → n < 2 ^ 64 → number_field most (decimal n ++ 32 ∷ rest) ≡ Some (n, rest)
unfolding number_field
number_next most n rest low below =
    ap (λ o. o >>= (λ w. number_in most w.0 >>= (λ m. Some (m, w.1)))) (word_next (decimal n) rest (no_space (decimal n) (decimal_word n below)))
    ∙ ap (λ o. o >>= (λ m. Some (m, rest))) (number_back most n low below)

-- ---- names

pub id_next : (n : ℕ) (rest : List ℕ) → n < 2 ^ 128 → NoSpace (id_text n) → id_field (id_text n ++ 32 ∷ rest) ≡ Some (n, rest)
unfolding id_field
id_next n rest fits none =
    ap (λ o. o >>= (λ w. id_in w.0 >>= (λ m. Some (m, w.1)))) (word_next (id_text n) rest none)
    ∙ ap (λ o. o >>= (λ m. Some (m, rest))) (id_found (id_text n) n fits refl)

pub doc_back : (doc : List ℕ) → IsDocId doc → doc_in doc ≡ Some doc
doc_back doc is = ap (λ o. cond (is_none o) (Some doc) None) is

pub doc_next : (doc rest : List ℕ) → IsDocId doc → NoSpace doc → doc_field (doc ++ 32 ∷ rest) ≡ Some (doc, rest)
unfolding doc_field
doc_next doc rest is none =
    ap (λ o. o >>= (λ w. doc_in w.0 >>= (λ d. Some (d, w.1)))) (word_next doc rest none)
    ∙ ap (λ o. o >>= (λ d. Some (d, rest))) (doc_back doc is)

-- ---- JSON

pub json_back : (tree : Tree) → IsJson tree → json_in (text_of tree) ≡ Some tree
json_back tree is =
    ap (with_canonical_text (text_of tree)) (json_of-text_of tree is) ∙ ap (λ t. cond t (Some tree) None) (bytes_same (text_of tree))

pub body_back : (tree : Tree) → IsJson tree → body_fits_of tree ≡ true → body_in (text_of tree) ≡ Some tree
unfolding body_in
body_back tree is fits =
    ap (λ o. o >>= (λ body. require (body_fits_of body) >>= (λ _. Some body))) (json_back tree is)
    ∙ ap (λ t. require t >>= (λ _. Some tree)) fits
