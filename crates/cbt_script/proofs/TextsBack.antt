-- How the canonical texts of JSON values begin and end, and that they stand in one line.
use Rattle.std.proofs.Common.{◌≡◌, ℕ, suc, pos, negsuc, ◌/◌, ◌%◌, ◌^◌, ◌<◌, ◌≤◌, Bool, true, false, cond, ltb, List, [], ◌∷◌, ◌++◌, refl, sym, ap, ◌∙◌, arith, codes}
use Rattle.std.specs.Char.{digit_char}
use Rattle.std.specs.List.{AllByRecursion}
use Rattle.std.proofs.lemmas.Bool.{and_parts, ltb-true}
use Rattle.std.proofs.lemmas.Bool.Decides.{nat_tests}
use Rattle.json.specs.Print.{escape_letter, escape_byte, escape, quoted}
use Rattle.serde_json.specs.Data.{Num, unsigned, negative, float, Data, null, boolean, number, string, array, object, Items, no_items, item, Members, no_members, member}
use Rattle.serde_json.specs.Written.{number_text, compact_text, items_text, members_text}
use Rattle.cbt_json.specs.declared.tree.Tree.{Tree}
use Rattle.cbt_json.specs.Rules.{is_whole, is_regular, items_are_regular, members_are_regular, names_rise, IsJson}
use Rattle.cbt_json.specs.Trees.{data_of, text_of}
use Rattle.cbt_lex.proofs.ByRecursion.{all_weaker, all_behind}
use Rattle.cbt_lex.proofs.DecimalsBack.{decimal_word}
use Rattle.cbt_lex.proofs.LinesBack.{Closes, closes_at, closes_behind, NoFeed, IsEdged, opened}
use Rattle.cbt_lex.proofs.WordsBack.{IsWord, word_edged}

abbrev above_control : ℕ → Type 0
above_control b = 32 ≤ b

-- no control byte
abbrev pub NoControl : List ℕ → Type 0
NoControl text = AllByRecursion above_control text

digit_above : (d : ℕ) → 32 ≤ digit_char d
digit_above d = grind (arith, nat_tests)

short_above : (x : ℕ) → ltb 0 (escape_letter x) ≡ true → 32 ≤ escape_letter x
short_above x some = grind (arith, nat_tests)

escaped_if : (t u : Bool) (x : ℕ) → ltb 0 (escape_letter x) ≡ t → ltb x 32 ≡ u
    → NoControl (cond t (92 ∷ escape_letter x ∷ []) (cond u (92 ∷ 117 ∷ 48 ∷ 48 ∷ digit_char (x / 16) ∷ digit_char (x % 16) ∷ []) (x ∷ [])))
escaped_if true u x is low = (omega arith, (short_above x is, tt))
escaped_if false true x is low = (omega arith, (omega arith, (omega arith, (omega arith, (digit_above (x / 16), (digit_above (x % 16), tt))))))
escaped_if false false x is low = (grind (arith, nat_tests), tt)

escape_control : (x : ℕ) → NoControl (escape_byte x)
unfolding escape_byte
escape_control x = escaped_if (ltb 0 (escape_letter x)) (ltb x 32) x refl refl

escapes_control : (s : List ℕ) → NoControl (escape s)
escapes_control [] = tt
escapes_control (x ∷ xs) = all_behind above_control (escape_byte x) (escape xs) (escape_control x) (escapes_control xs)

pub quoted_control : (s : List ℕ) → NoControl (quoted s)
quoted_control s = (omega arith, all_behind above_control (escape s) (34 ∷ []) (escapes_control s) (omega arith, tt))

pub quoted_closes : (s : List ℕ) → Closes (quoted s)
quoted_closes s = closes_at (34 ∷ escape s) 34 (omega arith)

-- a number's text is a word
number_word : (n : Num) → is_whole n ≡ true → IsWord (number_text n)
number_word (unsigned n) whole = decimal_word n (ltb-true n (2 ^ 64) whole)
number_word (negative (pos n)) whole = absurd (cc)
number_word (negative (negsuc n)) whole =
    let is = decimal_word (suc n) (let low : n < 2 ^ 63 = ltb-true n (2 ^ 63) whole in omega arith) in
    record { some = omega arith; solid = (omega arith, is.solid) }
number_word (float x) whole = absurd (cc)

number_control : (n : Num) → is_whole n ≡ true → NoControl (number_text n)
number_control n whole = all_weaker (λ b above. omega arith) (number_text n) (number_word n whole).solid

comma_control : (later : Bool) (text : List ℕ) → NoControl text → NoControl (cond later (44 ∷ []) [] ++ text)
comma_control true text fine = (omega arith, fine)
comma_control false text fine = fine

mutual
  data_control : (d : Data) → is_regular d ≡ true → NoControl (compact_text d)
  data_control null regular = (omega arith, (omega arith, (omega arith, (omega arith, tt))))
  data_control (boolean true) regular = (omega arith, (omega arith, (omega arith, (omega arith, tt))))
  data_control (boolean false) regular = (omega arith, (omega arith, (omega arith, (omega arith, (omega arith, tt)))))
  data_control (number n) regular = number_control n regular
  data_control (string s) regular = quoted_control s
  data_control (array ds) regular = (omega arith, items_control false ds regular)
  data_control (object ms) regular = (omega arith, members_control false ms (and_parts (names_rise ms) (members_are_regular ms) regular).1)

  items_control : (later : Bool) (ds : Items) → items_are_regular ds ≡ true → NoControl (items_text later ds)
  items_control later no_items regular = (omega arith, tt)
  items_control later (item d ds) regular =
      let p = and_parts (is_regular d) (items_are_regular ds) regular in
      comma_control later (compact_text d ++ items_text true ds) (all_behind above_control (compact_text d) (items_text true ds) (data_control d p.0) (items_control true ds p.1))

  members_control : (later : Bool) (ms : Members) → members_are_regular ms ≡ true → NoControl (members_text later ms)
  members_control later no_members regular = (omega arith, tt)
  members_control later (member k d ms) regular =
      let p = and_parts (is_regular d) (members_are_regular ms) regular in
      comma_control later (quoted k ++ 58 ∷ (compact_text d ++ members_text true ms))
      (all_behind above_control (quoted k) (58 ∷ (compact_text d ++ members_text true ms)) (quoted_control k)
      (omega arith, all_behind above_control (compact_text d) (members_text true ms) (data_control d p.0) (members_control true ms p.1)))

items_close : (later : Bool) (ds : Items) → Closes (items_text later ds)
items_close later no_items = closes_at [] 93 (omega arith)
items_close later (item d ds) = closes_behind (cond later (44 ∷ []) []) (compact_text d ++ items_text true ds) (closes_behind (compact_text d) (items_text true ds) (items_close true ds))

members_close : (later : Bool) (ms : Members) → Closes (members_text later ms)
members_close later no_members = closes_at [] 125 (omega arith)
members_close later (member k d ms) =
    closes_behind (cond later (44 ∷ []) []) (quoted k ++ 58 ∷ (compact_text d ++ members_text true ms))
    (closes_behind (quoted k) (58 ∷ (compact_text d ++ members_text true ms)) (closes_behind (58 ∷ []) (compact_text d ++ members_text true ms)
    (closes_behind (compact_text d) (members_text true ms) (members_close true ms))))

pub data_edged : (d : Data) → (whole : (n : Num) → d ≡ number n → is_whole n ≡ true) → IsEdged (compact_text d)
data_edged null whole = opened 110 (codes "ull") (omega arith) (closes_at (codes "ul") 108 (omega arith))
data_edged (boolean true) whole = opened 116 (codes "rue") (omega arith) (closes_at (codes "ru") 101 (omega arith))
data_edged (boolean false) whole = opened 102 (codes "alse") (omega arith) (closes_at (codes "als") 101 (omega arith))
data_edged (number n) whole = word_edged (number_text n) (number_word n (whole n refl))
data_edged (string s) whole = record { some = omega arith; led = λ same. omega arith; closes = quoted_closes s }
data_edged (array ds) whole = opened 91 (items_text false ds) (omega arith) (items_close false ds)
data_edged (object ms) whole = opened 123 (members_text false ms) (omega arith) (members_close false ms)

whole_number : (d : Data) (n : Num) → is_regular d ≡ true → d ≡ number n → is_whole n ≡ true
whole_number d n regular is = ap is_regular (sym is) ∙ regular

pub json_edged : (tree : Tree) → IsJson tree → IsEdged (text_of tree)
json_edged tree is = data_edged (data_of tree) (λ n same. whole_number (data_of tree) n is.1 same)

pub json_one_line : (tree : Tree) → IsJson tree → NoFeed (text_of tree)
json_one_line tree is = all_weaker (λ b above same. omega arith) (text_of tree) (data_control (data_of tree) is.1)
