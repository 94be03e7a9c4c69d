-- The printed order and the sweep are read back.
use Rattle.std.proofs.Common.{◌≡◌, ℕ, ◌+◌, ◌^◌, ◌<◌, ◌≤◌, Bool, true, cond, not, List, [], ◌∷◌, ◌++◌, length, map, take, drop, Option, Some, None, Ok, Err, bytes_eq, decimal, codes, refl, sym, ap, ◌∙◌, arith, append_assoc, append-nil, length-append, take_at}
use Rattle.std.specs.List.{All, AllByRecursion, position_or_len}
use Rattle.std.proofs.lemmas.Bool.{ne_eqb, lt-ltb, le-ltb, and_from, not_from_false}
use Rattle.std.proofs.lemmas.List.Elements.{All-head, All-tail}
use Rattle.cbt_base.specs.Keyed.{at_key}
use Rattle.cbt_lex.proofs.ByRecursion.{all_weaker, all_behind, all_pass}
use Rattle.cbt_lex.proofs.DecimalsBack.{decimal_digits, decimal_word}
use Rattle.cbt_lex.proofs.NamesBack.{name_bytes, name_word}
use Rattle.cbt_lex.specs.Decimals.{is_digit}
use Rattle.cbt_lex.specs.Lines.{skip_spaces}
use Rattle.cbt_lex.specs.Names.{is_name, is_name_byte}
use Rattle.cbt_lex.specs.Words.{words_of}
use Rattle.cbt_lex.proofs.Onward.{words_onward}
use Rattle.cbt_lex.proofs.Pieces.{drop_past, is_end, Lacking, place_behind, place_past}
use Rattle.cbt_lex.proofs.Spaces.{skip_led}
use Rattle.cbt_lex.proofs.WordsBack.{IsWord, no_space, IsTail, word_next, led_word}
use Rattle.cbt_model.specs.Keys.{doc_cmp}
use Rattle.cbt_model.specs.declared.events.Item.{Item}
use Rattle.cbt_model.specs.declared.events.Item.TheVariants as item
use Rattle.cbt_script.specs.declared.cause.Cause.TheVariants.{Form, Name}
use Rattle.cbt_script.specs.declared.course.Course.{Course}
use Rattle.cbt_script.specs.declared.script.Script.{Script}
use Rattle.cbt_script.specs.Causes.{◌>>=◌, require}
use Rattle.cbt_script.specs.Course.{Actors, known, known_actor, parted_by, named_actor, all_calls_of, some_calls_of, ahead_of, counted_calls, calls_of, led_by_plus, item_of, add_item, add_items, some_items, add_order}
use Rattle.cbt_script.specs.Fields.{number_in}
use Rattle.cbt_script.specs.Printed.{name_of, item_text, items_text}
use Rattle.cbt_script.specs.Rules.{IsActorName, IsActor, IsItem}
use Rattle.cbt_script.specs.Settings.{max_ms}
use Rattle.cbt_script.proofs.FieldsBack.{bytes_other, number_in-decimal}

-- ---- words in two parts

abbrev Parts : Type 0
Parts = Option (List ℕ × List ℕ)

abbrev parted_at : Bool → ℕ → List ℕ → Parts
parted_at t n text = cond t (Some (take n text, drop (n + 1) text)) None

parted_some : (b : ℕ) (word rest : List ℕ) → Lacking b word → parted_by b (word ++ b ∷ rest) ≡ Some (word, rest)
parted_some b word rest none =
    let text = word ++ b ∷ rest in
    let n = position_or_len (is_end b) text in
    let at : n ≡ length word = place_behind b word rest none in
    ap (λ t. parted_at t n text) (lt-ltb n (length text) (omega (arith, length-append word (b ∷ rest))))
    ∙ ap (λ w. Some (w, drop (n + 1) text)) (take_at word (b ∷ rest) n (sym at)) ∙ ap (λ r. Some (word, r)) (drop_past word b rest n at)

parted_none : (b : ℕ) (word : List ℕ) → Lacking b word → parted_by b word ≡ None
parted_none b word none =
    let n = position_or_len (is_end b) word in
    let at : n ≡ length word = place_past b word none in
    ap (λ t. parted_at t n word) (le-ltb n (length word) (omega arith))

name_no_plus : (b : ℕ) → is_name_byte b ≡ true → b ≡ 43 → ⊥
name_no_plus b is same = let e : is_name_byte 43 ≡ true = ap is_name_byte (sym same) ∙ is in cc

name_no_star : (b : ℕ) → is_name_byte b ≡ true → b ≡ 42 → ⊥
name_no_star b is same = let e : is_name_byte 42 ≡ true = ap is_name_byte (sym same) ∙ is in cc

digit_no_plus : (b : ℕ) → is_digit b ≡ true → b ≡ 43 → ⊥
digit_no_plus b is same = let e : is_digit 43 ≡ true = ap is_digit (sym same) ∙ is in cc

module _ (s : Script) (actors : Actors) (names : (n : ℕ) → IsActor s n → IsActorName (name_of s n)) (numbers : (n : ℕ) → IsActor s n → at_key doc_cmp actors (name_of s n) ≡ Some n) where
  -- ---- one item

  named_back : (n : ℕ) → IsActor s n → named_actor actors (name_of s n) ≡ Ok n
  unfolding named_actor
  named_back n is =
      let name = name_of s n in
      let named = names n is in
      ap (λ t. require t Name >>= (λ _. known_actor actors name)) (and_from (is_name name) (not (bytes_eq name (codes "sweep"))) named.0 (not_from_false (bytes_eq name (codes "sweep")) (bytes_other name (codes "sweep") named.1)))
      ∙ ap known (numbers n is)

  calls_back : (n c : ℕ) → IsActor s n → 1 ≤ c → c ≤ 1000000 → item_of actors (name_of s n ++ 42 ∷ decimal c) ≡ Ok (item.Calls n c)
  unfolding some_calls_of
  calls_back n c is least high =
      let name = name_of s n in
      let fits : c < 2 ^ 64 = omega arith in
      let bytes = all_pass is_name_byte name (name_bytes name (names n is).0) in
      let word = name ++ 42 ∷ decimal c in
      let no_plus : Lacking 43 word = all_behind (λ (x : ℕ). x ≡ 43 → ⊥) name (42 ∷ decimal c) (all_weaker name_no_plus name bytes) ((λ same. omega arith), all_weaker digit_no_plus (decimal c) (decimal_digits c fits)) in
      let some : 0 < length (decimal c) = (decimal_word c fits).some in
      ap (λ o. led_by_plus o (calls_of actors word)) (parted_none 43 word no_plus)
      ∙ ap (counted_calls actors word) (parted_some 42 name (decimal c) (all_weaker name_no_star name bytes))
      ∙ ap (λ t. cond t (all_calls_of actors name) (some_calls_of actors name (decimal c))) (ne_eqb (length (decimal c)) 0 (λ e. omega arith))
      ∙ ap (λ r. r >>= (λ a. number_in 1 1000000 (decimal c) >>= (λ m. Ok (item.Calls a m)))) (named_back n is)
      ∙ ap (λ r. r >>= (λ m. Ok (item.Calls n m))) (number_in-decimal 1 1000000 c least high fits)

  all_back : (n : ℕ) → IsActor s n → item_of actors (name_of s n ++ 42 ∷ []) ≡ Ok (item.All n)
  unfolding all_calls_of
  all_back n is =
      let name = name_of s n in
      let bytes = all_pass is_name_byte name (name_bytes name (names n is).0) in
      let word = name ++ 42 ∷ [] in
      let no_plus : Lacking 43 word = all_behind (λ (x : ℕ). x ≡ 43 → ⊥) name (42 ∷ []) (all_weaker name_no_plus name bytes) ((λ same. omega arith), tt) in
      ap (λ o. led_by_plus o (calls_of actors word)) (parted_none 43 word no_plus)
      ∙ ap (counted_calls actors word) (parted_some 42 name [] (all_weaker name_no_star name bytes))
      ∙ ap (λ r. r >>= (λ a. Ok (item.All a))) (named_back n is)

  ahead_back : (ms : ℕ) → ms ≤ max_ms → item_of actors (43 ∷ decimal ms) ≡ Ok (item.Ahead ms)
  unfolding ahead_of
  ahead_back ms high =
      let fits : ms < 2 ^ 64 = omega arith in
      ap (λ o. led_by_plus o (calls_of actors (43 ∷ decimal ms))) (parted_some 43 [] (decimal ms) tt)
      ∙ ap (λ r. r >>= (λ n. Ok (item.Ahead n))) (number_in-decimal 0 max_ms ms (omega arith) high fits)

  item_back : (i : Item) → IsItem s i → item_of actors (item_text s i) ≡ Ok i
  item_back (item.Calls n c) is = ap (item_of actors) (append_assoc (name_of s n) (42 ∷ []) (decimal c)) ∙ calls_back n c is.0 is.1.0 is.1.1
  item_back (item.All n) is = all_back n is
  item_back (item.Ahead ms) is = ahead_back ms is

  -- ---- all items

  word_behind : (a b : List ℕ) → IsWord a → AllByRecursion (λ x. 32 < x) b → IsWord (a ++ b)
  word_behind a b is solid = record { some = (let some : 0 < length a = is.some in omega (arith, length-append a b)); solid = all_behind (λ x. 32 < x) a b is.solid solid }

  pub item_word : (i : Item) → IsItem s i → IsWord (item_text s i)
  item_word (item.Calls n c) is =
      let high : c ≤ 1000000 = is.1.1 in
      let fits : c < 2 ^ 64 = omega arith in
      let name = name_word (name_of s n) (names n is.0).0 in
      word_behind (name_of s n ++ 42 ∷ []) (decimal c) (word_behind (name_of s n) (42 ∷ []) name (omega arith, tt)) (decimal_word c fits).solid
  item_word (item.All n) is = word_behind (name_of s n) (42 ∷ []) (name_word (name_of s n) (names n is).0) (omega arith, tt)
  item_word (item.Ahead ms) is =
      let high : ms ≤ max_ms = is in
      let fits : ms < 2 ^ 64 = omega arith in
      record { some = omega arith; solid = (omega arith, (decimal_word ms fits).solid) }

  tail_of : (items : List Item) → IsTail (items_text s items)
  tail_of [] = tt
  tail_of (i ∷ items) = refl

  items_words : (items : List Item) → All (IsItem s) items → words_of (skip_spaces (items_text s items)) ≡ map (item_text s) items
  items_words [] all = refl
  items_words (i ∷ items) all =
      let word = item_text s i in
      let tail = items_text s items in
      let text = word ++ tail in
      let is = item_word i (All-head (IsItem s) i items all) in
      let led = skip_led text (led_word word tail is) in
      let some : 0 < length text = (let first : 0 < length word = is.some in omega (arith, length-append word tail)) in
      ap words_of led ∙ words_onward text some led
      ∙ ap (λ (p : List ℕ × List ℕ). p.0 ∷ words_of p.1) (word_next word tail (no_space word is) (tail_of items))
      ∙ ap (λ ws. word ∷ ws) (items_words items (All-tail (IsItem s) i items all))

  item_added : (c : Course) (i : Item) → IsItem s i → add_item actors c (item_text s i) ≡ Ok (record c { order = c.order ++ i ∷ [] })
  unfolding add_item
  item_added c i is = ap (λ r. r >>= (λ x. Ok (record c { order = c.order ++ x ∷ [] }))) (item_back i is)

  items_added : (c : Course) (items : List Item) → All (IsItem s) items → add_items actors c (map (item_text s) items) ≡ Ok (record c { order = c.order ++ items })
  items_added c [] all = ap (λ x. Ok (record c { order = x })) (sym (append-nil c.order))
  items_added c (i ∷ items) all =
      ap (λ r. r >>= (λ d. add_items actors d (map (item_text s) items))) (item_added c i (All-head (IsItem s) i items all))
      ∙ items_added (record c { order = c.order ++ i ∷ [] }) items (All-tail (IsItem s) i items all)
      ∙ ap (λ x. Ok (record c { order = x })) (append_assoc c.order (i ∷ []) items)

  -- the items of an order line, the first without the space in front of it
  pub order_back : (c : Course) (i : Item) (items : List Item) → All (IsItem s) (i ∷ items) → add_order actors c (item_text s i ++ items_text s items) ≡ Ok (record c { order = c.order ++ i ∷ items })
  order_back c i items all =
      let text = item_text s i ++ items_text s items in
      let is = item_word i (All-head (IsItem s) i items all) in
      let led = skip_led text (led_word (item_text s i) (items_text s items) is) in
      let some : 0 < length text = (let first : 0 < length (item_text s i) = is.some in omega (arith, length-append (item_text s i) (items_text s items))) in
      ap (some_items actors c) led ∙ ap (λ t. cond t (Err Form) (add_items actors c (words_of text))) (ne_eqb (length text) 0 (λ e. omega arith))
      ∙ ap (add_items actors c) (ap words_of (sym led) ∙ items_words (i ∷ items) all) ∙ items_added c (i ∷ items) all
