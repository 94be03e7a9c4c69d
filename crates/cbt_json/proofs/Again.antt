-- The text of a JSON value reads as it.
use Rattle.std.proofs.Common.{◌≡◌, ℕ, pos, negsuc, suc, ◌<◌, ◌≤◌, ◌^◌, max, List, [], true, Some, option_map, option_and_then, Ordering, Less, Greater, refl, sym, ap, ap₂, ◌∙◌, subst, arith, append-nil, ltb}
use Rattle.std.proofs.lemmas.Bool.{and_parts, ltb-true}
use Rattle.std.proofs.lemmas.Bool.Decides.{nat_tests}
use Rattle.std.proofs.lemmas.Cmp.{nat_list_cmp_total}
use Rattle.std.specs.Ordering.{nat_cmp, match_ordering, ordering_reverse, is_lt}
use Rattle.std.specs.Cmp.Lexicographic.{slice_cmp}
use Rattle.json.specs.Lex.{tokens}
use Rattle.json.specs.Print.{IsNumber}
use Rattle.json.specs.Json as json
use Rattle.json.specs.Tree as tree
use Rattle.json.proofs.Printed.Tokens.{tokens-print}
use Rattle.json.proofs.Printed.Trees.{value-json_tokens, ArePrintable-json_tokens}
use Rattle.serde_json.specs.Data.{Num, unsigned, negative, float, Data, null, boolean, number, string, array, object, Items, no_items, item, Members, no_members, member, put, depth, items_depth, members_depth}
use Rattle.serde_json.specs.Read.{number_of, of_json, of_items, of_members, max_depth, read}
use Rattle.serde_json.specs.Written.{number_text, outline, items_outline, members_outline, compact_text}
use Rattle.serde_json.proofs.Numbers.{number_of-decimal, number_of-negative}
use Rattle.serde_json.proofs.Texts.{print-outline}
use Rattle.cbt_json.proofs.Proper.{less}
use Rattle.cbt_json.proofs.Numbers.{IsNumber-decimal_wide, IsNumber-negative_wide}
use Rattle.cbt_json.specs.Rules.{is_whole, rises_from, names_rise, is_regular, items_are_regular, members_are_regular}

-- ---- depth

mutual
  depth-outline : (d : Data) → tree.depth (outline d) ≡ depth d
  depth-outline null = refl
  depth-outline (boolean b) = refl
  depth-outline (number n) = refl
  depth-outline (string s) = refl
  depth-outline (array ds) = ap suc (depth-items_outline ds)
  depth-outline (object ms) = ap suc (depth-members_outline ms)

  depth-items_outline : (ds : Items) → tree.items_depth (items_outline ds) ≡ items_depth ds
  depth-items_outline no_items = refl
  depth-items_outline (item d ds) = ap₂ max (depth-outline d) (depth-items_outline ds)

  depth-members_outline : (ms : Members) → tree.members_depth (members_outline ms) ≡ members_depth ms
  depth-members_outline no_members = refl
  depth-members_outline (member k d ms) = ap₂ max (depth-outline d) (depth-members_outline ms)

-- ---- numbers

number_read : (n : Num) → is_whole n ≡ true → number_of (number_text n) ≡ Some n
number_read (unsigned n) h = number_of-decimal n (grind (arith, nat_tests))
number_read (negative (pos n)) h = absurd (cc)
number_read (negative (negsuc n)) h = number_of-negative n (grind (arith, nat_tests))
number_read (float x) h = absurd (cc)

number_written : (n : Num) → is_whole n ≡ true → IsNumber (number_text n)
number_written (unsigned n) h = IsNumber-decimal_wide n (omega (arith, ltb-true n (2 ^ 64) h))
number_written (negative (pos n)) h = absurd (cc)
number_written (negative (negsuc n)) h = IsNumber-negative_wide (suc n) (omega (arith, ltb-true n (2 ^ 63) h))
number_written (float x) h = absurd (cc)

mutual
  numbers-outline : (d : Data) → is_regular d ≡ true → tree.HasNumbers (outline d)
  numbers-outline null h = tt
  numbers-outline (boolean b) h = tt
  numbers-outline (number n) h = number_written n h
  numbers-outline (string s) h = tt
  numbers-outline (array ds) h = numbers-items_outline ds h
  numbers-outline (object ms) h = numbers-members_outline ms (and_parts (names_rise ms) (members_are_regular ms) h).1

  numbers-items_outline : (ds : Items) → items_are_regular ds ≡ true → tree.ItemsHaveNumbers (items_outline ds)
  numbers-items_outline no_items h = tt
  numbers-items_outline (item d ds) h = let p = and_parts (is_regular d) (items_are_regular ds) h in (numbers-outline d p.0, numbers-items_outline ds p.1)

  numbers-members_outline : (ms : Members) → members_are_regular ms ≡ true → tree.MembersHaveNumbers (members_outline ms)
  numbers-members_outline no_members h = tt
  numbers-members_outline (member k d ms) h = let p = and_parts (is_regular d) (members_are_regular ms) h in (numbers-outline d p.0, numbers-members_outline ms p.1)

-- ---- members, one after another

-- the first members, and then the others
abbrev joined : Members → Members → Members
joined no_members ms = ms
joined (member k d first) ms = member k d (joined first ms)

joined-nil : (first : Members) → joined first no_members ≡ first
joined-nil no_members = refl
joined-nil (member k d first) = ap (member k d) (joined-nil first)

joined-snoc : (first : Members) (k : List ℕ) (d : Data) (ms : Members) → joined (joined first (member k d no_members)) ms ≡ joined first (member k d ms)
joined-snoc no_members k d ms = refl
joined-snoc (member l e first) k d ms = ap (member l e) (joined-snoc first k d ms)

-- a name stands below each one after it
below : (l : List ℕ) (e : Data) (first : Members) (k : List ℕ) (d : Data) (ms : Members) → names_rise (member l e (joined first (member k d ms))) ≡ true → slice_cmp nat_cmp l k ≡ Less
below l e no_members k d ms rises = less _ (and_parts (is_lt (slice_cmp nat_cmp l k)) (names_rise (member k d ms)) rises).0
below l e (member m f first) k d ms rises =
    let parts = and_parts (is_lt (slice_cmp nat_cmp l m)) (names_rise (member m f (joined first (member k d ms)))) rises in
    nat_list_cmp_total.trans l m k (less _ parts.0) (below m f first k d ms parts.1)

put_last : (first : Members) (k : List ℕ) (d : Data) (ms : Members) → names_rise (joined first (member k d ms)) ≡ true → put k d first ≡ joined first (member k d no_members)
put_last no_members k d ms rises = refl
put_last (member l e first) k d ms rises =
    let above : slice_cmp nat_cmp k l ≡ Greater = nat_list_cmp_total.antisymm k l ∙ ap ordering_reverse (below l e first k d ms rises) in
    let parts = and_parts (rises_from l (joined first (member k d ms))) (names_rise (joined first (member k d ms))) rises in
    ap (λ o. match_ordering o (member k d (member l e first)) (member l d first) (member l e (put k d first))) above ∙ ap (member l e) (put_last first k d ms parts.1)

mutual
  of_json-outline : (d : Data) → is_regular d ≡ true → of_json (outline d) ≡ Some d
  of_json-outline null h = refl
  of_json-outline (boolean b) h = refl
  of_json-outline (number n) h = ap (option_map number) (number_read n h)
  of_json-outline (string s) h = refl
  of_json-outline (array ds) h = ap (option_map array) (of_items-outline ds h)
  of_json-outline (object ms) h =
      let parts = and_parts (names_rise ms) (members_are_regular ms) h in
      ap (option_map object) (of_members-outline ms no_members parts.0 parts.1)

  of_items-outline : (ds : Items) → items_are_regular ds ≡ true → of_items (items_outline ds) ≡ Some ds
  of_items-outline no_items h = refl
  of_items-outline (item d ds) h =
      let parts = and_parts (is_regular d) (items_are_regular ds) h in
      ap (option_and_then (λ x. option_map (item x) (of_items (items_outline ds)))) (of_json-outline d parts.0) ∙ ap (option_map (item d)) (of_items-outline ds parts.1)

  of_members-outline : (ms first : Members) → names_rise (joined first ms) ≡ true → members_are_regular ms ≡ true → of_members (members_outline ms) first ≡ Some (joined first ms)
  of_members-outline no_members first rises h = ap Some (sym (joined-nil first))
  of_members-outline (member k d ms) first rises h =
      let parts = and_parts (is_regular d) (members_are_regular ms) h in
      let next = joined first (member k d no_members) in
      let whole = joined-snoc first k d ms in
      let rest = of_members-outline ms next (ap names_rise whole ∙ rises) parts.1 in
      ap (option_and_then (λ x. of_members (members_outline ms) (put k x first))) (of_json-outline d parts.0)
      ∙ ap (of_members (members_outline ms)) (put_last first k d ms rises) ∙ rest ∙ ap Some whole

-- ---- the whole text

pub read-compact_text : (d : Data) → depth d ≤ max_depth → is_regular d ≡ true → read (compact_text d) ≡ Some d
read-compact_text d within regular =
    let j = outline d in
    let ts = tree.json_tokens j in
    let lexed : tokens (compact_text d) ≡ ts = ap tokens (sym (print-outline d)) ∙ tokens-print ts (ArePrintable-json_tokens j (numbers-outline d regular)) in
    let parsed : json.value max_depth ts ≡ Some (j, []) =
    ap (json.value max_depth) (sym (append-nil ts)) ∙ value-json_tokens j max_depth [] (subst (λ n. n ≤ max_depth) (sym (depth-outline d)) within) in
    ap (λ o. option_and_then of_json (option_and_then (λ p. json.if_last p.0 p.1) o)) (ap (json.value max_depth) lexed ∙ parsed) ∙ of_json-outline d regular
