-- What is read and holds no float keeps the rules: its whole numbers are in the range, and names rise.
use Rattle.std.proofs.Common.{◌≡◌, ℕ, zero, suc, ◌^◌, List, Bool, true, false, ◌&&◌, ◌||◌, Option, Some, None, option_map, option_and_then, Ordering, Less, Equal, Greater, refl, ap, ◌∙◌, subst, arith, drop, ltb, leb, cond, ◌==◌}
use Rattle.std.proofs.lemmas.Bool.{and_parts, and_from, or_parts}
use Rattle.std.proofs.lemmas.Bool.Decides.{nat_tests}
use Rattle.std.proofs.lemmas.Cmp.{nat_list_cmp_total}
use Rattle.std.specs.Prelude.{⊤, slice_index}
use Rattle.std.specs.Ordering.{nat_cmp, match_ordering, ordering_reverse, is_lt}
use Rattle.std.specs.Cmp.Lexicographic.{slice_cmp}
use Rattle.std.specs.Float.{binary64, float_is_finite}
use Rattle.fast_float.specs.Text.{Parts, scan, digits_of, nearest, with_sign, minus}
use Rattle.json.specs.Json as json
use Rattle.json.specs.Lex.{tokens}
use Rattle.serde_json.specs.Data.{Num, unsigned, negative, float, Data, number, array, object, Items, item, Members, no_members, member, put}
use Rattle.serde_json.specs.Find.{is_float}
use Rattle.serde_json.specs.Read.{is_integer, float_of, number_from, number_of, of_json, of_items, of_members, max_depth, read}
use Rattle.serde_json.specs.Written.{has_float, items_have_float, members_have_float}
use Rattle.cbt_json.specs.Rules.{is_whole, rises_from, names_rise, is_regular, items_are_regular, members_are_regular}

abbrev Holds : {A : Type 0} → (A → Type 0) → Option A → Type 0
Holds P None = ⊤
Holds P (Some a) = P a

Holds-map : {A B : Type 0} (P : A → Type 0) (Q : B → Type 0) (h : A → B) → ((a : A) → P a → Q (h a)) → (o : Option A) → Holds P o → Holds Q (option_map h o)
Holds-map P Q h k None x = tt
Holds-map P Q h k (Some a) x = k a x

Holds-and_then : {A B : Type 0} (P : A → Type 0) (Q : B → Type 0) (h : A → Option B) → ((a : A) → P a → Holds Q (h a)) → (o : Option A) → Holds P o → Holds Q (option_and_then h o)
Holds-and_then P Q h k None x = tt
Holds-and_then P Q h k (Some a) x = k a x

-- ---- numbers

abbrev ProperNum : Num → Type 0
ProperNum n = is_float n ≡ false → is_whole n ≡ true

float_if : (finite : Bool) (n : Num) → is_float n ≡ true → Holds ProperNum (cond finite (Some n) None)
float_if true n f = λ e. absurd (cc)
float_if false n f = tt

proper-float_of : (sign : Bool) (p : Parts) → Holds ProperNum (float_of sign p)
proper-float_of sign p = float_if (float_is_finite (nearest binary64 sign p)) (float (nearest binary64 sign p)) refl

either_number : (test : Bool) (n : Num) (o : Option Num) → (test ≡ true → ProperNum n) → Holds ProperNum o → Holds ProperNum (cond test (Some n) o)
either_number true n o here there = here refl
either_number false n o here there = there

below_zero : (k : ℕ) → ltb 0 k ≡ true → leb k (2 ^ 63) ≡ true → is_whole (negative (with_sign true k)) ≡ true
below_zero zero some small = absurd (cc)
below_zero (suc k) some small = grind (arith, nat_tests)

proper-number_from : (sign : Bool) (p : Parts) → Holds ProperNum (number_from sign p)
proper-number_from false p = either_number (is_integer p && ltb (digits_of p) (2 ^ 64)) (unsigned (digits_of p)) (float_of false p) (λ test e. (and_parts (is_integer p) _ test).1) (proper-float_of false p)
proper-number_from true p =
    either_number (is_integer p && ltb 0 (digits_of p) && leb (digits_of p) (2 ^ 63)) (negative (with_sign true (digits_of p))) (float_of true p) (λ test e. let parts = and_parts (is_integer p && ltb 0 (digits_of p)) _ test in below_zero (digits_of p) (and_parts (is_integer p) _ parts.0).1 parts.1) (proper-float_of true p)

either_sign : (test : Bool) (a b : Option Num) → Holds ProperNum a → Holds ProperNum b → Holds ProperNum (cond test a b)
either_sign true a b h k = h
either_sign false a b h k = k

proper-number_of : (s : List ℕ) → Holds ProperNum (number_of s)
unfolding number_of
proper-number_of s = either_sign (slice_index s 0 == minus) _ _ (proper-number_from true (scan (drop 1 s))) (proper-number_from false (scan s))

-- ---- values

abbrev Proper : Data → Type 0
Proper d = has_float d ≡ false → is_regular d ≡ true

abbrev ProperItems : Items → Type 0
ProperItems ds = items_have_float ds ≡ false → items_are_regular ds ≡ true

abbrev EachProper : Members → Type 0
EachProper no_members = ⊤
EachProper (member k d ms) = Proper d × EachProper ms

abbrev ProperMembers : Members → Type 0
ProperMembers ms = (names_rise ms ≡ true) × EachProper ms

each_regular : (ms : Members) → EachProper ms → members_have_float ms ≡ false → members_are_regular ms ≡ true
each_regular no_members h e = refl
each_regular (member k d ms) h e = let f = or_parts (has_float d) (members_have_float ms) e in and_from _ _ (h.0 f.0) (each_regular ms h.1 f.1)

each-match_ordering : (o : Ordering) (a b c : Members) → EachProper a → EachProper b → EachProper c → EachProper (match_ordering o a b c)
each-match_ordering Less a b c p q r = p
each-match_ordering Equal a b c p q r = q
each-match_ordering Greater a b c p q r = r

each-put : (k : List ℕ) (d : Data) (ms : Members) → Proper d → EachProper ms → EachProper (put k d ms)
each-put k d no_members p h = (p, tt)
each-put k d (member l e ms) p h = each-match_ordering _ (member k d (member l e ms)) (member l d ms) (member l e (put k d ms)) (p, h) (p, h.1) (h.0, each-put k d ms p h.1)

-- what a test of an order has told
pub less : (o : Ordering) → is_lt o ≡ true → o ≡ Less
less Less h = refl
less Equal h = absurd (cc)
less Greater h = absurd (cc)

rises_from-put_at : (o : Ordering) (name k l : List ℕ) (d e : Data) (ms all more : Members) → slice_cmp nat_cmp name k ≡ Less → is_lt (slice_cmp nat_cmp name l) ≡ true
    → rises_from name (match_ordering o (member k d all) (member l d ms) (member l e more)) ≡ true
rises_from-put_at Less name k l d e ms all more below rises = ap is_lt below
rises_from-put_at Equal name k l d e ms all more below rises = rises
rises_from-put_at Greater name k l d e ms all more below rises = rises

rises_from-put : (name k : List ℕ) (d : Data) (ms : Members) → slice_cmp nat_cmp name k ≡ Less → rises_from name ms ≡ true → rises_from name (put k d ms) ≡ true
rises_from-put name k d no_members below rises = ap is_lt below
rises_from-put name k d (member l e ms) below rises = rises_from-put_at (slice_cmp nat_cmp k l) name k l d e ms (member l e ms) (put k d ms) below rises

names_rise-put_at : (o : Ordering) (k l : List ℕ) (d e : Data) (ms : Members) → slice_cmp nat_cmp k l ≡ o → names_rise (member l e ms) ≡ true → names_rise (put k d ms) ≡ true
    → names_rise (match_ordering o (member k d (member l e ms)) (member l d ms) (member l e (put k d ms))) ≡ true
names_rise-put_at Less k l d e ms is rises later = and_from _ _ (ap is_lt is) rises
names_rise-put_at Equal k l d e ms is rises later = rises
names_rise-put_at Greater k l d e ms is rises later =
    let below : slice_cmp nat_cmp l k ≡ Less = nat_list_cmp_total.antisymm l k ∙ ap ordering_reverse is in
    and_from _ _ (rises_from-put l k d ms below (and_parts (rises_from l ms) (names_rise ms) rises).0) later

names_rise-put : (k : List ℕ) (d : Data) (ms : Members) → names_rise ms ≡ true → names_rise (put k d ms) ≡ true
names_rise-put k d no_members rises = refl
names_rise-put k d (member l e ms) rises = names_rise-put_at (slice_cmp nat_cmp k l) k l d e ms refl rises (names_rise-put k d ms (and_parts (rises_from l ms) (names_rise ms) rises).1)

mutual
  proper-of_json : (j : json.Json) → Holds Proper (of_json j)
  proper-of_json json.null = λ e. refl
  proper-of_json (json.boolean b) = λ e. refl
  proper-of_json (json.number s) = Holds-map ProperNum Proper number (λ n h. h) (number_of s) (proper-number_of s)
  proper-of_json (json.string s) = λ e. refl
  proper-of_json (json.array js) = Holds-map ProperItems Proper array (λ ds h. h) _ (proper-of_items js)
  proper-of_json (json.object ms) = Holds-map ProperMembers Proper object (λ ds h e. and_from _ _ h.0 (each_regular ds h.1 e)) _ (proper-of_members ms no_members (refl, tt))

  proper-of_items : (js : json.Items) → Holds ProperItems (of_items js)
  proper-of_items json.no_items = λ e. refl
  proper-of_items (json.item j js) =
      Holds-and_then Proper ProperItems _ (λ d p. Holds-map ProperItems ProperItems (item d) (λ ds q e. let f = or_parts (has_float d) (items_have_float ds) e in and_from _ _ (p f.0) (q f.1)) _ (proper-of_items js)) _ (proper-of_json j)

  proper-of_members : (ms : json.Members) (found : Members) → ProperMembers found → Holds ProperMembers (of_members ms found)
  proper-of_members json.no_members found h = h
  proper-of_members (json.member name j ms) found h =
      Holds-and_then Proper ProperMembers _ (λ d p. proper-of_members ms (put name d found) (names_rise-put name d found h.0, each-put name d found p h.1)) _ (proper-of_json j)

anything : {A : Type 0} (o : Option A) → Holds (λ x. ⊤) o
anything None = tt
anything (Some a) = tt

pub regular-read : (text : List ℕ) (d : Data) → read text ≡ Some d → has_float d ≡ false → is_regular d ≡ true
regular-read text d e = let P : Option Data → Type 0 = Holds Proper in
    let o : Option json.Json = option_and_then (λ p. json.if_last p.0 p.1) (json.value max_depth (tokens text)) in
    subst P e (Holds-and_then (λ j. ⊤) Proper of_json (λ j x. proper-of_json j) o (anything o))
