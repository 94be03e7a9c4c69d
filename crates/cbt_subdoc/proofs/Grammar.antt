-- What is read as a path is what may be written as one.
use Rattle.std.proofs.Common.{◌≡◌, ◌≢◌, inl, inr, ℕ, zero, suc, ◌+◌, ◌-◌, ◌*◌, ◌/◌, ◌%◌, ◌^◌, ◌<◌, ◌≤◌, ◌==◌, Bool, true, false, cond, List, [], ◌∷◌, ◌++◌, length, get_or, take, drop, Option, Some, None, Result, Ok, Err, refl, sym, ap, ap₂, ◌∙◌, subst, arith, append_assoc, append-nil, decimal, eqb-true, ltb}
use Rattle.std.proofs.lemmas.List.{take-append-drop, length-take}
use Rattle.std.proofs.lemmas.Bool.{and_parts, and_from}
use Rattle.std.proofs.lemmas.Bool.Decides.{nat_tests}
use Rattle.std.proofs.lemmas.Fmt.{decimal_digit, decimal_step}
use Rattle.std.specs.List.{prefix_len, list_all}
use Rattle.std.specs.Char.{is_ascii_digit}
use Rattle.cbt_subdoc.specs.declared.path.Part.{Part}
use Rattle.cbt_subdoc.specs.declared.path.Part.TheVariants.{Name, Place, Last}
use Rattle.cbt_subdoc.specs.Paths.{Front, stuck, closed, digits, may_follow, last_place, place_at, is_plain, plain_name, prepended, quoted, quoted_name, name_at, next_at, first_at, further, led_by, part_and, parts_of}
use Rattle.cbt_subdoc.specs.Written.{doubled, part_text, IsNameText, IsPartText, led, IsTailText, IsTextOf}
use Rattle.cbt_subdoc.proofs.Leaves.{on_by, pair_of}

-- a pair in an answer
front_pair : (x y : Part × List ℕ) → ◌≡◌ {A = Front} (Ok x) (Ok y) → x ≡ y
front_pair x y e = cc

-- ---- what is read was written so

record WasPart (text : List ℕ) (p : Part) (rest : List ℕ) : Type 0 where
  pub word : List ℕ
  pub cut : text ≡ word ++ rest
  pub written : IsPartText p word

-- the bytes of a place behind its bracket
record WasPlace (text : List ℕ) (p : Part) (rest : List ℕ) : Type 0 where
  pub word : List ℕ
  pub cut : text ≡ word ++ rest
  pub written : IsPartText p (91 ∷ word)

closed_was : (p : Part) (b : ℕ) (text : List ℕ) (q : Part) (rest : List ℕ) (t : Bool) → (b == 93) ≡ t → cond t (Ok (p, text)) (stuck (b ∷ text)) ≡ Ok (q, rest) → (b ∷ text ≡ 93 ∷ rest) × (p ≡ q)
closed_was p b text q rest true is e =
    let pair = front_pair (p, text) (q, rest) e in
    (ap₂ (λ x y. x ∷ y) (eqb-true b 93 is) (ap (λ (x : Part × List ℕ). x.1) pair), ap (λ (x : Part × List ℕ). x.0) pair)
closed_was p b text q rest false is e = absurd (cc)

closed-was : (p : Part) (text : List ℕ) (q : Part) (rest : List ℕ) → closed p text ≡ Ok (q, rest) → (text ≡ 93 ∷ rest) × (p ≡ q)
closed-was p [] q rest e = absurd (cc)
closed-was p (b ∷ text) q rest e = closed_was p b text q rest (b == 93) refl e

-- the digits that were read, and the number that they make
record WasNumber (n : ℕ) (text : List ℕ) (q : Part) (rest : List ℕ) : Type 0 where
  pub value : ℕ
  pub more : List ℕ
  pub cut : text ≡ more ++ 93 ∷ rest
  pub place : q ≡ Place value
  pub small : value < 2 ^ 31
  pub written : decimal value ≡ decimal n ++ more

digit_range : (b : ℕ) → is_ascii_digit b ≡ true → (48 ≤ b) × (b ≤ 57)
digit_range b e = (grind (arith, nat_tests), grind (arith, nat_tests))

below_is : (a b : ℕ) → ltb a b ≡ true → a < b
below_is a b e = grind (arith, nat_tests)

next_decimal : (n b : ℕ) → 0 < n → 48 ≤ b → b ≤ 57 → n * 10 + (b - 48) < 2 ^ 31 → decimal (n * 10 + (b - 48)) ≡ decimal n ++ b ∷ []
next_decimal n b some low high small =
    let k = n * 10 + (b - 48) in
    let front : k / 10 ≡ n = omega arith in
    let last : 48 + k % 10 ≡ b = omega arith in
    decimal_step k (omega arith) (omega arith) ∙ ap₂ (λ m c. decimal m ++ c ∷ []) front last

digits_was : (n b : ℕ) (text : List ℕ) (q : Part) (rest : List ℕ) (t : Bool) → may_follow n b ≡ t → 0 < n → n < 2 ^ 31
    → (0 < n * 10 + (b - 48) → n * 10 + (b - 48) < 2 ^ 31 → digits (n * 10 + (b - 48)) text ≡ Ok (q, rest) → WasNumber (n * 10 + (b - 48)) text q rest)
    → cond t (digits (n * 10 + (b - 48)) text) (closed (Place n) (b ∷ text)) ≡ Ok (q, rest) → WasNumber n (b ∷ text) q rest
digits_was n b text q rest true is some small inner e =
    let p = and_parts (is_ascii_digit b) (ltb (n * 10 + (b - 48)) (2 ^ 31)) is in
    let range = digit_range b p.0 in
    let room = below_is (n * 10 + (b - 48)) (2 ^ 31) p.1 in
    let was = inner (omega arith) room e in
    record {
      value = was.value;
      more = b ∷ was.more;
      cut = ap (λ t. b ∷ t) was.cut;
      place = was.place;
      small = was.small;
      written = was.written ∙ ap (λ ds. ds ++ was.more) (next_decimal n b some range.0 range.1 room) ∙ append_assoc (decimal n) (b ∷ []) was.more;
    }
digits_was n b text q rest false is some small inner e =
    let was = closed-was (Place n) (b ∷ text) q rest e in
    record { value = n; more = []; cut = was.0; place = sym was.1; small = small; written = sym (append-nil (decimal n)) }

digits-was : (n : ℕ) (text : List ℕ) (q : Part) (rest : List ℕ) → 0 < n → n < 2 ^ 31 → digits n text ≡ Ok (q, rest) → WasNumber n text q rest
digits-was n [] q rest some small e = absurd (cc)
digits-was n (b ∷ text) q rest some small e =
    digits_was n b text q rest (may_follow n b) refl some small (λ more room f. digits-was (n * 10 + (b - 48)) text q rest more room f) e

last_was : (b : ℕ) (text : List ℕ) (q : Part) (rest : List ℕ) (t : Bool) → (b == 49) ≡ t → cond t (closed Last text) (stuck (b ∷ text)) ≡ Ok (q, rest) → (b ∷ text ≡ 49 ∷ 93 ∷ rest) × (Last ≡ q)
last_was b text q rest true is e = let was = closed-was Last text q rest e in (ap₂ (λ x y. x ∷ y) (eqb-true b 49 is) was.0, was.1)
last_was b text q rest false is e = absurd (cc)

last-was : (text : List ℕ) (q : Part) (rest : List ℕ) → last_place text ≡ Ok (q, rest) → (text ≡ 49 ∷ 93 ∷ rest) × (Last ≡ q)
last-was [] q rest e = absurd (cc)
last-was (b ∷ text) q rest e = last_was b text q rest (b == 49) refl e

of_number : (b : ℕ) (text : List ℕ) (q : Part) (rest : List ℕ) → 49 ≤ b → b ≤ 57 → WasNumber (b - 48) text q rest → WasPlace (b ∷ text) q rest
of_number b text q rest low high was =
    let one : decimal (b - 48) ≡ (48 + (b - 48)) ∷ [] = decimal_digit (b - 48) (omega arith) in
    let byte : 48 + (b - 48) ≡ b = omega arith in
    let all : decimal was.value ≡ b ∷ was.more = was.written ∙ ap (λ ds. ds ++ was.more) one ∙ ap (λ c. c ∷ was.more) byte in
    record {
      word = b ∷ was.more ++ 93 ∷ [];
      cut = ap (λ t. b ∷ t) (was.cut ∙ sym (append_assoc was.more (93 ∷ []) rest));
      written = subst (λ p. IsPartText p (91 ∷ b ∷ was.more ++ 93 ∷ [])) (sym was.place) (was.small, ap (λ ds. 91 ∷ ds ++ 93 ∷ []) (sym all));
    }

place_was : (b : ℕ) (text : List ℕ) (q : Part) (rest : List ℕ) (minus nought digit : Bool) → (b == 45) ≡ minus → (b == 48) ≡ nought → is_ascii_digit b ≡ digit
    → cond minus (last_place text) (cond nought (closed (Place 0) text) (cond digit (digits (b - 48) text) (stuck (b ∷ text)))) ≡ Ok (q, rest) → WasPlace (b ∷ text) q rest
place_was b text q rest true nought digit m z d e =
    let was = last-was text q rest e in
    record {
      word = 45 ∷ 49 ∷ 93 ∷ [];
      cut = ap₂ (λ x y. x ∷ y) (eqb-true b 45 m) was.0;
      written = subst (λ p. IsPartText p (91 ∷ 45 ∷ 49 ∷ 93 ∷ [])) was.1 refl;
    }
place_was b text q rest false true digit m z d e =
    let was = closed-was (Place 0) text q rest e in
    let none : decimal 0 ≡ 48 ∷ [] = decimal_digit 0 (omega arith) in
    record {
      word = 48 ∷ 93 ∷ [];
      cut = ap₂ (λ x y. x ∷ y) (eqb-true b 48 z) was.0;
      written = subst (λ p. IsPartText p (91 ∷ 48 ∷ 93 ∷ [])) was.1 (omega arith, ap (λ ds. 91 ∷ ds ++ 93 ∷ []) (sym none));
    }
place_was b text q rest false false true m z d e =
    let range = digit_range b d in
    let other : b ≢ 48 = λ same. (let clash : (b == 48) ≡ true = ap (λ y. y == 48) same in cc) in
    let low : 49 ≤ b = (let l = range.0 in omega arith) in
    of_number b text q rest low range.1 (digits-was (b - 48) text q rest (omega arith) (let h = range.1 in omega arith) e)
place_was b text q rest false false false m z d e = absurd (cc)

place-was : (text : List ℕ) (q : Part) (rest : List ℕ) → place_at text ≡ Ok (q, rest) → WasPlace text q rest
place-was [] q rest e = absurd (cc)
place-was (b ∷ text) q rest e = place_was b text q rest (b == 45) (b == 48) (is_ascii_digit b) refl refl refl e

-- names between backticks
single_was : (b : ℕ) (name rest : List ℕ) (t : Bool) → (b == 96) ≡ t → ◌≡◌ {A = Option (List ℕ × List ℕ)} (cond t (Some ([], [])) None) (Some (name, rest)) → b ∷ [] ≡ doubled name ++ 96 ∷ rest
single_was b name rest true is e =
    let pair = pair_of ([], []) (name, rest) e in
    ap (λ x. x ∷ []) (eqb-true b 96 is) ∙ ap (λ (y : List ℕ × List ℕ). doubled y.0 ++ 96 ∷ y.1) pair
single_was b name rest false is e = absurd (cc)

double_was : (b c : ℕ) (text name rest : List ℕ) (t u : Bool) → (b == 96) ≡ t → (c == 96) ≡ u
    → ((inner : List ℕ) → quoted text ≡ Some (inner, rest) → text ≡ doubled inner ++ 96 ∷ rest) → ((inner : List ℕ) → quoted (c ∷ text) ≡ Some (inner, rest) → c ∷ text ≡ doubled inner ++ 96 ∷ rest)
    → cond t (cond u (prepended 96 (quoted text)) (Some ([], c ∷ text))) (prepended b (quoted (c ∷ text))) ≡ Some (name, rest) → b ∷ c ∷ text ≡ doubled name ++ 96 ∷ rest
double_was b c text name rest true true is next inner tail e =
    let on = on_by 96 (quoted text) name rest e in
    ap₂ (λ x y. x ∷ y ∷ text) (eqb-true b 96 is) (eqb-true c 96 next) ∙ ap (λ t. 96 ∷ 96 ∷ t) (inner on.0 on.1) ∙ ap (λ n. doubled n ++ 96 ∷ rest) (sym on.2)
double_was b c text name rest true false is next inner tail e =
    let pair = pair_of ([], c ∷ text) (name, rest) e in
    ap (λ x. x ∷ c ∷ text) (eqb-true b 96 is) ∙ ap (λ (y : List ℕ × List ℕ). doubled y.0 ++ 96 ∷ y.1) pair
double_was b c text name rest false u is next inner tail e =
    let on = on_by b (quoted (c ∷ text)) name rest e in
    ap (λ t. b ∷ t) (tail on.0 on.1) ∙ ap (λ t. cond t (96 ∷ 96 ∷ doubled on.0) (b ∷ doubled on.0) ++ 96 ∷ rest) (sym is) ∙ ap (λ n. doubled n ++ 96 ∷ rest) (sym on.2)

quoted-was : (text name rest : List ℕ) → quoted text ≡ Some (name, rest) → text ≡ doubled name ++ 96 ∷ rest
quoted-was [] name rest e = absurd (cc)
quoted-was (b ∷ []) name rest e = single_was b name rest (b == 96) refl e
quoted-was (b ∷ c ∷ text) name rest e = double_was b c text name rest (b == 96) (c == 96) refl refl (λ inner f. quoted-was text inner rest f) (λ inner f. quoted-was (c ∷ text) inner rest f) e

-- a name, as a part
record WasName (text : List ℕ) (q : Part) (rest : List ℕ) : Type 0 where
  pub name : List ℕ
  pub word : List ℕ
  pub part : q ≡ Name name
  pub cut : text ≡ word ++ rest
  pub written : IsNameText name word

backticks_was : (text : List ℕ) (q : Part) (rest : List ℕ) (o : Option (List ℕ × List ℕ)) → quoted text ≡ o → quoted_name o ≡ Ok (q, rest) → WasName (96 ∷ text) q rest
backticks_was text q rest None is e = absurd (cc)
backticks_was text q rest (Some x) is e =
    let pair = front_pair (Name x.0, x.1) (q, rest) e in
    let behind : x.1 ≡ rest = ap (λ (y : Part × List ℕ). y.1) pair in
    let was = quoted-was text x.0 rest (is ∙ ap (λ r. Some (x.0, r)) behind) in
    record {
      name = x.0;
      word = part_text (Name x.0);
      part = sym (ap (λ (y : Part × List ℕ). y.0) pair);
      cut = ap (λ t. 96 ∷ t) (was ∙ sym (append_assoc (doubled x.0) (96 ∷ []) rest));
      written = inr refl;
    }

all_by : (b : ℕ) (text : List ℕ) (t : Bool) → is_plain b ≡ t → list_all is_plain (take (prefix_len is_plain text) text) ≡ true
    → list_all is_plain (take (cond t (1 + prefix_len is_plain text) 0) (b ∷ text)) ≡ true
all_by b text true is tail =
    let n : 1 + prefix_len is_plain text ≡ suc (prefix_len is_plain text) = omega arith in
    ap (λ k. list_all is_plain (take k (b ∷ text))) n ∙ and_from (is_plain b) (list_all is_plain (take (prefix_len is_plain text) text)) is tail
all_by b text false is tail = refl

all-plain : (text : List ℕ) → list_all is_plain (take (prefix_len is_plain text) text) ≡ true
all-plain [] = refl
all-plain (b ∷ text) = all_by b text (is_plain b) refl (all-plain text)

plain_was : (len : ℕ) (text : List ℕ) (q : Part) (rest : List ℕ) (t : Bool) → (len == 0) ≡ t → list_all is_plain (take len text) ≡ true → len ≤ length text
    → cond t (stuck text) (Ok (Name (take len text), drop len text)) ≡ Ok (q, rest) → WasName text q rest
plain_was len text q rest true is all within e = absurd (cc)
plain_was len text q rest false is all within e =
    let pair = front_pair (Name (take len text), drop len text) (q, rest) e in
    let behind : drop len text ≡ rest = ap (λ (y : Part × List ℕ). y.1) pair in
    let some : 0 < length (take len text) = (let n : len ≢ 0 = λ z. (let clash : (len == 0) ≡ true = ap (λ k. k == 0) z in cc) in omega (arith, length-take len text)) in
    record {
      name = take len text;
      word = take len text;
      part = sym (ap (λ (y : Part × List ℕ). y.0) pair);
      cut = sym (take-append-drop len text) ∙ ap (λ r. take len text ++ r) behind;
      written = inl (refl, some, all);
    }

prefix_within : (b : ℕ) (text : List ℕ) (t : Bool) → prefix_len is_plain text ≤ length text → cond t (1 + prefix_len is_plain text) 0 ≤ suc (length text)
prefix_within b text true tail = omega arith
prefix_within b text false tail = omega arith

prefix-within : (text : List ℕ) → prefix_len is_plain text ≤ length text
prefix-within [] = omega arith
prefix-within (b ∷ text) = prefix_within b text (is_plain b) (prefix-within text)

name_was : (b : ℕ) (text : List ℕ) (q : Part) (rest : List ℕ) (t : Bool) → (b == 96) ≡ t
    → cond t (quoted_name (quoted text)) (plain_name (prefix_len is_plain (b ∷ text)) (b ∷ text)) ≡ Ok (q, rest) → WasName (b ∷ text) q rest
name_was b text q rest true is e = subst (λ c. WasName (c ∷ text) q rest) (sym (eqb-true b 96 is)) (backticks_was text q rest (quoted text) refl e)
name_was b text q rest false is e =
    let len = prefix_len is_plain (b ∷ text) in plain_was len (b ∷ text) q rest (len == 0) refl (all-plain (b ∷ text)) (prefix-within (b ∷ text)) e

name-was : (text : List ℕ) (q : Part) (rest : List ℕ) → name_at text ≡ Ok (q, rest) → WasName text q rest
name-was [] q rest e = absurd (cc)
name-was (b ∷ text) q rest e = name_was b text q rest (b == 96) refl e

-- parts
first_of_name : (text : List ℕ) (q : Part) (rest : List ℕ) → WasName text q rest → WasPart text q rest
first_of_name text q rest was = record { word = was.word; cut = was.cut; written = subst (λ p. IsPartText p was.word) (sym was.part) was.written }

first_was : (b : ℕ) (text : List ℕ) (q : Part) (rest : List ℕ) (t : Bool) → (b == 91) ≡ t → cond t (place_at text) (name_at (b ∷ text)) ≡ Ok (q, rest) → WasPart (b ∷ text) q rest
first_was b text q rest true is e =
    let was = place-was text q rest e in
    record { word = 91 ∷ was.word; cut = ap₂ (λ x y. x ∷ y) (eqb-true b 91 is) was.cut; written = was.written }
first_was b text q rest false is e = first_of_name (b ∷ text) q rest (name-was (b ∷ text) q rest e)

first-was : (text : List ℕ) (q : Part) (rest : List ℕ) → first_at text ≡ Ok (q, rest) → WasPart text q rest
first-was [] q rest e = absurd (cc)
first-was (b ∷ text) q rest e = first_was b text q rest (b == 91) refl e

-- a part after the first
record WasLed (text : List ℕ) (q : Part) (rest : List ℕ) : Type 0 where
  pub word : List ℕ
  pub cut : text ≡ led q word ++ rest
  pub written : IsPartText q word

led_of_name : (text : List ℕ) (q : Part) (rest : List ℕ) → WasName text q rest → WasLed (46 ∷ text) q rest
led_of_name text q rest was =
    let Q : Part → Type 0 = λ p. WasLed (46 ∷ text) p rest in
    subst Q (sym was.part) (record { word = was.word; cut = ap (λ t. 46 ∷ t) was.cut; written = was.written })

led_place : (text : List ℕ) (q : Part) (rest word : List ℕ) → IsPartText q (91 ∷ word) → text ≡ word ++ rest → WasLed (91 ∷ text) q rest
led_place text (Name name) rest word written cut = record { word = 91 ∷ word; cut = absurd (bracket_name name word written); written = written }
  where
    bracket_name : (name word : List ℕ) → IsNameText name (91 ∷ word) → ⊥
    bracket_name [] word (inl h) = omega (arith, ap length h.0)
    bracket_name (b ∷ name) word (inl h) =
        let same : 91 ≡ b = (let e = h.0 in cc) in
        let plain = (and_parts (is_plain b) (list_all is_plain name) h.2).0 in
        let clash : is_plain 91 ≡ true = subst (λ c. is_plain c ≡ true) (sym same) plain in cc
    bracket_name name word (inr h) = omega (arith, ap (λ t. get_or t 0 0) h)
led_place text (Place n) rest word written cut = record { word = 91 ∷ word; cut = ap (λ t. 91 ∷ t) cut; written = written }
led_place text Last rest word written cut = record { word = 91 ∷ word; cut = ap (λ t. 91 ∷ t) cut; written = written }

next_was : (b : ℕ) (text : List ℕ) (q : Part) (rest : List ℕ) (t u : Bool) → (b == 46) ≡ t → (b == 91) ≡ u → cond t (name_at text) (cond u (place_at text) (stuck (b ∷ text))) ≡ Ok (q, rest)
    → WasLed (b ∷ text) q rest
next_was b text q rest true u dot bracket e = subst (λ c. WasLed (c ∷ text) q rest) (sym (eqb-true b 46 dot)) (led_of_name text q rest (name-was text q rest e))
next_was b text q rest false true dot bracket e =
    let was = place-was text q rest e in subst (λ c. WasLed (c ∷ text) q rest) (sym (eqb-true b 91 bracket)) (led_place text q rest was.word was.written was.cut)
next_was b text q rest false false dot bracket e = absurd (cc)

next-was : (text : List ℕ) (q : Part) (rest : List ℕ) → next_at text ≡ Ok (q, rest) → WasLed text q rest
next-was [] q rest e = absurd (cc)
next-was (b ∷ text) q rest e = next_was b text q rest (b == 46) (b == 91) refl refl e

-- all of them
led_parts : (p : Part) (r : Result (List Part) ℕ) (parts : List Part) → led_by p r ≡ Ok parts → (tail : List Part) × ((r ≡ Ok tail) × (parts ≡ p ∷ tail))
led_parts p (Ok ps) parts e = (ps, (refl, (let same : p ∷ ps ≡ parts = cc in sym same)))
led_parts p (Err k) parts e = absurd (cc)

tail_was : (n b : ℕ) (text : List ℕ) (parts : List Part) (front : Front) → next_at (b ∷ text) ≡ front → ((rest : List ℕ) (ps : List Part) → further n rest ≡ Ok ps → IsTailText ps rest)
    → part_and (further n) front ≡ Ok parts → IsTailText parts (b ∷ text)
tail_was n b text parts (Err k) is inner e = absurd (cc)
tail_was n b text parts (Ok x) is inner e =
    let p = led_parts x.0 (further n x.1) parts e in
    let was = next-was (b ∷ text) x.0 x.1 is in
    subst (λ ps. IsTailText ps (b ∷ text)) (sym p.1.1) (was.word, x.1, (was.written, inner x.1 p.0 p.1.0, was.cut))

tail-was : (n : ℕ) (text : List ℕ) (parts : List Part) → further n text ≡ Ok parts → IsTailText parts text
tail-was zero [] parts e = let same : [] ≡ parts = cc in subst (λ ps. IsTailText ps []) same refl
tail-was (suc n) [] parts e = let same : [] ≡ parts = cc in subst (λ ps. IsTailText ps []) same refl
tail-was zero (b ∷ text) parts e = absurd (cc)
tail-was (suc n) (b ∷ text) parts e = tail_was n b text parts (next_at (b ∷ text)) refl (λ rest ps f. tail-was n rest ps f) e

whole_was : (n : ℕ) (text : List ℕ) (parts : List Part) (front : Front) → first_at text ≡ front → part_and (further n) front ≡ Ok parts → IsTextOf parts text
whole_was n text parts (Err k) is e = absurd (cc)
whole_was n text parts (Ok x) is e =
    let p = led_parts x.0 (further n x.1) parts e in
    let was = first-was text x.0 x.1 is in
    subst (λ ps. IsTextOf ps text) (sym p.1.1) (was.word, x.1, (was.written, tail-was n x.1 p.0 p.1.0, was.cut))

pub read-written : (text : List ℕ) (parts : List Part) → parts_of text ≡ Ok parts → IsTextOf parts text
read-written text parts e = whole_was (length text) text parts (first_at text) refl e
