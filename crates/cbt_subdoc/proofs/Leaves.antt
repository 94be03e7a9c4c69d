-- What the reading of a part takes from a text does not hang on what comes later.
use Rattle.std.proofs.Common.{◌≡◌, ◌≢◌, ℕ, suc, ◌+◌, ◌-◌, ◌*◌, ◌<◌, ◌==◌, Bool, true, false, cond, List, [], ◌∷◌, ◌++◌, length, take, drop, Option, Some, None, Ok, refl, sym, ap, ap₂, ◌∙◌, subst, arith}
use Rattle.std.proofs.Math.Seq.{take-append_seam, drop-append_seam}
use Rattle.std.proofs.lemmas.Bool.{ne_eqb}
use Rattle.std.specs.List.{prefix_len}
use Rattle.std.specs.Char.{is_ascii_digit}
use Rattle.cbt_subdoc.specs.declared.path.Part.{Part}
use Rattle.cbt_subdoc.specs.declared.path.Part.TheVariants.{Name, Place, Last}
use Rattle.cbt_subdoc.specs.Paths.{Front, stuck, closed, digits, may_follow, last_place, place_at, is_plain, plain_name, prepended, quoted, quoted_name, name_at, next_at, first_at}
use Rattle.cbt_subdoc.proofs.Quotes.{quoted-plain}
use Rattle.cbt_subdoc.proofs.Stops.{Reader, place_cases, place_step, in_backticks}

-- what may stand in place of a rest: nothing, or what begins with the same byte
abbrev pub Alike : List ℕ → List ℕ → Type 0
Alike rest [] = Unit {0}
Alike [] (b ∷ r) = ⊥
Alike (c ∷ rest) (b ∷ r) = c ≡ b

-- a reader that takes a part from the front of a text
pub record Leaves (f : Reader) (text : List ℕ) (part : Part) (rest : List ℕ) : Type 0 where
  pub word : List ℕ
  pub cut : text ≡ word ++ rest
  pub local : (r : List ℕ) → Alike rest r → f (word ++ r) ≡ Ok (part, r)

later : (f g : Reader) (b : ℕ) (text : List ℕ) (part : Part) (rest : List ℕ) → ((r : List ℕ) → f (b ∷ r) ≡ g r) → Leaves g text part rest → Leaves f (b ∷ text) part rest
later f g b text part rest step l = record { word = b ∷ l.word; cut = ap (λ t. b ∷ t) l.cut; local = λ r like. step (l.word ++ r) ∙ l.local r like }

-- ---- places

closed_by : (part : Part) (b : ℕ) (text : List ℕ) (p : Part) (rest : List ℕ) (t : Bool) → (b == 93) ≡ t → cond t (Ok (part, text)) (stuck (b ∷ text)) ≡ Ok (p, rest)
    → Leaves (closed part) (b ∷ text) p rest
closed_by part b text p rest true is e =
    let pair : ◌≡◌ {A = Part × List ℕ} (part, text) (p, rest) = cc in
    let same : part ≡ p = ap (λ (x : Part × List ℕ). x.0) pair in
    let behind : text ≡ rest = ap (λ (x : Part × List ℕ). x.1) pair in
    record {
      word = b ∷ [];
      cut = ap (λ t. b ∷ t) behind;
      local = λ r like. ap (λ t. cond t (Ok (part, r)) (stuck (b ∷ r))) is ∙ ap (λ q. Ok (q, r)) same;
    }
closed_by part b text p rest false is e = absurd (cc)

closed-leaves : (part : Part) (text : List ℕ) (p : Part) (rest : List ℕ) → closed part text ≡ Ok (p, rest) → Leaves (closed part) text p rest
closed-leaves part [] p rest e = absurd (cc)
closed-leaves part (b ∷ text) p rest e = closed_by part b text p rest (b == 93) refl e

digits_by : (n b : ℕ) (text : List ℕ) (p : Part) (rest : List ℕ) (t u : Bool) → may_follow n b ≡ t → (b == 93) ≡ u
    → (digits (n * 10 + (b - 48)) text ≡ Ok (p, rest) → Leaves (digits (n * 10 + (b - 48))) text p rest)
    → cond t (digits (n * 10 + (b - 48)) text) (cond u (Ok (Place n, text)) (stuck (b ∷ text))) ≡ Ok (p, rest) → Leaves (digits n) (b ∷ text) p rest
digits_by n b text p rest true u is end further e =
    later (digits n) (digits (n * 10 + (b - 48))) b text p rest (λ r. ap (λ t. cond t (digits (n * 10 + (b - 48)) r) (closed (Place n) (b ∷ r))) is) (further e)
digits_by n b text p rest false true is end further e =
    let pair : ◌≡◌ {A = Part × List ℕ} (Place n, text) (p, rest) = cc in
    let same : Place n ≡ p = ap (λ (x : Part × List ℕ). x.0) pair in
    let behind : text ≡ rest = ap (λ (x : Part × List ℕ). x.1) pair in
    record {
      word = b ∷ [];
      cut = ap (λ t. b ∷ t) behind;
      local = λ r like. ap (λ t. cond t (digits (n * 10 + (b - 48)) r) (closed (Place n) (b ∷ r))) is ∙ ap (λ t. cond t (Ok (Place n, r)) (stuck (b ∷ r))) end ∙ ap (λ q. Ok (q, r)) same;
    }
digits_by n b text p rest false false is end further e = absurd (cc)

digits-leaves : (n : ℕ) (text : List ℕ) (p : Part) (rest : List ℕ) → digits n text ≡ Ok (p, rest) → Leaves (digits n) text p rest
digits-leaves n [] p rest e = absurd (cc)
digits-leaves n (b ∷ text) p rest e = digits_by n b text p rest (may_follow n b) (b == 93) refl refl (digits-leaves (n * 10 + (b - 48)) text p rest) e

last_by : (b : ℕ) (text : List ℕ) (p : Part) (rest : List ℕ) (t : Bool) → (b == 49) ≡ t → cond t (closed Last text) (stuck (b ∷ text)) ≡ Ok (p, rest) → Leaves last_place (b ∷ text) p rest
last_by b text p rest true is e = later last_place (closed Last) b text p rest (λ r. ap (λ t. cond t (closed Last r) (stuck (b ∷ r))) is) (closed-leaves Last text p rest e)
last_by b text p rest false is e = absurd (cc)

last-leaves : (text : List ℕ) (p : Part) (rest : List ℕ) → last_place text ≡ Ok (p, rest) → Leaves last_place text p rest
last-leaves [] p rest e = absurd (cc)
last-leaves (b ∷ text) p rest e = last_by b text p rest (b == 49) refl e

place_by : (b : ℕ) (text : List ℕ) (p : Part) (rest : List ℕ) (minus nought digit : Bool) → (b == 45) ≡ minus → (b == 48) ≡ nought → is_ascii_digit b ≡ digit
    → place_cases minus nought digit b text ≡ Ok (p, rest) → Leaves place_at (b ∷ text) p rest
place_by b text p rest true nought digit m z d e = later place_at last_place b text p rest (place_step true nought digit b m z d) (last-leaves text p rest e)
place_by b text p rest false true digit m z d e = later place_at (closed (Place 0)) b text p rest (place_step false true digit b m z d) (closed-leaves (Place 0) text p rest e)
place_by b text p rest false false true m z d e = later place_at (digits (b - 48)) b text p rest (place_step false false true b m z d) (digits-leaves (b - 48) text p rest e)
place_by b text p rest false false false m z d e = absurd (cc)

place-leaves : (text : List ℕ) (p : Part) (rest : List ℕ) → place_at text ≡ Ok (p, rest) → Leaves place_at text p rest
place-leaves [] p rest e = absurd (cc)
place-leaves (b ∷ text) p rest e = place_by b text p rest (b == 45) (b == 48) (is_ascii_digit b) refl refl refl e

-- ---- names between backticks

pub record LeavesName (text name rest : List ℕ) : Type 0 where
  pub word : List ℕ
  pub cut : text ≡ word ++ rest
  pub local : (r : List ℕ) → Alike rest r → quoted (word ++ r) ≡ Some (name, r)

pub pair_of : (x y : List ℕ × List ℕ) → ◌≡◌ {A = Option (List ℕ × List ℕ)} (Some x) (Some y) → x ≡ y
pair_of x y e = cc

pub on_by : (b : ℕ) (o : Option (List ℕ × List ℕ)) (name rest : List ℕ) → prepended b o ≡ Some (name, rest) → (inner : List ℕ) × (o ≡ Some (inner, rest)) × (name ≡ b ∷ inner)
on_by b None name rest e = absurd (cc)
on_by b (Some x) name rest e =
    let pair = pair_of (b ∷ x.0, x.1) (name, rest) e in
    (x.0, ap (λ (y : List ℕ × List ℕ). Some (x.0, y.1)) pair, sym (ap (λ (y : List ℕ × List ℕ). y.0) pair))

single_local : (b : ℕ) (name rest r : List ℕ) → (b == 96) ≡ true → [] ≡ name → [] ≡ rest → Alike rest r → quoted (b ∷ r) ≡ Some (name, r)
single_local b name rest [] is no_name no_rest like = ap (λ t. cond t (Some ([], [])) None) is ∙ ap (λ n. Some (n, [])) no_name
single_local b name [] (c ∷ r) is no_name no_rest like = absurd like
single_local b name (d ∷ rest) (c ∷ r) is no_name no_rest like = absurd (cc)

single_by : (b : ℕ) (name rest : List ℕ) (t : Bool) → (b == 96) ≡ t → ◌≡◌ {A = Option (List ℕ × List ℕ)} (cond t (Some ([], [])) None) (Some (name, rest)) → LeavesName (b ∷ []) name rest
single_by b name rest true is e =
    let pair = pair_of ([], []) (name, rest) e in
    let no_name : [] ≡ name = ap (λ (y : List ℕ × List ℕ). y.0) pair in
    let no_rest : [] ≡ rest = ap (λ (y : List ℕ × List ℕ). y.1) pair in
    record { word = b ∷ []; cut = ap (λ t. b ∷ t) no_rest; local = λ r like. single_local b name rest r is no_name no_rest like }
single_by b name rest false is e = absurd (cc)

closing_local : (b c : ℕ) (text name rest r : List ℕ) → (b == 96) ≡ true → (c == 96) ≡ false → [] ≡ name → c ∷ text ≡ rest → Alike rest r → quoted (b ∷ r) ≡ Some (name, r)
closing_local b c text name rest [] is next no_name behind like = ap (λ t. cond t (Some ([], [])) None) is ∙ ap (λ n. Some (n, [])) no_name
closing_local b c text name [] (d ∷ r) is next no_name behind like = absurd like
closing_local b c text name (x ∷ rest) (d ∷ r) is next no_name behind like =
    let same : c ≡ d = (let first : c ≡ x = cc in first ∙ like) in
    let other : (d == 96) ≡ false = subst (λ y. (y == 96) ≡ false) same next in
    ap (λ t. cond t (cond (d == 96) (prepended 96 (quoted r)) (Some ([], d ∷ r))) (prepended b (quoted (d ∷ r)))) is
    ∙ ap (λ t. cond t (prepended 96 (quoted r)) (Some ([], d ∷ r))) other ∙ ap (λ n. Some (n, d ∷ r)) no_name

plain_local : (b : ℕ) (name inner rest : List ℕ) (word : List ℕ) (r : List ℕ) → b ≢ 96 → name ≡ b ∷ inner → quoted (word ++ r) ≡ Some (inner, r) → quoted (b ∷ word ++ r) ≡ Some (name, r)
plain_local b name inner rest word r other made reads = quoted-plain b (word ++ r) other ∙ ap (prepended b) reads ∙ ap (λ n. Some (n, r)) (sym made)

double_by : (b c : ℕ) (text name rest : List ℕ) (t u : Bool) → (b == 96) ≡ t → (c == 96) ≡ u
    → ((inner : List ℕ) → quoted text ≡ Some (inner, rest) → LeavesName text inner rest) → ((inner : List ℕ) → quoted (c ∷ text) ≡ Some (inner, rest) → LeavesName (c ∷ text) inner rest)
    → cond t (cond u (prepended 96 (quoted text)) (Some ([], c ∷ text))) (prepended b (quoted (c ∷ text))) ≡ Some (name, rest) → LeavesName (b ∷ c ∷ text) name rest
double_by b c text name rest true true is next inner tail e =
    let on = on_by 96 (quoted text) name rest e in
    let l = inner on.0 on.1 in
    record {
      word = b ∷ c ∷ l.word;
      cut = ap (λ t. b ∷ c ∷ t) l.cut;
      local = λ r like.
          ap (λ t. cond t (cond (c == 96) (prepended 96 (quoted (l.word ++ r))) (Some ([], c ∷ l.word ++ r))) (prepended b (quoted (c ∷ l.word ++ r)))) is
          ∙ ap (λ t. cond t (prepended 96 (quoted (l.word ++ r))) (Some ([], c ∷ l.word ++ r))) next ∙ ap (prepended 96) (l.local r like) ∙ ap (λ n. Some (n, r)) (sym on.2);
    }
double_by b c text name rest true false is next inner tail e =
    let pair = pair_of ([], c ∷ text) (name, rest) e in
    let no_name : [] ≡ name = ap (λ (y : List ℕ × List ℕ). y.0) pair in
    let behind : c ∷ text ≡ rest = ap (λ (y : List ℕ × List ℕ). y.1) pair in
    record { word = b ∷ []; cut = ap (λ t. b ∷ t) behind; local = λ r like. closing_local b c text name rest r is next no_name behind like }
double_by b c text name rest false u is next inner tail e =
    let on = on_by b (quoted (c ∷ text)) name rest e in
    let l = tail on.0 on.1 in
    let other : b ≢ 96 = λ z. (let clash : (b == 96) ≡ true = ap (λ y. y == 96) z in cc) in
    record { word = b ∷ l.word; cut = ap (λ t. b ∷ t) l.cut; local = λ r like. plain_local b name on.0 rest l.word r other on.2 (l.local r like) }

quoted-leaves : (text name rest : List ℕ) → quoted text ≡ Some (name, rest) → LeavesName text name rest
quoted-leaves [] name rest e = absurd (cc)
quoted-leaves (b ∷ []) name rest e = single_by b name rest (b == 96) refl e
quoted-leaves (b ∷ c ∷ text) name rest e = double_by b c text name rest (b == 96) (c == 96) refl refl (λ inner f. quoted-leaves text inner rest f) (λ inner f. quoted-leaves (c ∷ text) inner rest f) e

quoted_name_by : (text : List ℕ) (p : Part) (rest : List ℕ) (o : Option (List ℕ × List ℕ)) → quoted text ≡ o → quoted_name o ≡ Ok (p, rest) → Leaves in_backticks text p rest
quoted_name_by text p rest None is e = absurd (cc)
quoted_name_by text p rest (Some x) is e =
    let pair : ◌≡◌ {A = Part × List ℕ} (Name x.0, x.1) (p, rest) = cc in
    let same : Name x.0 ≡ p = ap (λ (y : Part × List ℕ). y.0) pair in
    let behind : x.1 ≡ rest = ap (λ (y : Part × List ℕ). y.1) pair in
    let l = quoted-leaves text x.0 rest (is ∙ ap (λ y. Some (x.0, y)) behind) in
    record { word = l.word; cut = l.cut; local = λ r like. ap quoted_name (l.local r like) ∙ ap (λ q. Ok (q, r)) same }

-- ---- names of plain bytes

-- the plain bytes at the front of a text
pub record PlainFront (text : List ℕ) : Type 0 where
  pub word : List ℕ
  pub rest : List ℕ
  pub cut : text ≡ word ++ rest
  pub count : (r : List ℕ) → Alike rest r → prefix_len is_plain (word ++ r) ≡ length word

no_plain : (b : ℕ) (text r : List ℕ) → is_plain b ≡ false → Alike (b ∷ text) r → prefix_len is_plain r ≡ 0
no_plain b text [] is like = refl
no_plain b text (c ∷ r) is like = ap (λ t. cond t (1 + prefix_len is_plain r) 0) (subst (λ y. is_plain y ≡ false) like is)

front_by : (b : ℕ) (text : List ℕ) (t : Bool) → is_plain b ≡ t → PlainFront text → PlainFront (b ∷ text)
front_by b text true is tail = record {
  word = b ∷ tail.word;
  rest = tail.rest;
  cut = ap (λ t. b ∷ t) tail.cut;
  count = λ r like. ap (λ t. cond t (1 + prefix_len is_plain (tail.word ++ r)) 0) is ∙ (let n = tail.count r like in omega (arith, n));
}
front_by b text false is tail = record { word = []; rest = b ∷ text; cut = refl; count = λ r like. no_plain b text r is like }

pub plain-front : (text : List ℕ) → PlainFront text
plain-front [] = record { word = []; rest = []; cut = refl; count = none }
  where
    none : (r : List ℕ) → Alike [] r → prefix_len is_plain r ≡ 0
    none [] like = refl
    none (c ∷ r) like = absurd like
plain-front (b ∷ text) = front_by b text (is_plain b) refl (plain-front text)

pub alike_same : (rest : List ℕ) → Alike rest rest
alike_same [] = tt
alike_same (b ∷ rest) = refl

pub plain_word : (word r : List ℕ) → 0 < length word → plain_name (length word) (word ++ r) ≡ Ok (Name word, r)
plain_word [] r some = absurd (omega arith)
plain_word (b ∷ word) r some =
    let P : List ℕ → List ℕ → Front = λ x y. Ok (Name x, y) in
    let long : (suc (length word) == 0) ≡ false = ne_eqb (suc (length word)) 0 (λ z. omega (arith, z)) in
    ap (λ t. cond t (stuck (b ∷ word ++ r)) (P (take (suc (length word)) (b ∷ word ++ r)) (drop (suc (length word)) (b ∷ word ++ r)))) long
    ∙ ap₂ P (take-append_seam (b ∷ word) r) (drop-append_seam (b ∷ word) r)

plain_taken : (b : ℕ) (text : List ℕ) (p : Part) (rest : List ℕ) → (b == 96) ≡ false → (word tail : List ℕ) → b ∷ text ≡ word ++ tail
    → ((r : List ℕ) → Alike tail r → prefix_len is_plain (word ++ r) ≡ length word) → plain_name (prefix_len is_plain (b ∷ text)) (b ∷ text) ≡ Ok (p, rest) → Leaves name_at (b ∷ text) p rest
plain_taken b text p rest is [] tail cut count e =
    let none : prefix_len is_plain (b ∷ text) ≡ 0 = ap (prefix_len is_plain) cut ∙ count tail (alike_same tail) in
    absurd (let made = ap (λ n. plain_name n (b ∷ text)) none in cc)
plain_taken b text p rest is (x ∷ word) tail cut count e =
    let same : b ≡ x = cc in
    let no_tick : (x == 96) ≡ false = subst (λ y. (y == 96) ≡ false) same is in
    let len : prefix_len is_plain (b ∷ text) ≡ length (x ∷ word) = ap (prefix_len is_plain) cut ∙ count tail (alike_same tail) in
    let made : plain_name (prefix_len is_plain (b ∷ text)) (b ∷ text) ≡ Ok (Name (x ∷ word), tail) =
    ap₂ plain_name len cut ∙ plain_word (x ∷ word) tail (omega arith) in
    let pair : ◌≡◌ {A = Part × List ℕ} (Name (x ∷ word), tail) (p, rest) = cc in
    let part : Name (x ∷ word) ≡ p = ap (λ (y : Part × List ℕ). y.0) pair in
    let behind : tail ≡ rest = ap (λ (y : Part × List ℕ). y.1) pair in
    record {
      word = x ∷ word;
      cut = cut ∙ ap (λ t. (x ∷ word) ++ t) behind;
      local = λ r like.
          ap (λ t. cond t (quoted_name (quoted (word ++ r))) (plain_name (prefix_len is_plain (x ∷ word ++ r)) (x ∷ word ++ r))) no_tick
          ∙ ap (λ n. plain_name n (x ∷ word ++ r)) (count r (subst (λ t. Alike t r) (sym behind) like)) ∙ plain_word (x ∷ word) r (omega arith) ∙ ap (λ q. Ok (q, r)) part;
    }

name_by : (b : ℕ) (text : List ℕ) (p : Part) (rest : List ℕ) (t : Bool) → (b == 96) ≡ t
    → cond t (quoted_name (quoted text)) (plain_name (prefix_len is_plain (b ∷ text)) (b ∷ text)) ≡ Ok (p, rest) → Leaves name_at (b ∷ text) p rest
name_by b text p rest true is e =
    later name_at in_backticks b text p rest (λ r. ap (λ t. cond t (quoted_name (quoted r)) (plain_name (prefix_len is_plain (b ∷ r)) (b ∷ r))) is)
    (quoted_name_by text p rest (quoted text) refl e)
name_by b text p rest false is e =
    let f = plain-front (b ∷ text) in plain_taken b text p rest is f.word f.rest f.cut f.count e

name-leaves : (text : List ℕ) (p : Part) (rest : List ℕ) → name_at text ≡ Ok (p, rest) → Leaves name_at text p rest
name-leaves [] p rest e = absurd (cc)
name-leaves (b ∷ text) p rest e = name_by b text p rest (b == 96) refl e

-- ---- parts

-- a reader that is another one where the text begins so
as_by : (f g : Reader) (b : ℕ) (text : List ℕ) (p : Part) (rest : List ℕ) → ((r : List ℕ) → f (b ∷ r) ≡ g (b ∷ r)) → g [] ≡ stuck [] → (word : List ℕ) → b ∷ text ≡ word ++ rest
    → ((r : List ℕ) → Alike rest r → g (word ++ r) ≡ Ok (p, r)) → Leaves f (b ∷ text) p rest
as_by f g b text p rest step empty [] cut local = absurd (let none = local [] tt in cc)
as_by f g b text p rest step empty (x ∷ word) cut local =
    let same : b ≡ x = cc in
    let on : (r : List ℕ) → f (x ∷ r) ≡ g (x ∷ r) = subst (λ y. (r : List ℕ) → f (y ∷ r) ≡ g (y ∷ r)) same step in
    record { word = x ∷ word; cut = cut; local = λ r like. on (word ++ r) ∙ local r like }

first_by : (b : ℕ) (text : List ℕ) (p : Part) (rest : List ℕ) (t : Bool) → (b == 91) ≡ t → cond t (place_at text) (name_at (b ∷ text)) ≡ Ok (p, rest) → Leaves first_at (b ∷ text) p rest
first_by b text p rest true is e = later first_at place_at b text p rest (λ r. ap (λ t. cond t (place_at r) (name_at (b ∷ r))) is) (place-leaves text p rest e)
first_by b text p rest false is e =
    let l = name-leaves (b ∷ text) p rest e in as_by first_at name_at b text p rest (λ r. ap (λ t. cond t (place_at r) (name_at (b ∷ r))) is) refl l.word l.cut l.local

pub first-leaves : (text : List ℕ) (p : Part) (rest : List ℕ) → first_at text ≡ Ok (p, rest) → Leaves first_at text p rest
first-leaves [] p rest e = absurd (cc)
first-leaves (b ∷ text) p rest e = first_by b text p rest (b == 91) refl e

next_by : (b : ℕ) (text : List ℕ) (p : Part) (rest : List ℕ) (t u : Bool) → (b == 46) ≡ t → (b == 91) ≡ u → cond t (name_at text) (cond u (place_at text) (stuck (b ∷ text))) ≡ Ok (p, rest)
    → Leaves next_at (b ∷ text) p rest
next_by b text p rest true u dot bracket e =
    later next_at name_at b text p rest (λ r. ap (λ t. cond t (name_at r) (cond (b == 91) (place_at r) (stuck (b ∷ r)))) dot) (name-leaves text p rest e)
next_by b text p rest false true dot bracket e =
    later next_at place_at b text p rest
    (λ r. ap (λ t. cond t (name_at r) (cond (b == 91) (place_at r) (stuck (b ∷ r)))) dot ∙ ap (λ t. cond t (place_at r) (stuck (b ∷ r))) bracket) (place-leaves text p rest e)
next_by b text p rest false false dot bracket e = absurd (cc)

pub next-leaves : (text : List ℕ) (p : Part) (rest : List ℕ) → next_at text ≡ Ok (p, rest) → Leaves next_at text p rest
next-leaves [] p rest e = absurd (cc)
next-leaves (b ∷ text) p rest e = next_by b text p rest (b == 46) (b == 91) refl refl e
