-- The names in a path that is read from a text without line feeds have none.
use Rattle.std.proofs.Common.{◌≢◌, ℕ, zero, suc, ◌+◌, ◌-◌, ◌*◌, Bool, true, false, cond, eqb, List, [], ◌∷◌, length, take, drop, Option, Some, None, Result, Ok, Err, refl}
use Rattle.std.specs.List.{prefix_len}
use Rattle.std.specs.Char.{is_ascii_digit}
use Rattle.std.proofs.lemmas.List.Elements.{All-head, All-take, All-drop}
use Rattle.std.specs.Prelude.{nat_lt}
use Rattle.cbt_lex.specs.Lines.{IsOneLine}
use Rattle.cbt_subdoc.specs.PathLimits.{max_parts}
use Rattle.cbt_subdoc.specs.declared.path.Part.{Part}
use Rattle.cbt_subdoc.specs.declared.path.Part.TheVariants.{Name, Place, Last}
use Rattle.cbt_subdoc.specs.declared.path.PathFault.TheVariants.{Empty, TooLong, TooManyParts}
use Rattle.cbt_subdoc.specs.Paths.{Front, stuck, may_follow, closed, digits, last_place, place_at, is_plain, plain_name, prepended, quoted, quoted_name, name_at, first_at, next_at, led_by, part_and, further, parts_of, counted, path_of}
use Rattle.cbt_syntax.proofs.CleanTexts.{one-nil, one-cons, one-tail, one-fixed, IsCleanPart, AreClean}

-- a clean part, and a rest without line feeds
abbrev IsCleanFront : Front → Type 0
IsCleanFront (Ok x) = IsCleanPart x.0 × IsOneLine x.1
IsCleanFront (Err left) = Unit {0}

front_if : (t : Bool) (a b : Front) → IsCleanFront a → IsCleanFront b → IsCleanFront (cond t a b)
front_if true a b first second = first
front_if false a b first second = second

-- ---- places

closed-clean : (part : Part) (text : List ℕ) → IsCleanPart part → IsOneLine text → IsCleanFront (closed part text)
closed-clean part [] is all = tt
closed-clean part (b ∷ rest) is all = front_if (eqb b 93) (Ok (part, rest)) (stuck (b ∷ rest)) (is, one-tail b rest all) tt

digits-clean : (n : ℕ) (text : List ℕ) → IsOneLine text → IsCleanFront (digits n text)
digits-clean n [] all = tt
digits-clean n (b ∷ rest) all =
    front_if (may_follow n b) (digits (n * 10 + (b - 48)) rest) (closed (Place n) (b ∷ rest)) (digits-clean (n * 10 + (b - 48)) rest (one-tail b rest all))
    (closed-clean (Place n) (b ∷ rest) tt all)

last-clean : (text : List ℕ) → IsOneLine text → IsCleanFront (last_place text)
last-clean [] all = tt
last-clean (b ∷ rest) all = front_if (eqb b 49) (closed Last rest) (stuck (b ∷ rest)) (closed-clean Last rest tt (one-tail b rest all)) tt

place-clean : (text : List ℕ) → IsOneLine text → IsCleanFront (place_at text)
place-clean [] all = tt
place-clean (b ∷ rest) all =
    let behind = one-tail b rest all in
    front_if (eqb b 45) (last_place rest) _ (last-clean rest behind)
    (front_if (eqb b 48) (closed (Place 0) rest) _ (closed-clean (Place 0) rest tt behind)
    (front_if (is_ascii_digit b) (digits (b - 48) rest) (stuck (b ∷ rest)) (digits-clean (b - 48) rest behind) tt))

-- ---- names

abbrev Quoted : Type 0
Quoted = Option (List ℕ × List ℕ)

abbrev IsCleanQuoted : Quoted → Type 0
IsCleanQuoted None = Unit {0}
IsCleanQuoted (Some x) = IsOneLine x.0 × IsOneLine x.1

quoted_if : (t : Bool) (a b : Quoted) → IsCleanQuoted a → IsCleanQuoted b → IsCleanQuoted (cond t a b)
quoted_if true a b first second = first
quoted_if false a b first second = second

prepended-clean : (b : ℕ) (text : List ℕ) → IsOneLine (b ∷ text) → (q : Quoted) → IsCleanQuoted q → IsCleanQuoted (prepended b q)
prepended-clean b text all None is = tt
prepended-clean b text all (Some x) is = (one-cons b x.0 (All-head (λ y. y ≢ 10) b text all) is.0, is.1)

quoted-clean : (text : List ℕ) → IsOneLine text → IsCleanQuoted (quoted text)
quoted-clean [] all = tt
quoted-clean (b ∷ []) all = quoted_if (eqb b 96) (Some ([], [])) None (one-nil, one-nil) tt
quoted-clean (b ∷ c ∷ rest) all =
    let behind = one-tail b (c ∷ rest) all in
    quoted_if (eqb b 96) (cond (eqb c 96) (prepended 96 (quoted rest)) (Some ([], c ∷ rest))) (prepended b (quoted (c ∷ rest)))
    (quoted_if (eqb c 96) (prepended 96 (quoted rest)) (Some ([], c ∷ rest))
    (prepended-clean 96 [] (one-fixed (96 ∷ []) refl) (quoted rest) (quoted-clean rest (one-tail c rest behind))) (one-nil, behind))
    (prepended-clean b (c ∷ rest) all (quoted (c ∷ rest)) (quoted-clean (c ∷ rest) behind))

quoted_name-clean : (q : Quoted) → IsCleanQuoted q → IsCleanFront (quoted_name q)
quoted_name-clean None is = tt
quoted_name-clean (Some x) is = is

plain-clean : (len : ℕ) (text : List ℕ) → IsOneLine text → IsCleanFront (plain_name len text)
plain-clean len text all =
    front_if (eqb len 0) (stuck text) (Ok (Name (take len text), drop len text)) tt (All-take (λ x. x ≢ 10) len text all, All-drop (λ x. x ≢ 10) len text all)

name-clean : (text : List ℕ) → IsOneLine text → IsCleanFront (name_at text)
name-clean [] all = tt
name-clean (b ∷ rest) all =
    front_if (eqb b 96) (quoted_name (quoted rest)) (plain_name (prefix_len is_plain (b ∷ rest)) (b ∷ rest))
    (quoted_name-clean (quoted rest) (quoted-clean rest (one-tail b rest all))) (plain-clean (prefix_len is_plain (b ∷ rest)) (b ∷ rest) all)

-- ---- paths

first-clean : (text : List ℕ) → IsOneLine text → IsCleanFront (first_at text)
first-clean [] all = tt
first-clean (b ∷ rest) all = front_if (eqb b 91) (place_at rest) (name_at (b ∷ rest)) (place-clean rest (one-tail b rest all)) (name-clean (b ∷ rest) all)

next-clean : (text : List ℕ) → IsOneLine text → IsCleanFront (next_at text)
next-clean [] all = tt
next-clean (b ∷ rest) all =
    let behind = one-tail b rest all in
    front_if (eqb b 46) (name_at rest) _ (name-clean rest behind) (front_if (eqb b 91) (place_at rest) (stuck (b ∷ rest)) (place-clean rest behind) tt)

abbrev pub AreCleanParts : {E : Type 0} → Result (List Part) E → Type 0
AreCleanParts (Ok parts) = AreClean parts
AreCleanParts (Err fault) = Unit {0}

led-clean : (part : Part) (r : Result (List Part) ℕ) → IsCleanPart part → AreCleanParts r → AreCleanParts (led_by part r)
led-clean part (Ok parts) is are = (is, are)
led-clean part (Err left) is are = tt

part_and-clean : (behind : List ℕ → Result (List Part) ℕ) (front : Front) → ((text : List ℕ) → IsOneLine text → AreCleanParts (behind text)) → IsCleanFront front
    → AreCleanParts (part_and behind front)
part_and-clean behind (Ok x) then is = led-clean x.0 (behind x.1) is.0 (then x.1 is.1)
part_and-clean behind (Err left) then is = tt

further-clean : (n : ℕ) (text : List ℕ) → IsOneLine text → AreCleanParts (further n text)
further-clean zero [] all = tt
further-clean zero (b ∷ rest) all = tt
further-clean (suc n) [] all = tt
further-clean (suc n) (b ∷ rest) all = part_and-clean (further n) (next_at (b ∷ rest)) (further-clean n) (next-clean (b ∷ rest) all)

result_if : {E : Type 0} (t : Bool) (a b : Result (List Part) E) → AreCleanParts a → AreCleanParts b → AreCleanParts (cond t a b)
result_if true a b first second = first
result_if false a b first second = second

counted-clean : (len : ℕ) (r : Result (List Part) ℕ) → AreCleanParts r → AreCleanParts (counted len r)
counted-clean len (Ok parts) are = result_if (nat_lt max_parts (length parts)) (Err (TooManyParts (length parts))) (Ok parts) tt are
counted-clean len (Err left) are = tt

pub path-clean : (text : List ℕ) → IsOneLine text → AreCleanParts (path_of text)
path-clean text all =
    result_if (eqb (length text) 0) (Err Empty) _ tt
    (result_if (nat_lt 1024 (length text)) (Err (TooLong (length text))) (counted (length text) (parts_of text)) tt
    (counted-clean (length text) (parts_of text) (part_and-clean (further (length text)) (first_at text) (further-clean (length text)) (first-clean text all))))
