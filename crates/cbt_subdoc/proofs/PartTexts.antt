-- A part's text is read as the part.
use Rattle.std.proofs.Common.{◌≡◌, ◌≢◌, ℕ, zero, suc, ◌+◌, ◌-◌, ◌*◌, ◌/◌, ◌%◌, ◌^◌, ◌<◌, ◌≤◌, ◌==◌, Bool, true, false, cond, List, [], ◌∷◌, ◌++◌, get_or, Some, Ok, refl, sym, ap, ◌∙◌, arith, append_assoc, decimal, eqb-true, ltb}
use Rattle.std.proofs.lemmas.Bool.{ne_eqb, and_from, lt-ltb}
use Rattle.std.proofs.lemmas.Bool.Decides.{nat_tests}
use Rattle.std.proofs.lemmas.Fmt.{decimal_by_steps}
use Rattle.std.specs.Char.{is_ascii_digit}
use Rattle.cbt_subdoc.specs.declared.path.Part.{Part}
use Rattle.cbt_subdoc.specs.declared.path.Part.TheVariants.{Name, Place, Last}
use Rattle.cbt_subdoc.specs.Paths.{stuck, closed, digits, last_place, place_at, prepended, quoted, quoted_name, name_at, first_at}
use Rattle.cbt_subdoc.specs.Written.{doubled, part_text}
use Rattle.cbt_subdoc.proofs.Quotes.{quoted-plain, quoted-end, quoted-two, fronted}

-- ---- names

doubled_by : (b : ℕ) (name rest : List ℕ) (t : Bool) → (b == 96) ≡ t → quoted (doubled name ++ 96 ∷ rest) ≡ Some (name, rest)
    → quoted (cond t (96 ∷ 96 ∷ doubled name) (b ∷ doubled name) ++ 96 ∷ rest) ≡ Some (b ∷ name, rest)
doubled_by b name rest true is tail =
    let same : b ≡ 96 = eqb-true b 96 is in
    quoted-two (doubled name ++ 96 ∷ rest) ∙ ap (fronted (96 ∷ [])) tail ∙ ap (λ c. Some (c ∷ name, rest)) (sym same)
doubled_by b name rest false is tail =
    let other : b ≢ 96 = λ e. (let clash : (b == 96) ≡ true = ap (λ c. c == 96) e in cc) in
    quoted-plain b (doubled name ++ 96 ∷ rest) other ∙ ap (prepended b) tail

pub quoted-doubled : (name rest : List ℕ) → get_or rest 0 0 ≢ 96 → quoted (doubled name ++ 96 ∷ rest) ≡ Some (name, rest)
quoted-doubled [] rest other = quoted-end rest (λ _. other)
quoted-doubled (b ∷ name) rest other = doubled_by b name rest (b == 96) refl (quoted-doubled name rest other)

pub name_at-text : (name rest : List ℕ) → get_or rest 0 0 ≢ 96 → name_at (part_text (Name name) ++ rest) ≡ Ok (Name name, rest)
name_at-text name rest other =
    ap (λ l. quoted_name (quoted l)) (append_assoc (doubled name) (96 ∷ []) rest) ∙ ap quoted_name (quoted-doubled name rest other)

-- ---- places

abbrev ReadsNumber : ℕ → List ℕ → Type 0
ReadsNumber n ds = n < 2 ^ 31 → (rest : List ℕ) → (0 < n → place_at (ds ++ rest) ≡ digits n rest) × (n ≡ 0 → place_at (ds ++ rest) ≡ closed (Place 0) rest)

is_digit : (n : ℕ) → n < 10 → is_ascii_digit (48 + n) ≡ true
is_digit n small = grind (arith, nat_tests)

one_digit : (n : ℕ) → n < 10 → ReadsNumber n ((48 + n) ∷ [])
one_digit n small below rest = (
  λ some. (let no_minus : (48 + n == 45) ≡ false = ne_eqb (48 + n) 45 (λ e. omega (arith, e)) in
      let no_zero : (48 + n == 48) ≡ false = ne_eqb (48 + n) 48 (λ e. omega (arith, e)) in
      let digit : is_ascii_digit (48 + n) ≡ true = is_digit n small in
      let value : (48 + n) - 48 ≡ n = omega arith in
      ap (λ t. cond t (last_place rest) (cond (48 + n == 48) (closed (Place 0) rest) (cond (is_ascii_digit (48 + n)) (digits ((48 + n) - 48) rest) (stuck ((48 + n) ∷ rest))))) no_minus
      ∙ ap (λ t. cond t (closed (Place 0) rest) (cond (is_ascii_digit (48 + n)) (digits ((48 + n) - 48) rest) (stuck ((48 + n) ∷ rest)))) no_zero
      ∙ ap (λ t. cond t (digits ((48 + n) - 48) rest) (stuck ((48 + n) ∷ rest))) digit ∙ ap (λ m. digits m rest) value),
  λ none. ap (λ m. place_at ((48 + m) ∷ rest)) none,
)

more_digit : (n : ℕ) (ds : List ℕ) → 10 ≤ n → ReadsNumber (n / 10) ds → ReadsNumber n (ds ++ (48 + n % 10) ∷ [])
more_digit n ds many before below rest = (
  λ some. (let front : n / 10 < 2 ^ 31 = omega arith in
      let first : 0 < n / 10 = omega arith in
      let last : n % 10 < 10 = omega arith in
      let digit : is_ascii_digit (48 + n % 10) ≡ true = is_digit (n % 10) last in
      let value : n / 10 * 10 + ((48 + n % 10) - 48) ≡ n = omega arith in
      let room : ltb (n / 10 * 10 + ((48 + n % 10) - 48)) (2 ^ 31) ≡ true = lt-ltb _ _ (omega arith) in
      ap place_at (append_assoc ds ((48 + n % 10) ∷ []) rest) ∙ (before front ((48 + n % 10) ∷ rest)).0 first
      ∙ ap (λ t. cond t (digits (n / 10 * 10 + ((48 + n % 10) - 48)) rest) (closed (Place (n / 10)) ((48 + n % 10) ∷ rest))) (and_from _ _ digit room)
      ∙ ap (λ m. digits m rest) value),
  λ none. absurd (omega arith),
)

digits-end : (n : ℕ) (rest : List ℕ) → digits n (93 ∷ rest) ≡ Ok (Place n, rest)
digits-end n rest = refl

pub number_text : (n : ℕ) (rest : List ℕ) → n < 2 ^ 31 → place_at (decimal n ++ 93 ∷ rest) ≡ Ok (Place n, rest)
number_text zero rest below = (decimal_by_steps ReadsNumber one_digit more_digit 0 (omega arith) below (93 ∷ rest)).1 refl
number_text (suc n) rest below = (decimal_by_steps ReadsNumber one_digit more_digit (suc n) (omega arith) below (93 ∷ rest)).0 (omega arith) ∙ digits-end (suc n) rest

place_at-text : (n : ℕ) (rest : List ℕ) → n < 2 ^ 31 → first_at (part_text (Place n) ++ rest) ≡ Ok (Place n, rest)
place_at-text n rest below = ap place_at (append_assoc (decimal n) (93 ∷ []) rest) ∙ number_text n rest below

-- ---- parts

-- a text can name a place below 2^31 alone
abbrev pub IsNameable : Part → Type 0
IsNameable (Place n) = n < 2 ^ 31
IsNameable _ = Unit {0}

pub first_at-text : (part : Part) (rest : List ℕ) → IsNameable part → get_or rest 0 0 ≢ 96 → first_at (part_text part ++ rest) ≡ Ok (part, rest)
first_at-text (Name name) rest small other = name_at-text name rest other
first_at-text (Place n) rest small other = place_at-text n rest small
first_at-text Last rest small other = refl
