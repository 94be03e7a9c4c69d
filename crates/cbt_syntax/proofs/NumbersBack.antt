-- The text of a whole number is read as it.
use Rattle.std.proofs.Common.{◌≡◌, ℕ, ℤ, pos, negsuc, neg_ℤ, zero, suc, ◌+◌, ◌-◌, ◌*◌, ◌/◌, ◌%◌, ◌^◌, ◌<◌, ◌≤◌, true, false, cond, ◌||◌, eqb, ltb, List, [], ◌∷◌, ◌++◌, Ok, Err, refl, sym, ap, ◌∙◌, arith, append_assoc, decimal}
use Rattle.std.proofs.lemmas.Bool.{ne_eqb, lt-ltb}
use Rattle.std.proofs.lemmas.Bool.Decides.{nat_tests}
use Rattle.std.proofs.lemmas.Fmt.{decimal_by_steps}
use Rattle.cbt_lex.specs.Decimals.{is_digit}
use Rattle.cbt_lex.proofs.DecimalsBack.{digit}
use Rattle.cbt_syntax.specs.declared.fault.SyntaxFault.TheVariants.{NotWhole, Malformed}
use Rattle.cbt_syntax.specs.Readings.{◌>>=◌}
use Rattle.cbt_syntax.specs.Numbers.{digits, decimal_at, ended, negative_at, positive_at, number_at}
use Rattle.cbt_syntax.proofs.Ends.{Ends, digits-end, goes_on-end}

-- some digits begin with one, and are read as their number
record ReadsNumber (n : ℕ) (ds : List ℕ) : Type 0 where
  pub first : ℕ
  pub behind : List ℕ
  pub begins : ds ≡ first ∷ behind
  pub is_one : is_digit first ≡ true
  pub reads : n < 2 ^ 64 → (rest : List ℕ) → (0 < n → decimal_at (ds ++ rest) ≡ digits n rest) × (n ≡ 0 → decimal_at (ds ++ rest) ≡ Ok (0, rest))

one_digit : (n : ℕ) → n < 10 → ReadsNumber n ((48 + n) ∷ [])
one_digit n small = record {
  first = 48 + n;
  behind = [];
  begins = refl;
  is_one = digit n small;
  reads = λ below rest. (
    λ some. (let no_zero : eqb (48 + n) 48 ≡ false = ne_eqb (48 + n) 48 (λ e. omega (arith, e)) in
        let value : (48 + n) - 48 ≡ n = omega arith in
        ap (λ t. cond t (Ok (0, rest)) (cond (is_digit (48 + n)) (digits ((48 + n) - 48) rest) (Err Malformed))) no_zero
        ∙ ap (λ t. cond t (digits ((48 + n) - 48) rest) (Err Malformed)) (digit n small) ∙ ap (λ m. digits m rest) value),
    λ none. ap (λ m. decimal_at ((48 + m) ∷ rest)) none,
  );
}

more_digit : (n : ℕ) (ds : List ℕ) → 10 ≤ n → ReadsNumber (n / 10) ds → ReadsNumber n (ds ++ (48 + n % 10) ∷ [])
more_digit n ds many before = record {
  first = before.first;
  behind = before.behind ++ (48 + n % 10) ∷ [];
  begins = ap (λ l. l ++ (48 + n % 10) ∷ []) before.begins;
  is_one = before.is_one;
  reads = λ below rest. (
    λ some. (let front : n / 10 < 2 ^ 64 = omega arith in
        let first : 0 < n / 10 = omega arith in
        let last : n % 10 < 10 = omega arith in
        let is : is_digit (48 + n % 10) ≡ true = digit (n % 10) last in
        let value : n / 10 * 10 + ((48 + n % 10) - 48) ≡ n = omega arith in
        let room : ltb (n / 10 * 10 + ((48 + n % 10) - 48)) (2 ^ 64) ≡ true = lt-ltb _ _ (omega arith) in
        ap decimal_at (append_assoc ds ((48 + n % 10) ∷ []) rest) ∙ (before.reads front ((48 + n % 10) ∷ rest)).0 first
        ∙ ap (λ t. cond t (cond (ltb (n / 10 * 10 + ((48 + n % 10) - 48)) (2 ^ 64)) (digits (n / 10 * 10 + ((48 + n % 10) - 48)) rest) (Err NotWhole)) (Ok (n / 10, (48 + n % 10) ∷ rest))) is
        ∙ ap (λ t. cond t (digits (n / 10 * 10 + ((48 + n % 10) - 48)) rest) (Err NotWhole)) room
        ∙ ap (λ m. digits m rest) value),
    λ none. absurd (omega arith),
  );
}

reads-decimal : (n : ℕ) → n < 2 ^ 64 → ReadsNumber n (decimal n)
reads-decimal n below = decimal_by_steps ReadsNumber one_digit more_digit n below

pub decimal_at-text : (n : ℕ) (rest : List ℕ) → n < 2 ^ 64 → Ends rest → decimal_at (decimal n ++ rest) ≡ Ok (n, rest)
decimal_at-text zero rest below ends = ((reads-decimal 0 below).reads below rest).1 refl
decimal_at-text (suc n) rest below ends = ((reads-decimal (suc n) below).reads below rest).0 (omega arith) ∙ digits-end (suc n) rest ends

ended-end : (z : ℤ) (rest : List ℕ) → Ends rest → ended z rest ≡ Ok (z, rest)
ended-end z rest ends = ap (λ t. cond t (Err NotWhole) (Ok (z, rest))) (goes_on-end rest ends)

-- a decimal number begins with a digit
pub record Begins (text : List ℕ) : Type 0 where
  pub first : ℕ
  pub behind : List ℕ
  pub begins : text ≡ first ∷ behind
  pub is_one : is_digit first ≡ true

pub decimal-begins : (n : ℕ) → n < 2 ^ 64 → Begins (decimal n)
decimal-begins n below = let r = reads-decimal n below in record { first = r.first; behind = r.behind; begins = r.begins; is_one = r.is_one }

pub no_minus : (b : ℕ) → is_digit b ≡ true → eqb b 45 ≡ false
no_minus b e = grind (arith, nat_tests)

positive-read : (n : ℕ) (rest : List ℕ) → n < 2 ^ 64 → Ends rest → positive_at (decimal n ++ rest) ≡ Ok (pos n, rest)
positive-read n rest below ends = ap (λ r. r >>= (λ x. ended (pos x.0) x.1)) (decimal_at-text n rest below ends) ∙ ended-end (pos n) rest ends

pub number_at-positive : (n : ℕ) (rest : List ℕ) → n < 2 ^ 64 → Ends rest → number_at (decimal n ++ rest) ≡ Ok (pos n, rest)
unfolding number_at
number_at-positive n rest below ends =
    let b = decimal-begins n below in
    let text = b.behind ++ rest in
    ap (λ l. number_at (l ++ rest)) b.begins
    ∙ ap (λ t. cond t (negative_at text) (positive_at (b.first ∷ text))) (no_minus b.first b.is_one)
    ∙ ap (λ l. positive_at (l ++ rest)) (sym b.begins) ∙ positive-read n rest below ends

small_enough : (n : ℕ) → ltb n (2 ^ 63) ≡ true → eqb (suc n) 0 || ltb (2 ^ 63) (suc n) ≡ false
small_enough n e = grind (arith, nat_tests)

pub number_at-negative : (n : ℕ) (rest : List ℕ) → ltb n (2 ^ 63) ≡ true → Ends rest → number_at (45 ∷ decimal (suc n) ++ rest) ≡ Ok (negsuc n, rest)
unfolding number_at
number_at-negative n rest small ends =
    let below : suc n < 2 ^ 64 = grind (arith, nat_tests) in
    ap (λ r. r >>= (λ x. cond (eqb x.0 0 || ltb (2 ^ 63) x.0) (Err NotWhole) (ended (neg_ℤ (pos x.0)) x.1))) (decimal_at-text (suc n) rest below ends)
    ∙ ap (λ t. cond t (Err NotWhole) (ended (neg_ℤ (pos (suc n))) rest)) (small_enough n small)
    ∙ ended-end (negsuc n) rest ends
