-- The names of accounts and clients keep the rules of names, and no two are the same.
use Rattle.std.proofs.Common.{◌≡◌, ◌≢◌, ℕ, ◌+◌, ◌*◌, ◌/◌, ◌%◌, ◌<◌, true, List, [], ◌∷◌, get_or, ap, arith}
use Rattle.std.proofs.lemmas.Bool.Decides.{nat_tests}
use Rattle.cbt_base.specs.Ids.{is_id_byte, IsDocId}
use Rattle.cbt_lex.specs.Names.{is_name_byte, is_name}
use Rattle.cbt_script.specs.Rules.{IsActorName}
use Rattle.cbt_gen.specs.Names.{digit, account_id, client_name}

-- ---- digits

id_digit : (n : ℕ) → is_id_byte (digit n) ≡ true
id_digit n = let low : n % 10 < 10 = omega arith in grind (arith, nat_tests)

name_digit : (n : ℕ) → is_name_byte (digit n) ≡ true
name_digit n = let low : n % 10 < 10 = omega arith in grind (arith, nat_tests)

by_digits : (n : ℕ) → n < 10000 → n ≡ 1000 * (n / 1000 % 10) + 100 * (n / 100 % 10) + 10 * (n / 10 % 10) + n % 10
by_digits n small = omega arith

-- ---- accounts

four_fit : (a b c d : ℕ) → is_id_byte a ≡ true → is_id_byte b ≡ true → is_id_byte c ≡ true → is_id_byte d ≡ true
    → IsDocId (97 ∷ 99 ∷ 99 ∷ 45 ∷ a ∷ b ∷ c ∷ d ∷ [])
four_fit a b c d p q r s = rw (p, q, r, s)

pub account-fits : (number : ℕ) → IsDocId (account_id number)
account-fits n = four_fit (digit (n / 1000)) (digit (n / 100)) (digit (n / 10)) (digit n) (id_digit (n / 1000)) (id_digit (n / 100)) (id_digit (n / 10)) (id_digit n)

pub accounts-apart : (m n : ℕ) → m < 10000 → n < 10000 → m ≢ n → account_id m ≢ account_id n
accounts-apart m n p q other same =
    let first : digit (m / 1000) ≡ digit (n / 1000) = ap (λ bs. get_or bs 4 0) same in
    let second : digit (m / 100) ≡ digit (n / 100) = ap (λ bs. get_or bs 5 0) same in
    let third : digit (m / 10) ≡ digit (n / 10) = ap (λ bs. get_or bs 6 0) same in
    let fourth : digit m ≡ digit n = ap (λ bs. get_or bs 7 0) same in
    let left = by_digits m p in
    let right = by_digits n q in
    other (omega arith)

-- ---- clients

two_name : (a b : ℕ) → is_name_byte a ≡ true → is_name_byte b ≡ true → is_name (99 ∷ a ∷ b ∷ []) ≡ true
two_name a b p q = rw (p, q)

pub client-named : (number : ℕ) → IsActorName (client_name number)
client-named n = (
  two_name (digit (n / 10)) (digit n) (name_digit (n / 10)) (name_digit n),
  λ same. let first : 99 ≡ 115 = ap (λ bs. get_or bs 0 0) same in absurd (omega arith),
)

pub clients-apart : (m n : ℕ) → m < 100 → n < 100 → m ≢ n → client_name m ≢ client_name n
clients-apart m n p q other same =
    let tens : digit (m / 10) ≡ digit (n / 10) = ap (λ bs. get_or bs 1 0) same in
    let ones : digit m ≡ digit n = ap (λ bs. get_or bs 2 0) same in
    other (omega arith)

-- a cleaner has another name
pub client-other : (number : ℕ) (behind : List ℕ) → client_name number ≢ 107 ∷ behind
client-other number behind same = let first : get_or (client_name number) 0 0 ≡ 107 = ap (λ bs. get_or bs 0 0) same in omega (arith, first)
