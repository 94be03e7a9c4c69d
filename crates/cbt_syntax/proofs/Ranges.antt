-- Scalars keep the rules of JSON values.
use Rattle.std.proofs.Common.{◌≡◌, ℕ, zero, suc, ◌+◌, ◌-◌, ◌*◌, ◌^◌, ◌<◌, ◌≤◌, ℤ, pos, negsuc, neg_ℤ, Bool, true, false, cond, ◌||◌, eqb, ltb, List, [], ◌∷◌, Ok, Err, refl, sym, subst, ap, ◌∙◌, arith}
use Rattle.std.proofs.lemmas.Bool.Decides.{nat_tests}
use Rattle.cbt_json.specs.declared.tree.Tree.{Tree}
use Rattle.cbt_json.specs.declared.tree.Tree.TheVariants as t
use Rattle.cbt_json.specs.Rules.{IsJson, is_in_range, is_whole, is_regular, max_levels}
use Rattle.serde_json.specs.Data.{Data, depth}
use Rattle.cbt_json.specs.Trees.{data_of, number_of_whole}
use Rattle.cbt_json.proofs.Views.{data_of-Null, data_of-Whole, data_of-Text}
use Rattle.cbt_lex.specs.Decimals.{is_digit}
use Rattle.cbt_syntax.specs.declared.fault.SyntaxFault.TheVariants.{NotWhole}
use Rattle.cbt_syntax.specs.Readings.{Read, ◌>>=◌}
use Rattle.cbt_syntax.specs.Numbers.{digits, decimal_at, goes_on, ended, negative_at, number_at}

by_data : (tree : Tree) (d : Data) → data_of tree ≡ d → depth d ≤ 127 → is_regular d ≡ true → IsJson tree
by_data tree d is few rule = subst (λ x. (depth x ≤ max_levels) × (is_regular x ≡ true)) (sym is) (few, rule)

pub null-is_json : IsJson t.Null
null-is_json = by_data t.Null _ data_of-Null (omega arith) refl

pub text-is_json : (s : List ℕ) → IsJson (t.Text s)
text-is_json s = by_data (t.Text s) _ (data_of-Text s) (omega arith) refl

in_range_whole : (z : ℤ) → is_in_range z ≡ true → is_whole (number_of_whole z) ≡ true
in_range_whole (pos n) e = e
in_range_whole (negsuc n) e = e

pub whole-is_json : (z : ℤ) → is_in_range z ≡ true → IsJson (t.Whole z)
whole-is_json z e = by_data (t.Whole z) _ (data_of-Whole z) (omega arith) (in_range_whole z e)

-- ---- a number that is read lies in the range

abbrev Below : Read ℕ → Type 0
Below (Ok x) = x.0 < 2 ^ 64
Below (Err fault) = Unit {0}

either_below : (c : Bool) (r s : Read ℕ) → (c ≡ true → Below r) → Below s → Below (cond c r s)
either_below true r s first second = first refl
either_below false r s first second = second

digits-below : (n : ℕ) (text : List ℕ) → n < 2 ^ 64 → Below (digits n text)
digits-below n [] small = small
digits-below n (b ∷ bs) small =
    either_below (is_digit b) _ _
    (λ _. either_below (ltb (n * 10 + (b - 48)) (2 ^ 64)) _ _ (λ e. digits-below (n * 10 + (b - 48)) bs (grind (arith, nat_tests))) tt)
    small

decimal-below : (text : List ℕ) → Below (decimal_at text)
decimal-below [] = tt
decimal-below (b ∷ bs) =
    either_below (eqb b 48) _ _ (λ _. omega arith)
    (either_below (is_digit b) _ _ (λ e. let small : b - 48 < 2 ^ 64 = grind (arith, nat_tests) in digits-below (b - 48) bs small) tt)

abbrev pub InRange : Read ℤ → Type 0
InRange (Ok x) = is_in_range x.0 ≡ true
InRange (Err fault) = Unit {0}

either_range : (c : Bool) (r s : Read ℤ) → InRange r → (c ≡ false → InRange s) → InRange (cond c r s)
either_range true r s first second = first
either_range false r s first second = second refl

ended-range : (z : ℤ) (text : List ℕ) → is_in_range z ≡ true → InRange (ended z text)
ended-range z text e = either_range (goes_on text) _ _ tt (λ _. e)

negative_in_range : (n : ℕ) → eqb n 0 || ltb (2 ^ 63) n ≡ false → is_in_range (neg_ℤ (pos n)) ≡ true
negative_in_range zero e = absurd (cc)
negative_in_range (suc k) e = grind (arith, nat_tests)

positive_by : (r : Read ℕ) → Below r → InRange (r >>= (λ n. ended (pos n.0) n.1))
positive_by (Ok x) small = ended-range (pos x.0) x.1 (grind (arith, nat_tests))
positive_by (Err fault) small = tt

negative_by : (r : Read ℕ) → InRange (r >>= (λ n. cond (eqb n.0 0 || ltb (2 ^ 63) n.0) (Err NotWhole) (ended (neg_ℤ (pos n.0)) n.1)))
negative_by (Ok x) = either_range (eqb x.0 0 || ltb (2 ^ 63) x.0) _ _ tt (λ e. ended-range (neg_ℤ (pos x.0)) x.1 (negative_in_range x.0 e))
negative_by (Err fault) = tt

pub number-range : (text : List ℕ) → InRange (number_at text)
unfolding number_at
number-range [] = tt
number-range (b ∷ bs) = either_range (eqb b 45) (negative_at bs) _ (negative_by (decimal_at bs)) (λ _. positive_by (decimal_at (b ∷ bs)) (decimal-below (b ∷ bs)))

at_ok : (r : Read ℤ) (x : ℤ × List ℕ) → r ≡ Ok x → InRange r → is_in_range x.0 ≡ true
at_ok (Ok y) x e within = let same : y ≡ x = cc in ap (λ (p : ℤ × List ℕ). is_in_range p.0) (sym same) ∙ within
at_ok (Err fault) x e within = absurd (cc)

pub read-whole-is_json : (text rest : List ℕ) (z : ℤ) → number_at text ≡ Ok (z, rest) → IsJson (t.Whole z)
read-whole-is_json text rest z e = whole-is_json z (at_ok (number_at text) (z, rest) e (number-range text))
