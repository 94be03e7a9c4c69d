-- The names of transaction records and their numbers.
use Rattle.std.proofs.Common.{◌≡◌, ℕ, ◌^◌, ◌<◌, ◌≤◌, Bool, true, false, cond, leb, List, ◌++◌, Option, Some, None, decimal, refl, ap, ◌∙◌, arith}
use Rattle.std.specs.Option.{option_and_then}
use Rattle.std.proofs.lemmas.Bool.{le-leb, leb-true}
use Rattle.cbt_lex.specs.Decimals.{number_of}
use Rattle.cbt_lex.proofs.DecimalsBack.{number_of-decimal}
use Rattle.cbt_shape.specs.Names.{atr_prefix, atr_name, behind, up_to, atr_in}
use Rattle.cbt_shape.proofs.Behind.{behind-found, behind-split}
use Rattle.cbt_shape.proofs.Decimals.{number_is}

pub atr_found : (n : ℕ) → n < 2 ^ 16 → atr_in (atr_name n) ≡ Some n
atr_found n fits =
    ap (λ o. up_to 65535 (option_and_then number_of o)) (behind-found atr_prefix (decimal n))
    ∙ ap (up_to 65535) (number_of-decimal n (omega arith))
    ∙ ap (λ t. cond t (Some n) None) (le-leb n 65535 (omega arith))

by_limit : (t : Bool) (m n : ℕ) → leb m 65535 ≡ t → cond t (Some m) None ≡ Some n → (m ≡ n) × (m ≤ 65535)
by_limit true m n low is = (cc, leb-true m 65535 low)
by_limit false m n low is = absurd (cc)

limited : (o : Option ℕ) (n : ℕ) → up_to 65535 o ≡ Some n → (o ≡ Some n) × (n < 2 ^ 16)
limited (Some m) n is = let p = by_limit (leb m 65535) m n refl is in let same = p.0 in let low = p.1 in (ap Some same, omega arith)
limited None n is = absurd (cc)

prefixed : (name : List ℕ) (o : Option (List ℕ)) (n : ℕ) → behind atr_prefix name ≡ o → option_and_then number_of o ≡ Some n → name ≡ atr_name n
prefixed name (Some rest) n at is = behind-split atr_prefix name rest at ∙ ap (λ r. atr_prefix ++ r) (number_is rest n is)
prefixed name None n at is = absurd (cc)

pub atr_is : (name : List ℕ) (n : ℕ) → atr_in name ≡ Some n → (n < 2 ^ 16) × (name ≡ atr_name n)
atr_is name n is =
    let p = limited (option_and_then number_of (behind atr_prefix name)) n is in
    (p.1, prefixed name (behind atr_prefix name) n refl p.0)
