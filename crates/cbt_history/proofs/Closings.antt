-- What the first lines of a canonical text may need behind them to be one.
use Rattle.std.proofs.Common.{◌≡◌, ℕ, ◌<◌, Bool, true, false, ltb, List, [], ◌∷◌, ◌++◌, codes, IsUtf8, refl, arith}
use Rattle.std.specs.List.{AllByRecursion, list_all, list_any}
use Rattle.std.proofs.lemmas.Bool.{ltb-true}
use Rattle.std.proofs.lemmas.List.Elements.{All-from_recursion}
use Rattle.std.proofs.lemmas.List.Folds.{list_any_at}
use Rattle.std.proofs.lemmas.Str.{IsUtf8-nil, IsUtf8-append, IsUtf8-from_ascii}
use Rattle.std.proofs.lemmas.Str.Ascii.{IsAscii-from_all}
use Rattle.cbt_lex.specs.Lines.{lined}
use Rattle.cbt_lex.proofs.ByRecursion.{all_weaker, all_pass}
use Rattle.cbt_history.specs.ScriptsRead.{closings}
use Rattle.cbt_history.proofs.ClientFronts.{ending}
use Rattle.cbt_history.proofs.Fronts.{Lines}

-- ---- UTF-8

pub literal_utf8 : (text : List ℕ) → list_all (λ b. ltb b 128) text ≡ true → IsUtf8 text
literal_utf8 text is =
    IsUtf8-from_ascii text (IsAscii-from_all text (All-from_recursion (λ b. b < 128) text (all_weaker (λ b below. ltb-true b 128 below) text (all_pass (λ b. ltb b 128) text is))))

pub lined_utf8 : (lines : Lines) → AllByRecursion IsUtf8 lines → IsUtf8 (lined lines)
lined_utf8 [] all = IsUtf8-nil
lined_utf8 (line ∷ lines) all = IsUtf8-append (line ++ 10 ∷ []) (lined lines) (IsUtf8-append line (10 ∷ []) all.0 (literal_utf8 (10 ∷ []) refl)) (lined_utf8 lines all.1)

-- ---- closings

pub record IsClosing (closing : Lines) : Type 0 where
  -- what holds of it holds of one of the closings
  pub among : (p : List ℕ → Bool) → p (lined closing) ≡ true → list_any p closings ≡ true
  pub utf8 : AllByRecursion IsUtf8 closing

abbrev pub lapse_line : List ℕ
lapse_line = codes "lapse 1"

abbrev pub tries_line : List ℕ
tries_line = codes "tries 1"

abbrev pub expiry_line : List ℕ
expiry_line = codes "expiry 1"

abbrev pub atrs_line : List ℕ
atrs_line = codes "atrs 1"

lapse_utf8 : IsUtf8 lapse_line
lapse_utf8 = literal_utf8 lapse_line refl

tries_utf8 : IsUtf8 tries_line
tries_utf8 = literal_utf8 tries_line refl

expiry_utf8 : IsUtf8 expiry_line
expiry_utf8 = literal_utf8 expiry_line refl

pub closes_ending : (inside : Bool) → IsClosing (ending inside)
closes_ending false = record { among = λ p is. list_any_at p closings 0 [] (omega arith) is; utf8 = tt }
closes_ending true = record { among = λ p is. list_any_at p closings 1 [] (omega arith) is; utf8 = (literal_utf8 (codes "commit") refl, tt) }

pub closes_lapse : IsClosing (lapse_line ∷ [])
closes_lapse = record { among = λ p is. list_any_at p closings 2 [] (omega arith) is; utf8 = (lapse_utf8, tt) }

pub closes_tries : IsClosing (tries_line ∷ lapse_line ∷ [])
closes_tries = record { among = λ p is. list_any_at p closings 3 [] (omega arith) is; utf8 = (tries_utf8, (lapse_utf8, tt)) }

pub closes_expiry : IsClosing (expiry_line ∷ tries_line ∷ lapse_line ∷ [])
closes_expiry = record { among = λ p is. list_any_at p closings 4 [] (omega arith) is; utf8 = (expiry_utf8, (tries_utf8, (lapse_utf8, tt))) }

pub closes_atrs : IsClosing (atrs_line ∷ expiry_line ∷ tries_line ∷ lapse_line ∷ [])
closes_atrs = record { among = λ p is. list_any_at p closings 5 [] (omega arith) is; utf8 = (literal_utf8 atrs_line refl, (expiry_utf8, (tries_utf8, (lapse_utf8, tt)))) }
