-- Identifiers of documents are words.
use Rattle.std.proofs.Common.{◌≡◌, ℕ, suc, ◌+◌, ◌<◌, ◌≤◌, Bool, true, false, cond, eqb, ltb, not, List, [], ◌∷◌, length, Option, Some, None, position, refl, arith}
use Rattle.std.specs.List.{AllByRecursion, position_or_len}
use Rattle.std.proofs.lemmas.Bool.{ltb-false}
use Rattle.std.proofs.lemmas.Bool.Decides.{nat_tests}
use Rattle.cbt_base.specs.declared.doc_id.IdFault.{IdFault}
use Rattle.cbt_base.specs.declared.doc_id.IdFault.TheVariants.{Empty, TooLong}
use Rattle.cbt_base.specs.Ids.{is_id_byte, byte_fault, IsDocId}
use Rattle.cbt_lex.proofs.ByRecursion.{all_weaker}
use Rattle.cbt_lex.proofs.WordsBack.{IsWord}

id_above : (b : ℕ) → is_id_byte b ≡ true → 32 < b
id_above b is = grind (arith, nat_tests)

abbrev is_bad : ℕ → Bool
is_bad b = not (is_id_byte b)

pass_if : (t : Bool) (b : ℕ) (bs : List ℕ) → is_id_byte b ≡ t → suc (length bs) ≤ cond (not (not t)) (1 + position_or_len is_bad bs) 0
    → (length bs ≤ position_or_len is_bad bs → AllByRecursion (λ x. is_id_byte x ≡ true) bs) → AllByRecursion (λ x. is_id_byte x ≡ true) (b ∷ bs)
pass_if true b bs is long ih = (is, ih (omega arith))
pass_if false b bs is long ih = absurd (omega arith)

none_bad : (text : List ℕ) → length text ≤ position_or_len is_bad text → AllByRecursion (λ x. is_id_byte x ≡ true) text
none_bad [] long = tt
none_bad (b ∷ bs) long = pass_if (is_id_byte b) b bs refl long (none_bad bs)

abbrev Fault : Type 0
Fault = Option IdFault

third : (t : Bool) (text : List ℕ) → ltb (position_or_len is_bad text) (length text) ≡ t → byte_fault (cond t (Some (position_or_len is_bad text)) None) text ≡ None
    → AllByRecursion (λ x. is_id_byte x ≡ true) text
third true text is none = absurd (cc)
third false text is none = none_bad text (ltb-false (position_or_len is_bad text) (length text) is)

second : (t : Bool) (text : List ℕ) (last : Fault) → ◌≡◌ {A = Fault} (cond t (Some (TooLong (length text))) last) None → last ≡ None
second true text last none = absurd (cc)
second false text last none = none

first : (t : Bool) (last : Fault) → ◌≡◌ {A = Fault} (cond t (Some Empty) last) None → (t ≡ false) × (last ≡ None)
first true last none = absurd (cc)
first false last none = (refl, none)

some_bytes : (text : List ℕ) → eqb (length text) 0 ≡ false → 0 < length text
some_bytes [] is = absurd (cc)
some_bytes (b ∷ bs) is = omega arith

pub id_word : (id : List ℕ) → IsDocId id → IsWord id
id_word id fit =
    let rest = byte_fault (position is_bad id) id in
    let p = first (eqb (length id) 0) (cond (ltb 250 (length id)) (Some (TooLong (length id))) rest) fit in
    let all = third (ltb (position_or_len is_bad id) (length id)) id refl (second (ltb 250 (length id)) id rest p.1) in
    record { some = some_bytes id p.0; solid = all_weaker id_above id all }
