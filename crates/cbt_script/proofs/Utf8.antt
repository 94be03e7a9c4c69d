-- Whether bytes are text, as a test.
use Rattle.std.proofs.Common.{◌≡◌, ℕ, Bool, true, false, cond, List, Ok, Err, IsUtf8, refl, ap}
use Rattle.std.specs.Str.{is_utf8}
use Rattle.std.proofs.lemmas.Str.{IsUtf8-from_is_utf8, is_utf8-from_IsUtf8}
use Rattle.cbt_script.specs.declared.cause.Cause.TheVariants.{NotUtf8}
use Rattle.cbt_script.specs.Reading.{text_field}

pub text_taken : (line : List ℕ) → IsUtf8 line → text_field line ≡ Ok line
text_taken line is = ap (λ t. cond t (Ok line) (Err NotUtf8)) (is_utf8-from_IsUtf8 line is)

refused_if : (t : Bool) (line : List ℕ) → is_utf8 line ≡ t → ¬ (IsUtf8 line) → cond t (Ok line) (Err NotUtf8) ≡ Err NotUtf8
refused_if true line is none = absurd (none (IsUtf8-from_is_utf8 line is))
refused_if false line is none = refl

pub text_refused : (line : List ℕ) → ¬ (IsUtf8 line) → text_field line ≡ Err NotUtf8
text_refused line none = refused_if (is_utf8 line) line refl none
