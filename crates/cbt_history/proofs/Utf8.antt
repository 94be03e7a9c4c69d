-- Whether bytes are text, as a test.
use Rattle.std.proofs.Common.{◌≡◌, ℕ, Bool, true, false, cond, List, Option, None, IsUtf8, refl, ap}
use Rattle.std.specs.Str.{is_utf8}
use Rattle.std.proofs.lemmas.Str.{IsUtf8-from_is_utf8, is_utf8-from_IsUtf8}

pub text_taken : {X : Type 0} (line : List ℕ) (read : Option X) → IsUtf8 line → cond (is_utf8 line) read None ≡ read
text_taken line read is = ap (λ t. cond t read None) (is_utf8-from_IsUtf8 line is)

refused_if : {X : Type 0} (t : Bool) (line : List ℕ) (read : Option X) → is_utf8 line ≡ t → ¬ (IsUtf8 line) → cond t read None ≡ None
refused_if true line read is none = absurd (none (IsUtf8-from_is_utf8 line is))
refused_if false line read is none = refl

pub text_refused : {X : Type 0} (line : List ℕ) (read : Option X) → ¬ (IsUtf8 line) → cond (is_utf8 line) read None ≡ None
text_refused line read none = refused_if (is_utf8 line) line read refl none
