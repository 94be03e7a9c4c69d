-- A printed line is taken by its first word.
use Rattle.std.proofs.Common.{◌≡◌, ℕ, true, false, cond, eqb, List, ◌∷◌, ◌++◌, Some, Ok, refl, ap, ◌∙◌}
use Rattle.cbt_lex.proofs.Spaces.{IsLed, skip_led}
use Rattle.cbt_lex.proofs.WordsBack.{is_solid, word_literal, no_space, IsTail, word_next}
use Rattle.cbt_lex.specs.Lines.{skip_spaces}
use Rattle.cbt_lex.specs.Words.{word_and_rest}
use Rattle.cbt_script.specs.declared.draft.Draft.{Draft}
use Rattle.cbt_script.specs.declared.keywords.Keyword.{Keyword}
use Rattle.cbt_script.specs.Drafts.{take_keyword}
use Rattle.cbt_script.specs.Keywords.{keyword_of}
use Rattle.cbt_script.specs.Reading.{by_keyword, taken}

-- what a line with this first word makes of a draft
pub keyword_taken : (d : Draft) (b : ℕ) (bs tail : List ℕ) (keyword : Keyword) → is_solid (b ∷ bs) ≡ true → eqb b 35 ≡ false → keyword_of (b ∷ bs) ≡ Some keyword → IsTail tail
    → taken d (b ∷ bs ++ tail) ≡ take_keyword keyword d (skip_spaces tail)
keyword_taken d b bs tail keyword solid shown is end =
    let text = b ∷ bs ++ tail in
    ap (λ t. cond t (Ok d) (by_keyword (keyword_of (word_and_rest text).0) d (word_and_rest text).1)) shown
    ∙ ap (λ (p : List ℕ × List ℕ). by_keyword (keyword_of p.0) d p.1) (word_next (b ∷ bs) tail (no_space (b ∷ bs) (word_literal (b ∷ bs) solid)) end)
    ∙ ap (λ o. by_keyword o d (skip_spaces tail)) is

-- the same behind a space
pub line_taken : (d : Draft) (b : ℕ) (bs rest : List ℕ) (keyword : Keyword) → is_solid (b ∷ bs) ≡ true → eqb b 35 ≡ false → keyword_of (b ∷ bs) ≡ Some keyword → IsLed rest
    → taken d (b ∷ bs ++ 32 ∷ rest) ≡ take_keyword keyword d rest
line_taken d b bs rest keyword solid shown is led = keyword_taken d b bs (32 ∷ rest) keyword solid shown is refl ∙ ap (take_keyword keyword d) (skip_led rest led)
