-- The last of some bytes in a text.
use lib.Utf8.{encode}
use Rattle.std.proofs.Common.{◌≡◌, ◌≢◌, ℕ, suc, ◌<◌, cond, eqb, List, [], ◌∷◌, ◌++◌, length, get_or, drop, Some, None, refl, sym, ap, ◌∙◌, subst, arith}
use Rattle.std.specs.Str.{NoCharPasses}
use Rattle.std.specs.Str.Pattern.{SplitsAroundMatch, RFindsChar}
use Rattle.std.proofs.lemmas.Bool.{ne_eqb, eq-eqb, lt-ltb}
use Rattle.std.proofs.lemmas.List.{take-append-drop}
use Rattle.std.proofs.lemmas.Str.Pattern.{NoCharPasses-char}
use Rattle.cbt_lex.proofs.Pieces.{Lacking}
use Rattle.cbt_history.specs.Fields.{cut_here, last_cut}

module _ (c : ℕ) where
  pub none_to_cut : (text : List ℕ) → Lacking c text → last_cut c text ≡ None
  none_to_cut [] lacking = refl
  none_to_cut (b ∷ bs) lacking = ap (cut_here c b bs) (none_to_cut bs lacking.1) ∙ ap (λ t. cond t (Some ([], bs)) None) (ne_eqb b c lacking.0)

  pub cut_last : (front back : List ℕ) → Lacking c back → last_cut c (front ++ c ∷ back) ≡ Some (front, back)
  cut_last [] back lacking = ap (cut_here c c back) (none_to_cut back lacking) ∙ ap (λ t. cond t (Some ([], back)) None) (eq-eqb c c refl)
  cut_last (x ∷ xs) back lacking = ap (cut_here c x (xs ++ c ∷ back)) (cut_last xs back lacking)

  -- no byte at any place
  pub lacks_each : (text : List ℕ) → ((i : ℕ) → i < length text → get_or text i 0 ≢ c) → Lacking c text
  lacks_each [] none = tt
  lacks_each (b ∷ bs) none = (none 0 (omega arith), lacks_each bs (λ i low. none (suc i) (omega arith)))

encoded : (c : ℕ) → c < 128 → encode c ≡ c ∷ []
unfolding encode
encoded c ascii = let is = lt-ltb c 128 ascii in rw is refl

-- a text around its last ASCII character c
pub around_last : (c : ℕ) (s front back : List ℕ) → c < 128 → SplitsAroundMatch (RFindsChar c) s front back → last_cut c s ≡ Some (front, back)
around_last c s front back ascii around =
    let i = around.0 in
    let finds = around.2 in
    let is_front = around.3 in
    let is_back = around.4 in
    let lacking : Lacking c back = lacks_each c back (λ k low. NoCharPasses-char c back k (subst (NoCharPasses (λ d. eqb d c)) (sym is_back) finds.0) ascii low) in
    let at : drop i s ≡ c ∷ back = finds.1.split ∙ ap (λ x. encode c ++ x) (sym is_back) ∙ ap (λ x. x ++ back) (encoded c ascii) in
    let whole : s ≡ front ++ c ∷ back = sym (take-append-drop i s) ∙ ap (λ x. x ++ drop i s) (sym is_front) ∙ ap (λ x. front ++ x) at in
    ap (last_cut c) whole ∙ cut_last c front back lacking

-- a text without it
pub without : (c : ℕ) (s : List ℕ) → c < 128 → NoCharPasses (λ d. eqb d c) s → last_cut c s ≡ None
without c s ascii none = none_to_cut c s (lacks_each c s (λ k low. NoCharPasses-char c s k none ascii low))
