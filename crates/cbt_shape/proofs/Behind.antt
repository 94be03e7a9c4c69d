-- What stands behind a piece of a text.
use Rattle.std.proofs.Common.{◌≡◌, ℕ, Bool, true, false, cond, eqb, List, [], ◌∷◌, ◌++◌, drop, Option, Some, None, refl, sym, ap, ap₂, ◌∙◌, arith, Bor}
use Rattle.std.specs.Prelude.{MatchOption, option_copied}
use Rattle.std.specs.Str.Pattern.{FindsTextPrefix, StripsPrefix}
use Rattle.std.proofs.lemmas.Bool.{eqb-true}
use Rattle.std.proofs.lemmas.Bool.Decides.{nat_tests}
use Rattle.cbt_shape.specs.Names.{behind}

eqb-same : (n : ℕ) → eqb n n ≡ true
eqb-same n = grind (arith, nat_tests)

pub behind-found : (piece rest : List ℕ) → behind piece (piece ++ rest) ≡ Some rest
behind-found [] rest = refl
behind-found (w ∷ ws) rest = ap (λ t. cond t (behind ws (ws ++ rest)) None) (eqb-same w) ∙ behind-found ws rest

by_test : (t : Bool) (o : Option (List ℕ)) (rest : List ℕ) → cond t o None ≡ Some rest → (t ≡ true) × (o ≡ Some rest)
by_test true o rest e = (refl, e)
by_test false o rest e = absurd (cc)

pub behind-split : (piece text rest : List ℕ) → behind piece text ≡ Some rest → text ≡ piece ++ rest
behind-split [] text rest e = cc
behind-split (w ∷ ws) [] rest e = absurd (cc)
behind-split (w ∷ ws) (b ∷ bs) rest e =
    let p = by_test (eqb w b) (behind ws bs) rest e in
    ap₂ (λ x xs. x ∷ xs) (sym (eqb-true w b p.0)) (behind-split ws bs rest p.1)

pub none_where : (o : Option (List ℕ)) → ((rest : List ℕ) → o ≡ Some rest → ⊥) → o ≡ None
none_where None never = refl
none_where (Some rest) never = absurd (never rest refl)

pub stripped : (piece text : List ℕ) (r : Option (Bor (List ℕ))) → MatchOption r (FindsTextPrefix piece text None) (λ x. StripsPrefix (FindsTextPrefix piece) text x.now)
    → option_copied r ≡ behind piece text
stripped piece text None h = sym (none_where (behind piece text) (λ rest e. h rest (behind-split piece text rest e)))
stripped piece text (Some x) h =
    sym (ap (behind piece) h.1.1 ∙ behind-found piece (drop h.0 text) ∙ ap Some (sym h.2))
