-- The test of a fit body answers as the rule of a body has it.
use Rattle.std.proofs.Common.{◌≡◌, ◌↔◌, Bool, true, false, ◌&&◌, nat_le, length, IsTrue, refl, sym, ap, ◌∙◌}
use Rattle.std.proofs.lemmas.Bool.{and_parts, le-leb, leb-true}
use Rattle.cbt_json.specs.Rules.{BodyFits, max_body_bytes, max_body_levels}
use Rattle.cbt_json.specs.Trees.{levels, text_of}
use Rattle.cbt_json.specs.declared.value.Json.{Json}
use Rattle.cbt_model.specs.Bodies.{body_fits_of}

pub body_fits_of-fits : (body : Json) → BodyFits body → body_fits_of body ≡ true
unfolding body_fits_of
body_fits_of-fits body fits =
    ap (λ b. b && nat_le (levels body) max_body_levels) (le-leb (length (text_of body)) max_body_bytes fits.0) ∙ le-leb (levels body) max_body_levels fits.1

pub fits-body_fits_of : (body : Json) → body_fits_of body ≡ true → BodyFits body
unfolding body_fits_of
fits-body_fits_of body is =
    let parts = and_parts (nat_le (length (text_of body)) max_body_bytes) (nat_le (levels body) max_body_levels) is in
    (leb-true (length (text_of body)) max_body_bytes parts.0, leb-true (levels body) max_body_levels parts.1)

-- a test that answers by the rule is this one
pub same-test : (b : Bool) (body : Json) → IsTrue b ↔ BodyFits body → b ≡ body_fits_of body
same-test true body rule = sym (body_fits_of-fits body (rule.0 refl))
same-test false body rule = go (body_fits_of body) refl
  where
    go : (v : Bool) → body_fits_of body ≡ v → false ≡ v
    go true is = rule.1 (fits-body_fits_of body is)
    go false is = refl
