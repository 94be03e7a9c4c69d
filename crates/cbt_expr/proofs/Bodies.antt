-- The value of a whole expression is a fit body.
use Rattle.std.proofs.Common.{◌≡◌, ℕ, Bool, true, false, ◌&&◌, nat_le, length, Result, Ok, Err, refl, ap, subst, arith, if◌then◌else◌}
use Rattle.std.proofs.lemmas.Bool.{and_parts, leb-true, le-leb}
use Rattle.std.proofs.lemmas.Bool.Decides.{nat_tests}
use Rattle.cbt_json.specs.declared.value.Json.{Json}
use Rattle.cbt_json.specs.declared.tree.Tree.{Tree}
use Rattle.cbt_json.specs.Trees.{data_of, levels, text_of}
use Rattle.cbt_json.specs.Rules.{IsJson, BodyFits, is_regular, max_body_bytes, max_body_levels}
use Rattle.cbt_expr.specs.Values.{is_fit_body, judged}

pub fit_body : (v : Tree) → is_fit_body v ≡ true → IsJson v × BodyFits v
fit_body v fits =
    let p = and_parts (is_regular (data_of v) && nat_le (length (text_of v)) max_body_bytes) (nat_le (levels v) max_body_levels) fits in
    let q = and_parts (is_regular (data_of v)) (nat_le (length (text_of v)) max_body_bytes) p.0 in
    let low = leb-true (levels v) max_body_levels p.1 in
    ((omega arith, q.0), (leb-true (length (text_of v)) max_body_bytes q.1, low))

both : (a b c : Bool) → a ≡ true → b ≡ true → c ≡ true → (a && b && c) ≡ true
both true true true p q r = refl
both true true false p q r = r
both true false c p q r = absurd (cc)
both false b c p q r = absurd (cc)

is_fit : (v : Tree) → IsJson v → BodyFits v → is_fit_body v ≡ true
is_fit v json fits = both _ _ _ json.1 (le-leb _ _ fits.0) (le-leb _ _ fits.1)

abbrev picked : Bool → Json → Result Json ℕ
picked b x = if b then Ok x else Err 0

picked-Ok : (x v : Json) (b : Bool) → is_fit_body x ≡ b → picked b x ≡ Ok v → IsJson v × BodyFits v
picked-Ok x v true fits same = let e : x ≡ v = cc in subst (λ w. IsJson w × BodyFits w) e (fit_body x fits)
picked-Ok x v false fits same = absurd (cc)

pub judged-Ok : (r : Result Json ℕ) (v : Json) → judged r ≡ Ok v → IsJson v × BodyFits v
judged-Ok (Err part) v e = absurd (cc)
judged-Ok (Ok x) v e = picked-Ok x v (is_fit_body x) refl e

pub judged-fit : (v : Tree) → IsJson v → BodyFits v → judged (Ok v) ≡ Ok v
judged-fit v json fits = ap (λ b. picked b v) (is_fit v json fits)
