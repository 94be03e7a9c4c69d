use Rattle.std.proofs.Common.{◌∙◌, ap, ℕ, List, Bor, Err, rules, arith}
use Rattle.std.proofs.lemmas.Result.{err_from_is_err_and}
use Rattle.cbt_subdoc.specs.declared.path.Part.{Part}
use Rattle.cbt_subdoc.specs.Paths.{next_at, parts_of}
use Rattle.cbt_subdoc.proofs.Shorter.{next-shorter, stands-first, stands-next, stands-done, stands-stuck}
use Rattle.cbt_subdoc.proofs.Exits.{exits}
use Rattle.cbt_subdoc.proofs.parsing.parts_of.Goals as goal

pub loop-rest-init : goal.loop-rest-init
loop-rest-init c = (search rules, stands-first c.args.text.now _ _ _ _ c.in_ok-first.ensures c.new-parts.ensures c.in_ok-push.ensures.ok)

pub returns-in_err-part : goal.returns-in_err-part
returns-in_err-part c =
    let p = err_from_is_err_and c.from_residual-in_err-part.result c.from_residual-in_err-part.ensures.1 in
    exits {A = Part × Bor (List ℕ)} {B = Part × List ℕ} (λ x. (x.0, x.1.now)) (λ parts. parts) c.in_err-part.field-0.0 c.from_residual-in_err-part.result (next_at c.loop-rest.rest.now) (parts_of c.args.text.now) (p.1 ∙ ap Err p.2) c.in_err-part.ensures
    (λ left e. stands-stuck _ c.loop-rest.parts c.loop-rest.rest.now left c.loop-rest.invariant.1 (omega arith) e)

pub loop-rest-smaller : goal.loop-rest-smaller
loop-rest-smaller c = next-shorter c.loop-rest.rest.now _ _ c.in_ok-part.ensures

pub loop-rest-preserved : goal.loop-rest-preserved
loop-rest-preserved c = (search rules, stands-next _ c.loop-rest.parts _ c.loop-rest.rest.now _ _ c.loop-rest.invariant.1 (omega arith) c.in_ok-part.ensures c.in_ok-push-2.ensures.ok)

pub returns : goal.returns
returns c = stands-done _ _ c.loop-rest.rest.now c.loop-rest.invariant.1 (omega arith)
