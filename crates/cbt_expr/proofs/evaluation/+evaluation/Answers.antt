use Rattle.std.proofs.Common.{◌≡◌, ◌∙◌, ap, sym, ℕ, List, ◌∷◌, suc, ◌<◌, length, get_or, drop, drop-cons, Err}
use Rattle.std.proofs.lemmas.Result.{err_from_is_err_and}
use Rattle.cbt_json.specs.declared.tree.Tree.TheVariants as tree
use Rattle.cbt_expr.specs.declared.expressions.Term.{Term}
use Rattle.cbt_expr.specs.declared.expressions.Sign.{Sign}
use Rattle.cbt_expr.specs.Answers.{bound_in}
use Rattle.cbt_expr.specs.Forms.{one, object, term_form, terms_form, members_form}
use Rattle.cbt_expr.specs.Values.{made_into, term_valued, valued}
use Rattle.cbt_expr.proofs.Faults.{handed_on}
use Rattle.cbt_expr.proofs.Sums.{fault_stays, term_fault, operator_fault}
use Rattle.cbt_expr.proofs.Views.{form_of-terms, term_form-Members}
use Rattle.cbt_expr.proofs.evaluation.+evaluation.Goals as goal

pub term_value-returns-in_err-member_values-in-Members-clause-value :
    goal.term_value-returns-in_err-member_values-in-Members-clause-value
term_value-returns-in_err-member_values-in-Members-clause-value t c =
    let p = err_from_is_err_and c.from_residual-in_err-member_values-in-Members.result c.from_residual-in_err-member_values-in-Members.ensures.1 in
    let bound = bound_in c.args.bound.now in
    let form = ap term_form c.in-Members.is ∙ term_form-Members c.in-Members.members ∙ ap (λ ms. object (members_form ms)) (sym c.as_slice-in-Members.ensures) in
    handed_on _ _ _ _ _ p.1 p.2 c.in_err-member_values-in-Members.ensures.value
    (λ part e. ap (term_valued bound c.args.passed.now) form ∙ ap (made_into tree.Object) e)

pub term_value-returns-in_ok-member_values-in-Members-clause-value :
    goal.term_value-returns-in_ok-member_values-in-Members-clause-value
term_value-returns-in_ok-member_values-in-Members-clause-value t c =
    let form = ap term_form c.in-Members.is ∙ term_form-Members c.in-Members.members ∙ ap (λ ms. object (members_form ms)) (sym c.as_slice-in-Members.ensures) in
    ap (term_valued (bound_in c.args.bound.now) c.args.passed.now) form ∙ ap (made_into tree.Object) c.in_ok-member_values-in-Members.ensures.value

pub value_of-returns-in_err-sum-clause-value : goal.value_of-returns-in_err-sum-clause-value
value_of-returns-in_err-sum-clause-value t c =
    let p = err_from_is_err_and c.from_residual.result c.from_residual.ensures.1 in
    let bound = bound_in c.args.bound.now in
    handed_on _ _ _ _ _ p.1 p.2 c.in_err-sum.ensures.value
    (λ part e. ap (valued bound c.args.passed.now) (form_of-terms c.args.expr.now) ∙ fault_stays bound c.args.passed.now (one (term_form c.args.expr.now.first)) (terms_form c.args.expr.now.rest) part e)

-- the term at a place is the first of those that are left
terms_at : (xs : List (Sign × Term)) (i : ℕ) (x : Sign × Term) → i < length xs → x ≡ get_or xs i x → terms_form (drop i xs) ≡ (x.0, term_form x.1) ∷ terms_form (drop (suc i) xs)
terms_at xs i x below is = ap terms_form (drop-cons xs i x below) ∙ ap (λ y. (y.0, term_form y.1) ∷ terms_form (drop (suc i) xs)) (sym is)

pub value_of-returns-in_err-right-clause-value : goal.value_of-returns-in_err-right-clause-value
value_of-returns-in_err-right-clause-value t c =
    let p = err_from_is_err_and c.from_residual-in_err-right.result c.from_residual-in_err-right.ensures.1 in
    let left = terms_at c.as_slice-sign-items.result.now c.loop-sign.sign-index c.loop-sign-item.result c.loop-sign-test.true c.loop-sign-item.is in
    let number = c.in_ok-operator.ensures in
    handed_on _ _ _ _ _ p.1 p.2 c.in_err-right.ensures.value
    (term_fault _ _ _ _ _ _ c.loop-sign.invariant _ _ _ left _ (number.1 ∙ number.0))

pub value_of-returns-in-None-clause-value : goal.value_of-returns-in-None-clause-value
value_of-returns-in-None-clause-value t c =
    let left = terms_at c.as_slice-sign-items.result.now c.loop-sign.sign-index c.loop-sign-item.result c.loop-sign-test.true c.loop-sign-item.is in
    let number = c.in_ok-operator.ensures in
    operator_fault _ _ _ _ _ _ c.loop-sign.invariant _ _ _ left _ (number.1 ∙ number.0) _ c.in_ok-right.ensures.value (sym c.in-None.ensures) ∙ ap Err number.1
