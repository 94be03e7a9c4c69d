use Rattle.std.proofs.Common.{false, [], None, refl, sym, ap, ◌∙◌, subst}
use Rattle.cbt_txn.specs.Deciding.{Closed}
use Rattle.cbt_txn.specs.declared.tries.Try.{Try}
use Rattle.cbt_txn.proofs.ClosingLicences.{closed_licensed}
use Rattle.cbt_txn.proofs.Following.{closed_follows}
use Rattle.cbt_txn.proofs.Fresh.{is_new, is_under, owns_fresh, well_fresh}
use Rattle.cbt_txn.proofs.tries.Try.begin.Goals as goal
use Rattle.cbt_txn.proofs.BoundsClosing.{begun_few}

pub returns-clause-follows : goal.returns-clause-follows
returns-clause-follows c who t l0 plan id atrs past falls new =
    let a = c.begin-attempt.result in
    let is = c.begin-attempt.ensures in
    let it : Try = record { operations = c.in_ok-operations.operations; first = None; past = c.args.past; not_committed = false; closing = c.in_ok-closing.closing } in
    closed_follows t it l0 []
    (ap (λ k. k.id) c.in_ok-operations.ensures.attempt ∙ ap (λ k. k.id) is ∙ sym id) falls refl past refl
    (c.in_ok-operations.ensures.follows t l0 (ap (λ p. p.ops) plan)
    (is_under a c.args.id c.args.atrs c.args.plan.now.hold is t id atrs (ap (λ p. p.hold) plan)) (is_new a c.args.id c.args.atrs c.args.plan.now.hold is) past)
    (λ once. absurd once) (λ none. tt) (subst (λ k. Closed k c.in_ok-operations.operations c.in_ok-closing.closing) (sym (ap (λ p. p.keep) plan)) c.in_ok-closing.ensures)

pub returns-clause-licensed : goal.returns-clause-licensed
returns-clause-licensed c who l new =
    let a = c.begin-attempt.result in
    let is = c.begin-attempt.ensures in
    let it : Try = record { operations = c.in_ok-operations.operations; first = None; past = c.args.past; not_committed = false; closing = c.in_ok-closing.closing } in
    closed_licensed who it l
    (c.in_ok-operations.ensures.licensed who l (owns_fresh a c.args.id c.args.atrs c.args.plan.now.hold is who l new)
    (well_fresh a c.args.id c.args.atrs c.args.plan.now.hold is l)) c.args.plan.now.keep c.in_ok-closing.closing c.in_ok-closing.ensures

pub returns-clause-few : goal.returns-clause-few
returns-clause-few c =
    let a = c.begin-attempt.result in
    begun_few c.args.plan.now.ops c.args.plan.now.keep c.in_ok-operations.operations a c.in_ok-closing.closing (ap (λ k. k.writes) c.begin-attempt.ensures)
    c.in_ok-operations.ensures.few c.in_ok-closing.ensures
