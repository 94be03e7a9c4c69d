use Rattle.std.proofs.Common.{◌≡◌, ℕ, Some, [], refl, sym, ap, ◌∙◌, subst, arith, length, ◌<◌, ◌≤◌}
use Rattle.cbt_base.specs.Ids.{attempt_number}
use Rattle.cbt_book.specs.OwnLists.{Once}
use Rattle.cbt_book.specs.Shown.{adds}
use Rattle.cbt_core.specs.Transactions.{attempt_terms}
use Rattle.cbt_txn.specs.Closings.{IsNewTo, IsOf}
use Rattle.cbt_txn.specs.Bounds.{try_left}
use Rattle.cbt_txn.specs.TxnBounds.{try_most}
use Rattle.cbt_txn.proofs.TxnBounds.{first_left}
use Rattle.cbt_txn.proofs.TxnLicences.{first_licensed, first_new}
use Rattle.cbt_txn.proofs.TxnTries.{begins_tries}
use Rattle.cbt_txn.proofs.transactions.Transaction.begin.Goals as goal

pub returns-clause-follows : goal.returns-clause-follows
returns-clause-follows c who x before under plan own past falls earlier =
    let terms = c.args.terms in
    let new = subst (λ k. IsNewTo who k before) (sym c.attempt-id.ensures) (first_new who terms before terms.small.0 terms.small.1 own earlier) in
    let id = ap (λ k. attempt_number k x.number 1) under.client ∙ ap (λ k. attempt_number terms.client k 1) under.number ∙ sym c.attempt-id.ensures in
    c.in_ok-go_on.ensures.follows who x before [] under plan falls
    (first_licensed who _ before own earlier (ap length c.in_ok-attempts.ensures.1)
    (subst (λ k. IsOf k terms.atrs c.in_ok-it.it) c.attempt-id.ensures c.in_ok-it.ensures.of) (c.in_ok-it.ensures.licensed who before new))
    (begins_tries x _ before c.in_ok-attempts.ensures.0 (subst (λ k. 0 < k) (sym (ap (λ p. p.tries) plan)) c.requires.tries) c.in_ok-attempts.ensures.1 refl
    (subst (λ k. ¬ Once (λ m _. adds m.step ≡ Some k) before) (sym id) new.unsent)
    (λ start. c.in_ok-it.ensures.follows who (attempt_terms x start 1) before plan id under.atrs past falls new))
    refl

pub returns-clause-licensed : goal.returns-clause-licensed
returns-clause-licensed c who l own earlier =
    let terms = c.args.terms in
    let new = subst (λ k. IsNewTo who k l) (sym c.attempt-id.ensures) (first_new who terms l terms.small.0 terms.small.1 own earlier) in
    c.in_ok-go_on.ensures.licensed who l
    (first_licensed who _ l own earlier (ap length c.in_ok-attempts.ensures.1)
    (subst (λ k. IsOf k terms.atrs c.in_ok-it.it) c.attempt-id.ensures c.in_ok-it.ensures.of) (c.in_ok-it.ensures.licensed who l new))

pub returns-clause-few : goal.returns-clause-few
returns-clause-few c =
    let plan = c.args.plan.now in
    at_most c.in_ok-go_on.ensures.no_more
    (first_left plan.tries (length c.in_ok-attempts.attempts) (try_left plan.ops c.in_ok-it.it) (try_most plan.ops) c.requires.tries
    (ap length c.in_ok-attempts.ensures.1) c.in_ok-it.ensures.few)
  where
    at_most : {a b d : ℕ} → a ≤ b → b ≤ d → a ≤ d
    at_most one two = omega arith
