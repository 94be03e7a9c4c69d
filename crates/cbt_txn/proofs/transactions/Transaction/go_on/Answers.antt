use Rattle.std.proofs.Common.{◌≡◌, ℕ, ◌<◌, ◌≤◌, true, false, length, sym, ap, ◌∙◌, subst, arith}
use Rattle.cbt_txn.specs.Transactions.{Tells, TxnStands, is_retried}
use Rattle.cbt_txn.specs.Tries.{outcome}
use Rattle.cbt_txn.specs.declared.transactions.Transaction.{Transaction}
use Rattle.cbt_txn.proofs.Outcomes.{err_always}
use Rattle.cbt_txn.proofs.TxnTries.{is_again, late_by, stands_late, stands_so, waits_tells}
use Rattle.cbt_txn.proofs.transactions.Transaction.go_on.Goals as goal

not_again : {b : _} → b ≡ false → b ≡ true → ⊥
not_again one two = cc

left : (txn : Transaction) (tries most : ℕ) → most ≡ tries → length txn.attempts < tries → length txn.attempts < most
left txn tries most same less = omega (arith, same, less)

pub returns-then-not-is_retried-clause-follows : goal.returns-then-not-is_retried-clause-follows
returns-then-not-is_retried-clause-follows c who x before mine under plan falls may it unended =
    let now = c.loop.invariant.follows who x before mine under plan falls may it in
    let here = c.loop.self in
    subst (λ k. TxnStands x k before mine) (sym c.set_end.ensures)
    (subst (λ e. TxnStands x (record here { end = e }) before mine) (sym c.end_without_try.ensures)
    (stands_so x here before mine falls now (λ again. absurd (not_again (sym c.is_retried.ensures ∙ c.if-not-is_retried.true) (ap is_retried again)))))

pub returns-then-is_past-clause-follows : goal.returns-then-is_past-clause-follows
returns-then-is_past-clause-follows c who x before mine under plan falls may it unended =
    let now = c.loop.invariant.follows who x before mine under plan falls may it in
    let here = c.loop.self in
    let again = is_again (outcome here.trying.it) (sym c.is_retried.ensures ∙ c.if-not-is_retried.false) in
    subst (λ k. TxnStands x k before mine) (sym c.set_end-then-is_past.ensures)
    (stands_late x here before mine falls now again (left c.loop.self c.args.plan.now.tries x.plan.tries (ap (λ p. p.tries) plan) (omega (arith, c.loop.invariant.count, c.loop-test.true)))
    (late_by x here before mine falls now again c.args.plan.now.expiry (ap (λ p. p.expiry) plan) (sym c.is_past.ensures ∙ c.if-is_past.true)))

pub returns-in_err-try_again-clause-halts : goal.returns-in_err-try_again-clause-halts
returns-in_err-try_again-clause-halts c who x before mine under plan falls may it unended =
    let now = c.loop.invariant.follows who x before mine under plan falls may it in
    let here = c.loop.self in
    let again = is_again (outcome here.trying.it) (sym c.is_retried.ensures ∙ c.if-not-is_retried.false) in
    err_always _ _ (subst (λ k. Tells x k before mine) (sym c.in_err-try_again.ensures.err)
    (waits_tells x here before mine falls now again (c.loop.invariant.end ∙ unended)
    (left here c.args.plan.now.tries x.plan.tries (ap (λ p. p.tries) plan) (omega (arith, c.loop.invariant.count, c.loop-test.true)))))

pub returns-clause-follows : goal.returns-clause-follows
returns-clause-follows c who x before mine under plan falls may it unended =
    let now = c.loop.invariant.follows who x before mine under plan falls may it in
    let here = c.loop.self in
    subst (λ k. TxnStands x k before mine) (sym c.set_end-2.ensures)
    (subst (λ e. TxnStands x (record here { end = e }) before mine) (sym c.end_without_try-2.ensures)
    (stands_so x here before mine falls now (λ again. subst (λ k. k ≤ length here.attempts) (sym (ap (λ p. p.tries) plan)) (omega (arith, c.loop.invariant.count, c.loop-test.false)))))
