use Rattle.std.proofs.Common.{◌≡◌, ℕ, suc, ◌+◌, nat_lt, ◌∷◌, ◌++◌, length, Option, Some, refl, sym, ap, ◌∙◌}
use Rattle.std.specs.Option.{unwrap_or}
use Rattle.cbt_model.specs.declared.events.Made.{Made}
use Rattle.cbt_core.specs.Transactions.{attempt_terms, start_of}
use Rattle.cbt_txn.proofs.Outcomes.{err_always}
use Rattle.cbt_txn.proofs.TxnLicences.{called_licensed}
use Rattle.cbt_txn.proofs.TxnTries.{begins_less, call_falls, cut_tells, first_stands, first_start, learns_tries, trying_may}
use Rattle.cbt_txn.proofs.transactions.Transaction.learn.Goals as goal

-- whether the answer is late is told by the time of the first answer
late_at : (begun : Option ℕ) (at start expiry most now : ℕ) (late : _) → at ≡ unwrap_or begun now → start ≡ unwrap_or begun now → most ≡ expiry
    → late ≡ nat_lt (at + expiry) now → late ≡ nat_lt (start + most) now
late_at begun at start expiry most now late at_is start_is same is =
    is ∙ ap (λ k. nat_lt (k + expiry) now) (at_is ∙ sym start_is) ∙ ap (λ k. nat_lt (start + k) now) (sym same)

pub returns-clause-follows : goal.returns-clause-follows
returns-clause-follows c who x before mine s under plan asked falls may it unended =
    let old = c.args.self.now in
    let m : Made = record { step = s; answer = c.args.answer } in
    c.go_on.ensures.follows who x before (m ∷ mine) under plan falls
    (called_licensed who old (mine ++ before) may old.terms.small.0 old.terms.small.1 _ s c.args.answer asked refl refl c.in_ok-learn.ensures.same
    (c.in_ok-learn.ensures.licensed who (mine ++ before) s asked may.goes_on))
    (learns_tries x old _ before mine m it refl (ap Some c.unwrap_or-start.ensures ∙ sym (first_stands old.start m mine it.start_is)) refl
    (λ start begins. c.in_ok-learn.ensures.follows who (attempt_terms x start (suc (length it.tries))) (it.tried ++ before) it.this s plan
    (late_at old.start c.unwrap_or-start.result start c.args.plan.now.expiry x.plan.expiry c.args.answer.now c.is_late-late.result c.unwrap_or-start.ensures
    (first_start start old.start m mine it.start_is begins) (ap (λ p. p.expiry) plan) c.is_late-late.ensures) asked
    (call_falls x old old before mine m it falls) (trying_may x old old before mine m it who may.goes_on) (it.follows start (begins_less start m mine begins))))
    unended

pub returns-clause-halts : goal.returns-clause-halts
returns-clause-halts c who x before mine s under plan asked falls may it unended =
    let old = c.args.self.now in
    let m : Made = record { step = s; answer = c.args.answer } in
    c.go_on.ensures.halts who x before (m ∷ mine) under plan falls
    (called_licensed who old (mine ++ before) may old.terms.small.0 old.terms.small.1 _ s c.args.answer asked refl refl c.in_ok-learn.ensures.same
    (c.in_ok-learn.ensures.licensed who (mine ++ before) s asked may.goes_on))
    (learns_tries x old _ before mine m it refl (ap Some c.unwrap_or-start.ensures ∙ sym (first_stands old.start m mine it.start_is)) refl
    (λ start begins. c.in_ok-learn.ensures.follows who (attempt_terms x start (suc (length it.tries))) (it.tried ++ before) it.this s plan
    (late_at old.start c.unwrap_or-start.result start c.args.plan.now.expiry x.plan.expiry c.args.answer.now c.is_late-late.result c.unwrap_or-start.ensures
    (first_start start old.start m mine it.start_is begins) (ap (λ p. p.expiry) plan) c.is_late-late.ensures) asked
    (call_falls x old old before mine m it falls) (trying_may x old old before mine m it who may.goes_on) (it.follows start (begins_less start m mine begins))))
    unended

pub returns-in_err-learn-clause-halts : goal.returns-in_err-learn-clause-halts
returns-in_err-learn-clause-halts c who x before mine s under plan asked falls may it unended =
    let old = c.args.self.now in
    let m : Made = record { step = s; answer = c.args.answer } in
    let start = start_of (m ∷ mine) in
    err_always _ _ (cut_tells x old _ before mine m it falls refl unended c.in_err-learn.ensures.cut
    (c.in_err-learn.ensures.halts who (attempt_terms x start (suc (length it.tries))) (it.tried ++ before) it.this s plan
    (late_at old.start c.unwrap_or-start.result start c.args.plan.now.expiry x.plan.expiry c.args.answer.now c.is_late-late.result c.unwrap_or-start.ensures
    (first_start start old.start m mine it.start_is refl) (ap (λ p. p.expiry) plan) c.is_late-late.ensures) asked
    (call_falls x old old before mine m it falls) (trying_may x old old before mine m it who may.goes_on) (it.follows start (begins_less start m mine refl))))

pub returns-clause-licensed : goal.returns-clause-licensed
returns-clause-licensed c who l s asked may =
    let old = c.args.self.now in
    c.go_on.ensures.licensed who (record { step = s; answer = c.args.answer } ∷ l)
    (called_licensed who old l may old.terms.small.0 old.terms.small.1 _ s c.args.answer asked refl refl c.in_ok-learn.ensures.same
    (c.in_ok-learn.ensures.licensed who l s asked may.goes_on))
