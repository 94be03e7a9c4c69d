use Rattle.std.proofs.Common.{◌≡◌, Some, ℕ, zero, suc, ◌+◌, ◌-◌, ◌<◌, ◌≤◌, ◌^◌, List, ◌∷◌, ◌++◌, [], length, slice_set, refl, sym, ap, ◌∙◌, subst, arith}
use Rattle.cbt_base.specs.Ids.{attempt_number}
use Rattle.cbt_logs.proofs.Snoc.{length_snoc}
use Rattle.cbt_book.specs.OwnLists.{Once}
use Rattle.cbt_book.specs.Shown.{adds}
use Rattle.cbt_core.specs.Transactions.{attempt_terms}
use Rattle.cbt_txn.specs.Closings.{IsNewTo, IsOf, TryFollows, TryMayGoOn, log_of}
use Rattle.cbt_txn.specs.Bounds.{try_left}
use Rattle.cbt_txn.specs.TxnBounds.{try_most}
use Rattle.cbt_txn.specs.declared.keeping.Trying.{Trying}
use Rattle.cbt_txn.proofs.TxnBounds.{again_left}
use Rattle.cbt_txn.proofs.TxnLicences.{again_licensed, again_new, number_at}
use Rattle.cbt_txn.proofs.TxnTries.{in_time_by, is_again, past_now, some_attempt, told_before, tries_on}
use Rattle.cbt_txn.proofs.transactions.Transaction.try_again.Goals as goal

set_length : {X : Type 0} (xs : List X) (k : ℕ) (x : X) → length (slice_set xs k x) ≡ length xs
set_length [] k x = refl
set_length (y ∷ xs) zero x = refl
set_length (y ∷ xs) (suc k) x = ap suc (set_length xs k x)

one_more : (n m : ℕ) → n ≡ m → n + 1 ≡ suc m
one_more n m is = omega arith

-- the attempt has the next number
id_is : (c : goal.After-set) → c.attempt-id.result ≡ number_at c.args.self.now.terms (suc (length c.args.self.now.attempts))
id_is c = c.attempt-id.ensures ∙ ap (number_at c.args.self.now.terms) (one_more c.len-made.result (length c.args.self.now.attempts) c.len-made.ensures)

small : (c : goal.After-set) → suc (length c.args.self.now.attempts) < 2 ^ 32
small c = omega (arith, c.requires.small)

longer : (c : goal.After-set) → length c.set.new.self ≡ suc (length c.args.self.now.attempts)
longer c =
    ap length c.set.ensures ∙ set_length c.push.new.self c.saturating_sub.result c.into_log.result ∙ ap length c.in_ok-push.ensures.ok
    ∙ length_snoc c.args.self.now.attempts c.untold.result

pub returns-clause-follows : goal.returns-clause-follows
returns-clause-follows c who x before mine under plan falls may it due in_time =
    let old = c.args.self.now in
    let again = is_again _ due in
    let left : length old.attempts < x.plan.tries = subst (λ k. length old.attempts < k) (sym (ap (λ p. p.tries) plan)) c.requires.left in
    let number : c.len-made.result ≡ length old.attempts = c.len-made.ensures in
    let log : c.into_log.result ≡ log_of old.trying.it = c.into_log.ensures ∙ ap (λ (k : Trying). log_of k.it) c.replace-ended.ensures.value in
    let at : c.saturating_sub.result ≡ length old.attempts - 1 = c.saturating_sub.ensures ∙ ap (λ k. k - 1) number in
    let attempts =
    c.set.ensures ∙ ap (λ k. slice_set k c.saturating_sub.result c.into_log.result) c.in_ok-push.ensures.ok
    ∙ ap (λ k. slice_set (old.attempts ++ c.untold.result ∷ []) k c.into_log.result) at
    ∙ ap (λ k. slice_set (old.attempts ++ c.untold.result ∷ []) (length old.attempts - 1) k) log
    ∙ told_before old.attempts c.untold.result (log_of old.trying.it) (some_attempt x old before mine falls it) in
    let id = ap (λ k. attempt_number k x.number (suc (length old.attempts))) under.client
    ∙ ap (λ k. attempt_number old.terms.client k (suc (length old.attempts))) under.number ∙ sym (id_is c) in
    let new = subst (λ k. IsNewTo who k (mine ++ before)) (sym (id_is c)) (again_new who old (mine ++ before) may old.terms.small.0 old.terms.small.1 (small c)) in
    tries_on x old before mine falls it again _ c.untold.result attempts left
    (in_time_by x old before mine falls it again c.args.plan.now.expiry (ap (λ p. p.expiry) plan) in_time) refl refl
    (subst (λ k. ¬ Once (λ m _. adds m.step ≡ Some k) (mine ++ before)) (sym id) new.unsent)
    (λ start. subst (λ (k : Trying). TryFollows (attempt_terms x start (suc (length old.attempts))) k.it (mine ++ before) []) (sym c.replace-ended.ensures.after)
    (c.in_ok-it.ensures.follows who (attempt_terms x start (suc (length old.attempts))) (mine ++ before) plan id under.atrs (past_now x old before mine falls it) falls new))

pub returns-clause-licensed : goal.returns-clause-licensed
returns-clause-licensed c who l may =
    let old = c.args.self.now in
    again_licensed who old l may old.terms.small.0 old.terms.small.1 _ refl (longer c) (small c)
    (subst (λ (k : Trying). IsOf (number_at old.terms (suc (length old.attempts))) old.terms.atrs k.it) (sym c.replace-ended.ensures.after)
    (subst (λ k. IsOf k old.terms.atrs c.in_ok-it.it) (id_is c) c.in_ok-it.ensures.of))
    (subst (λ (k : Trying). TryMayGoOn who k.it l) (sym c.replace-ended.ensures.after)
    (c.in_ok-it.ensures.licensed who l (subst (λ k. IsNewTo who k l) (sym (id_is c)) (again_new who old l may old.terms.small.0 old.terms.small.1 (small c)))))

pub returns-clause-no_more : goal.returns-clause-no_more
returns-clause-no_more c =
    let plan = c.args.plan.now in
    again_left plan.tries (length c.args.self.now.attempts) (length c.set.new.self) (try_left plan.ops c.args.self.now.trying.it) _ (try_most plan.ops)
    c.requires.left (longer c)
    (subst (λ (k : Trying). try_left plan.ops k.it ≤ try_most plan.ops) (sym c.replace-ended.ensures.after) c.in_ok-it.ensures.few)
