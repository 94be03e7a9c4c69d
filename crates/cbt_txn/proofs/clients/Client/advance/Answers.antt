use Rattle.std.proofs.Common.{ℕ, suc, ◌+◌, ◌≤◌, drop, length, slice_get, le_trans, sym, ap, ◌∙◌, subst, arith}
use Rattle.cbt_txn.specs.Clients.{GoesOn, GoesWith, MayGoOnWith, Rests, RestsWith, begun_left, due_left, left_in, most_of}
use Rattle.cbt_txn.specs.Transactions.{AreEarlier}
use Rattle.cbt_txn.specs.declared.clients.Client.{Client}
use Rattle.cbt_txn.proofs.Advancing.{earlier_skip, rest_on}
use Rattle.cbt_txn.proofs.ClientBounds.{fewer_past, none_running}
use Rattle.cbt_txn.proofs.Outcomes.{err_always}
use Rattle.cbt_txn.proofs.Standing.{all_done}
use Rattle.cbt_txn.proofs.clients.Client.advance.Goals as goal

-- no memory was found for the next transaction
pub returns-in_err-begin_next-clause-halts : goal.returns-in_err-begin_next-clause-halts
returns-in_err-begin_next-clause-halts c l past falls earlier between =
    let so = c.loop-at.invariant.follows l past falls earlier between in
    err_always _ _ (subst (λ k. Rests k l) (sym c.in_err-begin_next.ensures.err)
    (subst (λ t. RestsWith c.loop-at.self.origin c.loop-at.self.txns c.loop-at.self.at l t) (sym so.0) so.1))

-- it makes a call
pub returns-then-not-branch-clause-follows : goal.returns-then-not-branch-clause-follows
returns-then-not-branch-clause-follows c l past falls earlier between =
    let same = ap (λ (k : Client). k.origin.actor) c.loop-at.invariant.rest in
    subst (λ b. GoesOn b c.begin_next.new.self l) c.if-not-branch.true
    (c.in_ok-begin_next.ensures.follows l past falls
    (subst (λ a. AreEarlier a (suc c.loop-at.self.at) 1 l) (sym same) (c.loop-at.invariant.earlier l earlier))
    (c.loop-at.invariant.follows l past falls earlier between))

pub returns-then-not-branch-clause-licensed : goal.returns-then-not-branch-clause-licensed
returns-then-not-branch-clause-licensed c who l is earlier =
    let same = ap (λ (k : Client). k.origin.actor) c.loop-at.invariant.rest in
    c.in_ok-begin_next.ensures.licensed who l (is ∙ sym same)
    (subst (λ a. AreEarlier a (suc c.loop-at.self.at) 1 l) (sym same) (c.loop-at.invariant.earlier l earlier))

-- all have ended
pub returns-clause-follows : goal.returns-clause-follows
returns-clause-follows c l past falls earlier between =
    let o = c.loop-at.self.origin in
    let so = c.loop-at.invariant.follows l past falls earlier between in
    let same = ap (λ (k : Client). length k.origin.plan.txns) c.loop-at.invariant.rest in
    let past_all : length o.plan.txns ≤ c.loop-at.self.at = omega (arith, same, c.loop-at.invariant.at_is, c.len-at-end.ensures, c.loop-at-test.false) in
    subst (λ t. GoesWith o c.loop-at.self.txns c.loop-at.self.at l t) (sym so.0) (so.1, all_done o c.loop-at.self.txns c.loop-at.self.at l so.1 past_all)

pub returns-clause-licensed : goal.returns-clause-licensed
returns-clause-licensed c who l is earlier = subst (λ t. MayGoOnWith who c.loop-at.self.at t l) (sym c.loop-at.invariant.idle) tt

pub loop-at-preserved : goal.loop-at-preserved
loop-at-preserved c =
    let same = ap (λ (k : Client). k.origin.actor) c.loop-at.invariant.rest in
    let more = c.in_ok-begin_next.ensures.more c.if-not-branch.false in
    record {
      follows = λ l past falls earlier between.
          subst (λ b. GoesOn b c.begin_next.new.self l) c.if-not-branch.false
          (c.in_ok-begin_next.ensures.follows l past falls
          (subst (λ a. AreEarlier a (suc c.loop-at.self.at) 1 l) (sym same) (c.loop-at.invariant.earlier l earlier))
          (c.loop-at.invariant.follows l past falls earlier between));
      earlier = λ l earlier.
          subst (λ n. AreEarlier c.args.self.now.origin.actor (suc n) 1 l) (sym more.0)
          (earlier_skip c.args.self.now.origin.actor c.loop-at.self.at l (c.loop-at.invariant.earlier l earlier));
      no_more =
          le_trans (subst (λ b. begun_left b c.begin_next.new.self ≤ due_left c.loop-at.self) c.if-not-branch.false c.in_ok-begin_next.ensures.no_more)
          c.loop-at.invariant.no_more;
      at_is = more.0 ∙ ap (λ n. n + 1) c.loop-at.invariant.at_is;
      idle = more.1;
      rest = rest_on c.args.self.now c.loop-at.self c.begin_next.new.self c.loop-at.invariant.rest c.in_ok-begin_next.ensures.rest;
    }

pub returns-then-not-branch-clause-rest : goal.returns-then-not-branch-clause-rest
returns-then-not-branch-clause-rest c = rest_on c.args.self.now c.loop-at.self c.begin_next.new.self c.loop-at.invariant.rest c.in_ok-begin_next.ensures.rest

pub returns-in_err-begin_next-clause-rest : goal.returns-in_err-begin_next-clause-rest
returns-in_err-begin_next-clause-rest c = rest_on c.args.self.now c.loop-at.self c.begin_next.new.self c.loop-at.invariant.rest c.in_err-begin_next.ensures.rest

-- ---- the calls that are left

pub returns-then-not-branch-clause-no_more : goal.returns-then-not-branch-clause-no_more
returns-then-not-branch-clause-no_more c =
    le_trans (subst (λ b. begun_left b c.begin_next.new.self ≤ due_left c.loop-at.self) c.if-not-branch.true c.in_ok-begin_next.ensures.no_more)
    c.loop-at.invariant.no_more

pub returns-clause-no_more : goal.returns-clause-no_more
returns-clause-no_more c =
    let it = c.loop-at.self in
    subst (λ n. n + most_of (drop (it.at + 1) it.origin.plan.txns) ≤ due_left c.args.self.now)
    (sym (ap (λ t. left_in (slice_get it.origin.plan.txns it.at) t) c.loop-at.invariant.idle ∙ none_running (slice_get it.origin.plan.txns it.at)))
    (none_and (most_of (drop (it.at + 1) it.origin.plan.txns)) (due_left c.args.self.now) (le_trans (fewer_past it.origin.plan.txns it.at) c.loop-at.invariant.no_more))
  where
    none_and : (n most : ℕ) → n ≤ most → 0 + n ≤ most
    none_and n most few = omega arith
