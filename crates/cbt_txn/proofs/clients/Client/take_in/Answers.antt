use Rattle.std.proofs.Common.{◌≡◌, ◌+◌, ◌<◌, ◌≤◌, ◌∷◌, drop, is_some, slice_get, sym, ap, ◌∙◌, subst}
use Rattle.std.specs.Option.{option_copied}
use Rattle.cbt_model.specs.declared.events.Made.{Made}
use Rattle.cbt_txn.specs.Clients.{Goes, IsBetween, MayGoOn, Rests, due_left, most_of, running_left, step_in, terms_of}
use Rattle.cbt_txn.specs.Transactions.{TxnMayGoOn}
use Rattle.cbt_txn.specs.declared.clients.Client.{Client}
use Rattle.cbt_txn.specs.declared.keeping.Terms.{Terms}
use Rattle.cbt_txn.proofs.Advancing.{asked_so, cut_off, ended_parts, falls_so, is_none, is_there, made_so, may_so, next_begins, no_plan, no_txn, plan_so, runs_on, runs_so, step_is, unasked}
use Rattle.cbt_txn.proofs.ClientBounds.{fewer_on, fewer_over}
use Rattle.cbt_txn.proofs.Outcomes.{ok_of}
use Rattle.cbt_txn.proofs.Standing.{one_more}
use Rattle.cbt_txn.proofs.clients.Client.take_in.Goals as goal

-- ---- the client asked for a call

pub unreachable-requires : goal.unreachable-requires
unreachable-requires c = unasked c.args.self.now (ap (λ t. step_in (slice_get c.args.self.now.origin.plan.txns c.args.self.now.at) t) (sym c.take.ensures.value ∙ c.in_default.is) ∙ no_txn _) c.requires.asked

pub unreachable-requires-in_default-get : goal.unreachable-requires-in_default-get
unreachable-requires-in_default-get c =
    unasked c.args.self.now
    (ap (λ p. step_in p c.args.self.now.txn) (sym c.get.ensures.value ∙ ap option_copied c.in_default-get.is) ∙ no_plan c.args.self.now.txn) c.requires.asked

pub learn-requires-clause-asked : goal.learn-requires-clause-asked
learn-requires-clause-asked c =
    let it = c.args.self.now in
    let is = step_is it c.in-Some-get.plan.now c.in-Some.txn (sym c.in-Some-get.ensures.value) (sym c.take.ensures.value ∙ c.in-Some.is) c.requires.asked in
    sym (ap is_some is) ∙ c.requires.asked

pub learn-requires-clause-fits : goal.learn-requires-clause-fits
learn-requires-clause-fits c s asked =
    let it = c.args.self.now in
    let is = step_is it c.in-Some-get.plan.now c.in-Some.txn (sym c.in-Some-get.ensures.value) (sym c.take.ensures.value ∙ c.in-Some.is) c.requires.asked in
    c.requires.fits s (is ∙ asked)

-- ---- no memory was found

pub returns-in-Err-clause-halts : goal.returns-in-Err-clause-halts
returns-in-Err-clause-halts c who l s who_is asked falls may goes =
    let it = c.args.self.now in
    let plan = c.in-Some-get.plan.now in
    let txn = c.in-Some.txn in
    let plan_is = sym c.in-Some-get.ensures.value in
    let txn_is = sym c.take.ensures.value ∙ c.in-Some.is in
    let new = c.learn.new.self in
    let runs = runs_so it plan txn plan_is txn_is l goes in
    let may_txn = may_so it plan txn plan_is txn_is who l may in
    let x = terms_of it.origin it.at runs.way.this in
    let m : Made = record { step = s; answer = c.args.answer } in
    let same = c.in-Err.ensures.terms in
    subst (λ k. Rests k (m ∷ l)) (sym c.set_txn.ensures)
    (cut_off it.origin it.txns it.at l txn new m runs same
    (c.in-Err.ensures.halts who x runs.before runs.mine s (made_so it.origin it.txns it.at l txn new m runs same)
    (plan_so it plan txn plan_is txn_is l runs) (asked_so it plan txn plan_is txn_is s asked)
    (falls_so it.origin it.txns it.at l txn new m runs same falls) (subst (λ k. TxnMayGoOn who txn k) runs.l_is may_txn.1) runs.tries runs.way.going)
    c.in-Err.ensures.unended)

-- ---- it goes on

pub returns-then-is_none-clause-follows : goal.returns-then-is_none-clause-follows
returns-then-is_none-clause-follows c who l s who_is asked falls may goes =
    let it = c.args.self.now in
    let plan = c.in-Some-get.plan.now in
    let txn = c.in-Some.txn in
    let plan_is = sym c.in-Some-get.ensures.value in
    let txn_is = sym c.take.ensures.value ∙ c.in-Some.is in
    let new = c.learn.new.self in
    let runs = runs_so it plan txn plan_is txn_is l goes in
    let may_txn = may_so it plan txn plan_is txn_is who l may in
    let x = terms_of it.origin it.at runs.way.this in
    let m : Made = record { step = s; answer = c.args.answer } in
    let same = c.in_default-learn.ensures.terms in
    subst (λ k. Goes k (m ∷ l)) (sym c.set_txn-then-is_none.ensures)
    (runs_on it.origin it.txns it.at l txn new m runs same
    (c.in_default-learn.ensures.follows who x runs.before runs.mine s (made_so it.origin it.txns it.at l txn new m runs same)
    (plan_so it plan txn plan_is txn_is l runs) (asked_so it plan txn plan_is txn_is s asked)
    (falls_so it.origin it.txns it.at l txn new m runs same falls) (subst (λ k. TxnMayGoOn who txn k) runs.l_is may_txn.1) runs.tries runs.way.going)
    (is_none new.end c.if-is_none.ensures))

pub returns-then-is_none-clause-licensed : goal.returns-then-is_none-clause-licensed
returns-then-is_none-clause-licensed c who l s who_is asked may =
    let it = c.args.self.now in
    let plan = c.in-Some-get.plan.now in
    let txn = c.in-Some.txn in
    let plan_is = sym c.in-Some-get.ensures.value in
    let txn_is = sym c.take.ensures.value ∙ c.in-Some.is in
    let may_txn = may_so it plan txn plan_is txn_is who l may in
    let m : Made = record { step = s; answer = c.args.answer } in
    subst (λ k. MayGoOn who k (m ∷ l)) (sym c.set_txn-then-is_none.ensures) (
      ap (λ (k : Terms). k.number) c.in_default-learn.ensures.terms ∙ may_txn.0,
      c.in_default-learn.ensures.licensed who l s (asked_so it plan txn plan_is txn_is s asked) may_txn.1,
    )

-- ---- it has ended, and the next one begins

pub returns-clause-follows : goal.returns-clause-follows
returns-clause-follows c who l s who_is asked falls may goes =
    let it = c.args.self.now in
    let plan = c.in-Some-get.plan.now in
    let txn = c.in-Some.txn in
    let plan_is = sym c.in-Some-get.ensures.value in
    let txn_is = sym c.take.ensures.value ∙ c.in-Some.is in
    let new = c.learn.new.self in
    let runs = runs_so it plan txn plan_is txn_is l goes in
    let may_txn = may_so it plan txn plan_is txn_is who l may in
    let x = terms_of it.origin it.at runs.way.this in
    let m : Made = record { step = s; answer = c.args.answer } in
    let same = c.in_default-learn.ensures.terms in
    let end = is_there new.end c.if-is_none.ensures in
    let stands =
    c.in_default-learn.ensures.follows who x runs.before runs.mine s (made_so it.origin it.txns it.at l txn new m runs same)
    (plan_so it plan txn plan_is txn_is l runs) (asked_so it plan txn plan_is txn_is s asked)
    (falls_so it.origin it.txns it.at l txn new m runs same falls) (subst (λ k. TxnMayGoOn who txn k) runs.l_is may_txn.1) runs.tries runs.way.going in
    let licensed = c.in_default-learn.ensures.licensed who l s (asked_so it plan txn plan_is txn_is s asked) may_txn.1 in
    let taken : Client = record it { txn = c.take.new.self } in
    c.advance.ensures.follows (m ∷ l) (one_more c.args.answer.place) falls
    (next_begins who taken c.tell.new.self (m ∷ l) new c.tell.ensures who_is (ap (λ (k : Terms). k.number) same ∙ may_txn.0) licensed)
    (subst (λ k. IsBetween k (m ∷ l)) (sym c.tell.ensures)
    (c.take.ensures.after, ended_parts it.origin it.txns it.at l txn new m runs same falls stands end.0 end.1))

pub returns-clause-halts : goal.returns-clause-halts
returns-clause-halts c who l s who_is asked falls may goes =
    let it = c.args.self.now in
    let plan = c.in-Some-get.plan.now in
    let txn = c.in-Some.txn in
    let plan_is = sym c.in-Some-get.ensures.value in
    let txn_is = sym c.take.ensures.value ∙ c.in-Some.is in
    let new = c.learn.new.self in
    let runs = runs_so it plan txn plan_is txn_is l goes in
    let may_txn = may_so it plan txn plan_is txn_is who l may in
    let x = terms_of it.origin it.at runs.way.this in
    let m : Made = record { step = s; answer = c.args.answer } in
    let same = c.in_default-learn.ensures.terms in
    let end = is_there new.end c.if-is_none.ensures in
    let stands =
    c.in_default-learn.ensures.follows who x runs.before runs.mine s (made_so it.origin it.txns it.at l txn new m runs same)
    (plan_so it plan txn plan_is txn_is l runs) (asked_so it plan txn plan_is txn_is s asked)
    (falls_so it.origin it.txns it.at l txn new m runs same falls) (subst (λ k. TxnMayGoOn who txn k) runs.l_is may_txn.1) runs.tries runs.way.going in
    let licensed = c.in_default-learn.ensures.licensed who l s (asked_so it plan txn plan_is txn_is s asked) may_txn.1 in
    let taken : Client = record it { txn = c.take.new.self } in
    c.advance.ensures.halts (m ∷ l) (one_more c.args.answer.place) falls
    (next_begins who taken c.tell.new.self (m ∷ l) new c.tell.ensures who_is (ap (λ (k : Terms). k.number) same ∙ may_txn.0) licensed)
    (subst (λ k. IsBetween k (m ∷ l)) (sym c.tell.ensures)
    (c.take.ensures.after, ended_parts it.origin it.txns it.at l txn new m runs same falls stands end.0 end.1))

pub returns-clause-licensed : goal.returns-clause-licensed
returns-clause-licensed c who l s who_is asked may =
    let it = c.args.self.now in
    let plan = c.in-Some-get.plan.now in
    let txn = c.in-Some.txn in
    let plan_is = sym c.in-Some-get.ensures.value in
    let txn_is = sym c.take.ensures.value ∙ c.in-Some.is in
    let new = c.learn.new.self in
    let may_txn = may_so it plan txn plan_is txn_is who l may in
    let m : Made = record { step = s; answer = c.args.answer } in
    let licensed = c.in_default-learn.ensures.licensed who l s (asked_so it plan txn plan_is txn_is s asked) may_txn.1 in
    let taken : Client = record it { txn = c.take.new.self } in
    c.advance.ensures.licensed who (m ∷ l) (who_is ∙ sym (ap (λ (k : Client). k.origin.actor) c.tell.ensures))
    (next_begins who taken c.tell.new.self (m ∷ l) new c.tell.ensures who_is
    (ap (λ (k : Terms). k.number) c.in_default-learn.ensures.terms ∙ may_txn.0) licensed)

-- ---- the calls that are left

pub returns-then-is_none-clause-fewer : goal.returns-then-is_none-clause-fewer
returns-then-is_none-clause-fewer c =
    let it = c.args.self.now in
    subst (λ k. running_left k < running_left it) (sym c.set_txn-then-is_none.ensures)
    (fewer_on c.in-Some-get.plan.now (slice_get it.origin.plan.txns it.at) it.txn c.in-Some.txn c.learn.new.self (most_of (drop (it.at + 1) it.origin.plan.txns))
    (sym c.in-Some-get.ensures.value) (sym c.take.ensures.value ∙ c.in-Some.is) c.in_default-learn.ensures.fewer)

pub returns-clause-fewer : goal.returns-clause-fewer
returns-clause-fewer c =
    let it = c.args.self.now in
    let rest = most_of (drop (it.at + 1) it.origin.plan.txns) in
    let due : due_left c.tell.new.self ≡ rest = ap due_left c.tell.ensures in
    ok_of c.advance.result _ _
    (λ few. fewer_over c.in-Some-get.plan.now (slice_get it.origin.plan.txns it.at) it.txn c.in-Some.txn c.learn.new.self rest
    (sym c.in-Some-get.ensures.value) (sym c.take.ensures.value ∙ c.in-Some.is) c.in_default-learn.ensures.fewer (running_left c.advance.new.self)
    (subst (λ n. running_left c.advance.new.self ≤ n) due few)) c.advance.ensures.no_more
