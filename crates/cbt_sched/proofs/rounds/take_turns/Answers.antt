use Rattle.std.proofs.Common.{length, refl, sym, suc, subst}
use Rattle.cbt_sched.specs.Driving.{InRound, asks}
use Rattle.cbt_sched.specs.Turns.{callers}
use Rattle.cbt_sched.proofs.Actors.{asks-within}
use Rattle.cbt_sched.proofs.Keeping.{keeps-same}
use Rattle.cbt_sched.proofs.Leading.{leads_on-begun}
use Rattle.cbt_sched.proofs.Rounding.{round-none, rounds-whole}
use Rattle.cbt_sched.proofs.rounds.take_turns.Goals as goal

pub returns-clause-rounds : goal.returns-clause-rounds
returns-clause-rounds g c =
    let i = c.loop-alloc.invariant in
    let e = c.loop-alloc-test.ensures in
    let before = callers (g.N.Node.history c.args.node.now) in
    let asking = asks g.A.Actor.step_now c.args.first c.args.actors.now in
    rounds-whole c.args.first (length c.args.actors.now) before asking (suc i.made)
    (callers (g.N.Node.history c.one_round.new.node)) (asks g.A.Actor.step_now c.args.first c.one_round.new.actors)
    (subst (λ m. InRound c.args.first m before asking (suc i.made) 0
    (callers (g.N.Node.history c.one_round.new.node)) (asks g.A.Actor.step_now c.args.first c.one_round.new.actors)) i.same_length
    (e.round before asking i.made
    (subst (λ m. InRound c.args.first m before asking i.made 0
    (callers (g.N.Node.history c.loop-alloc.node)) (asks g.A.Actor.step_now c.args.first c.loop-alloc.actors)) (sym i.same_length) i.rounds)))
    (e.ended refl)

pub loop-alloc-init : goal.loop-alloc-init
loop-alloc-init g c = record {
  going = leads_on-begun c.args.first (length c.args.actors.now) c.all-going.result.next
      (asks g.A.Actor.step_now c.args.first c.args.actors.now) c.all-going.ensures;
  keeps = keeps-same;
  marks = refl;
  same_length = refl;
  made = 0;
  rounds = round-none c.args.first (length c.args.actors.now) _ _ (asks-within g.A.Actor.step_now c.args.first c.args.actors.now);
}
