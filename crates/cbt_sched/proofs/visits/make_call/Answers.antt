use Rattle.std.proofs.Common.{true, refl, sym, ◌∙◌, arith}
use Rattle.cbt_sched.proofs.Calling.{goes_on-learned, holds-at_ok, keeps-learned}
use Rattle.cbt_sched.proofs.visits.make_call.Goals as goal

pub returns-then-is_err-clause-keeps : goal.returns-then-is_err-clause-keeps
returns-then-is_err-clause-keeps g c =
    let e = c.in-Ok.ensures in
    keeps-learned g.N.Node g.A.Actor c.args.number c.args.stop c.args.refused.now true c.args.node.now c.call.new.self
    c.args.actor.now c.learn.new.self c.in-Ok-Some.step _ c.in-Ok.answer e.opening e.event e.place e.reply e.now e.terms e.readings
    (λ l stands. c.learn.ensures.stands l _ (sym c.in-Ok-Some.ensures.step ∙ c.in-Ok-Some.field-0-is) stands)
    (λ begun origin. g.met.A.Actor.origin_along _ _ _ origin c.learn.ensures.origin)
    (λ l stands most is. (let made = c.calls.ensures l stands in let low = c.if-is_reached.ensures.below refl most is in omega (arith, made)))
    (λ fine. absurd (cc)) (λ fine. absurd (cc))

pub returns-else-is_err-clause-keeps : goal.returns-else-is_err-clause-keeps
returns-else-is_err-clause-keeps g c =
    let e = c.in-Ok.ensures in
    let asks = sym c.in-Ok-Some.ensures.step ∙ c.in-Ok-Some.field-0-is in
    keeps-learned g.N.Node g.A.Actor c.args.number c.args.stop c.args.refused.now c.args.refused.now c.args.node.now c.call.new.self
    c.args.actor.now c.learn.new.self c.in-Ok-Some.step _ c.in-Ok.answer e.opening e.event e.place e.reply e.now e.terms e.readings
    (λ l stands. c.learn.ensures.stands l _ asks stands)
    (λ begun origin. g.met.A.Actor.origin_along _ _ _ origin c.learn.ensures.origin)
    (λ l stands most is. (let made = c.calls.ensures l stands in let low = c.if-is_reached.ensures.below refl most is in omega (arith, made)))
    (λ fine. fine)
    (λ fine. goes_on-learned g.A.Actor c.args.actor.now c.learn.new.self c.in-Ok-Some.step g.met.A.Actor.when_stopped asks
    (holds-at_ok c.learn.result _ c.if-is_err.ensures.value c.learn.ensures.ok))
