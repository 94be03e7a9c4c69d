use Rattle.std.proofs.Common.{length, sym, ap, ◌∙◌, subst}
use Rattle.cbt_model.specs.History.{own}
use Rattle.cbt_model.proofs.Longer.{called}
use Rattle.cbt_node_rows.proofs.stager.drive.Goals as goal

pub loop-step-preserved : goal.loop-step-preserved
loop-step-preserved g c =
    subst (λ l. g.A.Actor.stands_for c.learn.new.self l)
    (sym (ap (λ s. own s (g.N.Node.history c.call.new.self) c.args.number (length (g.N.Node.history c.call.new.self))) c.in_ok-answer.ensures.opening
    ∙ called (g.N.Node.opening c.loop-step.node) (g.N.Node.history c.loop-step.node) (g.N.Node.history c.call.new.self) c.args.number c.in-Some.step _ c.in_ok-answer.answer
    c.in_ok-answer.ensures.event c.in_ok-answer.ensures.place c.in_ok-answer.ensures.reply c.in_ok-answer.ensures.now))
    (c.learn.ensures.stands _ _ (sym c.in_ok-step.ensures.step ∙ c.in-Some.is) c.loop-step.invariant)

pub returns-in_err-learn-clause-stands : goal.returns-in_err-learn-clause-stands
returns-in_err-learn-clause-stands g c =
    subst (λ l. g.A.Actor.stands_for c.learn.new.self l)
    (sym (ap (λ s. own s (g.N.Node.history c.call.new.self) c.args.number (length (g.N.Node.history c.call.new.self))) c.in_ok-answer.ensures.opening
    ∙ called (g.N.Node.opening c.loop-step.node) (g.N.Node.history c.loop-step.node) (g.N.Node.history c.call.new.self) c.args.number c.in-Some.step _ c.in_ok-answer.answer
    c.in_ok-answer.ensures.event c.in_ok-answer.ensures.place c.in_ok-answer.ensures.reply c.in_ok-answer.ensures.now))
    (c.learn.ensures.stands _ _ (sym c.in_ok-step.ensures.step ∙ c.in-Some.is) c.loop-step.invariant)
