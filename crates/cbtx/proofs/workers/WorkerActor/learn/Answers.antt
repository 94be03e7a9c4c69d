use Rattle.std.proofs.Common.{◌≡◌, Some, subst}
use Rattle.cbtx.specs.contracts.workers.WorkerActor.TheImpl.{ghosts}
use Rattle.cbtx.proofs.workers.WorkerActor.learn.Goals as goal

pub returns-in-Transacts-clause-stands : goal.returns-in-Transacts-clause-stands
returns-in-Transacts-clause-stands c l s asks stands =
    c.learn.ensures.stands l s (subst (λ w. ghosts.step_now w ≡ Some s) c.in-Transacts.is asks) (subst (λ w. ghosts.stands_for w l) c.in-Transacts.is stands)

pub returns-in-Cleans-clause-stands : goal.returns-in-Cleans-clause-stands
returns-in-Cleans-clause-stands c l s asks stands =
    c.learn-in-Cleans.ensures.stands l s (subst (λ w. ghosts.step_now w ≡ Some s) c.in-Cleans.is asks) (subst (λ w. ghosts.stands_for w l) c.in-Cleans.is stands)
