use Rattle.std.proofs.Common.{sym, subst}
use Rattle.cbt_model.specs.Fitting.{HasFitAttributes, HasFitBodies}
use Rattle.cbtx.proofs.Openings.{attributes-fit, bodies-fit}
use Rattle.cbtx.proofs.run.run_script.Goals as goal

pub new-requires-clause-bodies : goal.new-requires-clause-bodies
new-requires-clause-bodies g c =
    subst (λ s. HasFitBodies s) (sym c.in_ok-opening.ensures) (bodies-fit c.args.script.now.docs c.requires.rules.docs)

pub new-requires-clause-attributes : goal.new-requires-clause-attributes
new-requires-clause-attributes g c =
    subst (λ s. HasFitAttributes s) (sym c.in_ok-opening.ensures) (attributes-fit c.args.script.now.docs c.requires.rules.docs)
