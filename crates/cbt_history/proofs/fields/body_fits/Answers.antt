use Rattle.cbt_model.proofs.FitBodies.{same-test}
use Rattle.cbt_history.proofs.fields.body_fits.Goals as goal

pub returns : goal.returns
returns c = same-test c.body_fits.result c.args.body.now c.body_fits.ensures
