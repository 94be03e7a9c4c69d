use Rattle.cbt_model.proofs.FitBodies.{body_fits_of-fits}
use Rattle.cbt_machine_rows.proofs.values.fitting.Goals as goal

pub returns-then-body_fits : goal.returns-then-body_fits
returns-then-body_fits c = body_fits_of-fits _ (c.body_fits.ensures.0 c.if-body_fits.true)
