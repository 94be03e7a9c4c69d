use Rattle.cbt_model.proofs.Answered.{refused-quiet}
use Rattle.cbt_model.proofs.laws.refused_steps_change_nothing.Goals as goal

pub returns : goal.returns
returns c = refused-quiet
