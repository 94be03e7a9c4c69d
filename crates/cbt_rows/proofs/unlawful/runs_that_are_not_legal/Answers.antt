use Rattle.std.proofs.Common.{refl, ap}
use Rattle.cbt_model.specs.declared.states.State.{State}
use Rattle.cbt_rows.proofs.Never.{differ}
use Rattle.cbt_rows.proofs.unlawful.runs_that_are_not_legal.Goals as goal

pub returns : goal.returns
returns c it = differ 0 1 refl (ap (λ (s : State). s.last) it.opening)
