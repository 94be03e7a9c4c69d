use Rattle.cbt_base.specs.Clock.{clock_mutated}
use Rattle.cbt_model.proofs.Answered.{done-clock}
use Rattle.cbt_model.proofs.Moves.{done_row}
use Rattle.cbt_model.proofs.laws.done_steps_have_their_stamp.Goals as goal

pub returns-clause-reply : goal.returns-clause-reply
returns-clause-reply c = λ s r step done. done_row s (clock_mutated s.last r) step done

pub returns-clause-clock : goal.returns-clause-clock
returns-clause-clock c = done-clock
