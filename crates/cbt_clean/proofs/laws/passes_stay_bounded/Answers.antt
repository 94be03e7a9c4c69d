use Rattle.cbt_clean.proofs.Bounds.{none_left, ended_none}
use Rattle.cbt_clean.proofs.Counting.{few_calls}
use Rattle.cbt_clean.proofs.laws.passes_stay_bounded.Goals as goal

pub returns-clause-few : goal.returns-clause-few
returns-clause-few c pass first later stands = few_calls pass.atr pass.phase first later stands

pub returns-clause-at_end : goal.returns-clause-at_end
returns-clause-at_end c pass none = none_left pass.atr pass.phase none

pub returns-clause-ended : goal.returns-clause-ended
returns-clause-ended c pass ended = ended_none pass.phase ended
