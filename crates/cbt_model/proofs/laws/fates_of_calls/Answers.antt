use Rattle.cbt_model.proofs.Answered.{lost-quiet, others-happen, others-failed, plain-told}
use Rattle.cbt_model.proofs.laws.fates_of_calls.Goals as goal

pub returns-clause-lost : goal.returns-clause-lost
returns-clause-lost c = lost-quiet

pub returns-clause-others : goal.returns-clause-others
returns-clause-others c = others-happen

pub returns-clause-failed : goal.returns-clause-failed
returns-clause-failed c = others-failed

pub returns-clause-plain : goal.returns-clause-plain
returns-clause-plain c = plain-told
