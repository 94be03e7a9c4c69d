use Rattle.cbt_model.proofs.Answered.{other-doc, other-entry, same-rows, one-kind}
use Rattle.cbt_model.proofs.laws.steps_change_one_key.Goals as goal

pub returns-clause-documents : goal.returns-clause-documents
returns-clause-documents c = other-doc

pub returns-clause-entries : goal.returns-clause-entries
returns-clause-entries c = other-entry

pub returns-clause-rows : goal.returns-clause-rows
returns-clause-rows c = same-rows

pub returns-clause-either : goal.returns-clause-either
returns-clause-either c = one-kind
