use Rattle.cbt_base.proofs.IdTexts.{id_text-differ, length-id_text}
use Rattle.cbt_base.proofs.laws.id_texts_differ.Goals as goal

pub returns-clause-differ : goal.returns-clause-differ
returns-clause-differ c = id_text-differ

pub returns-clause-long : goal.returns-clause-long
returns-clause-long c = length-id_text
