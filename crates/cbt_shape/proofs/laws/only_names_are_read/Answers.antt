use Rattle.cbt_shape.proofs.Atrs.{atr_is}
use Rattle.cbt_shape.proofs.IdNames.{id_is}
use Rattle.cbt_shape.proofs.Macros.{macro_is}
use Rattle.cbt_shape.proofs.laws.only_names_are_read.Goals as goal

pub returns-clause-ids : goal.returns-clause-ids
returns-clause-ids c = λ text n is. (id_is text n is).1

pub returns-clause-atrs : goal.returns-clause-atrs
returns-clause-atrs c = λ text n is. (atr_is text n is).1

pub returns-clause-stamps : goal.returns-clause-stamps
returns-clause-stamps c = λ text n is. (macro_is text n is).1
