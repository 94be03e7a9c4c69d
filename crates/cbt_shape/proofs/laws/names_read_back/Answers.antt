use Rattle.std.proofs.Common.{refl}
use Rattle.cbt_base.specs.Ids.{id_text}
use Rattle.cbt_shape.proofs.Atrs.{atr_found}
use Rattle.cbt_shape.proofs.IdNames.{id_found}
use Rattle.cbt_shape.proofs.Macros.{macro_found}
use Rattle.cbt_shape.proofs.laws.names_read_back.Goals as goal

pub returns-clause-ids : goal.returns-clause-ids
returns-clause-ids c = λ n fits. id_found (id_text n) n fits refl

pub returns-clause-atrs : goal.returns-clause-atrs
returns-clause-atrs c = atr_found

pub returns-clause-stamps : goal.returns-clause-stamps
returns-clause-stamps c = macro_found
