use Rattle.cbt_shape.proofs.IdOrder.{id_texts_compare}
use Rattle.cbt_shape.proofs.laws.id_texts_rise.Goals as goal

pub returns : goal.returns
returns c = id_texts_compare
