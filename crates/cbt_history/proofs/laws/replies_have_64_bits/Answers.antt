use Rattle.cbt_history.proofs.Told.{events_fit}
use Rattle.cbt_history.proofs.laws.replies_have_64_bits.Goals as goal

pub returns : goal.returns
returns c = events_fit
