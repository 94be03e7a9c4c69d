use Rattle.cbt_history.proofs.Names.{id_read, id_missing}
use Rattle.cbt_history.proofs.fields.id_at.Goals as goal

pub returns-in-Some : goal.returns-in-Some
returns-in-Some c = id_read c.args.word.now c.in-Some.id c.in-Some.ensures.some c.in-Some.ensures.back

pub returns-in-None : goal.returns-in-None
returns-in-None c = id_missing c.args.word.now c.in-None.ensures.none
