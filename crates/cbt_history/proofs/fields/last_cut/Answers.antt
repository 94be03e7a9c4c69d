use Rattle.cbt_history.proofs.Cuts.{around_last, without}
use Rattle.cbt_history.proofs.fields.last_cut.Goals as goal

pub returns-in-Some : goal.returns-in-Some
returns-in-Some c = around_last c.args.mark c.args.text.now c.in-Some.front.now c.in-Some.back.now c.requires c.in-Some.ensures.cases

pub returns-in-None : goal.returns-in-None
returns-in-None c = without c.args.mark c.args.text.now c.requires c.in-None.ensures.cases
