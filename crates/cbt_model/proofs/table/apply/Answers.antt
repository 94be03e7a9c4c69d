use Rattle.cbt_model.proofs.Fitted.{fits-told, bodies-told}
use Rattle.cbt_model.proofs.table.apply.Goals as goal

pub returns-clause-fits : goal.returns-clause-fits
returns-clause-fits c fit =
    fits-told c.args.state.now c.take_step.new.state c.args.reading c.args.step.now c.take_step.result c.have_rising_keys.ensures fit c.take_step.ensures.row

pub returns-clause-bodies : goal.returns-clause-bodies
returns-clause-bodies c fit carries =
    bodies-told c.args.state.now c.take_step.new.state c.args.reading c.args.step.now c.take_step.result fit carries c.take_step.ensures.row c.take_step.ensures.refused
