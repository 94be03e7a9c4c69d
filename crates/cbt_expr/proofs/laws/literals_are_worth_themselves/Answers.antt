use Rattle.std.proofs.Common.{◌∙◌, ap}
use Rattle.cbt_expr.specs.Values.{judged}
use Rattle.cbt_expr.proofs.Bodies.{judged-fit}
use Rattle.cbt_expr.proofs.Literals.{own_value}
use Rattle.cbt_expr.proofs.laws.literals_are_worth_themselves.Goals as goal

pub returns : goal.returns
returns c = λ bound v json fits. ap judged (own_value bound v 0) ∙ judged-fit v json fits
