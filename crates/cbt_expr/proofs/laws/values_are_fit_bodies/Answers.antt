use Rattle.cbt_expr.specs.Forms.{form_of}
use Rattle.cbt_expr.specs.Values.{valued}
use Rattle.cbt_expr.proofs.Bodies.{judged-Ok}
use Rattle.cbt_expr.proofs.laws.values_are_fit_bodies.Goals as goal

pub returns : goal.returns
returns c = λ bound e v. judged-Ok (valued bound 0 (form_of e)) v
