use Rattle.cbt_gen.specs.Generated.{calls}
use Rattle.cbt_gen.proofs.Many.{AreDrawn}
use Rattle.cbt_gen.proofs.order.draw_order.Given as goal

abbrev pub invariant-loop-before : goal.invariant-loop-before
invariant-loop-before l = AreDrawn (λ i. calls l.clients) l.fn.stream l._before l.order l.stream
