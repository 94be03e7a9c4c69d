use Rattle.cbt_gen.specs.Generated.{client}
use Rattle.cbt_gen.proofs.Many.{AreDrawn}
use Rattle.cbt_gen.proofs.clients.draw_clients.Given as goal

abbrev pub invariant-loop-before : goal.invariant-loop-before
invariant-loop-before l = AreDrawn (client l.accounts l.transfers) l.fn.stream l.before l.clients l.stream
