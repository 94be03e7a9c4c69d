use Rattle.cbt_gen.specs.Transfers.{transaction}
use Rattle.cbt_gen.proofs.Many.{AreDrawn}
use Rattle.cbt_gen.proofs.clients.draw_transfers.Given as goal

abbrev pub invariant-loop-before : goal.invariant-loop-before
invariant-loop-before l = AreDrawn (λ i. transaction l.accounts) l.fn.stream l._before l.txns l.stream
