use Rattle.std.proofs.Common.{sym, ◌∙◌, arith}
use Rattle.cbt_lost.proofs.Due.{due_here, due_later}
use Rattle.cbt_lost.proofs.tours.next_due.Goals as goal

pub returns-then-has-clause-some : goal.returns-then-has-clause-some
returns-then-has-clause-some c =
    c.loop-n.invariant.left ∙ due_here c.args.share c.loop-n.n c.args.atrs (omega arith) (sym c.has.ensures ∙ c.if-has.true)

pub loop-n-preserved : goal.loop-n-preserved
loop-n-preserved c = record {
  left = c.loop-n.invariant.left ∙ due_later c.args.share c.loop-n.n c.args.atrs (omega arith) (sym c.has.ensures ∙ c.if-has.false);
  past = let low = c.loop-n.invariant.past in omega arith;
}
