use Rattle.cbt_syntax.proofs.Joins.{joins-done}
use Rattle.cbt_syntax.proofs.printing.+printing.Goals as goal

pub push_expr-returns : goal.push_expr-returns
push_expr-returns t c =
    joins-done c.args.out.now c.push_term.new.out _ c.args.expr.now _ c.loop-sign.sign-index c.as_slice-sign-items.ensures c.in_ok-push_term.ensures c.loop-sign-test.false c.loop-sign.invariant
