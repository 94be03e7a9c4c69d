use Rattle.std.proofs.Common.{◌+◌, ◌++◌, drop, ap, sym, ◌∙◌, arith}
use Rattle.cbt_lex.specs.Lines.{lined}
use Rattle.cbt_script.specs.Printed.{txn_lines, plan_lines}
use Rattle.cbt_script.proofs.Lined.{at_item, next_written}
use Rattle.cbt_script.proofs.printing.push_plans.Goals as goal

pub loop-plan-preserved : goal.loop-plan-preserved
loop-plan-preserved c =
    let plans = c.args.plans.now in
    let k = c.loop-plan.plan-index in
    let e = at_item plans k c.plan-item.result (omega arith) c.plan-item.is in
    next_written c.loop-plan.out c.push_plan.new.out (c.args.out.now ++ lined (txn_lines plans)) (plan_lines c.plan-item.result) (txn_lines (drop (k + 1) plans))
    c.in_ok-push_plan.ensures (ap (λ ps. c.loop-plan.out ++ lined (txn_lines ps)) (sym e) ∙ c.loop-plan.invariant)
