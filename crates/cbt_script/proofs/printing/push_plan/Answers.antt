use Rattle.std.proofs.Common.{[], ◌∷◌, ◌++◌, codes, ap, ◌∙◌}
use Rattle.cbt_lex.specs.Lines.{lined}
use Rattle.cbt_script.specs.Printed.{labelled, op_lines, end_line}
use Rattle.cbt_script.proofs.Lined.{plan_written}
use Rattle.cbt_script.proofs.printing.push_plan.Goals as goal

pub returns : goal.returns
returns c =
    let plan = c.args.plan.now in
    plan_written c.args.out.now c.push_counted.new.out c.push_counted-2.new.out c.push_labelled.new.out c.push_ops.new.out c.push_end.new.out
    (labelled (codes "begin expiry ") plan.expiry) (labelled (codes " hold ") plan.hold) (labelled (codes " tries ") plan.tries) (end_line plan.keep) (op_lines plan.ops)
    c.in_ok-push_counted.ensures c.in_ok-push_counted-2.ensures
    (c.in_ok-push_labelled.ensures ∙ ap (λ n. c.push_counted-2.new.out ++ (labelled (codes " tries ") n ++ 10 ∷ [])) c.from.ensures)
    (c.in_ok-push_ops.ensures ∙ ap (λ x. c.push_labelled.new.out ++ lined (op_lines x)) c.as_slice.ensures) c.in_ok-push_end.ensures
