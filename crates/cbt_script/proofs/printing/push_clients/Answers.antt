use Rattle.std.proofs.Common.{◌+◌, ◌++◌, drop, codes, ap, sym, ◌∙◌, arith}
use Rattle.cbt_lex.specs.Lines.{lined}
use Rattle.cbt_script.specs.Printed.{client_lines, txn_lines}
use Rattle.cbt_script.proofs.Lined.{at_item, named_written}
use Rattle.cbt_script.proofs.printing.push_clients.Goals as goal

pub loop-name-preserved : goal.loop-name-preserved
loop-name-preserved c =
    let clients = c.args.clients.now in
    let k = c.loop-name.name-index in
    let client = c.loop-name-item.result in
    let e = at_item clients k client (omega arith) c.loop-name-item.is in
    named_written c.loop-name.out c.push_name.new.out c.push_plans.new.out (c.args.out.now ++ lined (client_lines clients)) (codes "client " ++ client.0) (txn_lines client.1.txns)
    (client_lines (drop (k + 1) clients)) c.in_ok-push_name.ensures
    (c.in_ok-push_plans.ensures ∙ ap (λ x. c.push_name.new.out ++ lined (txn_lines x)) c.as_slice.ensures)
    (ap (λ cs. c.loop-name.out ++ lined (client_lines cs)) (sym e) ∙ c.loop-name.invariant)
