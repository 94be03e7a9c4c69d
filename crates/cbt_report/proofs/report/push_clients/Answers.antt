use Rattle.cbt_report.proofs.NextLines.{client_lines-end, whole}
use Rattle.std.proofs.Common.{arith}
use Rattle.cbt_report.proofs.report.push_clients.Goals as goal

pub returns : goal.returns
returns c =
    whole _ _ _ c.loop-k.invariant (client_lines-end c.loop-k.k c.args.clients.now c.args.logs.now (omega arith))
