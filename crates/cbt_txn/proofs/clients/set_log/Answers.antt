use Rattle.std.proofs.Common.{sym, arith}
use Rattle.cbt_txn.proofs.Standing.{set_past}
use Rattle.cbt_txn.proofs.clients.set_log.Goals as goal

pub returns : goal.returns
returns c = sym (set_past c.args.txns.now c.args.at c.args.log (omega (arith, c.len.ensures, c.if-at-len.false)))
