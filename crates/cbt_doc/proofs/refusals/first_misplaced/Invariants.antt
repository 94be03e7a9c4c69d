use Rattle.std.proofs.Common.{◌≡◌, false, drop}
use Rattle.cbt_doc.specs.Refusals.{order_fault}
use Rattle.cbt_doc.proofs.refusals.first_misplaced.Given as goal

abbrev pub invariant-loop-i : goal.invariant-loop-i
invariant-loop-i l = order_fault l.i l.behind_body (drop l.i l.changes) ≡ order_fault 0 false l.changes
