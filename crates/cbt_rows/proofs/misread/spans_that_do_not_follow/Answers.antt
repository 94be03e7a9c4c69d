use Rattle.std.proofs.Common.{◌≤◌, arith}
use Rattle.cbt_rows.proofs.Never.{filled}
use Rattle.cbt_rows.proofs.misread.spans_that_do_not_follow.Goals as goal

above : 3 ≤ 2 → ⊥
above h = omega arith

pub returns : goal.returns
returns c = record { overlaps = λ is. above is.follows; leaves_out = λ is. filled is.next }
