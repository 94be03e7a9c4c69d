use Rattle.std.proofs.Common.{◌≡◌, ◌≤◌}
use Rattle.cbt_lost.specs.Tours.{due}
use Rattle.cbt_lost.proofs.tours.next_due.Given as goal

-- the records that were passed over are not of this share
abbrev pub invariant-loop-n : goal.invariant-loop-n
invariant-loop-n l = record { left : due l.share l.from l.atrs ≡ due l.share l.n l.atrs; past : l.from ≤ l.n }
