use Rattle.std.proofs.Common.{◌≡◌, ◌+◌, ◌≤◌, length, drop}
use Rattle.cbt_book.specs.Shares.{others_active}
use Rattle.cbt_record.proofs.Others.{below}
use Rattle.cbt_record.proofs.shares.share.Given as goal

-- what is counted and what is left to count make the whole
abbrev pub invariant-loop-client : goal.invariant-loop-client
invariant-loop-client l = record {
  among : l.others + length (others_active (drop l.client-index l.clients) l.me l.now) ≡ length (others_active l.clients l.me l.now);
  under : l.below + below l.me (others_active (drop l.client-index l.clients) l.me l.now) ≡ below l.me (others_active l.clients l.me l.now);
  few : l.others ≤ l.client-index;
  fewer : l.below ≤ l.others;
}
