use Rattle.std.proofs.Common.{◌≡◌, ◌≤◌, ◌++◌, length, take, drop}
use Rattle.cbt_book.specs.Shares.{inactive}
use Rattle.cbt_lost.proofs.gone.gone_of.Given as goal

-- what was found and what is left to find make the whole
abbrev pub invariant-loop-row : goal.invariant-loop-row
invariant-loop-row l = record {
  found : take 12 (l.gone ++ inactive (drop l.row-index l.rows) l.me l.now) ≡ take 12 (inactive l.rows l.me l.now);
  few : length l.gone ≤ 12;
}
