use Rattle.std.proofs.Common.{◌≡◌, drop}
use Rattle.cbt_attempt.specs.OwnWrites.{noted}
use Rattle.cbt_commit.specs.Ready.{copied, copied_behind}
use Rattle.cbt_commit.proofs.Copying.{CopiedUpTo}
use Rattle.cbt_commit.proofs.works.works_of.Given as goal

-- what is copied and what is left to copy make the whole
abbrev pub invariant-loop-at : goal.invariant-loop-at
invariant-loop-at l = record {
  upto : CopiedUpTo l.attempt.writes l.at l.works.entries;
  rest : copied_behind (noted l.attempt.writes) l.works.entries (drop l.at l.attempt.writes) ≡ copied l.attempt.writes;
}
