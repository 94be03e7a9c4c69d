use Rattle.std.proofs.Common.{◌≡◌, drop}
use Rattle.cbt_report.specs.Summary.{member_n}
use Rattle.cbt_report.proofs.summary.member_n.Given as goal

-- the members before this one have other names
abbrev pub invariant-loop-name : goal.invariant-loop-name
invariant-loop-name l = member_n (drop l.name-index l.members) ≡ member_n l.members
