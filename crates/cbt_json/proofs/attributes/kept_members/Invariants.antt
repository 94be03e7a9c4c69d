use Rattle.std.proofs.Common.{◌≡◌, ◌++◌, drop}
use Rattle.cbt_json.specs.Attributes.{kept_members}
use Rattle.cbt_json.proofs.attributes.kept_members.Given as goal

-- what was kept and what is left to look at make the whole
abbrev pub invariant-loop-name : goal.invariant-loop-name
invariant-loop-name l = l.kept ++ kept_members (drop l.name-index l.members) ≡ kept_members l.members
