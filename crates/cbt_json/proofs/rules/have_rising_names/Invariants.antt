use Rattle.std.proofs.Common.{◌≡◌, drop}
use Rattle.serde_json.specs.Data.{null, member}
use Rattle.cbt_json.specs.Trees.{members_data}
use Rattle.cbt_json.specs.Rules.{names_rise}
use Rattle.cbt_json.proofs.rules.have_rising_names.Given as goal

abbrev pub invariant-loop-name : goal.invariant-loop-name
invariant-loop-name l = names_rise (member l.last null (members_data (drop l.name-index l.rest))) ≡ names_rise (members_data l.fn.members)
