use Rattle.cbt_syntax.proofs.Ranges.{text-is_json}
use Rattle.cbt_syntax.proofs.scalars.string_value.Goals as goal

pub json_of-requires : goal.json_of-requires
json_of-requires c = text-is_json c.in_ok-value.value
