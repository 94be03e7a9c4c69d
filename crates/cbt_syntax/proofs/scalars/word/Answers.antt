use Rattle.cbt_syntax.proofs.Ranges.{null-is_json}
use Rattle.cbt_syntax.proofs.scalars.word.Goals as goal

pub json_of-requires : goal.json_of-requires
json_of-requires c = null-is_json
