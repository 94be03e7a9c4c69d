use Rattle.cbt_json.proofs.Read.{json_of-rules}
use Rattle.cbt_json.proofs.laws.reading_keeps_rules.Goals as goal

pub returns : goal.returns
returns c = json_of-rules
