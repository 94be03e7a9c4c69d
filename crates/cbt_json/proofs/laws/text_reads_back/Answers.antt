use Rattle.cbt_json.proofs.Read.{json_of-text_of}
use Rattle.cbt_json.proofs.laws.text_reads_back.Goals as goal

pub returns : goal.returns
returns c = json_of-text_of
