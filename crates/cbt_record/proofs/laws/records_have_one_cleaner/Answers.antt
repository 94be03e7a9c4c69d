use Rattle.cbt_record.proofs.Owners.{one_owner}
use Rattle.cbt_record.proofs.laws.records_have_one_cleaner.Goals as goal

pub returns : goal.returns
returns c rows row now atr rise there active = one_owner rows row now atr rise there active
