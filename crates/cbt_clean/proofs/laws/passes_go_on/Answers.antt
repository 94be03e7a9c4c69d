use Rattle.cbt_clean.proofs.Ending.{goes_on_asking, asks_no_more}
use Rattle.cbt_clean.proofs.laws.passes_go_on.Goals as goal

pub returns-clause-ended : goal.returns-clause-ended
returns-clause-ended c pass ended = asks_no_more pass.atr pass.phase ended

pub returns-clause-asks : goal.returns-clause-asks
returns-clause-asks c pass mine stands going = goes_on_asking pass.atr pass.phase mine stands going
