use Rattle.cbt_clean.proofs.Counting.{pass_calls}
use Rattle.cbt_clean.proofs.Ending.{ends_right}
use Rattle.cbt_clean.proofs.Keeping.{has_read}
use Rattle.cbt_clean.proofs.laws.passes_end_right.Goals as goal

pub returns-clause-ends : goal.returns-clause-ends
returns-clause-ends c pass first later end stands is = ends_right pass.atr pass.phase first later end stands is

pub returns-clause-reads : goal.returns-clause-reads
returns-clause-reads c pass mine stands ended = has_read pass.atr pass.phase mine stands ended

pub returns-clause-calls : goal.returns-clause-calls
returns-clause-calls c pass first later stands = pass_calls pass.atr pass.phase first later stands
