use Rattle.cbt_clean.proofs.Counting.{first_calls}
use Rattle.cbt_clean.proofs.Ending.{stays_open, reading_open}
use Rattle.cbt_clean.proofs.laws.passes_stay_open.Goals as goal

pub returns-clause-opens : goal.returns-clause-opens
returns-clause-opens c pass first later end stands going = stays_open pass.atr pass.phase first later end stands going

pub returns-clause-refused : goal.returns-clause-refused
returns-clause-refused c r first reads covers = (first_calls r first reads, λ end. reading_open r first end reads covers)
