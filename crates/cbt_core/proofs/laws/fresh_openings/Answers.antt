use Rattle.cbt_core.proofs.runs.FreshOpenings.{fresh-sound, fresh-attempts}
use Rattle.cbt_core.proofs.laws.fresh_openings.Goals as goal

pub returns-clause-sound : goal.returns-clause-sound
returns-clause-sound c s fresh = fresh-sound s fresh

pub returns-clause-fresh : goal.returns-clause-fresh
returns-clause-fresh c s h fresh = fresh-attempts s fresh h
