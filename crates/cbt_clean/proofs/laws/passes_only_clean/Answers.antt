use Rattle.cbt_clean.proofs.Cleaning.{asked_cleans, calls_clean, adds_none, decides_none}
use Rattle.cbt_clean.proofs.laws.passes_only_clean.Goals as goal

pub returns-clause-calls : goal.returns-clause-calls
returns-clause-calls c pass mine stands = calls_clean pass.atr pass.phase mine stands

pub returns-clause-asked : goal.returns-clause-asked
returns-clause-asked c pass s asked = asked_cleans pass.atr pass.phase s asked

pub returns-clause-adds_none : goal.returns-clause-adds_none
returns-clause-adds_none c s it = adds_none s it

pub returns-clause-decides_none : goal.returns-clause-decides_none
returns-clause-decides_none c s it = decides_none s it
