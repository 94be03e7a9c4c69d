use Rattle.cbt_core.proofs.runs.FreshOpenings.{lawful_run}
use Rattle.cbt_core.proofs.interleaving.Interleaving.{interleaves}
use Rattle.cbt_core.proofs.laws.invariant.Goals as goal

pub returns-clause-stamps : goal.returns-clause-stamps
returns-clause-stamps c case book lawful = (interleaves _ _ (lawful_run case book lawful)).stamps

pub returns-clause-added : goal.returns-clause-added
returns-clause-added c case book lawful = (interleaves _ _ (lawful_run case book lawful)).added

pub returns-clause-decided : goal.returns-clause-decided
returns-clause-decided c case book lawful = (interleaves _ _ (lawful_run case book lawful)).decided

pub returns-clause-held : goal.returns-clause-held
returns-clause-held c case book lawful = (interleaves _ _ (lawful_run case book lawful)).held

pub returns-clause-listed : goal.returns-clause-listed
returns-clause-listed c case book lawful = (interleaves _ _ (lawful_run case book lawful)).listed_when

pub returns-clause-gone : goal.returns-clause-gone
returns-clause-gone c case book lawful = (interleaves _ _ (lawful_run case book lawful)).gone

pub returns-clause-shown : goal.returns-clause-shown
returns-clause-shown c case book lawful = (interleaves _ _ (lawful_run case book lawful)).shown
