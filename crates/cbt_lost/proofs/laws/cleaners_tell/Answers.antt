use Rattle.cbt_lost.proofs.Telling.{cleaner_asks, cleaner_follows, stopped_at_end, stopped_only, sweep_follows}
use Rattle.cbt_lost.proofs.laws.cleaners_tell.Goals as goal

pub returns-clause-cleaner : goal.returns-clause-cleaner
returns-clause-cleaner c it l stop stands falls single = cleaner_follows it l stop stands falls single

pub returns-clause-sweep : goal.returns-clause-sweep
returns-clause-sweep c it l stop stands falls single = sweep_follows it l stop stands falls single

pub returns-clause-calls : goal.returns-clause-calls
returns-clause-calls c it l stands = stands.counted

pub returns-clause-stopped : goal.returns-clause-stopped
returns-clause-stopped c it = stopped_at_end it

pub returns-clause-asks : goal.returns-clause-asks
returns-clause-asks c it l stands left none = stopped_only it l stands left none

pub returns-clause-next : goal.returns-clause-next
returns-clause-next c it l stop stands falls single told = cleaner_asks it l stop stands falls single told
