use Rattle.cbt_base.proofs.Stamps.{ms_of-clock_of, ms_of-clock_read, ms_of-clock_mutated}
use Rattle.cbt_base.proofs.clock.leading_reading_is_now.Goals as goal

pub returns-clause-stamp : goal.returns-clause-stamp
returns-clause-stamp c = ms_of-clock_of

pub returns-clause-read : goal.returns-clause-read
returns-clause-read c = ms_of-clock_read

pub returns-clause-mutated : goal.returns-clause-mutated
returns-clause-mutated c = ms_of-clock_mutated
