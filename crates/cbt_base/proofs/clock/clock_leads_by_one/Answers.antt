use Rattle.cbt_base.proofs.Stamps.{clock_read-le, clock_mutated-le}
use Rattle.cbt_base.proofs.clock.clock_leads_by_one.Goals as goal

pub returns-clause-read : goal.returns-clause-read
returns-clause-read c = clock_read-le

pub returns-clause-mutated : goal.returns-clause-mutated
returns-clause-mutated c = clock_mutated-le
