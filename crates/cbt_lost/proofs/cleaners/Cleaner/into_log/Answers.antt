use Rattle.std.proofs.Common.{◌≡◌, ◌↔◌, true, false, length, nat_lt, sym, subst}
use Rattle.cbt_book.specs.Cleaners.{CleanerFollows, SweepFollows}
use Rattle.cbt_lost.specs.Cleaning.{has_ended}
use Rattle.cbt_lost.specs.Rounds.{plan_of}
use Rattle.cbt_lost.proofs.Telling.{cleaner_follows, log_is, stopped_at_end, stopped_only, sweep_follows}
use Rattle.cbt_lost.proofs.cleaners.Cleaner.into_log.Goals as goal

pub returns-clause-cleaner : goal.returns-clause-cleaner
returns-clause-cleaner c l stop stands falls single =
    let it = c.args.self in
    subst (λ k. CleanerFollows (plan_of it.terms (length it.logs) stop) l k) (log_is it c.told.result c.len.result c.told.ensures c.len.ensures) (cleaner_follows it l stop stands falls single)

pub returns-clause-sweep : goal.returns-clause-sweep
returns-clause-sweep c l stop stands falls single =
    let it = c.args.self in
    subst (λ k. SweepFollows (plan_of it.terms (length it.logs) stop) l k) (log_is it c.told.result c.len.result c.told.ensures c.len.ensures) (sweep_follows it l stop stands falls single)

pub returns-clause-calls : goal.returns-clause-calls
returns-clause-calls c l stands = stands.counted

pub returns-clause-stopped : goal.returns-clause-stopped
returns-clause-stopped c = subst (λ n. (nat_lt c.args.self.at n ≡ true) ↔ (has_ended c.args.self ≡ false)) (sym c.len.ensures) (stopped_at_end c.args.self)

pub returns-clause-asks : goal.returns-clause-asks
returns-clause-asks c l stands left none = stopped_only c.args.self l stands left none
