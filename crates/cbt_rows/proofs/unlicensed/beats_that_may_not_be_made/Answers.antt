use Rattle.std.proofs.Common.{refl}
use Rattle.cbt_rows.proofs.Never.{differ}
use Rattle.cbt_base.specs.Ids.{cleaner_number}
use Rattle.cbt_rows.proofs.unlicensed.beats_that_may_not_be_made.Goals as goal

pub returns : goal.returns
returns c may = differ (cleaner_number 2) (cleaner_number 0) refl may.own
