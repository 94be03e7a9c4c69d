use Rattle.std.proofs.Common.{inl, refl}
use Rattle.cbt_rows.proofs.Never.{differ}
use Rattle.cbt_rows.proofs.unlicensed.entries_that_may_not_be_added.Goals as goal

pub returns : goal.returns
returns c = record {
  twice = λ may. may.first (inl refl);
  of_another = λ may. differ 2 1 refl may.own;
}
