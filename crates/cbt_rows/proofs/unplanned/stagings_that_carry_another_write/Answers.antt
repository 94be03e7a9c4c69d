use Rattle.std.proofs.Common.{◌≡◌, refl}
use Rattle.cbt_model.specs.declared.documents.OpKind.TheVariants.{Insert, Replace}
use Rattle.cbt_rows.specs.Changes.{first_attempt}
use Rattle.cbt_base.specs.Ids.{attempt_number}
use Rattle.cbt_rows.proofs.Never.{differ}
use Rattle.cbt_rows.proofs.unplanned.stagings_that_carry_another_write.Goals as goal

other_kind : Replace ≡ Insert → ⊥
other_kind e = cc

pub returns : goal.returns
returns c = record { kind = λ it. other_kind it.kind_is; attempt = λ it. differ (attempt_number 2 1 1) first_attempt refl it.attempt }
