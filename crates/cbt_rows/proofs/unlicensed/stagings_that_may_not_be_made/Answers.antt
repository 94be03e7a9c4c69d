use Rattle.std.proofs.Common.{inl, refl}
use Rattle.cbt_rows.specs.Changes.{first_attempt, before_staging, without_entry_read}
use Rattle.cbt_rows.proofs.Needs.{no_stand}
use Rattle.cbt_rows.specs.Words.{doc_a}
use Rattle.cbt_base.specs.Ids.{attempt_number}
use Rattle.cbt_rows.proofs.unlicensed.stagings_that_may_not_be_made.Goals as goal

pub returns : goal.returns
returns c = record {
  another_cas = λ may. no_stand before_staging doc_a first_attempt 2 refl may.over;
  live_staging = λ may. no_stand without_entry_read doc_a (attempt_number 2 1 1) 1001979904 refl may.over;
  after_commit = λ may. may.undecided (inl refl);
}
