use Rattle.std.proofs.Common.{inl, Some, refl}
use Rattle.cbt_rows.specs.Changes.{first_attempt, before_commit, before_publication}
use Rattle.cbt_rows.proofs.Needs.{no_resolving, no_resolving_at, no_unsticking}
use Rattle.cbt_rows.specs.Words.{doc_a, n}
use Rattle.cbt_rows.proofs.unlicensed.stagings_that_may_not_be_taken_off.Goals as goal

pub returns : goal.returns
returns c = record {
  before_decision = no_resolving before_commit doc_a 1001979904 (Some (n 2)) refl;
  another_cas = no_resolving_at before_publication doc_a 7 (Some (n 2)) refl;
  after_commit = no_unsticking before_publication doc_a 1001979904 first_attempt refl refl (inl refl);
}
