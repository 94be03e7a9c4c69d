use Rattle.std.proofs.Common.{inl, inr, [], ◌∷◌, refl}
use Rattle.cbt_rows.specs.Changes.{first_attempt, second_attempt, one_published, read_at}
use Rattle.cbt_model.specs.declared.documents.OpKind.TheVariants.{Replace}
use Rattle.cbt_model.specs.declared.entries.Lists.{Lists}
use Rattle.cbt_book.specs.Licence.{IsDue, IsListed}
use Rattle.cbt_rows.proofs.Needs.{no_eviction, no_drop, no_decision, due_lists}
use Rattle.cbt_rows.specs.Words.{doc_a, doc_b, lists_of}
use Rattle.cbt_rows.proofs.unlicensed.entries_that_may_not_be_dropped.Goals as goal

both_due : (shown due : Lists) → IsDue one_published second_attempt shown due → IsListed doc_b due
both_due shown due is = due_lists one_published second_attempt shown due (lists_of [] (doc_a ∷ doc_b ∷ []) []) (λ d. IsListed doc_b d) refl (inr (inl refl)) (Replace, inr (inl refl)) is

pub returns : goal.returns
returns c = record {
  not_expired = no_eviction (read_at 16001) 0 first_attempt refl;
  staging_left = no_drop one_published 0 second_attempt doc_b refl both_due;
  pending = no_decision (read_at 21005) 0 first_attempt refl;
}
