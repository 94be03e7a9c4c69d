use Rattle.std.proofs.Common.{◌≡◌, inl, inr, [], ◌∷◌, Some, refl}
use Rattle.cbt_rows.specs.Changes.{first_attempt, second_attempt, own_staging, staging_failed, commit_failed}
use Rattle.cbt_model.specs.declared.documents.OpKind.TheVariants.{Replace}
use Rattle.cbt_model.specs.declared.steps.Expect.TheVariants as expect
use Rattle.std.specs.Prelude.{◌≢◌}
use Rattle.cbt_model.specs.History.{commits}
use Rattle.cbt_model.specs.declared.entries.Entry.{Entry}
use Rattle.cbt_model.specs.declared.entries.EntryState.TheVariants.{Committed}
use Rattle.cbt_book.specs.Licence.{WritesInVain, stages}
use Rattle.cbt_book.specs.OwnLists.{In, Kept}
use Rattle.cbt_book.specs.Shown.{AddsEntry, ReadsEntry}
use Rattle.cbt_rows.specs.LateCommitIsUnknown as late
use Rattle.cbt_rows.specs.LostStageIsRetried as lost
use Rattle.cbt_rows.proofs.Never.{no_entry_added, no_entry_read, other_doc}
use Rattle.cbt_rows.specs.Words.{doc_a, doc_b, n, stage_of}
use Rattle.cbt_rows.proofs.unlicensed.commits_that_may_not_be_sent.Goals as goal

left_out : ¬ In doc_b (doc_a ∷ [])
left_out (inl e) = other_doc doc_b doc_a refl e
left_out (inr h) = h

pub returns : goal.returns
returns c = record {
  document_left_out = λ may. left_out ((may.named Replace doc_b).1 (inl (expect.Cas 6007947264, stage_of second_attempt 0 Replace (Some (n 2)), refl, refl, refl)));
  staging_lost = λ may. lost_one may.written;
  unread = λ may. unread_one (may.again.read (inl refl));
}
  where
    lost_one : Kept (λ m _. AddsEntry 12 first_attempt m) (WritesInVain first_attempt) staging_failed → ⊥
    lost_one (inl h) = no_entry_added lost.m2 12 first_attempt refl h
    lost_one (inr (fine, h)) = fine ((doc_a, stages Replace (expect.Cas 1, own_staging, refl, refl, refl)), refl)

    unread_one : Kept (λ m _. (e : Entry) × ReadsEntry 0 first_attempt e m × (e.state ≢ Committed)) (λ m _. commits m.step ≡ Some first_attempt) commit_failed → ⊥
    unread_one (inl (e, h, ne)) = no_entry_read late.m3 0 first_attempt e refl h
    unread_one (inr (fine, h)) = fine refl
