use Rattle.std.proofs.Common.{◌≡◌, ℕ, ◌<◌, inl, inr, [], ◌∷◌, refl, arith}
use Rattle.cbt_book.specs.declared.clients.AttemptEnd.TheVariants as attempt_end
use Rattle.cbt_core.specs.Transactions.{IsRetried, after_answer, after_commits, after_loss, IsExpiredAt, in_operation, before_try}
use Rattle.cbt_rows.specs.Changes.{txn_terms}
use Rattle.cbt_rows.specs.LateCommitIsUnknown as late
use Rattle.cbt_rows.specs.TransactionExpires as expires
use Rattle.cbt_rows.proofs.Never.{differ}
use Rattle.cbt_rows.proofs.unplanned.transactions_that_end_otherwise.Goals as goal

not_undone : {c r : ℕ} → attempt_end.Unknown c r ≡ attempt_end.RolledBack → ⊥
not_undone e = cc

not_lost : {c r p : ℕ} → attempt_end.Unknown c r ≡ attempt_end.EntryLost p → ⊥
not_lost e = cc

lost-committed : {p q : ℕ} {b : _} → attempt_end.EntryLost p ≡ attempt_end.Committed q b → ⊥
lost-committed e = cc

retried : ¬ IsRetried late.attempt_1_1_1
retried (after_answer end last) = not_undone end
retried (after_commits end vain) = not_undone end
retried (after_loss place end) = not_lost end

late_now : 16000 < 1000 → ⊥
late_now h = omega arith

expired : ¬ IsExpiredAt txn_terms expires.made_1 16000 (expires.attempt_1_1_1 ∷ []) 1000
expired (in_operation (end, inl (now, late, undecided))) = late_now late
expired (in_operation (end, inr (inl (now, late, undecided)))) = late_now late
expired (in_operation (end, inr (inr h))) = h
expired (before_try has now late) = late_now late

pub returns : goal.returns
returns c = record { unknown = retried; tries_left = λ ends. differ 1 8 refl ends.1; entry_lost = λ ends. lost-committed ends.1; in_time = expired }
