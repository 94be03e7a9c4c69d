use Rattle.std.proofs.Common.{◌≡◌, ℕ, inl, inr, [], ◌∷◌, refl, sym, true, false}
use Rattle.cbt_model.specs.declared.steps.Reply.TheVariants as reply
use Rattle.cbt_rows.specs.Changes.{first_attempt}
use Rattle.cbt_rows.specs.OneReplace as one
use Rattle.cbt_rows.specs.SlowOwnerLosesItsEntry as slow
use Rattle.cbt_rows.proofs.Never.{no_bool, no_entry_read, no_drop_sent}
use Rattle.cbt_book.specs.Closing.{CommitHolds, told, read, IsFinished}
use Rattle.cbt_rows.proofs.unplanned.commits_that_do_not_hold.Goals as goal

refused : {c : ℕ} → reply.NoEntry ≡ reply.Done c → ⊥
refused e = cc

holds : ¬ CommitHolds first_attempt 9 (slow.m9 ∷ [])
holds (told (inl (at, (r, c, lists, is, done)))) = refused done
holds (told (inr (ne, h))) = h
holds (read (inl (r, (e, h, is), rest))) = no_entry_read slow.m9 r first_attempt e refl h
holds (read (inr (ne, h))) = h

left : ¬ IsFinished first_attempt (one.m4 ∷ one.m3 ∷ []) true
left (inl ((r, is), done), rest) = no_drop_sent one.m4 r first_attempt false refl is
left (inr (inl ((r, is), done)), rest) = no_drop_sent one.m3 r first_attempt false refl is
left (inr (inr h), rest) = h

pub returns : goal.returns
returns c = record { entry_missing = holds; entry_left = left; refused = λ may. no_bool (sym may.good); unstuck = λ may. may.0 }
