-- A pass that was shown an expired entry, and has made no call since.
use Rattle.std.proofs.Common.{◌≡◌, ℕ, true, inl, inr, List, [], ◌∷◌, refl, sym, ap, ◌∙◌, subst}
use Rattle.cbt_model.specs.declared.entries.Entry.{Entry}
use Rattle.cbt_model.specs.declared.steps.Reply.TheVariants as reply
use Rattle.cbt_book.specs.OwnLists.{In}
use Rattle.cbt_book.specs.Passes.{PassKept, Finishes, dropped, missing, pending, expired_in}
use Rattle.cbt_rows.specs.CleanerFreesPendingStage as freed
use Rattle.cbt_rows.specs.Changes.{first_attempt}
use Rattle.cbt_rows.proofs.Never.{no_drop_sent, no_entry_missed}

entries-same : {xs ys : List (ℕ × Entry)} → reply.Entries xs ≡ reply.Entries ys → xs ≡ ys
entries-same e = cc

-- it has not finished the entry's attempt
pub not_finished : ¬ Finishes 0 first_attempt (freed.m5 ∷ [])
not_finished (dropped (inl (guarded, h, done))) = no_drop_sent freed.m5 0 first_attempt guarded refl h
not_finished (dropped (inr h)) = h
not_finished (missing (inl h)) = no_entry_missed freed.m5 0 first_attempt refl h
not_finished (missing (inr h)) = h
not_finished (pending (inl (h, rest))) = no_drop_sent freed.m5 0 first_attempt true refl h
not_finished (pending (inr h)) = h

-- which is what it would keep
pub keeps_it : (calls : _) (covered : List ℕ) → PassKept 0 freed.m5 calls covered → covered ≡ first_attempt ∷ []
keeps_it calls covered kept = kept.covered_is ∙ ap (λ es. expired_in es freed.m5.answer.now) (sym (entries-same kept.shown))

-- so it has not ended
pub not_kept : (covered : List ℕ) → ¬ PassKept 0 freed.m5 (freed.m5 ∷ []) covered
not_kept covered kept = not_finished (kept.finished first_attempt (subst (In first_attempt) (sym (keeps_it (freed.m5 ∷ []) covered kept)) (inl refl)))
