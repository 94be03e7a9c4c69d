use Rattle.std.proofs.Common.{inl, inr, refl, sym}
use Rattle.cbt_model.specs.declared.entries.EntryState.TheVariants.{Committed}
use Rattle.cbt_book.specs.ReadAt.{IsReadAt, absent, unstaged, uncommitted, committed, dead}
use Rattle.cbt_rows.specs.Changes.{committed_unconfirmed, committed_reading, missing_unconfirmed, missing_reading}
use Rattle.cbt_rows.specs.CleanerFreesPendingStage as freed
use Rattle.cbt_rows.specs.ReaderBeforeCommit as reader
use Rattle.cbt_rows.proofs.Never.{no_bool, no_entry_read, no_doc_read, some-none, shown_state}
use Rattle.cbt_rows.specs.Words.{doc_a}
use Rattle.cbt_rows.proofs.misread.readings_without_second_read.Goals as goal

of_committed : ¬ IsReadAt doc_a committed_reading committed_unconfirmed
of_committed (absent value cas by gone h) = some-none _ by
of_committed (unstaged x cas by gone h) = some-none _ by
of_committed (uncommitted x stage e cas by gone ne (inl (h, rest))) = ne (shown_state reader.m5 stage.atr stage.attempt e Committed refl h)
of_committed (uncommitted x stage e cas by gone ne (inr (inl (h, rest)))) = no_entry_read reader.m4 stage.atr stage.attempt e refl h
of_committed (uncommitted x stage e cas by gone ne (inr (inr h))) = h
of_committed (committed x stage e cas by gone value is (inl ((body, again, h), rest))) = no_doc_read reader.m5 doc_a x body again refl h
of_committed (committed x stage e cas by gone value is (inr (inl (h, rest)))) = rest
of_committed (committed x stage e cas by gone value is (inr (inr h))) = h
of_committed (dead x stage cas by gone h) = no_bool (sym gone)

of_missing : ¬ IsReadAt doc_a missing_reading missing_unconfirmed
of_missing (absent value cas by gone h) = some-none _ by
of_missing (unstaged x cas by gone h) = some-none _ by
of_missing (uncommitted x stage e cas by gone ne h) = no_bool gone
of_missing (committed x stage e cas by gone value is h) = no_bool gone
of_missing (dead x stage cas by gone (inl (at, (again, h), rest))) = no_doc_read freed.m8 doc_a x missing_reading.value again refl h
of_missing (dead x stage cas by gone (inr (inl (at, h, rest)))) = rest
of_missing (dead x stage cas by gone (inr (inr h))) = h

pub returns : goal.returns
returns c = record { committed = of_committed; missing = of_missing }
