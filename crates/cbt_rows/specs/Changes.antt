-- Pieces of the written histories, as they are or changed in one thing, of which a definition is not to hold.
use Rattle.std.specs.List.{range_with_len}
use Rattle.std.specs.Prelude.{ℕ, true, false, List, [], ◌∷◌, filter, Some, None}
use Rattle.cbt_base.specs.Ids.{attempt_number, cleaner_number}
use Rattle.cbt_expr.specs.declared.plans.Op.TheVariants as op
use Rattle.cbt_expr.specs.declared.plans.Op.{Op}
use Rattle.cbt_model.specs.declared.documents.OpKind.TheVariants.{Replace}
use Rattle.cbt_model.specs.declared.documents.Stage.{Stage}
use Rattle.cbt_model.specs.declared.entries.ClientRow.{ClientRow}
use Rattle.cbt_model.specs.declared.entries.EntryState.TheVariants.{Pending}
use Rattle.cbt_model.specs.declared.events.Made.{Made}
use Rattle.cbt_model.specs.declared.steps.Expect.TheVariants as expect
use Rattle.cbt_model.specs.declared.steps.Reply.TheVariants as reply
use Rattle.cbt_model.specs.declared.steps.Step.TheVariants as step
use Rattle.cbt_book.specs.Cleaners.{CleanerPlan}
use Rattle.cbt_book.specs.Numbers.{Identity}
use Rattle.cbt_book.specs.ReadAt.{Reading}
use Rattle.cbt_book.specs.Shares.{share_of, has_record}
use Rattle.cbt_book.specs.declared.book.Book.{Book}
use Rattle.cbt_book.specs.declared.cleaners.PassEnd.TheVariants as pass_end
use Rattle.cbt_book.specs.declared.cleaners.PassLog.{PassLog}
use Rattle.cbt_book.specs.declared.cleaners.RoundLog.{RoundLog}
use Rattle.cbt_book.specs.declared.clients.AttemptEnd.TheVariants as attempt_end
use Rattle.cbt_book.specs.declared.clients.AttemptLog.{AttemptLog}
use Rattle.cbt_book.specs.declared.clients.ClientLog.{ClientLog}
use Rattle.cbt_book.specs.declared.clients.TxnEnd.TheVariants as txn_end
use Rattle.cbt_book.specs.declared.operations.OpAnswer.TheVariants as answer
use Rattle.cbt_book.specs.declared.operations.OpLog.{OpLog}
use Rattle.cbt_book.specs.declared.operations.When.TheVariants as when
use Rattle.cbt_core.specs.Attempts.{Course, course_of}
use Rattle.cbt_core.specs.Transactions.{TxnTerms}
use Rattle.cbt_core.specs.Walk.{AttemptTerms, Sofar, nothing_yet, noted}
use Rattle.cbt_core.specs.declared.case.Case.{Case}
use Rattle.cbt_rows.specs.BlockedByExpiredEntry as blocked
use Rattle.cbt_rows.specs.CleanerFreesPendingStage as freed
use Rattle.cbt_rows.specs.LateCommitIsUnknown as late
use Rattle.cbt_rows.specs.LostStageIsRetried as lost
use Rattle.cbt_rows.specs.LostUpdateIsPrevented as updated
use Rattle.cbt_rows.specs.OneReplace as one
use Rattle.cbt_rows.specs.ReaderBeforeCommit as reader
use Rattle.cbt_rows.specs.SlowOwnerLosesItsEntry as slow
use Rattle.cbt_rows.specs.TransactionExpires as expires
use Rattle.cbt_rows.specs.Words.{doc_a, name_x, n, stage_of, lists_of, entry_of, told, span_of}
use Rattle.cbt_rows.specs.Written.{n_of, one_is_two}

-- actor 1, a client
abbrev pub client : Identity
client = record { number = 1; cleaner = cleaner_number 0 }

abbrev pub first_attempt : ℕ
first_attempt = attempt_number 1 1 1

abbrev pub second_attempt : ℕ
second_attempt = attempt_number 1 1 2

-- of one replacement: what the client made before it staged, committed, and published
abbrev pub before_staging : List Made
before_staging = one.m1 ∷ one.m0 ∷ []

abbrev pub before_commit : List Made
before_commit = one.m2 ∷ before_staging

abbrev pub before_publication : List Made
before_publication = one.m3 ∷ before_commit

abbrev pub own_staging : Stage
own_staging = stage_of first_attempt 12 Replace (Some (n 2))

-- a writer that met the staging of another attempt, and did not read that attempt's entry
abbrev pub without_entry_read : List Made
without_entry_read = freed.m10 ∷ freed.m7 ∷ []

abbrev pub other_staging : Stage
other_staging = stage_of (attempt_number 2 1 1) 0 Replace (Some (n 3))

-- a client that staged both documents
abbrev pub both_staged : List Made
both_staged = slow.m18 ∷ slow.m17 ∷ slow.m16 ∷ slow.m15 ∷ slow.m14 ∷ slow.m13 ∷ slow.m12 ∷ slow.m11 ∷ slow.m10 ∷ slow.m9 ∷ slow.m8 ∷ slow.m7 ∷ slow.m2 ∷ slow.m1 ∷ slow.m0 ∷ []

-- and has committed them, and published the first
abbrev pub one_published : List Made
one_published = slow.m20 ∷ slow.m19 ∷ both_staged

-- a client whose staging failed
abbrev pub staging_failed : List Made
staging_failed = lost.m2 ∷ lost.m1 ∷ lost.m0 ∷ []

-- a client whose commit failed, and that has not read its entry
abbrev pub commit_failed : List Made
commit_failed = late.m3 ∷ late.m2 ∷ late.m1 ∷ late.m0 ∷ []

-- a cleaner that read the record at this time
abbrev pub read_at : ℕ → List Made
read_at now = told freed.e5 5 now (reply.Entries ((first_attempt, entry_of Pending 1000996864 15000 (lists_of [] [] [])) ∷ [])) ∷ []

-- what a reader met up to the entry of the staging, without the second reading of the document
abbrev pub committed_unconfirmed : List Made
committed_unconfirmed = reader.m5 ∷ reader.m4 ∷ []

abbrev pub committed_reading : Reading
committed_reading = record { value = Some (n 2); cas = Some 1001979904; by = Some (12, first_attempt); gone = false; moment = 5 }

abbrev pub missing_unconfirmed : List Made
missing_unconfirmed = freed.m8 ∷ freed.m7 ∷ []

abbrev pub missing_reading : Reading
missing_reading = record { value = Some (n 1); cas = Some 1001979904; by = Some (0, first_attempt); gone = true; moment = 7 }

-- a cleaner that beat last at this stamp
abbrev pub row_of : ℕ → ClientRow
row_of beat = record { heartbeat = beat; expires = 60000; num_atrs = 5 }

-- three cleaners in the client record, by their last beats
abbrev pub three_rows : ℕ → ℕ → ℕ → List (ℕ × ClientRow)
three_rows x y z = (cleaner_number 1, row_of x) ∷ (cleaner_number 2, row_of y) ∷ (cleaner_number 3, row_of z) ∷ []

-- the records of five that belong to a cleaner
abbrev pub records_of : List (ℕ × ClientRow) → ℕ → ℕ → List ℕ
records_of rows k now = filter (has_record (share_of rows (cleaner_number k) now)) (range_with_len 0 5)

-- a round with its pass, without a reading of the client record
abbrev pub round_alone : RoundLog
round_alone = record { span = span_of 5 7; share = Some (record { index = 0; of = 1 }); passes = record { atr = 0; span = span_of 5 7; end = pass_end.Ok (first_attempt ∷ []) } ∷ [] }

abbrev pub cleaner_alone : CleanerPlan
cleaner_alone = record { id = cleaner_number 1; rounds = 1; atrs = 1; lapse = 60000; stop = None }

-- one replacement, whose base is told to be at the event that added the entry
abbrev pub base_elsewhere : OpLog
base_elsewhere = record { op = 1; span = span_of 0 3; answer = answer.Staged 2 (when.At 1) }

abbrev pub first_try : AttemptTerms
first_try = record { id = first_attempt; plan = one.plan_1_1; atrs = 16; latest = 16000 }

-- a client gets a document, reads it again when another has changed it, and stages over that
abbrev pub read_first : Made
read_first = record { step = step.ReadDoc doc_a; answer = record { place = 0; now = 1000; reply = reply.Doc 1 (Some (n 1)) None } }

abbrev pub read_again : Made
read_again = record { step = step.ReadDoc doc_a; answer = record { place = 7; now = 1007; reply = reply.Doc 1003945984 (Some (n 3)) None } }

abbrev pub staged_over : Made
staged_over = record { step = step.Stage doc_a (expect.Cas 1003945984) own_staging; answer = record { place = 8; now = 1008; reply = reply.Done 1007943680 } }

abbrev pub fresh_list : List Made
fresh_list = staged_over ∷ read_again ∷ one.m1 ∷ read_first ∷ []

abbrev pub get_first : Op
get_first = op.Get doc_a name_x

abbrev pub replace_then : Op
replace_then = op.Replace doc_a (n_of 2)

abbrev pub got_first : OpLog
got_first = record { op = 1; span = span_of 0 1; answer = answer.Value (Some (n 1)) (when.At 0) }

-- and keeps the first reading as the base
abbrev pub staged_then : OpLog
staged_then = record { op = 2; span = span_of 1 9; answer = answer.Staged 8 (when.At 0) }

-- a writer that met an entry once
abbrev pub one_entry : List Made
one_entry = blocked.m4 ∷ blocked.m3 ∷ []

-- a need that is false, told to hold, and told to have made a call
abbrev pub need_two : Op
need_two = op.Need one_is_two

abbrev pub told_to_hold : OpLog
told_to_hold = record { op = 1; span = span_of 0 0; answer = answer.Holds }

abbrev pub told_with_call : OpLog
told_with_call = record { op = 1; span = span_of 0 1; answer = answer.NeedFalse }

-- a client that read its document twice though it was not staged
abbrev pub read_twice : List Made
read_twice = read_again ∷ read_first ∷ []

abbrev pub txn_terms : TxnTerms
txn_terms = record { client = 1; number = 1; plan = one.plan_1_1; atrs = 16 }

-- what became of the operations of an attempt whose staging was lost
abbrev pub refused_course : Course
refused_course = course_of (record { id = first_attempt; plan = lost.plan_1_1; atrs = 16; latest = 16000 }) lost.attempt_1_1_1 [] []

-- a client's log that leaves a call out
abbrev pub miscounted : ClientLog
miscounted = record { txns = one.txn_1_1 ∷ []; calls = 5 }

-- an attempt that is told to be committed after the first of its two operations
abbrev pub unended_course : Course
unended_course = record { log = slow.attempt_1_1_2; sofar = nothing_yet; left = replace_then ∷ []; cut = []; closing = [] }

-- an attempt whose second operation is told to be cut off, though its time was not over
abbrev pub late_try : AttemptTerms
late_try = record { id = first_attempt; plan = expires.plan_1_1; atrs = 16; latest = 30000 }

abbrev pub cut_course : Course
cut_course = course_of late_try expires.attempt_1_1_1 (expires.m1 ∷ []) []

-- an attempt whose one operation was answered well
abbrev pub whole_course : Course
whole_course = course_of first_try one.attempt_1_1_1 [] []

-- the second staging of a client that wrote a document twice
abbrev pub staged_again : Stage
staged_again = stage_of first_attempt 0 Replace (Some (n 3))

-- a client that made no call, and tells that it was stopped
abbrev pub idle : ClientLog
idle = record { txns = record { attempts = []; end = txn_end.Stopped } ∷ []; calls = 0 }

abbrev pub idle_book : Book
idle_book = record { kept = record { opening = one.opening; history = []; marks = [] }; clients = idle ∷ []; cleaners = [] }

-- one replacement, with a stop after so many calls
abbrev pub stopped_after : ℕ → Case
stopped_after calls = record one.run_case { stops = (1, calls) ∷ [] }

-- a client that is stopped before its first call, though its transaction makes none
abbrev pub nothing_to_call : Case
nothing_to_call = record one.run_case { stops = (1, 0) ∷ []; plans = record { txns = record one.plan_1_1 { ops = [] } ∷ [] } ∷ [] }

-- a client that has ended its transaction, and tells that it was stopped
abbrev pub ended_attempt : AttemptLog
ended_attempt = record one.attempt_1_1_1 { end = attempt_end.Stopped }

abbrev pub ended_client : ClientLog
ended_client = record { txns = record { attempts = ended_attempt ∷ []; end = txn_end.Stopped } ∷ []; calls = 6 }

abbrev pub ended_book : Book
ended_book = record one.book { clients = ended_client ∷ [] }

-- a pass of a cleaner that writes its row once more before the pass has ended
abbrev pub beat_behind : Made
beat_behind = told freed.e4 7 21007 (reply.Done 21006974976)

abbrev pub pass_with_beat : PassLog
pass_with_beat = record { atr = 0; span = span_of 5 8; end = pass_end.Ok (first_attempt ∷ []) }

-- the drop of an entry that has not expired
abbrev pub dropped_early : Made
dropped_early = told freed.e6 6 16002 (reply.Done 16001990656)

-- a cleaner that begins its next pass before the first has ended
abbrev pub two_begun : List Made
two_begun = record { step = step.ReadAtr 1; answer = record { place = 6; now = 21006; reply = reply.Entries [] } } ∷ freed.m5 ∷ []

-- a write whose document was read before, and that reads it again
abbrev pub served_try : AttemptTerms
served_try = record { id = first_attempt; plan = updated.plan_1_1; atrs = 16; latest = 16000 }

abbrev pub after_get : Sofar
after_get = noted get_first updated.op_1_1_1_1 nothing_yet

abbrev pub read_though_served : List Made
read_though_served = updated.m3 ∷ updated.m2 ∷ updated.m0 ∷ []
