-- Histories of actors that are not licensed, in which the laws do not hold.
use Rattle.std.specs.Prelude.{ℕ, true, false, List, [], ◌∷◌, Some, None}
use Rattle.cbt_base.specs.Ids.{attempt_number}
use Rattle.cbt_expr.specs.declared.plans.ClientPlan.{ClientPlan}
use Rattle.cbt_expr.specs.declared.plans.Op.TheVariants as op
use Rattle.cbt_expr.specs.declared.plans.TxnPlan.{TxnPlan}
use Rattle.cbt_model.specs.declared.documents.OpKind.TheVariants.{Replace}
use Rattle.cbt_model.specs.declared.documents.Stage.{Stage}
use Rattle.cbt_model.specs.declared.events.Event.{Event}
use Rattle.cbt_model.specs.declared.events.Fate.TheVariants.{Plain}
use Rattle.cbt_model.specs.declared.states.State.{State}
use Rattle.cbt_model.specs.declared.steps.Expect.TheVariants as expect
use Rattle.cbt_model.specs.declared.steps.Step.{Step}
use Rattle.cbt_model.specs.declared.steps.Step.TheVariants as step
use Rattle.cbt_book.specs.declared.book.Book.{Book}
use Rattle.cbt_book.specs.declared.clients.AttemptEnd.TheVariants as attempt_end
use Rattle.cbt_book.specs.declared.clients.AttemptLog.{AttemptLog}
use Rattle.cbt_book.specs.declared.clients.ClientLog.{ClientLog}
use Rattle.cbt_book.specs.declared.clients.TxnEnd.TheVariants as txn_end
use Rattle.cbt_book.specs.declared.operations.OpAnswer.TheVariants as answer
use Rattle.cbt_book.specs.declared.operations.When.TheVariants as when
use Rattle.cbt_core.specs.declared.case.Case.{Case}
use Rattle.cbt_rows.specs.Words.{doc_a, n, stage_of, lists_of, first_doc, faults_of, span_of}
use Rattle.cbt_rows.specs.Written.{n_of}

-- an event of this actor that met no fault; without a reading the clock counts the changes
abbrev pub call : ℕ → Step → Event
call actor st = record { actor = actor; step = st; fate = Plain; reading = 0 }

abbrev pub attempt : ℕ
attempt = attempt_number 1 1 1

abbrev pub no_docs : State
no_docs = record { last = 0; docs = []; entries = []; clients = [] }

abbrev pub one_doc : State
one_doc = record { last = 1; docs = (doc_a, first_doc 1 (n 1)) ∷ []; entries = []; clients = [] }

-- a document whose stamp is above the clock
abbrev pub doc_ahead : State
doc_ahead = record { last = 0; docs = (doc_a, first_doc 1 (n 1)) ∷ []; entries = []; clients = [] }

abbrev pub add_entry : Step
add_entry = step.AddEntry 0 attempt 15000

abbrev pub drop_entry : Step
drop_entry = step.DropEntry 0 attempt false

-- the entry of one attempt is added three times, and each time decided
abbrev pub entry_again : List Event
entry_again = call 1 add_entry ∷ call 1 (step.Commit 0 attempt (lists_of [] [] [])) ∷ call 1 drop_entry
    ∷ call 1 add_entry ∷ call 1 (step.Abort 0 attempt (lists_of [] [] [])) ∷ call 1 drop_entry
    ∷ call 1 add_entry ∷ call 1 (step.Commit 0 attempt (lists_of [] [] [])) ∷ []

abbrev pub staging : ℕ → ℕ → Stage
staging a k = stage_of a 0 Replace (Some (n k))

abbrev pub stage_doc : ℕ → ℕ → ℕ → Step
stage_doc a k x = step.Stage doc_a (expect.Cas x) (staging a k)

-- another actor takes a pending staging away
abbrev pub unstuck_by_another : List Event
unstuck_by_another = call 1 add_entry ∷ call 1 (stage_doc attempt 2 1) ∷ call 2 (step.Unstick doc_a 3) ∷ []

-- a commit lists nothing, and its entry is dropped
abbrev pub listed_nowhere : List Event
listed_nowhere = call 1 add_entry ∷ call 1 (stage_doc attempt 2 1) ∷ call 1 (step.Commit 0 attempt (lists_of [] [] [])) ∷ call 1 drop_entry ∷ []

-- a document is deleted that nobody has removed
abbrev pub deleted : List Event
deleted = call 1 (step.Delete doc_a 1) ∷ []

abbrev pub other : ℕ
other = attempt_number 2 1 1

abbrev pub committing : ℕ → Step
committing a = step.Commit 0 a (lists_of [] (doc_a ∷ []) [])

-- two clients read the document; the second commits its write, and then the first stages over it and commits too
abbrev pub update_lost : List Event
update_lost = call 1 (step.ReadDoc doc_a) ∷ call 2 (step.ReadDoc doc_a)
    ∷ call 2 (step.AddEntry 0 other 15000) ∷ call 2 (stage_doc other 3 1) ∷ call 2 (committing other) ∷ call 2 (step.Publish doc_a 3 (n 3))
    ∷ call 1 add_entry ∷ call 1 (stage_doc attempt 2 5) ∷ call 1 (committing attempt) ∷ []

abbrev pub replacing : ℕ → TxnPlan
replacing k = record { ops = op.Replace doc_a (n_of k) ∷ []; expiry = 15000; hold = 15000; tries = 8; keep = true }

abbrev pub plans : List ClientPlan
plans = record { txns = replacing 2 ∷ [] } ∷ record { txns = replacing 3 ∷ [] } ∷ []

abbrev pub run_case : Case
run_case = record { opening = one_doc; line = None; faults = faults_of []; stops = []; plans = plans; actors = 2; atrs = 1; lapse = 60000; rounds = []; sweep = None }

-- an attempt whose replacement was staged at this place, over a reading at this moment
abbrev pub staged_log : ℕ → ℕ → ℕ → AttemptLog
staged_log a place moment = record {
  id = a;
  span = span_of 0 9;
  ops = record { op = 1; span = span_of 0 9; answer = answer.Staged place (when.At moment) } ∷ [];
  not_committed = false;
  end = attempt_end.Stopped;
}

abbrev pub log_of : List AttemptLog → ClientLog
log_of attempts = record { txns = record { attempts = attempts; end = txn_end.Stopped } ∷ []; calls = 0 }

abbrev pub book_with : State → List Event → List ClientLog → Book
book_with opening history clients = record { kept = record { opening = opening; history = history; marks = [] }; clients = clients; cleaners = [] }

abbrev pub lost_book : Book
lost_book = book_with one_doc update_lost (log_of (staged_log attempt 7 0 ∷ []) ∷ log_of (staged_log other 3 1 ∷ []) ∷ [])

abbrev pub second_try : ℕ
second_try = attempt_number 1 1 2

-- both tries of one transaction commit
abbrev pub both_commit : List Event
both_commit = call 1 add_entry ∷ call 1 (step.Commit 0 attempt (lists_of [] [] [])) ∷ call 1 (step.AddEntry 0 second_try 15000)
    ∷ call 1 (step.Commit 0 second_try (lists_of [] [] [])) ∷ []

abbrev pub tries_book : Book
tries_book = book_with no_docs both_commit (log_of (staged_log attempt 0 0 ∷ staged_log second_try 0 0 ∷ []) ∷ [])

-- a client that reads an earlier moment after a later one
abbrev pub moments_book : Book
moments_book = book_with no_docs [] (record {
  txns = record {
    attempts = record {
      id = attempt;
      span = span_of 0 9;
      ops = record { op = 1; span = span_of 0 9; answer = answer.Value None (when.At 5) } ∷ record { op = 2; span = span_of 0 9; answer = answer.Value None (when.At 3) } ∷ [];
      not_committed = false;
      end = attempt_end.Stopped;
    } ∷ [];
    end = txn_end.Stopped;
  } ∷ [];
  calls = 0;
} ∷ [])
