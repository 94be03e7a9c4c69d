-- A commit is late; a cleaner finishes it before its client looks.
use Rattle.std.specs.Prelude.{true, false, List, [], ◌∷◌, Some, None}
use Rattle.cbt_base.specs.Ids.{attempt_number, cleaner_number}
use Rattle.cbt_expr.specs.declared.plans.ClientPlan.{ClientPlan}
use Rattle.cbt_expr.specs.declared.plans.Op.TheVariants as op
use Rattle.cbt_expr.specs.declared.plans.TxnPlan.{TxnPlan}
use Rattle.cbt_model.specs.declared.documents.OpKind.TheVariants.{Replace}
use Rattle.cbt_model.specs.declared.entries.EntryState.TheVariants.{Committed}
use Rattle.cbt_model.specs.declared.events.Event.{Event}
use Rattle.cbt_model.specs.declared.events.Fate.TheVariants.{Plain, Late}
use Rattle.cbt_model.specs.declared.events.Made.{Made}
use Rattle.cbt_model.specs.declared.events.Mark.{Mark}
use Rattle.cbt_model.specs.declared.states.State.{State}
use Rattle.cbt_model.specs.declared.steps.Expect.TheVariants as expect
use Rattle.cbt_model.specs.declared.steps.Reply.TheVariants as reply
use Rattle.cbt_model.specs.declared.steps.Step.TheVariants as step
use Rattle.cbt_book.specs.declared.book.Book.{Book}
use Rattle.cbt_book.specs.declared.cleaners.CleanerLog.{CleanerLog}
use Rattle.cbt_book.specs.declared.cleaners.PassEnd.TheVariants as pass_end
use Rattle.cbt_book.specs.declared.clients.AttemptEnd.TheVariants as attempt_end
use Rattle.cbt_book.specs.declared.clients.AttemptLog.{AttemptLog}
use Rattle.cbt_book.specs.declared.clients.ClientLog.{ClientLog}
use Rattle.cbt_book.specs.declared.clients.TxnEnd.TheVariants as txn_end
use Rattle.cbt_book.specs.declared.clients.TxnLog.{TxnLog}
use Rattle.cbt_book.specs.declared.operations.OpAnswer.TheVariants as answer
use Rattle.cbt_book.specs.declared.operations.OpLog.{OpLog}
use Rattle.cbt_book.specs.declared.operations.When.TheVariants as when
use Rattle.cbt_core.specs.declared.case.Case.{Case}
use Rattle.cbt_rows.specs.Words.{doc_a, n, stage_of, lists_of, entry_of, first_doc, event_of, told, faults_of, span_of}
use Rattle.cbt_rows.specs.Written.{n_of}

-- the node before the run
abbrev pub opening : State
opening = record { last = 1; docs = (doc_a, first_doc 1 (n 1)) ∷ []; entries = []; clients = [] }

-- its calls, and what each actor was told
abbrev pub e0 : Event
e0 = event_of 1 Plain 1000 (step.ReadDoc doc_a)

abbrev pub m0 : Made
m0 = told e0 0 1000 (reply.Doc 1 (Some (n 1)) None)

abbrev pub e1 : Event
e1 = event_of 1 Plain 1001 (step.AddEntry 0 (attempt_number 1 1 1) 1000)

abbrev pub m1 : Made
m1 = told e1 1 1001 (reply.Done 1000996864)

abbrev pub e2 : Event
e2 = event_of 1 Plain 1002 (step.Stage doc_a (expect.Cas 1) (stage_of (attempt_number 1 1 1) 0 Replace (Some (n 2))))

abbrev pub m2 : Made
m2 = told e2 2 1002 (reply.Done 1001979904)

abbrev pub e3 : Event
e3 = event_of 1 Late 1003 (step.Commit 0 (attempt_number 1 1 1) (lists_of [] (doc_a ∷ []) []))

abbrev pub m3 : Made
m3 = told e3 3 1003 (reply.Failed)

abbrev pub e4 : Event
e4 = event_of 2 Plain 6004 (step.ReadClients)

abbrev pub m4 : Made
m4 = told e4 4 6004 (reply.Clients ([]))

abbrev pub e5 : Event
e5 = event_of 2 Plain 6005 (step.Beat (cleaner_number 1) 60000 1 [])

abbrev pub m5 : Made
m5 = told e5 5 6005 (reply.Done 6004998144)

abbrev pub e6 : Event
e6 = event_of 2 Plain 6006 (step.ReadAtr 0)

abbrev pub m6 : Made
m6 = told e6 6 6006 (reply.Entries ((attempt_number 1 1 1, (entry_of Committed 1000996864 1000 (lists_of [] (doc_a ∷ []) []))) ∷ []))

abbrev pub e7 : Event
e7 = event_of 2 Plain 6007 (step.ReadDoc doc_a)

abbrev pub m7 : Made
m7 = told e7 7 6007 (reply.Doc 1001979904 (Some (n 1)) (Some (stage_of (attempt_number 1 1 1) 0 Replace (Some (n 2)))))

abbrev pub e8 : Event
e8 = event_of 2 Plain 6008 (step.Publish doc_a 1001979904 (n 2))

abbrev pub m8 : Made
m8 = told e8 8 6008 (reply.Done 6007947264)

abbrev pub e9 : Event
e9 = event_of 2 Plain 6009 (step.DropEntry 0 (attempt_number 1 1 1) false)

abbrev pub m9 : Made
m9 = told e9 9 6009 (reply.Done 6008995840)

abbrev pub e10 : Event
e10 = event_of 1 Plain 6010 (step.ReadEntry 0 (attempt_number 1 1 1))

abbrev pub m10 : Made
m10 = told e10 10 6010 (reply.NoEntry)

abbrev pub history : List Event
history = e0 ∷ e1 ∷ e2 ∷ e3 ∷ e4 ∷ e5 ∷ e6 ∷ e7 ∷ e8 ∷ e9 ∷ e10 ∷ []

abbrev pub marks : List Mark
marks = record { place = 4; ms = 5000 } ∷ []

-- what actor 1 had made up to each of its calls, newest first
abbrev pub past_0 : List Made
past_0 = m0 ∷ []

abbrev pub past_1 : List Made
past_1 = m1 ∷ past_0

abbrev pub past_2 : List Made
past_2 = m2 ∷ past_1

abbrev pub past_3 : List Made
past_3 = m3 ∷ past_2

abbrev pub past_10 : List Made
past_10 = m10 ∷ past_3

abbrev pub made_1 : List Made
made_1 = past_10

-- what actor 2 had made up to each of its calls, newest first
abbrev pub past_4 : List Made
past_4 = m4 ∷ []

abbrev pub past_5 : List Made
past_5 = m5 ∷ past_4

abbrev pub past_6 : List Made
past_6 = m6 ∷ past_5

abbrev pub past_7 : List Made
past_7 = m7 ∷ past_6

abbrev pub past_8 : List Made
past_8 = m8 ∷ past_7

abbrev pub past_9 : List Made
past_9 = m9 ∷ past_8

abbrev pub made_2 : List Made
made_2 = past_9

-- what the clients are to do
abbrev pub plan_1_1 : TxnPlan
plan_1_1 = record { ops = (op.Replace doc_a (n_of 2)) ∷ []; expiry = 60000; hold = 1000; tries = 8; keep = true }

abbrev pub plans : List ClientPlan
plans = record { txns = plan_1_1 ∷ [] } ∷ []

-- the run's case
abbrev pub run_case : Case
run_case = record { opening = opening; line = Some (1000, 1); faults = faults_of (((1, 4), Late) ∷ []); stops = []; plans = plans; actors = 2; atrs = 1; lapse = 60000; rounds = 1 ∷ []; sweep = None }

-- the logs that the clients and cleaners leave
abbrev pub op_1_1_1_1 : OpLog
op_1_1_1_1 = record { op = 1; span = (span_of 0 3); answer = answer.Staged 2 (when.At 0) }

abbrev pub attempt_1_1_1 : AttemptLog
attempt_1_1_1 = record { id = attempt_number 1 1 1; span = (span_of 0 11); ops = op_1_1_1_1 ∷ []; not_committed = false; end = attempt_end.Unknown 3 10 }

abbrev pub txn_1_1 : TxnLog
txn_1_1 = record { attempts = attempt_1_1_1 ∷ []; end = txn_end.Unknown }

abbrev pub client_1 : ClientLog
client_1 = record { txns = txn_1_1 ∷ []; calls = 5 }

abbrev pub cleaner_1 : CleanerLog
cleaner_1 = record { id = cleaner_number 1; rounds = record { span = (span_of 4 10); share = Some (record { index = 0; of = 1 }); passes = record { atr = 0; span = (span_of 6 10); end = pass_end.Ok ((attempt_number 1 1 1) ∷ []) } ∷ [] } ∷ []; stopped = false; calls = 6 }

abbrev pub book : Book
book = record { kept = record { opening = opening; history = history; marks = marks }; clients = client_1 ∷ []; cleaners = cleaner_1 ∷ [] }
