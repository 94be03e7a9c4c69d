-- A cleaner is stopped in its second round, and another cannot read the client record.
use Rattle.std.specs.Prelude.{true, false, List, [], ◌∷◌, Some, None}
use Rattle.cbt_base.specs.Ids.{cleaner_number}
use Rattle.cbt_expr.specs.declared.plans.ClientPlan.{ClientPlan}
use Rattle.cbt_model.specs.declared.events.Event.{Event}
use Rattle.cbt_model.specs.declared.events.Fate.TheVariants.{Plain, Lost}
use Rattle.cbt_model.specs.declared.events.Made.{Made}
use Rattle.cbt_model.specs.declared.events.Mark.{Mark}
use Rattle.cbt_model.specs.declared.states.State.{State}
use Rattle.cbt_model.specs.declared.steps.Reply.TheVariants as reply
use Rattle.cbt_model.specs.declared.steps.Step.TheVariants as step
use Rattle.cbt_book.specs.declared.book.Book.{Book}
use Rattle.cbt_book.specs.declared.cleaners.CleanerLog.{CleanerLog}
use Rattle.cbt_book.specs.declared.cleaners.PassEnd.TheVariants as pass_end
use Rattle.cbt_core.specs.declared.case.Case.{Case}
use Rattle.cbt_rows.specs.Words.{event_of, told, faults_of, span_of}

-- the node before the run
abbrev pub opening : State
opening = record { last = 0; docs = []; entries = []; clients = [] }

-- its calls, and what each actor was told
abbrev pub e0 : Event
e0 = event_of 1 Plain 1000 (step.ReadClients)

abbrev pub m0 : Made
m0 = told e0 0 1000 (reply.Clients ([]))

abbrev pub e1 : Event
e1 = event_of 1 Plain 1001 (step.Beat (cleaner_number 1) 60000 1 [])

abbrev pub m1 : Made
m1 = told e1 1 1001 (reply.Done 1000996864)

abbrev pub e2 : Event
e2 = event_of 1 Plain 1002 (step.ReadAtr 0)

abbrev pub m2 : Made
m2 = told e2 2 1002 (reply.Entries ([]))

abbrev pub e3 : Event
e3 = event_of 2 Lost 1003 (step.ReadClients)

abbrev pub m3 : Made
m3 = told e3 3 1003 (reply.Failed)

abbrev pub e4 : Event
e4 = event_of 1 Plain 1004 (step.ReadClients)

abbrev pub m4 : Made
m4 = told e4 4 1004 (reply.Clients ((cleaner_number 1, record { heartbeat = 1000996864; expires = 60000; num_atrs = 1 }) ∷ []))

abbrev pub e5 : Event
e5 = event_of 1 Plain 1005 (step.Beat (cleaner_number 1) 60000 1 [])

abbrev pub m5 : Made
m5 = told e5 5 1005 (reply.Done 1004994560)

abbrev pub history : List Event
history = e0 ∷ e1 ∷ e2 ∷ e3 ∷ e4 ∷ e5 ∷ []

abbrev pub marks : List Mark
marks = []

-- what actor 1 had made up to each of its calls, newest first
abbrev pub past_0 : List Made
past_0 = m0 ∷ []

abbrev pub past_1 : List Made
past_1 = m1 ∷ past_0

abbrev pub past_2 : List Made
past_2 = m2 ∷ past_1

abbrev pub past_4 : List Made
past_4 = m4 ∷ past_2

abbrev pub past_5 : List Made
past_5 = m5 ∷ past_4

abbrev pub made_1 : List Made
made_1 = past_5

-- what actor 2 had made up to each of its calls, newest first
abbrev pub past_3 : List Made
past_3 = m3 ∷ []

abbrev pub made_2 : List Made
made_2 = past_3

-- what the clients are to do
abbrev pub plans : List ClientPlan
plans = []

-- the run's case
abbrev pub run_case : Case
run_case = record { opening = opening; line = Some (1000, 1); faults = faults_of (((2, 1), Lost) ∷ []); stops = (1, 5) ∷ []; plans = plans; actors = 2; atrs = 1; lapse = 60000; rounds = 2 ∷ 1 ∷ []; sweep = None }

-- the logs that the clients and cleaners leave
abbrev pub cleaner_1 : CleanerLog
cleaner_1 = record { id = cleaner_number 1; rounds = record { span = (span_of 0 3); share = Some (record { index = 0; of = 1 }); passes = record { atr = 0; span = (span_of 2 3); end = pass_end.Ok ([]) } ∷ [] } ∷ record { span = (span_of 4 6); share = Some (record { index = 0; of = 1 }); passes = [] } ∷ []; stopped = true; calls = 5 }

abbrev pub cleaner_2 : CleanerLog
cleaner_2 = record { id = cleaner_number 2; rounds = record { span = (span_of 3 4); share = None; passes = [] } ∷ []; stopped = false; calls = 1 }

abbrev pub book : Book
book = record { kept = record { opening = opening; history = history; marks = marks }; clients = []; cleaners = cleaner_1 ∷ cleaner_2 ∷ [] }
