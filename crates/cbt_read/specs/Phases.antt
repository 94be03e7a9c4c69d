-- The rules of a read, as a pure machine: what a phase asks for, and which phase follows an answer.
use Rattle.std.specs.Prelude.{ℕ, zero, suc, ◌+◌, ◌*◌, Bool, true, false, ◌==◌, if◌then◌else◌, List, Option, Some, None}
use Rattle.cbt_json.specs.declared.value.Json.{Json}
use Rattle.cbt_model.specs.declared.entries.EntryState.{EntryState}
use Rattle.cbt_model.specs.declared.entries.EntryState.TheVariants.{Pending, Committed, Aborted}
use Rattle.cbt_model.specs.declared.steps.Reply.{Reply}
use Rattle.cbt_model.specs.declared.steps.Reply.TheVariants as reply
use Rattle.cbt_model.specs.declared.steps.Step.{Step}
use Rattle.cbt_model.specs.declared.steps.Step.TheVariants as step
use Rattle.cbt_book.specs.ReadAt.{Reading}
use Rattle.cbt_read.specs.declared.gets.Get.{Get}
use Rattle.cbt_read.specs.declared.phases.Phase.{Phase}
use Rattle.cbt_read.specs.declared.phases.Phase.TheVariants.{Begun, Asking, Again, Ended}
use Rattle.cbt_read.specs.declared.phases.Staged.{Staged}
use Rattle.cbt_read.specs.declared.ends.GetEnd.{GetEnd}
use Rattle.cbt_read.specs.declared.ends.GetEnd.TheVariants.{Value, Contended, CallFailed}

-- the call that a phase of a read of document d asks for
abbrev pub step_for : List ℕ → Phase → Option Step
step_for d Begun = Some (step.ReadDoc d)
step_for d (Asking staged left) = Some (step.ReadEntry staged.stage.atr staged.stage.attempt)
step_for d (Again staged gone place left) = Some (step.ReadDoc d)
step_for d (Ended end) = None

-- the call that a read asks for
abbrev pub step_of : Get → Option Step
step_of get = step_for get.doc get.phase

-- how a phase says that the read has ended
abbrev pub end_in : Phase → Option GetEnd
end_in Begun = None
end_in (Asking staged left) = None
end_in (Again staged gone place left) = None
end_in (Ended end) = Some end

-- how a read has ended
abbrev pub end_of : Get → Option GetEnd
end_of get = end_in get.phase

-- how many calls a phase leaves at most
abbrev pub left_in : Phase → ℕ
left_in Begun = 17
left_in (Asking staged left) = 2 * left + 2
left_in (Again staged gone place left) = 2 * left + 1
left_in (Ended end) = 0

-- how many calls a read has left at most
abbrev pub calls_left : Get → ℕ
calls_left get = left_in get.phase

-- a reading without a staging: its body
abbrev pub found : Option Json → Option ℕ → ℕ → Phase
found value cas place = Ended (Value (record { value = value; cas = cas; by = None; gone = false; moment = place }))

abbrev pub failed : ℕ → Phase
failed place = Ended (CallFailed place)

-- the body of a staged document, since the attempt was not committed
abbrev pub uncommitted : Staged → Reading
uncommitted staged = record { value = staged.body; cas = Some staged.cas; by = Some (staged.stage.atr, staged.stage.attempt); gone = false; moment = staged.place }

-- what was staged, since the attempt was committed at this moment
abbrev pub committed : Staged → ℕ → Reading
committed staged moment = record { value = staged.stage.content; cas = Some staged.cas; by = Some (staged.stage.atr, staged.stage.attempt); gone = false; moment = moment }

-- the body that a staged document still had at this moment, since the attempt was gone
abbrev pub dead : Staged → Option Json → ℕ → Reading
dead staged body moment = record { value = body; cas = Some staged.cas; by = Some (staged.stage.atr, staged.stage.attempt); gone = true; moment = moment }

-- a change of hands less, where one is left
abbrev pub one_fewer : ℕ → Option ℕ
one_fewer zero = None
one_fewer (suc left) = Some left

-- the document is staged: its attempt is asked about, or the document has changed hands too often
abbrev pub ask : Staged → Option ℕ → Phase
ask staged None = Ended Contended
ask staged (Some left) = Asking staged left

-- a reading that stands for itself
abbrev pub after_reading : ℕ → Reply → Option ℕ → Phase
after_reading place (reply.Doc cas body None) left = found body (Some cas) place
after_reading place (reply.Doc cas body (Some stage)) left = ask (record { cas = cas; body = body; stage = stage; place = place }) left
after_reading place reply.Absent left = found None None place
after_reading place _ left = failed place

-- an entry in this state was read
abbrev pub decided : Staged → ℕ → ℕ → EntryState → Phase
decided staged left place Committed = Again staged false place left
decided staged left place Pending = Ended (Value (uncommitted staged))
decided staged left place Aborted = Ended (Value (uncommitted staged))

-- the entry of the attempt that staged the document was read
abbrev pub after_entry : Staged → ℕ → ℕ → Reply → Phase
after_entry staged left place reply.NoEntry = Again staged true place left
after_entry staged left place (reply.Entry e) = decided staged left place e.state
after_entry staged left place _ = failed place

-- the document still has its CAS: its entry, read at `asked`, decides
abbrev pub confirmed : Staged → Bool → ℕ → ℕ → Option Json → Phase
confirmed staged false asked place body = Ended (Value (committed staged asked))
confirmed staged true asked place body = Ended (Value (dead staged body place))

-- the document was read a second time
abbrev pub after_second : Staged → Bool → ℕ → ℕ → ℕ → Reply → Phase
after_second staged gone asked left place (reply.Doc cas body stage) =
    if cas == staged.cas then confirmed staged gone asked place body else after_reading place (reply.Doc cas body stage) (one_fewer left)
after_second staged gone asked left place r = after_reading place r (one_fewer left)

-- the phase after this one, where the call that it asks for had this reply at this place
abbrev pub after : Phase → ℕ → Reply → Phase
after Begun place r = after_reading place r (Some 7)
after (Asking staged left) place r = after_entry staged left place r
after (Again staged gone asked left) place r = after_second staged gone asked left place r
after (Ended end) place r = Ended end
