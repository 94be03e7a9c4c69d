-- The rules of a pass, as a pure machine: what a phase asks for, and which phase follows an answer.
use Rattle.std.specs.Prelude.{ℕ, true, false, Bool, ◌+◌, ◌-◌, ◌*◌, ◌^◌, ◌==◌, ◌&&◌, if◌then◌else◌, List, [], ◌∷◌, ◌++◌, length, filter, slice_get, Option, Some, None}
use Rattle.std.specs.List.{sum_by}
use Rattle.cbt_json.specs.declared.value.Json.{Json}
use Rattle.cbt_model.specs.declared.entries.Entry.{Entry}
use Rattle.cbt_model.specs.declared.entries.EntryState.{EntryState}
use Rattle.cbt_model.specs.declared.entries.EntryState.TheVariants.{Pending, Committed, Aborted}
use Rattle.cbt_model.specs.declared.entries.Lists.{Lists}
use Rattle.cbt_model.specs.declared.steps.Reply.{Reply}
use Rattle.cbt_model.specs.declared.steps.Reply.TheVariants as reply
use Rattle.cbt_model.specs.declared.steps.Step.{Step}
use Rattle.cbt_model.specs.declared.steps.Step.TheVariants as step
use Rattle.cbt_book.specs.Passes.{is_expired, expired_in, calls_for}
use Rattle.cbt_book.specs.declared.cleaners.PassEnd.{PassEnd}
use Rattle.cbt_book.specs.declared.cleaners.PassEnd.TheVariants as pass_end
use Rattle.cbt_clean.specs.Staging.{Staging}
use Rattle.cbt_clean.specs.declared.covers.Cover.{Cover}
use Rattle.cbt_clean.specs.declared.passes.Pass.{Pass}
use Rattle.cbt_clean.specs.declared.phases.Phase.{Phase}
use Rattle.cbt_clean.specs.declared.phases.Phase.TheVariants.{Begun, Clearing, Taking, Evicting, Asking, Ended}

-- the documents that lists name, in their order
abbrev pub docs_of : Lists → List (List ℕ)
docs_of lists = lists.ins ++ (lists.rep ++ lists.rem)

-- a content becomes the body, and without one the document goes
abbrev pub publish : List ℕ → ℕ → Option Json → Step
publish d x None = step.Delete d x
publish d x (Some body) = step.Publish d x body

-- a staging is published where its attempt is committed, and else taken away
abbrev pub take_off : EntryState → List ℕ → Staging → Step
take_off Committed d s = publish d s.cas s.content
take_off Pending d s = step.Unstick d s.cas
take_off Aborted d s = step.Unstick d s.cas

-- past the last document the entry is dropped
abbrev pub clearing_step : ℕ → Cover → Option (List ℕ) → Step
clearing_step r c None = step.DropEntry r c.attempt false
clearing_step r c (Some d) = step.ReadDoc d

abbrev pub taking_step : EntryState → Staging → Option (List ℕ) → Option Step
taking_step state s None = None
taking_step state s (Some d) = Some (take_off state d s)

-- the call that a phase of a pass over record r asks for
abbrev pub step_for : ℕ → Phase → Option Step
step_for r Begun = Some (step.ReadAtr r)
step_for r (Clearing c at) = Some (clearing_step r c (slice_get (docs_of c.entry.lists) at))
step_for r (Taking c at s) = taking_step c.entry.state s (slice_get (docs_of c.entry.lists) at)
step_for r (Evicting c again) = Some (step.DropEntry r c.attempt true)
step_for r (Asking c) = Some (step.ReadEntry r c.attempt)
step_for r (Ended end) = None

-- the call that a pass asks for
abbrev pub step_of : Pass → Option Step
step_of pass = step_for pass.atr pass.phase

-- how a phase says that the pass has ended
abbrev pub end_in : Phase → Option PassEnd
end_in Begun = None
end_in (Clearing c at) = None
end_in (Taking c at s) = None
end_in (Evicting c again) = None
end_in (Asking c) = None
end_in (Ended end) = Some end

-- how a pass has ended
abbrev pub end_of : Pass → Option PassEnd
end_of pass = end_in pass.phase

abbrev pub failed : ℕ → Phase
failed place = Ended (pass_end.CallFailed place)

-- an attempt is treated by the state of its entry; `again`: its entry was read for itself
abbrev pub treat_in : EntryState → Cover → Bool → Phase
treat_in Pending c again = Evicting c again
treat_in Committed c again = Clearing c 0
treat_in Aborted c again = Clearing c 0

abbrev pub treat : Cover → Bool → Phase
treat c again = treat_in c.entry.state c again

-- the next of the attempts that wait is treated; past the last one the pass has ended
abbrev pub go_on : List ℕ → List (ℕ × Entry) → Phase
go_on covered [] = Ended (pass_end.Ok covered)
go_on covered (x ∷ waiting) = treat (record { covered = covered; attempt = x.0; entry = x.1; waiting = waiting }) false

-- the attempt is finished
abbrev pub next : Cover → Phase
next c = go_on c.covered c.waiting

-- the record was read
abbrev pub after_record : ℕ → ℕ → Reply → Phase
after_record place now (reply.Entries entries) = go_on (expired_in entries now) (filter (λ e. is_expired now e.1) entries)
after_record place now _ = failed place

-- a listed document was read
abbrev pub after_reading : ℕ → Cover → ℕ → ℕ → Reply → Phase
after_reading r c at place reply.Absent = Clearing c (at + 1)
after_reading r c at place (reply.Doc x body None) = Clearing c (at + 1)
after_reading r c at place (reply.Doc x body (Some stage)) =
    if (stage.atr == r) && (stage.attempt == c.attempt) then Taking c at (record { cas = x; content = stage.content }) else Clearing c (at + 1)
after_reading r c at place _ = failed place

-- the entry was to be dropped
abbrev pub after_drop : Cover → ℕ → Reply → Phase
after_drop c place (reply.Done x) = next c
after_drop c place reply.NoEntry = next c
after_drop c place _ = failed place

abbrev pub after_clearing : ℕ → Cover → ℕ → Option (List ℕ) → ℕ → Reply → Phase
after_clearing r c at None place answer = after_drop c place answer
after_clearing r c at (Some d) place answer = after_reading r c at place answer

-- a staging was to be taken off
abbrev pub after_taking : Cover → ℕ → ℕ → Reply → Phase
after_taking c at place (reply.Done x) = Clearing c (at + 1)
after_taking c at place (reply.CasMismatch have) = Clearing c (at + 1)
after_taking c at place _ = failed place

-- the entry was decided when it was to be dropped: it is read, or left where it was read before
abbrev pub after_decided : Cover → Bool → Phase
after_decided c false = Asking c
after_decided c true = next c

-- the pending entry was to be dropped
abbrev pub after_eviction : Cover → Bool → ℕ → Reply → Phase
after_eviction c again place (reply.Done x) = next c
after_eviction c again place reply.NoEntry = next c
after_eviction c again place reply.Decided = after_decided c again
after_eviction c again place _ = failed place

abbrev pub with_entry : Cover → Entry → Cover
with_entry c e = record c { entry = e }

-- the entry was read for itself
abbrev pub after_asking : Cover → ℕ → Reply → Phase
after_asking c place reply.NoEntry = next c
after_asking c place (reply.Entry e) = treat (with_entry c e) true
after_asking c place _ = failed place

-- the phase after this one, where the call that it asks for had this reply at this place and time
abbrev pub after : ℕ → Phase → ℕ → ℕ → Reply → Phase
after r Begun place now answer = after_record place now answer
after r (Clearing c at) place now answer = after_clearing r c at (slice_get (docs_of c.entry.lists) at) place answer
after r (Taking c at s) place now answer = after_taking c at place answer
after r (Evicting c again) place now answer = after_eviction c again place answer
after r (Asking c) place now answer = after_asking c place answer
after r (Ended end) place now answer = Ended end

-- so many documents of an entry a pass can count: a place of one is a `usize`
abbrev pub places : ℕ
places = 2 ^ 64

-- how many calls the treatment of one attempt leaves at most, whatever its entry lists when it is read for itself
abbrev pub most_for_one : ℕ
most_for_one = 2 * places + 4

abbrev pub left_evicting : Bool → ℕ
left_evicting false = most_for_one
left_evicting true = 1

-- how many calls a phase leaves at most, whatever the answers
abbrev pub left_in : Phase → ℕ
left_in Begun = most_for_one * places + 1
left_in (Clearing c at) = (2 * (places - at) + 2) + most_for_one * length c.waiting
left_in (Taking c at s) = (2 * (places - at) + 1) + most_for_one * length c.waiting
left_in (Evicting c again) = left_evicting again + most_for_one * length c.waiting
left_in (Asking c) = (2 * places + 3) + most_for_one * length c.waiting
left_in (Ended end) = 0

-- how many calls a pass has left at most, whatever the answers. It is a large number, since an entry that is read for itself may
-- list anything; `calls_due` is what the answers so far leave
abbrev pub calls_left : Pass → ℕ
calls_left pass = left_in pass.phase

-- the calls for an entry, where each on a document counts one, and each on the entry itself k
abbrev pub due_for : ℕ → Entry → ℕ
due_for k e = 3 * k + calls_for e.lists

-- the calls for the attempts that wait
abbrev pub due_after : ℕ → List (ℕ × Entry) → ℕ
due_after k waiting = sum_by (λ x. due_for k x.1) waiting

abbrev pub due_evicting : ℕ → Bool → ℕ
due_evicting k false = 3 * k
due_evicting k true = k

-- the calls that a phase still leads to at most by the answers so far
abbrev pub due_in : ℕ → Phase → ℕ
due_in k Begun = 0
due_in k (Clearing c at) = (2 * (length (docs_of c.entry.lists) - at) + k) + due_after k c.waiting
due_in k (Taking c at s) = ((2 * (length (docs_of c.entry.lists) - at) - 1) + k) + due_after k c.waiting
due_in k (Evicting c again) = due_evicting k again + due_after k c.waiting
due_in k (Asking c) = 2 * k + due_after k c.waiting
due_in k (Ended end) = 0

-- how many calls a pass that has read its record has left by the answers so far
abbrev pub calls_due : Pass → ℕ
calls_due pass = due_in 1 pass.phase

-- the calls that follow from an answer
abbrev pub due_by : ℕ → Reply → ℕ → ℕ
due_by k (reply.Entries entries) now = sum_by (λ x. due_for k x.1) (filter (λ x. is_expired now x.1) entries)
due_by k (reply.Entry e) now = calls_for e.lists
due_by k _ now = 0

-- how many calls follow from an answer at most: three for each expired entry that it shows and two for each document that this
-- lists; or two for each document that the entry lists which was read for itself
abbrev pub calls_by : Reply → ℕ → ℕ
calls_by answer now = due_by 1 answer now
