-- What a write over an own write is, and which call it makes.
use Rattle.std.specs.Prelude.{◌≡◌, ℕ, Bool, true, false, if◌then◌else◌, List, Option, Some, None}
use Rattle.cbt_json.specs.declared.value.Json.{Json}
use Rattle.cbt_model.specs.declared.documents.OpKind.{OpKind}
use Rattle.cbt_model.specs.declared.documents.OpKind.TheVariants.{Insert, Replace, Remove}
use Rattle.cbt_model.specs.declared.steps.Expect.TheVariants as expect
use Rattle.cbt_model.specs.declared.steps.Reply.{Reply}
use Rattle.cbt_model.specs.declared.steps.Reply.TheVariants as reply
use Rattle.cbt_model.specs.declared.steps.Step.{Step}
use Rattle.cbt_model.specs.declared.steps.Step.TheVariants as step
use Rattle.cbt_book.specs.declared.operations.When.TheVariants as when
use Rattle.cbt_attempt.specs.Notes.{stage_of}
use Rattle.cbt_attempt.specs.OwnWrites.{noted}
use Rattle.cbt_attempt.specs.declared.attempt.Attempt.{Attempt}
use Rattle.cbt_attempt.specs.declared.own.Own.{Own}
use Rattle.cbt_stage.specs.declared.agains.Again.{Again}
use Rattle.cbt_stage.specs.declared.ends.PutEnd.{PutEnd}
use Rattle.cbt_stage.specs.declared.ends.PutEnd.TheVariants.{Staged, Unstaged, Moved, CallFailed}
use Rattle.cbt_stage.specs.declared.rewrites.Rewrite.{Rewrite}

-- whether a write of this kind over an own write of that one needs a call; else it finds the document there, or finds none
abbrev pub needs_call : OpKind → OpKind → Bool
needs_call Insert Remove = true
needs_call Insert _ = false
needs_call Replace Remove = false
needs_call Replace _ = true
needs_call Remove Remove = false
needs_call Remove _ = true

-- whether the own write is taken back: a remove does so that meets an own insert
abbrev pub takes_back : OpKind → OpKind → Bool
takes_back Remove Insert = true
takes_back _ _ = false

-- the kind of what is staged over an own write: an inserted document stays inserted, and what is inserted over an own remove
-- replaces what was there before
abbrev pub kind_over : OpKind → OpKind → OpKind
kind_over Insert own = Replace
kind_over Replace Insert = Insert
kind_over Replace own = Replace
kind_over Remove own = Remove

-- the attempt's entry was sent, and it has an own write of the document, with a CAS, over which a write of this kind needs a call
pub record CanWriteAgain (a : Attempt) (d : List ℕ) (kind : OpKind) : Type 0 where
  pub own : Own
  pub atr : ℕ
  pub cas : ℕ
  pub own_is : noted a.writes d ≡ Some own
  pub atr_is : a.sent ≡ Some atr
  pub cas_is : own.cas ≡ Some cas
  pub needed : needs_call kind own.kind ≡ true

-- what is staged over an own write, or else that write itself
abbrev pub written_over : Own → OpKind → Option Json → Own
written_over own kind content =
    if takes_back kind own.kind then record { kind = own.kind; content = own.content; cas = None }
    else record { kind = kind_over kind own.kind; content = content; cas = None }

abbrev pub over : Attempt → List ℕ → OpKind → Option Json → Own → ℕ → ℕ → Rewrite
over a d kind content own atr cas =
    record { doc = d; attempt = a.id; atr = atr; cas = cas; back = takes_back kind own.kind; write = written_over own kind content }

-- a write over an own write with a CAS
abbrev pub over_cas : Attempt → List ℕ → OpKind → Option Json → Own → ℕ → Option ℕ → Option Rewrite
over_cas a d kind content own atr None = None
over_cas a d kind content own atr (Some cas) = Some (over a d kind content own atr cas)

abbrev pub over_own : Attempt → List ℕ → OpKind → Option Json → Option ℕ → Option Own → Option Rewrite
over_own a d kind content (Some atr) (Some own) = over_cas a d kind content own atr own.cas
over_own a d kind content _ _ = None

-- a write of document d over the attempt's own write of it
abbrev pub rewrite_of : Attempt → List ℕ → OpKind → Option Json → Option Rewrite
rewrite_of a d kind content = over_own a d kind content a.sent (noted a.writes d)

-- the call that makes the write
abbrev pub call_of : Rewrite → Step
call_of o = if o.back then step.Unstick o.doc o.cas else step.Stage o.doc (expect.Cas o.cas) (stage_of o.attempt o.atr o.write)

-- the call that is asked for
abbrev pub asked_for : Rewrite → Option PutEnd → Option Step
asked_for o None = Some (call_of o)
asked_for o (Some end) = None

abbrev pub asked_by : Again → Option Step
asked_by again = asked_for again.task again.end

-- how many calls are left
abbrev pub left_for : Option PutEnd → ℕ
left_for None = 1
left_for (Some end) = 0

abbrev pub call_left : Again → ℕ
call_left again = left_for again.end

-- the call was answered Done
abbrev pub done : Bool → ℕ → PutEnd
done true place = Unstaged place
done false place = Staged place when.Own

-- how the write ended, where its call had this reply at this place
abbrev pub ended : Bool → ℕ → Reply → PutEnd
ended back place (reply.Done c) = done back place
ended back place reply.Failed = CallFailed place
ended back place _ = Moved
