-- How a fitting answer takes a pass from one phase to the next.
use Rattle.std.proofs.Common.{◌≡◌, ◌≢◌, ℕ, ◌+◌, Bool, true, false, List, filter, slice_get, Option, Some, None}
use Rattle.cbt_json.specs.declared.value.Json.{Json}
use Rattle.cbt_model.specs.Fitting.{ids_rise}
use Rattle.cbt_model.specs.declared.documents.Stage.{Stage}
use Rattle.cbt_model.specs.declared.entries.Entry.{Entry}
use Rattle.cbt_model.specs.declared.events.Made.{Made}
use Rattle.cbt_model.specs.declared.steps.Reply.{Reply}
use Rattle.cbt_model.specs.declared.steps.Reply.TheVariants as reply
use Rattle.cbt_model.specs.declared.steps.Step.TheVariants as step
use Rattle.cbt_book.specs.Passes.{is_expired, expired_in, IsDropped}
use Rattle.cbt_book.specs.Shown.{ReadsDoc, FindsNoDoc, ReadsEntry, FindsNoEntry, ReadsRecord}
use Rattle.cbt_clean.specs.Phases.{docs_of, take_off, step_for, go_on, next, treat, with_entry, failed}
use Rattle.cbt_clean.specs.Staging.{Staging}
use Rattle.cbt_clean.specs.declared.covers.Cover.{Cover}
use Rattle.cbt_clean.specs.declared.phases.Phase.{Phase}
use Rattle.cbt_clean.specs.declared.phases.Phase.TheVariants.{Begun, Clearing, Taking, Evicting, Asking}

-- a staging was taken off, or the document has another CAS
pub data IsTakenOff (r : Reply) : Type 0 where
  by_it : (c : ℕ) → r ≡ reply.Done c → IsTakenOff r
  before_it : (have : ℕ) → r ≡ reply.CasMismatch have → IsTakenOff r

-- a reading finds no staging of attempt a in record r
pub data FindsOff (r a : ℕ) (d : List ℕ) (m : Made) : Type 0 where
  absent : FindsNoDoc d m → FindsOff r a d m
  unstaged : (x : ℕ) (body : Option Json) → ReadsDoc d x body None m → FindsOff r a d m
  of_another : (x : ℕ) (body : Option Json) (stage : Stage) → ReadsDoc d x body (Some stage) m → stage.attempt ≢ a → FindsOff r a d m
  elsewhere : (x : ℕ) (body : Option Json) (stage : Stage) → ReadsDoc d x body (Some stage) m → stage.atr ≢ r → FindsOff r a d m

-- the document at a place of those that the entry lists
abbrev pub IsAt : Cover → ℕ → Option (List ℕ) → Type 0
IsAt c at o = slice_get (docs_of c.entry.lists) at ≡ o

-- the call, with its answer, takes a pass over record r from one phase to the next
pub data Moves (r : ℕ) (m : Made) : Phase → Phase → Type 0 where
  reads_record : (entries : List (ℕ × Entry)) → ReadsRecord r entries m → ids_rise entries ≡ true
      → Moves r m Begun (go_on (expired_in entries m.answer.now) (filter (λ e. is_expired m.answer.now e.1) entries))
  finds_off : (c : Cover) (at : ℕ) (d : List ℕ) → IsAt c at (Some d) → m.step ≡ step.ReadDoc d → FindsOff r c.attempt d m → Moves r m (Clearing c at) (Clearing c (at + 1))
  finds_staged : (c : Cover) (at x : ℕ) (d : List ℕ) (body : Option Json) (stage : Stage) → IsAt c at (Some d) → ReadsDoc d x body (Some stage) m
      → stage.atr ≡ r → stage.attempt ≡ c.attempt → Moves r m (Clearing c at) (Taking c at (record { cas = x; content = stage.content }))
  takes : (c : Cover) (at : ℕ) (d : List ℕ) (s : Staging) → IsAt c at (Some d) → m.step ≡ take_off c.entry.state d s → IsTakenOff m.answer.reply
      → Moves r m (Taking c at s) (Clearing c (at + 1))
  drops : (c : Cover) (at : ℕ) → IsAt c at None → m.step ≡ step.DropEntry r c.attempt false → IsDropped m.answer.reply → Moves r m (Clearing c at) (next c)
  evicts : (c : Cover) (again : Bool) → m.step ≡ step.DropEntry r c.attempt true → IsDropped m.answer.reply → Moves r m (Evicting c again) (next c)
  finds_decided : (c : Cover) → m.step ≡ step.DropEntry r c.attempt true → m.answer.reply ≡ reply.Decided → Moves r m (Evicting c false) (Asking c)
  leaves : (c : Cover) → m.step ≡ step.DropEntry r c.attempt true → m.answer.reply ≡ reply.Decided → Moves r m (Evicting c true) (next c)
  finds_none : (c : Cover) → FindsNoEntry r c.attempt m → Moves r m (Asking c) (next c)
  reads_entry : (c : Cover) (e : Entry) → ReadsEntry r c.attempt e m → Moves r m (Asking c) (treat (with_entry c e) true)
  fails : (p : Phase) → step_for r p ≡ Some m.step → m.answer.reply ≡ reply.Failed → Moves r m p (failed m.answer.place)
