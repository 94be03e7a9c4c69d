-- Which steps may be sent, and which replies may come back: a reply's kind stands in its step's row of the table.
use Rattle.std.specs.Prelude.{◌≡◌, ℕ, Bool, true, false, ◌&&◌, nat_lt, nat_le, List, [], ◌∷◌, length, Option, Some, None}
use Rattle.cbt_model.specs.Bodies.{body_fits_of}
use Rattle.cbt_json.specs.declared.value.Json.{Json}
use Rattle.cbt_model.specs.Keys.{doc_at}
use Rattle.cbt_model.specs.declared.documents.DocState.{DocState}
use Rattle.cbt_model.specs.declared.documents.OpKind.{OpKind}
use Rattle.cbt_model.specs.declared.documents.OpKind.TheVariants.{Insert, Replace, Remove}
use Rattle.cbt_model.specs.declared.documents.Stage.{Stage}
use Rattle.cbt_model.specs.declared.states.State.{State}
use Rattle.cbt_model.specs.declared.steps.Expect.{Expect}
use Rattle.cbt_model.specs.declared.steps.Expect.TheVariants as expect
use Rattle.cbt_model.specs.declared.steps.Reply.{Reply}
use Rattle.cbt_model.specs.declared.steps.Reply.TheVariants as reply
use Rattle.cbt_model.specs.declared.steps.Step.{Step}
use Rattle.cbt_model.specs.declared.steps.Step.TheVariants as step

-- a body that is there is a fit body
abbrev pub body_fits_maybe : Option Json → Bool
body_fits_maybe None = true
body_fits_maybe (Some body) = body_fits_of body

-- a content is missing exactly for a remove, and else a fit body
abbrev pub content_fits : OpKind → Option Json → Bool
content_fits Insert None = false
content_fits Insert (Some content) = body_fits_of content
content_fits Replace None = false
content_fits Replace (Some content) = body_fits_of content
content_fits Remove None = true
content_fits Remove (Some content) = false

abbrev pub stage_fits : Stage → Bool
stage_fits stage = content_fits stage.kind stage.content

abbrev pub stage_fits_maybe : Option Stage → Bool
stage_fits_maybe None = true
stage_fits_maybe (Some stage) = stage_fits stage

-- what a step carries fits: bodies and staged contents, and at most 12 ids of cleaners that are gone
abbrev pub step_fits : Step → Bool
step_fits (step.Stage doc expect stage) = stage_fits stage
step_fits (step.Publish doc cas body) = body_fits_of body
step_fits (step.Beat me expires num_atrs gone) = nat_le (length gone) 12
step_fits _ = true

abbrev pub is_above : Option ℕ → ℕ → Bool
is_above None id = true
is_above (Some low) id = nat_lt low id

-- the ids rise, from above this one on
abbrev pub ids_rise_from : {X : Type 0} → Option ℕ → List (ℕ × X) → Bool
ids_rise_from low [] = true
ids_rise_from low (e ∷ es) = is_above low e.0 && ids_rise_from (Some e.0) es

-- the ids rise
abbrev pub ids_rise : {X : Type 0} → List (ℕ × X) → Bool
ids_rise es = ids_rise_from None es

abbrev pub fits_read_doc : Reply → Bool
fits_read_doc reply.Absent = true
fits_read_doc (reply.Doc cas body stage) = body_fits_maybe body && stage_fits_maybe stage
fits_read_doc reply.Failed = true
fits_read_doc _ = false

abbrev pub fits_stage : Expect → Reply → Bool
fits_stage expect.New reply.Exists = true
fits_stage expect.New (reply.Done c) = true
fits_stage expect.New reply.Failed = true
fits_stage expect.New _ = false
fits_stage (expect.Cas x) reply.Absent = true
fits_stage (expect.Cas x) (reply.CasMismatch have) = true
fits_stage (expect.Cas x) (reply.Done c) = true
fits_stage (expect.Cas x) reply.Failed = true
fits_stage (expect.Cas x) _ = false

-- a publication, a deletion and an unstick
abbrev pub fits_unstage : Reply → Bool
fits_unstage (reply.CasMismatch have) = true
fits_unstage (reply.Done c) = true
fits_unstage reply.Failed = true
fits_unstage _ = false

abbrev pub fits_read_entry : Reply → Bool
fits_read_entry reply.NoEntry = true
fits_read_entry (reply.Entry e) = true
fits_read_entry reply.Failed = true
fits_read_entry _ = false

abbrev pub fits_add_entry : Reply → Bool
fits_add_entry reply.Exists = true
fits_add_entry (reply.Done c) = true
fits_add_entry reply.Failed = true
fits_add_entry _ = false

-- a commit, an abort and a guarded drop
abbrev pub fits_decide : Reply → Bool
fits_decide reply.NoEntry = true
fits_decide reply.Decided = true
fits_decide (reply.Done c) = true
fits_decide reply.Failed = true
fits_decide _ = false

-- an unguarded drop
abbrev pub fits_drop : Reply → Bool
fits_drop reply.NoEntry = true
fits_drop (reply.Done c) = true
fits_drop reply.Failed = true
fits_drop _ = false

abbrev pub fits_drop_entry : Bool → Reply → Bool
fits_drop_entry true r = fits_decide r
fits_drop_entry false r = fits_drop r

abbrev pub fits_read_atr : Reply → Bool
fits_read_atr (reply.Entries entries) = ids_rise entries
fits_read_atr reply.Failed = true
fits_read_atr _ = false

abbrev pub fits_read_clients : Reply → Bool
fits_read_clients (reply.Clients rows) = ids_rise rows
fits_read_clients reply.Failed = true
fits_read_clients _ = false

abbrev pub fits_beat : Reply → Bool
fits_beat (reply.Done c) = true
fits_beat reply.Failed = true
fits_beat _ = false

-- the reply may come back to the step: its kind stands in the step's row or it is Failed, each body and staged content
-- is a fit body, ids rise, and a staged content is missing exactly for a remove
abbrev pub fits : Step → Reply → Bool
fits (step.ReadDoc doc) r = fits_read_doc r
fits (step.Stage doc expect stage) r = fits_stage expect r
fits (step.Publish doc x body) r = fits_unstage r
fits (step.Delete doc x) r = fits_unstage r
fits (step.Unstick doc x) r = fits_unstage r
fits (step.ReadEntry atr attempt) r = fits_read_entry r
fits (step.AddEntry atr attempt exp) r = fits_add_entry r
fits (step.Commit atr attempt lists) r = fits_decide r
fits (step.Abort atr attempt lists) r = fits_decide r
fits (step.DropEntry atr attempt guarded) r = fits_drop_entry guarded r
fits (step.ReadAtr atr) r = fits_read_atr r
fits step.ReadClients r = fits_read_clients r
fits (step.Beat me expires num_atrs gone) r = fits_beat r

abbrev pub doc_fits : DocState → Bool
doc_fits d = body_fits_maybe d.body && stage_fits_maybe d.stage

-- each body and staged content of a state is a fit body, and a staged content is missing exactly for a remove
pub record HasFitBodies (s : State) : Type 0 where
  pub each : (doc : List ℕ) (d : DocState) → doc_at s doc ≡ Some d → doc_fits d ≡ true

-- each attribute object of a state is a fit body
pub record HasFitAttributes (s : State) : Type 0 where
  pub each : (doc : List ℕ) (d : DocState) → doc_at s doc ≡ Some d → body_fits_of d.attrs ≡ true
