-- The rules that a history keeps whose text reads back: what the types of its parts say, and that steps fit.
use Rattle.std.specs.Prelude.{◌≡◌, ℕ, ◌+◌, ◌-◌, ◌^◌, ◌<◌, ◌≤◌, true, List, [], ◌∷◌, length, Option, Some, None}
use Rattle.std.specs.List.{AllByRecursion}
use Rattle.cbt_base.specs.Clock.{clock_of}
use Rattle.cbt_base.specs.Ids.{IsDocId}
use Rattle.cbt_json.specs.declared.tree.Tree.{Tree}
use Rattle.cbt_json.specs.Rules.{IsJson}
use Rattle.cbt_model.specs.Fitting.{step_fits}
use Rattle.cbt_model.specs.History.{happens, outcome}
use Rattle.cbt_model.specs.declared.documents.DocState.{DocState}
use Rattle.cbt_model.specs.declared.documents.Stage.{Stage}
use Rattle.cbt_model.specs.declared.entries.Lists.{Lists}
use Rattle.cbt_model.specs.declared.events.Event.{Event}
use Rattle.cbt_model.specs.declared.states.State.{State}
use Rattle.cbt_model.specs.declared.steps.Expect.{Expect}
use Rattle.cbt_model.specs.declared.steps.Expect.TheVariants as expect
use Rattle.cbt_model.specs.declared.steps.Reply.{Reply}
use Rattle.cbt_model.specs.declared.steps.Reply.TheVariants as reply
use Rattle.cbt_model.specs.declared.steps.Step.{Step}
use Rattle.cbt_model.specs.declared.steps.Step.TheVariants as step

-- ---- numbers

abbrev pub Is16 : ℕ → Type 0
Is16 n = n < 2 ^ 16

abbrev pub Is64 : ℕ → Type 0
Is64 n = n < 2 ^ 64

abbrev pub IsId : ℕ → Type 0
IsId n = n < 2 ^ 128

-- ---- steps

abbrev pub IsExpect : Expect → Type 0
IsExpect expect.New = Unit {0}
IsExpect (expect.Cas cas) = Is64 cas

abbrev pub IsContent : Option Tree → Type 0
IsContent None = Unit {0}
IsContent (Some content) = IsJson content

abbrev pub IsStage : Stage → Type 0
IsStage stage = IsId stage.attempt × Is16 stage.atr × IsContent stage.content

abbrev pub AreLists : Lists → Type 0
AreLists lists = AllByRecursion IsDocId lists.ins × AllByRecursion IsDocId lists.rep × AllByRecursion IsDocId lists.rem

-- what a step names has the form of its type
abbrev pub IsStep : Step → Type 0
IsStep (step.ReadDoc doc) = IsDocId doc
IsStep (step.Stage doc expect stage) = IsDocId doc × IsExpect expect × IsStage stage
IsStep (step.Publish doc cas body) = IsDocId doc × Is64 cas × IsJson body
IsStep (step.Delete doc cas) = IsDocId doc × Is64 cas
IsStep (step.Unstick doc cas) = IsDocId doc × Is64 cas
IsStep (step.ReadEntry atr attempt) = Is16 atr × IsId attempt
IsStep (step.AddEntry atr attempt exp) = Is16 atr × IsId attempt × Is64 exp
IsStep (step.Commit atr attempt lists) = Is16 atr × IsId attempt × AreLists lists
IsStep (step.Abort atr attempt lists) = Is16 atr × IsId attempt × AreLists lists
IsStep (step.DropEntry atr attempt guarded) = Is16 atr × IsId attempt
IsStep (step.ReadAtr atr) = Is16 atr
IsStep step.ReadClients = Unit {0}
IsStep (step.Beat me expires num_atrs gone) = IsId me × Is64 expires × Is16 num_atrs × AllByRecursion IsId gone

-- ---- replies

-- the numbers that a reply's text tells have 64 bits
abbrev pub IsTold : Reply → Type 0
IsTold (reply.Doc cas body stage) = Is64 cas
IsTold (reply.Done cas) = Is64 cas
IsTold (reply.CasMismatch have) = Is64 have
IsTold (reply.Entries entries) = Is64 (length entries)
IsTold (reply.Clients rows) = Is64 (length rows)
IsTold _ = Unit {0}

-- ---- events

pub record IsEvent (e : Event) : Type 0 where
  pub actor : e.actor < 2 ^ 32
  pub reading : Is64 e.reading
  pub step : IsStep e.step
  pub fits : step_fits e.step ≡ true

-- events, the first of which meets this state, and what they are answered
abbrev pub AreEvents : State → List Event → Type 0
AreEvents s [] = Unit {0}
AreEvents s (e ∷ events) = IsEvent e × IsTold (outcome s e).reply × AreEvents (happens s e) events

-- an opening whose numbers have the types of its parts, and whose clock has not run far past the last reading
pub record IsOpening (s : State) : Type 0 where
  pub last : s.last ≤ clock_of (2 ^ 43 - 1) + 2 ^ 32
  pub docs : AllByRecursion (λ (d : List ℕ × DocState). Is64 d.1.cas) s.docs
  pub entries : length s.entries ≤ 2 ^ 63
  pub clients : length s.clients ≤ 2 ^ 63
