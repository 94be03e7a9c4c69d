-- An actor that reads a document, and then stages a change of it over the stamp that it read.
use Rattle.std.specs.Prelude.{◌≡◌, ℕ, Bool, false, ◌==◌, if◌then◌else◌, List, [], ◌∷◌, length, Option, Some, None}
use Rattle.std.specs.Option.{option_map}
use Rattle.cbt_model.specs.declared.documents.Stage.{Stage}
use Rattle.cbt_model.specs.declared.events.Made.{Made}
use Rattle.cbt_model.specs.declared.steps.Expect.TheVariants as expect
use Rattle.cbt_model.specs.declared.steps.Reply.{Reply}
use Rattle.cbt_model.specs.declared.steps.Reply.TheVariants as reply
use Rattle.cbt_model.specs.declared.steps.Step.{Step}
use Rattle.cbt_model.specs.declared.steps.Step.TheVariants as step

-- the stamp that a reply shows
abbrev pub stamp_of : Reply → Option ℕ
stamp_of (reply.Doc cas body stage) = Some cas
stamp_of _ = None

abbrev pub staging : List ℕ → Stage → Option ℕ → Option Step
staging doc stage seen = option_map (λ cas. step.Stage doc (expect.Cas cas) stage) seen

-- its step after its own list, newest first
abbrev pub step_after : List ℕ → Stage → List Made → Option Step
step_after doc stage [] = Some (step.ReadDoc doc)
step_after doc stage (read ∷ []) = staging doc stage (stamp_of read.answer.reply)
step_after doc stage (staged ∷ read ∷ past) = None

-- its step after so many calls, with the stamp that it saw
abbrev pub step_of : List ℕ → Stage → ℕ → Option ℕ → Option Step
step_of doc stage made seen = if made == 0 then Some (step.ReadDoc doc) else (if made == 1 then staging doc stage seen else None)

-- what it keeps is right for its own list
pub record Follows (doc : List ℕ) (stage : Stage) (made : ℕ) (seen : Option ℕ) (stopped : Bool) (l : List Made) : Type 0 where
  pub counted : made ≡ length l
  pub right : stopped ≡ false → step_of doc stage made seen ≡ step_after doc stage l
