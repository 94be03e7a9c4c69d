-- The actor that reads and stages, before its first call.
use Rattle.std.proofs.Common.{◌≡◌, ◌≢◌, false, List, [], length, None, sym, ap, ◌∙◌, arith}
use Rattle.cbt_model.specs.History.{own}
use Rattle.cbt_model.specs.Legal.{AddsOne}
use Rattle.cbt_model.specs.declared.documents.Stage.{Stage}
use Rattle.cbt_model.specs.declared.events.Event.{Event}
use Rattle.cbt_model.specs.declared.events.Fate.{Fate}
use Rattle.cbt_model.specs.declared.states.State.{State}
use Rattle.cbt_model.specs.declared.steps.Step.{Step}
use Rattle.cbt_model.proofs.Longer.{others_called}
use Rattle.cbt_node_rows.specs.ReadThenStage.{Follows, step_after}
use Rattle.std.proofs.Common.{ℕ}

-- a call of another actor, the first one, leaves it at its beginning
pub begins : (s : State) (old new : List Event) (step : Step) (fate : Fate) (doc : List ℕ) (stage : Stage)
    → AddsOne old new 2 step fate → old ≡ [] → Follows doc stage 0 None false (own s new 1 (length new))
begins s old new step fate doc stage adds empty =
    record { counted = ap length (sym none); right = λ going. ap (λ l. step_after doc stage l) (sym none) }
  where
    apart : ◌≢◌ {A = ℕ} 1 2
    apart same = omega arith

    none : own s new 1 (length new) ≡ []
    none = others_called s old new 2 step fate 1 adds apart ∙ ap (λ h. own s h 1 (length h)) empty
