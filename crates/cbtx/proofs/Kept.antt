-- What a node hands out is what it has kept.
use Rattle.std.proofs.Common.{◌≡◌, ℕ, ◌+◌, Bool, List, [], length, sym, ap, ◌∙◌, subst}
use Rattle.cbt_model.specs.Legal.{Terms}
use Rattle.cbt_model.specs.declared.events.Event.{Event}
use Rattle.cbt_model.specs.declared.events.Kept.{Kept}
use Rattle.cbt_model.specs.declared.events.Mark.{Mark}
use Rattle.cbt_model.specs.declared.states.State.{State}
use Rattle.cbt_core.specs.Runs.{sweeps}
use Rattle.cbt_runs.specs.Driven.{AreDriven}
use Rattle.cbt_runs.specs.Ordered.{AreInTurns}
use Rattle.cbt_script.specs.declared.script.Script.{Script}
use Rattle.cbtx.specs.Cases.{ahead_of}
use Rattle.cbtx.specs.Crew.{IsCrew, IsSweep}
use Rattle.cbtx.specs.contracts.workers.WorkerActor.TheImpl.{ghosts}
use Rattle.cbtx.specs.declared.workers.Worker.{Worker}

pub kept-is : (kept : Kept) (opening : State) (history : List Event) (marks : List Mark) → kept.opening ≡ opening → kept.history ≡ history → kept.marks ≡ marks
    → record { opening = opening; history = history; marks = marks } ≡ kept
kept-is kept opening history marks same_opening same_history same_marks =
    ap (λ o. record { opening = o; history = history; marks = marks }) (sym same_opening)
    ∙ ap (λ h. record { opening = kept.opening; history = h; marks = marks }) (sym same_history)
    ∙ ap (λ m. record { opening = kept.opening; history = kept.history; marks = m }) (sym same_marks)

pub driven-kept : (terms terms' : Terms) (kept kept' kept'' : Kept) (workers worked sweep swept : List Worker) → terms ≡ terms' → kept ≡ kept' → kept'' ≡ kept'
    → AreDriven ghosts terms kept workers worked sweep swept → AreDriven ghosts terms' kept'' workers worked sweep swept
driven-kept terms terms' kept kept' kept'' workers worked sweep swept same_terms same handed driven =
    subst (λ k. AreDriven ghosts terms' k workers worked sweep swept) (same ∙ sym handed)
    (subst (λ t. AreDriven ghosts t kept workers worked sweep swept) same_terms driven)

-- the order of turns, by the script
pub turns-kept : (script : Script) (workers sweep : List Worker) (ahead : ℕ) (refused : Bool) (history : List Event) (before marks : List Mark) (kept kept' : Kept)
    → IsCrew script workers → IsSweep script sweep → ahead ≡ ahead_of script → before ≡ [] → kept.history ≡ history → kept.marks ≡ marks → kept' ≡ kept
    → AreInTurns (length workers) (length sweep) ahead script.order refused history before marks
    → AreInTurns (length script.clients + length script.cleaners) (sweeps script.sweep) (ahead_of script) script.order refused kept'.history [] kept'.marks
turns-kept script workers sweep ahead refused history before marks kept kept' crew is_sweep ahead_is none same_history same_marks same turns =
    subst (λ k. AreInTurns (length script.clients + length script.cleaners) (sweeps script.sweep) (ahead_of script) script.order refused k.history [] k.marks) (sym same)
    (subst (λ h. AreInTurns (length script.clients + length script.cleaners) (sweeps script.sweep) (ahead_of script) script.order refused h [] kept.marks) (sym same_history)
    (subst (λ m. AreInTurns (length script.clients + length script.cleaners) (sweeps script.sweep) (ahead_of script) script.order refused history [] m) (sym same_marks)
    (subst (λ b. AreInTurns (length script.clients + length script.cleaners) (sweeps script.sweep) (ahead_of script) script.order refused history b marks) none
    (subst (λ a. AreInTurns (length script.clients + length script.cleaners) (sweeps script.sweep) a script.order refused history before marks) ahead_is
    (subst (λ n. AreInTurns (length script.clients + length script.cleaners) n ahead script.order refused history before marks) is_sweep.all
    (subst (λ n. AreInTurns n (length sweep) ahead script.order refused history before marks) crew.all turns))))))
