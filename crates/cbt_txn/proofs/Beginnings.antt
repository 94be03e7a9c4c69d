-- The commit and the rollback of an attempt have not ended when they begin.
use Rattle.std.proofs.Common.{◌≡◌, List, [], ◌∷◌, None, refl}
use Rattle.cbt_model.specs.declared.events.Made.{Made}
use Rattle.cbt_rollback.specs.Phases as undo
use Rattle.cbt_rollback.specs.Standing.{Runs, begun, goes_on}
use Rattle.cbt_rollback.specs.declared.phases.Phase.{Phase}

cons_some : (m : Made) (l : List Made) → m ∷ l ≡ [] → ⊥
cons_some m l is = cc

pub undo_goes : (t : undo.Task) (p : Phase) (mine : List Made) → Runs t p mine → mine ≡ [] → undo.end_in p ≡ None
undo_goes t _ _ begun is = refl
undo_goes t _ _ (goes_on p mine m runs asked fit) is = absurd (cons_some m mine is)
