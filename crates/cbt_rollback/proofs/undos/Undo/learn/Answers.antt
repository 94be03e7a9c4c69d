use Rattle.std.proofs.Common.{◌≡◌, ◌<◌, ◌∷◌, Option, Some, None, IsSome, refl, sym, subst}
use Rattle.cbt_model.specs.declared.steps.Step.{Step}
use Rattle.cbt_rollback.specs.Phases.{task_of, step_of, left_in}
use Rattle.cbt_rollback.specs.Standing.{Runs, goes_on}
use Rattle.cbt_rollback.specs.declared.undos.Undo.{Undo}
use Rattle.cbt_rollback.proofs.Bounds.{fewer_after}
use Rattle.cbt_rollback.proofs.undos.Undo.learn.Goals as goal

pub returns-clause-stands : goal.returns-clause-stands
returns-clause-stands c mine s asked stands =
    subst (λ p. Runs (task_of c.args.self.now) p (record { step = s; answer = c.args.answer } ∷ mine)) (sym c.after-self.ensures)
    (goes_on c.args.self.now.phase mine (record { step = s; answer = c.args.answer }) stands asked (c.requires.fits s asked))

pub returns-clause-fewer : goal.returns-clause-fewer
returns-clause-fewer c =
    let asked = asked_for c.args.self.now c.requires.asked in
    subst (λ p. left_in (task_of c.args.self.now) p < left_in (task_of c.args.self.now) c.args.self.now.phase) (sym c.after-self.ensures)
    (fewer_after (task_of c.args.self.now) c.args.self.now.phase asked.0 c.args.answer asked.1 (c.requires.fits asked.0 asked.1))
  where
    some_of : (o : Option Step) → IsSome o → (s : Step) × (o ≡ Some s)
    some_of None none = absurd (cc)
    some_of (Some s) there = (s, refl)

    asked_for : (undo : Undo) → IsSome (step_of undo) → (s : Step) × (step_of undo ≡ Some s)
    asked_for undo there = some_of (step_of undo) there
