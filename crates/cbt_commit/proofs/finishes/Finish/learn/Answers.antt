use Rattle.std.proofs.Common.{◌≡◌, ◌<◌, ◌∷◌, Option, true, false, Some, None, IsSome, refl, sym, subst}
use Rattle.cbt_model.specs.declared.steps.Step.{Step}
use Rattle.cbt_commit.specs.Phases.{task_of, step_of, left_in}
use Rattle.cbt_commit.specs.Standing.{Runs, goes_on}
use Rattle.cbt_commit.specs.declared.finishes.Finish.{Finish}
use Rattle.cbt_commit.proofs.Bounds.{fewer_after}
use Rattle.cbt_commit.proofs.finishes.Finish.learn.Goals as goal

pub returns-clause-stands : goal.returns-clause-stands
returns-clause-stands c mine s asked stands = record {
  listed = stands.listed;
  runs = subst (λ p. Runs (task_of c.args.self.now) p (record { step = s; answer = c.args.answer } ∷ mine)) (sym c.after-self.ensures)
      (goes_on c.args.self.now.phase mine (record { step = s; answer = c.args.answer }) stands.runs asked (c.requires.fits s asked));
}

pub returns-clause-fewer : goal.returns-clause-fewer
returns-clause-fewer c =
    let asked = asked_for c.args.self.now c.requires.asked in
    subst (λ p. left_in (task_of c.args.self.now) p < left_in (task_of c.args.self.now) c.args.self.now.phase) (sym c.after-self.ensures)
    (fewer_after (task_of c.args.self.now) c.args.self.now.phase asked.0 c.args.answer asked.1 (c.requires.fits asked.0 asked.1))
  where
    false-true : false ≡ true → ⊥
    false-true both = cc

    some_of : (o : Option Step) → IsSome o → (s : Step) × (o ≡ Some s)
    some_of None none = absurd (false-true none)
    some_of (Some s) there = (s, refl)

    asked_for : (finish : Finish) → IsSome (step_of finish) → (s : Step) × (step_of finish ≡ Some s)
    asked_for finish there = some_of (step_of finish) there
