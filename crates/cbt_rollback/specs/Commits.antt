-- The calls that an attempt closes with before it is rolled back.
use Rattle.std.specs.Prelude.{◌≡◌, Bool, true, false, List}
use Rattle.cbt_model.specs.declared.events.Made.{Made}
use Rattle.cbt_model.specs.declared.steps.Step.{Step}
use Rattle.cbt_model.specs.declared.steps.Step.TheVariants as step
use Rattle.cbt_book.specs.OwnLists.{Each}

-- a step as a rollback makes it: an abort, a drop, a reading or an unstick of a document
abbrev pub rolls_back : Step → Bool
rolls_back (step.ReadDoc d) = true
rolls_back (step.Unstick d x) = true
rolls_back (step.Abort r a lists) = true
rolls_back (step.DropEntry r a guarded) = true
rolls_back _ = false

-- calls of which none is a rollback's, as commits in vain and the readings behind them
abbrev pub AreCommits : List Made → Type 0
AreCommits commits = Each (λ m _. rolls_back m.step ≡ false) commits
