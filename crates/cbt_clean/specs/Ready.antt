-- What a pass needs of its cleaner's own list before, and what it leaves so.
use Rattle.std.specs.Prelude.{◌≡◌, Bool, true, false, List, None}
use Rattle.cbt_model.specs.declared.events.Made.{Made}
use Rattle.cbt_model.specs.declared.steps.Step.{Step}
use Rattle.cbt_model.specs.declared.steps.Step.TheVariants as step
use Rattle.cbt_book.specs.OwnLists.{Each}
use Rattle.cbt_book.specs.Shown.{decides}

-- no call decides an attempt, as none of a cleaner does
abbrev pub DecidesNothing : List Made → Type 0
DecidesNothing l = Each (λ m _. decides m.step ≡ None) l

-- a step as a pass makes it: a reading, what takes a staging off, or a drop of an entry
abbrev pub cleans : Step → Bool
cleans (step.ReadDoc d) = true
cleans (step.Publish d x body) = true
cleans (step.Delete d x) = true
cleans (step.Unstick d x) = true
cleans (step.ReadEntry r a) = true
cleans (step.DropEntry r a guarded) = true
cleans (step.ReadAtr r) = true
cleans _ = false
