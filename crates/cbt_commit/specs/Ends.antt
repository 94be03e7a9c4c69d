-- What the calls of a commit come to, by how it ended.
use Rattle.std.specs.Prelude.{◌≡◌, ℕ, ◌⊎◌, List, Some}
use Rattle.cbt_model.specs.History.{commits}
use Rattle.cbt_model.specs.declared.events.Made.{Made}
use Rattle.cbt_model.specs.declared.steps.Reply.TheVariants as reply
use Rattle.cbt_model.specs.declared.steps.Step.TheVariants as step
use Rattle.cbt_book.specs.Closing.{CommitsInDoubt, Settles}
use Rattle.cbt_book.specs.OwnLists.{Once, Kept, Each}

-- the last commit of attempt a, at this place, was answered that the entry is not there
abbrev pub LosesEntry : ℕ → ℕ → List Made → Type 0
LosesEntry a place mine = Kept (λ m _. (m.answer.place ≡ place) × (commits m.step ≡ Some a) × (m.answer.reply ≡ reply.NoEntry)) (λ m _. commits m.step ≡ Some a) mine

-- nobody knows what became of the commit of attempt a at this place: its entry, read next at `reading`, was not shown
abbrev pub StaysUnknown : ℕ → ℕ → ℕ → List Made → Type 0
StaysUnknown a commit reading mine =
    Once (λ n before. (r : ℕ) × (n.answer.place ≡ reading) × (n.step ≡ step.ReadEntry r a) × ((n.answer.reply ≡ reply.Failed) ⊎ (n.answer.reply ≡ reply.NoEntry))
    × Kept (λ m _. (m.answer.place ≡ commit) × CommitsInDoubt r a m) (λ m _. Settles a m) before) mine

-- the last commit of attempt a, at this place, is in doubt
abbrev pub IsLastInDoubt : ℕ → ℕ → List Made → Type 0
IsLastInDoubt a place mine = Kept (λ m _. (m.answer.place ≡ place) × ((r : ℕ) × CommitsInDoubt r a m)) (λ m _. commits m.step ≡ Some a) mine

-- each call commits attempt a or reads its entry; so none aborts it, drops its entry, reads a document or unsticks one
abbrev pub OnlySettles : ℕ → List Made → Type 0
OnlySettles a mine = Each (λ m _. Settles a m) mine
