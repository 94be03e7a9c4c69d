-- How an attempt closes: what it may call after its operations, and what that comes to.
use Rattle.std.specs.Prelude.{◌≡◌, ◌≢◌, ℕ, ◌<◌, ◌⊎◌, Bool, true, false, is_some, List, [], count_by, Option, Some, None}
use Rattle.cbt_model.specs.History.{commits}
use Rattle.cbt_model.specs.declared.entries.Entry.{Entry}
use Rattle.cbt_model.specs.declared.entries.EntryState.TheVariants.{Committed}
use Rattle.cbt_model.specs.declared.entries.Lists.{Lists}
use Rattle.cbt_model.specs.declared.events.Made.{Made}
use Rattle.cbt_model.specs.declared.steps.Reply.{Reply}
use Rattle.cbt_model.specs.declared.steps.Reply.TheVariants as reply
use Rattle.cbt_model.specs.declared.steps.Step.{Step}
use Rattle.cbt_model.specs.declared.steps.Step.TheVariants as step
use Rattle.cbt_book.specs.Licence.{IsListed}
use Rattle.cbt_book.specs.OwnLists.{Once, Kept, Each}
use Rattle.cbt_book.specs.Passes.{IsDropped}
use Rattle.cbt_book.specs.Shown.{ReadsEntry, adds, aborts, decides}

-- answered Failed or Decided: the actor does not know what became of its commit
abbrev pub IsInDoubt : Reply → Type 0
IsInDoubt r = (r ≡ reply.Failed) ⊎ (r ≡ reply.Decided)

-- a commit of attempt a in record r, answered so
abbrev pub CommitsInDoubt : ℕ → ℕ → Made → Type 0
CommitsInDoubt r a m = ((lists : Lists) × (m.step ≡ step.Commit r a lists)) × IsInDoubt m.answer.reply

-- a commit of attempt a, or a reading of its entry
abbrev pub Settles : ℕ → Made → Type 0
Settles a m = (commits m.step ≡ Some a) ⊎ ((r : ℕ) × (m.step ≡ step.ReadEntry r a))

-- the attempt's last commit lists document d, and so does its abort
abbrev pub CommitLists : ℕ → List ℕ → List Made → Type 0
CommitLists a d past = Kept (λ m _. (r : ℕ) × (lists : Lists) × (m.step ≡ step.Commit r a lists) × IsListed d lists) (λ m _. commits m.step ≡ Some a) past

-- the attempt's abort lists document d
abbrev pub AbortLists : ℕ → List ℕ → List Made → Type 0
AbortLists a d past = Once (λ m _. (r : ℕ) × (lists : Lists) × (m.step ≡ step.Abort r a lists) × IsListed d lists) past

-- the document whose staging a step makes its body
abbrev pub resolves : Step → Option (List ℕ)
resolves (step.Publish d x body) = Some d
resolves (step.Delete d x) = Some d
resolves _ = None

-- the attempt whose entry a step drops
abbrev pub drops : Step → Option ℕ
drops (step.DropEntry r a guarded) = Some a
drops _ = None

-- what attempt a may call after its operations and these calls: up to three commits, after each that was not settled a reading of
-- its entry, and then one publication or deletion of each document that its last commit lists; or an abort, and then one reading
-- and one unstick of each document that the abort lists; at the end of either an unguarded drop
abbrev pub MayClose : ℕ → List Made → Step → Type 0
MayClose a past (step.Commit r b lists) = (b ≡ a) × (count_by (λ m. is_some (commits m.step)) past < 3)
MayClose a past (step.ReadEntry r b) = (b ≡ a) × Kept (λ m _. CommitsInDoubt r a m) (λ m _. Settles a m) past
MayClose a past (step.Publish d x body) = CommitLists a d past × (¬ Once (λ m _. resolves m.step ≡ Some d) past)
MayClose a past (step.Delete d x) = CommitLists a d past × (¬ Once (λ m _. resolves m.step ≡ Some d) past)
MayClose a past (step.Abort r b lists) = (b ≡ a) × (¬ Once (λ m _. aborts m.step ≡ Some a) past)
MayClose a past (step.ReadDoc d) = AbortLists a d past × (¬ Once (λ m _. m.step ≡ step.ReadDoc d) past)
MayClose a past (step.Unstick d x) = AbortLists a d past × (¬ Once (λ m _. (y : ℕ) × (m.step ≡ step.Unstick d y)) past)
MayClose a past (step.DropEntry r b false) = (b ≡ a) × Once (λ m _. decides m.step ≡ Some a) past × (¬ Once (λ m _. drops m.step ≡ Some a) past)
MayClose a past _ = ⊥

-- the third commit was not settled, and the reading of the entry after it showed it not committed
abbrev pub ThirdInVain : ℕ → List Made → Type 0
ThirdInVain a closing =
    Once (λ n before. (r : ℕ) × ((e : Entry) × ReadsEntry r a e n × (e.state ≢ Committed)) × (count_by (λ m. is_some (commits m.step)) before ≡ 3)
    × Kept (λ m _. CommitsInDoubt r a m) (λ m _. Settles a m) before) closing

-- the last commit, at this place, was answered Done, or its entry was read committed next
pub data CommitHolds (a place : ℕ) (closing : List Made) : Type 0 where
  told : Kept (λ m _. (m.answer.place ≡ place) × ((r c : ℕ) × (lists : Lists) × (m.step ≡ step.Commit r a lists) × (m.answer.reply ≡ reply.Done c)))
      (λ m _. commits m.step ≡ Some a) closing → CommitHolds a place closing
  read : Kept (λ n before. (r : ℕ) × ((e : Entry) × ReadsEntry r a e n × (e.state ≡ Committed))
      × Kept (λ m _. (m.answer.place ≡ place) × CommitsInDoubt r a m) (λ m _. Settles a m) before)
      (λ m _. commits m.step ≡ Some a) closing → CommitHolds a place closing

-- a call that finishes a commit: a publication, a deletion or the drop of the entry
abbrev pub finishes : Step → Bool
finishes (step.Publish d x body) = true
finishes (step.Delete d x) = true
finishes (step.DropEntry r a guarded) = true
finishes _ = false

-- complete where the entry was dropped and no such call failed, and else one of them failed
abbrev pub IsFinished : ℕ → List Made → Bool → Type 0
IsFinished a closing true =
    Once (λ m _. ((r : ℕ) × (m.step ≡ step.DropEntry r a false)) × IsDropped m.answer.reply) closing
    × Each (λ m _. finishes m.step ≡ true → m.answer.reply ≢ reply.Failed) closing
IsFinished a closing false = Once (λ m _. (finishes m.step ≡ true) × (m.answer.reply ≡ reply.Failed)) closing

-- the attempt has been aborted by the newest of these calls, or before
abbrev pub HasAborted : ℕ → List Made → Type 0
HasAborted a calls = Once (λ n _. aborts n.step ≡ Some a) calls

-- nothing of the attempt is left: no entry was sent, or its abort found none, or the entry was dropped after the abort
pub data IsUndone (a : ℕ) (calls closing : List Made) : Type 0 where
  unsent : Each (λ m _. adds m.step ≢ Some a) calls → closing ≡ [] → IsUndone a calls closing
  no_entry : Once (λ m _. (aborts m.step ≡ Some a) × (m.answer.reply ≡ reply.NoEntry)) closing → IsUndone a calls closing
  dropped : Once (λ m before. ((r : ℕ) × (m.step ≡ step.DropEntry r a false)) × IsDropped m.answer.reply × HasAborted a before) closing → IsUndone a calls closing
