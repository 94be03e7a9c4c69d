-- What a try is on its client's own list, and what that list has to show for the licence of its calls.
use Rattle.std.specs.Prelude.{◌≡◌, ◌≢◌, ℕ, true, false, List, [], ◌∷◌, ◌++◌, Option, Some, None}
use Rattle.cbt_model.specs.History.{commits}
use Rattle.cbt_model.specs.declared.events.Made.{Made}
use Rattle.cbt_model.specs.declared.steps.Reply.TheVariants as reply
use Rattle.cbt_model.specs.declared.steps.Step.{Step}
use Rattle.cbt_model.specs.declared.steps.Step.TheVariants as step
use Rattle.cbt_book.specs.Closing.{MayClose, ThirdInVain, drops, finishes as finishes_commit}
use Rattle.cbt_book.specs.Numbers.{Identity, client_of}
use Rattle.cbt_book.specs.OwnLists.{Each, Once}
use Rattle.cbt_book.specs.Shown.{aborts, adds, decides}
use Rattle.cbt_book.specs.Spans.{past_of}
use Rattle.cbt_book.specs.declared.clients.AttemptEnd.{AttemptEnd}
use Rattle.cbt_book.specs.declared.clients.AttemptEnd.TheVariants as attempt_end
use Rattle.cbt_book.specs.declared.clients.AttemptLog.{AttemptLog}
use Rattle.cbt_book.specs.declared.clients.TxnEnd.{TxnEnd}
use Rattle.cbt_core.specs.Attempts.{AttemptFollows}
use Rattle.cbt_core.specs.Transactions.{TxnTerms, EndsTxn, IsRetried}
use Rattle.cbt_core.specs.Walk.{AttemptTerms}
use Rattle.cbt_attempt.specs.Notes.{HasStaged}
use Rattle.cbt_attempt.specs.declared.own.Own.{Own}
use Rattle.cbt_commit.specs.Phases as finish
use Rattle.cbt_commit.specs.Ready as finish_ready
use Rattle.cbt_commit.specs.Standing as finish_stands
use Rattle.cbt_commit.specs.declared.finishes.Finish.{Finish}
use Rattle.cbt_rollback.specs.Commits.{AreCommits}
use Rattle.cbt_rollback.specs.Phases as undo
use Rattle.cbt_rollback.specs.Ready as undo_ready
use Rattle.cbt_rollback.specs.Standing as undo_stands
use Rattle.cbt_rollback.specs.declared.undos.Undo.{Undo}
use Rattle.cbt_txn.specs.Deciding.{IsOver, is_kept, is_over}
use Rattle.cbt_txn.specs.Following.{Follows, first_place}
use Rattle.cbt_txn.specs.Feeding.{from_of}
use Rattle.cbt_txn.specs.Licensing.{MayGoOn, Owns}
use Rattle.cbt_txn.specs.Tries.{outcome}
use Rattle.cbt_txn.specs.declared.operations.Work.TheVariants as work
use Rattle.cbt_txn.specs.declared.tries.Closing.{Closing}
use Rattle.cbt_txn.specs.declared.tries.Closing.TheVariants as closing
use Rattle.cbt_txn.specs.declared.tries.Outcome.{Outcome}
use Rattle.cbt_txn.specs.declared.tries.Outcome.TheVariants as outcomes
use Rattle.cbt_txn.specs.declared.tries.Try.{Try}

-- how a try has ended; else it is told as one that was stopped
abbrev pub end_in : Closing → AttemptEnd
end_in (closing.Ended end) = end
end_in _ = attempt_end.Stopped

-- the log of a try
abbrev pub log_of : Try → AttemptLog
log_of it =
    record {
      id = it.operations.attempt.id;
      span = record { from = from_of it.first it.past; to = it.past };
      ops = it.operations.logs;
      not_committed = it.not_committed;
      end = end_in it.closing;
    }

-- a call after which a commit or a rollback goes on: it dropped no entry, made no own write public in vain, and found its entry
pub record GoesOnAfter (m : Made) : Type 0 where
  pub undropped : drops m.step ≡ None
  pub published : finishes_commit m.step ≡ true → m.answer.reply ≢ reply.Failed
  pub committed : (a : ℕ) → commits m.step ≡ Some a → m.answer.reply ≢ reply.NoEntry
  pub aborted : (a : ℕ) → aborts m.step ≡ Some a → m.answer.reply ≢ reply.NoEntry
  pub shown : (r a : ℕ) → m.step ≡ step.ReadEntry r a → (m.answer.reply ≢ reply.Failed) × (m.answer.reply ≢ reply.NoEntry)

-- why a try is rolled back that has made these commits behind its operations: for these, or since the third commit was in vain
pub data IsRolledBack (t : AttemptTerms) (it : Try) (tried ops : List Made) : Type 0 where
  for_operations : tried ≡ [] → it.not_committed ≡ false → IsOver it.operations.work → is_kept t.plan.keep it.operations.work ≡ false
      → ¬ Once (λ m _. decides m.step ≡ Some t.id) ops → IsRolledBack t it tried ops
  for_commits : it.not_committed ≡ true → it.operations.work ≡ work.Done → t.plan.keep ≡ true → ThirdInVain t.id tried → AreCommits tried
      → Each (λ m past. MayClose t.id past m.step) tried → Each (λ m _. GoesOnAfter m) tried → IsRolledBack t it tried ops

-- a transaction that ends with this last try may end so
abbrev pub EndsWith : AttemptTerms → List Made → AttemptLog → TxnEnd → Type 0
EndsWith t l log end = (x : TxnTerms) (tries : List AttemptLog) → x.plan ≡ t.plan → EndsTxn x l t.latest (tries ++ log ∷ []) end

-- what follows the try is right
abbrev pub IsRight : AttemptTerms → List Made → AttemptLog → Option Outcome → Type 0
IsRight t l log None = ⊥
IsRight t l log (Some outcomes.Again) = IsRetried log
IsRight t l log (Some (outcomes.Ends end)) = EndsWith t l log end

-- what the try does after its operations, by the calls of these, `ops`
pub data Closes (t : AttemptTerms) (it : Try) (l0 mine : List Made) : Closing → Type 0 where
  open_yet : it.not_committed ≡ false → is_over it.operations.work ≡ false → Follows t it.operations l0 mine → Closes t it l0 mine closing.Open
  finishes : (f : Finish) (calls ops : List Made) → mine ≡ calls ++ ops → it.not_committed ≡ false → Follows t it.operations l0 ops
      → it.operations.work ≡ work.Done → t.plan.keep ≡ true → f.attempt ≡ t.id → finish_stands.StandsFor f calls → finish.end_of f ≡ None
      → Closes t it l0 mine (closing.Finish f)
  undoes : (u : Undo) (own : List ℕ → Option Own) (calls tried ops : List Made) → mine ≡ (calls ++ tried) ++ ops → Follows t it.operations l0 ops
      → IsRolledBack t it tried ops → u.attempt ≡ t.id → undo_ready.IsOf own (undo.task_of u) → undo_stands.StandsFor u calls → undo.end_of u ≡ None
      → Closes t it l0 mine (closing.Undo u)
  ended : (end : AttemptEnd) → end ≢ attempt_end.Stopped → AttemptFollows t (mine ++ l0) (past_of l0) (log_of it) → IsRight t (mine ++ l0) (log_of it) (outcome it)
      → Closes t it l0 mine (closing.Ended end)

-- the calls of the try are `mine`, behind those before it
pub record TryFollows (t : AttemptTerms) (it : Try) (l0 mine : List Made) : Type 0 where
  pub first_is : it.first ≡ first_place mine
  pub past_is : it.past ≡ past_of (mine ++ l0)
  pub closes : Closes t it l0 mine it.closing

-- as much as is so also where no memory was found: it may be told as one that was stopped
pub record TryHalts (t : AttemptTerms) (it : Try) (l0 mine : List Made) : Type 0 where
  pub past_is : it.past ≡ past_of (mine ++ l0)
  pub follows : AttemptFollows t (mine ++ l0) (past_of l0) (log_of it)

-- the part of the try that is under way was begun on an older part of the list
pub data MayCloseOn (who : Identity) (it : Try) (l : List Made) : Closing → Type 0 where
  open_yet : MayGoOn who it.operations l → MayCloseOn who it l closing.Open
  finishes : (f : Finish) (calls older : List Made) → l ≡ calls ++ older → finish_stands.StandsFor f calls
      → finish_ready.IsReady (finish.task_of f) older → Owns who it.operations.attempt older → f.attempt ≡ it.operations.attempt.id
      → it.operations.attempt.sent ≡ Some f.atr → MayCloseOn who it l (closing.Finish f)
  undoes : (u : Undo) (calls older : List Made) → l ≡ calls ++ older → undo_stands.StandsFor u calls → undo_ready.IsReady (undo.task_of u) older
      → u.attempt ≡ it.operations.attempt.id → MayCloseOn who it l (closing.Undo u)
  ended : (end : AttemptEnd) → MayCloseOn who it l (closing.Ended end)

-- the try goes on with licensed calls
abbrev pub TryMayGoOn : Identity → Try → List Made → Type 0
TryMayGoOn who it l = MayCloseOn who it l it.closing

-- a step names no attempt but this one, where it adds an entry, stages or decides
abbrev pub NamesOnly : ℕ → Step → Type 0
NamesOnly a (step.AddEntry r b exp) = b ≡ a
NamesOnly a (step.Stage d e stage) = stage.attempt ≡ a
NamesOnly a (step.Commit r b lists) = b ≡ a
NamesOnly a (step.Abort r b lists) = b ≡ a
NamesOnly a _ = Unit {0}

-- a try of this attempt, of a transaction that writes to so many records
abbrev pub IsOf : ℕ → ℕ → Try → Type 0
IsOf id atrs it = (it.operations.attempt.id ≡ id) × (it.operations.attempt.atrs ≡ atrs)

-- the attempt is the client's own, and no call of the list names it
pub record IsNewTo (who : Identity) (id : ℕ) (l : List Made) : Type 0 where
  pub own : client_of id ≡ who.number
  pub unsent : ¬ Once (λ m _. adds m.step ≡ Some id) l
  pub unstaged : ¬ HasStaged id l
  pub undecided : ¬ Once (λ m _. decides m.step ≡ Some id) l
