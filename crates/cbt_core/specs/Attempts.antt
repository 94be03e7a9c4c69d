-- What it is that the log of an attempt follows its plan: its operations, what it did after them, and how it ended.
use Rattle.std.specs.Prelude.{◌≡◌, ◌≢◌, ℕ, ◌<◌, ◌≤◌, ◌⊎◌, ◌↔◌, Bool, true, false, List, [], ◌∷◌, ◌++◌, length, drop, Some}
use Rattle.std.specs.List.{list_all}
use Rattle.cbt_expr.specs.declared.plans.Op.{Op}
use Rattle.cbt_model.specs.History.{commits}
use Rattle.cbt_model.specs.declared.events.Made.{Made}
use Rattle.cbt_model.specs.declared.steps.Reply.TheVariants as reply
use Rattle.cbt_model.specs.declared.steps.Step.TheVariants as step
use Rattle.cbt_book.specs.Closing.{CommitsInDoubt, Settles, MayClose, ThirdInVain, CommitHolds, IsFinished, HasAborted, IsUndone}
use Rattle.cbt_book.specs.OwnLists.{Once, Kept, Each, during}
use Rattle.cbt_book.specs.Shown.{adds, aborts}
use Rattle.cbt_book.specs.Spans.{IsSpan}
use Rattle.cbt_book.specs.declared.clients.AttemptEnd.{AttemptEnd}
use Rattle.cbt_book.specs.declared.clients.AttemptEnd.TheVariants as attempt_end
use Rattle.cbt_book.specs.declared.clients.AttemptLog.{AttemptLog}
use Rattle.cbt_book.specs.declared.operations.OpLog.{OpLog}
use Rattle.cbt_core.specs.OpCalls.{OpCalls}
use Rattle.cbt_core.specs.Operations.{OpsFollow, ops_end, is_good}
use Rattle.cbt_core.specs.Walk.{AttemptTerms, Sofar, nothing_yet, request_of, walked}

-- all operations were answered well
abbrev pub all_good : List OpLog → Bool
all_good logs = list_all (λ log. is_good log.answer) logs

-- P is so of the last operation
abbrev pub LastIs : (OpLog → Type 0) → List OpLog → Type 0
LastIs P [] = ⊥
LastIs P (log ∷ []) = P log
LastIs P (log ∷ next ∷ logs) = LastIs P (next ∷ logs)

-- an attempt as its log tells it, with the operations left, the calls of one that was cut off, and the calls after them
pub record Course : Type 0 where
  pub log : AttemptLog
  pub sofar : Sofar
  pub left : List Op
  pub cut : List Made
  pub closing : List Made

-- an attempt with this log, whose calls after the answered operations are these
abbrev pub course_of : AttemptTerms → AttemptLog → List Made → List Made → Course
course_of t log cut closing =
    record { log = log; sofar = walked t.plan.ops log.ops nothing_yet; left = drop (length log.ops) t.plan.ops; cut = cut; closing = closing }

-- its newest call of an operation came back after the transaction's time
abbrev pub IsLate : AttemptTerms → List Made → Type 0
IsLate t [] = ⊥
IsLate t (m ∷ older) = t.latest < m.answer.now

-- an operation was cut off by expiry, or by a stop before anything followed: its calls are those of the next operation, and only
-- the newest may be late
pub record IsCut (t : AttemptTerms) (c : Course) (newest : Made) (older : List Made) : Type 0 where
  pub next : Op
  pub rest : List Op
  pub left_is : c.left ≡ next ∷ rest
  pub good : all_good c.log.ops ≡ true
  pub calls : OpCalls t c.sofar (request_of c.sofar.bound next) (newest ∷ older)
  pub in_time : Each (λ m _. m.answer.now ≤ t.latest) older
  pub answered : Each (λ m _. m.answer.reply ≢ reply.Failed) older
  pub why : (t.latest < newest.answer.now) ⊎ ((c.log.end ≡ attempt_end.Stopped) × (c.closing ≡ []))

-- the calls after the answered operations are of one that was cut off, where there are any
abbrev pub CutFollows : AttemptTerms → Course → List Made → Type 0
CutFollows t c [] = Unit {0}
CutFollows t c (m ∷ older) = IsCut t c m older

-- why there are no more operations
pub data HasEnded (c : Course) : Type 0 where
  all_answered : c.left ≡ [] → HasEnded c
  last_refused : LastIs (λ log. is_good log.answer ≡ false) c.log.ops → HasEnded c
  cut_off : c.cut ≢ [] → HasEnded c
  stopped : c.log.end ≡ attempt_end.Stopped → HasEnded c

-- an attempt may be committed where all its operations were answered well, and its plan keeps them
pub record MayKeep (t : AttemptTerms) (c : Course) : Type 0 where
  pub all : c.left ≡ []
  pub good : all_good c.log.ops ≡ true
  pub keep : t.plan.keep ≡ true

-- why an attempt is rolled back
pub data MayRollBack (t : AttemptTerms) (c : Course) : Type 0 where
  for_answer : LastIs (λ log. is_good log.answer ≡ false) c.log.ops → MayRollBack t c
  for_time : IsLate t c.cut → MayRollBack t c
  for_plan : c.left ≡ [] → all_good c.log.ops ≡ true → t.plan.keep ≡ false → MayRollBack t c
  for_commits : c.log.not_committed ≡ true → MayRollBack t c

-- how an attempt may end; its calls are those of its whole span
abbrev pub Ends : AttemptTerms → Course → List Made → AttemptEnd → Type 0
Ends t c calls (attempt_end.Committed place complete) = MayKeep t c × CommitHolds t.id place c.closing × IsFinished t.id c.closing complete
Ends t c calls attempt_end.Empty = MayKeep t c × (c.closing ≡ []) × Each (λ m _. adds m.step ≢ Some t.id) calls
Ends t c calls attempt_end.RolledBack = MayRollBack t c × IsUndone t.id calls c.closing
    × Each (λ m before. HasAborted t.id (m ∷ before) → m.answer.reply ≢ reply.Failed) c.closing
Ends t c calls (attempt_end.EntryLost place) = MayKeep t c
    × Kept (λ m _. (m.answer.place ≡ place) × (commits m.step ≡ Some t.id) × (m.answer.reply ≡ reply.NoEntry)) (λ m _. commits m.step ≡ Some t.id) c.closing
Ends t c calls (attempt_end.Unknown commit reading) = MayKeep t c
    × Once (λ n before. (r : ℕ) × (n.answer.place ≡ reading) × (n.step ≡ step.ReadEntry r t.id) × ((n.answer.reply ≡ reply.Failed) ⊎ (n.answer.reply ≡ reply.NoEntry))
    × Kept (λ m _. (m.answer.place ≡ commit) × CommitsInDoubt r t.id m) (λ m _. Settles t.id m) before) c.closing
Ends t c calls (attempt_end.Incomplete place) = MayRollBack t c
    × Once (λ m before. (m.answer.place ≡ place) × (m.answer.reply ≡ reply.Failed) × HasAborted t.id (m ∷ before)) c.closing
Ends t c calls attempt_end.Stopped = Unit {0}

-- the log of an attempt
pub record AttemptFollows (t : AttemptTerms) (l : List Made) (at : ℕ) (log : AttemptLog) : Type 0 where
  pub id : log.id ≡ t.id
  pub spanned : IsSpan l at log.span
  pub ops : OpsFollow t l at 1 nothing_yet t.plan.ops log.ops
  pub held : ops_end at log.ops ≤ log.span.to
  -- after the operations that were answered: the calls of one that was cut off, and then those that close the attempt
  pub cut : List Made
  pub closing : List Made
  pub rest : during (record { from = ops_end at log.ops; to = log.span.to }) l ≡ closing ++ cut
  pub cut_follows : CutFollows t (course_of t log cut closing) cut
  pub ended : HasEnded (course_of t log cut closing)
  pub closes : Each (λ m past. MayClose t.id past m.step) closing
  pub may_commit : Once (λ m _. commits m.step ≡ Some t.id) closing → MayKeep t (course_of t log cut closing)
  pub may_abort : Once (λ m _. aborts m.step ≡ Some t.id) closing → MayRollBack t (course_of t log cut closing)
  pub third : (log.not_committed ≡ true) ↔ ThirdInVain t.id closing
  pub ends : Ends t (course_of t log cut closing) (during log.span l) log.end
