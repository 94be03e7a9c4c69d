-- What it is that the log of an operation follows its plan.
use Rattle.std.specs.Prelude.{◌≡◌, ℕ, suc, ◌≤◌, Bool, true, false, List, [], ◌∷◌}
use Rattle.cbt_expr.specs.declared.plans.Op.{Op}
use Rattle.cbt_model.specs.History.{is_done}
use Rattle.cbt_model.specs.declared.events.Made.{Made}
use Rattle.cbt_model.specs.declared.steps.Reply.TheVariants as reply
use Rattle.cbt_model.specs.declared.steps.Step.{Step}
use Rattle.cbt_model.specs.declared.steps.Step.TheVariants as step
use Rattle.cbt_book.specs.OwnLists.{Each, during}
use Rattle.cbt_book.specs.Spans.{IsSpan}
use Rattle.cbt_book.specs.declared.operations.OpAnswer.{OpAnswer}
use Rattle.cbt_book.specs.declared.operations.OpAnswer.TheVariants as answer
use Rattle.cbt_book.specs.declared.operations.OpLog.{OpLog}
use Rattle.cbt_book.specs.declared.operations.When.{When}
use Rattle.cbt_core.specs.OpAnswers.{Answered}
use Rattle.cbt_core.specs.OpCalls.{OpCalls}
use Rattle.cbt_core.specs.Walk.{AttemptTerms, Sofar, request_of, noted}

-- a staging or an unstick that was answered Done at this place is what the operation was answered for
abbrev pub StandsAt : ℕ → OpAnswer → Step → Type 0
StandsAt place a (step.Stage d e stage) = (base : When) × (a ≡ answer.Staged place base)
StandsAt place a (step.Unstick d x) = a ≡ answer.Unstaged place
StandsAt place a _ = Unit {0}

-- the log of an operation of an attempt, the n-th, after so much
pub record OpFollows (t : AttemptTerms) (l : List Made) (at n : ℕ) (so : Sofar) (o : Op) (log : OpLog) : Type 0 where
  pub counted : log.op ≡ n
  pub spanned : IsSpan l at log.span
  pub answered : Answered t l so (request_of so.bound o) (during log.span l) log.answer
  pub calls : OpCalls t so (request_of so.bound o) (during log.span l)
  -- all that it staged or took back is told
  pub stands : Each (λ m _. is_done m.answer.reply ≡ true → StandsAt m.answer.place log.answer m.step) (during log.span l)
  -- a call that failed is its last
  pub failed : Each (λ m _. m.answer.reply ≡ reply.Failed → log.answer ≡ answer.CallFailed m.answer.place) (during log.span l)
  -- no answer came after the transaction's time, or the operation would have been cut off
  pub in_time : Each (λ m _. m.answer.now ≤ t.latest) (during log.span l)

-- the answers after which an attempt goes on to its next operation
abbrev pub is_good : OpAnswer → Bool
is_good (answer.Value value when_read) = true
is_good (answer.Staged place base) = true
is_good (answer.Unstaged place) = true
is_good answer.Holds = true
is_good _ = false

-- only the last answer may be another
abbrev pub GoesOn : OpLog → List OpLog → Type 0
GoesOn log [] = Unit {0}
GoesOn log (next ∷ logs) = is_good log.answer ≡ true

-- the logs of an attempt's operations, in their order
abbrev pub OpsFollow : AttemptTerms → List Made → ℕ → ℕ → Sofar → List Op → List OpLog → Type 0
OpsFollow t l at n so ops [] = Unit {0}
OpsFollow t l at n so [] (log ∷ logs) = ⊥
OpsFollow t l at n so (o ∷ ops) (log ∷ logs) = OpFollows t l at n so o log × GoesOn log logs × OpsFollow t l log.span.to (suc n) (noted o log so) ops logs

-- one past the last place of operations that begin at `at`
abbrev pub ops_end : ℕ → List OpLog → ℕ
ops_end at [] = at
ops_end at (log ∷ logs) = ops_end log.span.to logs
