-- What the operations of a try have come to, on the client's own list: `told` are the calls of those that were answered, behind the
-- calls before the try, `l0`; and `calls` are those of the operation under way.
use Rattle.std.specs.Prelude.{◌≡◌, ◌≢◌, suc, ◌≤◌, true, List, [], ◌∷◌, ◌++◌, length, drop}
use Rattle.cbt_expr.specs.declared.plans.Op.{Op}
use Rattle.cbt_model.specs.History.{is_done}
use Rattle.cbt_model.specs.declared.events.Made.{Made}
use Rattle.cbt_model.specs.declared.steps.Reply.TheVariants as reply
use Rattle.cbt_book.specs.OwnLists.{Each}
use Rattle.cbt_book.specs.Spans.{past_of, span_of}
use Rattle.cbt_book.specs.declared.operations.OpAnswer.{OpAnswer}
use Rattle.cbt_book.specs.declared.operations.OpAnswer.TheVariants as answer
use Rattle.cbt_book.specs.declared.operations.OpLog.{OpLog}
use Rattle.cbt_core.specs.Attempts.{all_good}
use Rattle.cbt_core.specs.OpAnswers.{Answered}
use Rattle.cbt_core.specs.OpCalls.{OpCalls}
use Rattle.cbt_core.specs.Operations.{OpsFollow, StandsAt, ops_end}
use Rattle.cbt_core.specs.Walk.{AttemptTerms, Request, Sofar, nothing_yet, request_of, walked}

-- what the answers of these operations add up to
abbrev pub sofar : AttemptTerms → List OpLog → Sofar
sofar t logs = walked t.plan.ops logs nothing_yet

-- what the next operation asks for
abbrev pub asked : AttemptTerms → List OpLog → Op → Request
asked t logs o = request_of (sofar t logs).bound o

-- the logs of the operations that were answered follow the plan
pub record Told (t : AttemptTerms) (l0 told : List Made) (logs : List OpLog) : Type 0 where
  pub follow : OpsFollow t (told ++ l0) (past_of l0) 1 nothing_yet t.plan.ops logs
  pub reach : ops_end (past_of l0) logs ≡ past_of (told ++ l0)

-- this operation comes next, after answers that were all good
pub record ComesNext (t : AttemptTerms) (logs : List OpLog) (o : Op) : Type 0 where
  pub rest : List Op
  pub left : drop (length logs) t.plan.ops ≡ o ∷ rest
  pub good : all_good logs ≡ true

-- the next operation has this answer by its calls
pub record IsAnswered (t : AttemptTerms) (l : List Made) (logs : List OpLog) (o : Op) (calls : List Made) (a : OpAnswer) : Type 0 where
  pub answered : Answered t l (sofar t logs) (asked t logs o) calls a
  pub bounded : OpCalls t (sofar t logs) (asked t logs o) calls
  pub stands : Each (λ m _. is_done m.answer.reply ≡ true → StandsAt m.answer.place a m.step) calls
  pub failed : Each (λ m _. m.answer.reply ≡ reply.Failed → a ≡ answer.CallFailed m.answer.place) calls
  pub in_time : Each (λ m _. m.answer.now ≤ t.latest) calls

-- the log of the next operation, with these calls behind `older`
abbrev pub log_of : List OpLog → List Made → List Made → OpAnswer → OpLog
log_of logs older calls a = record { op = suc (length logs); span = span_of (past_of older) calls; answer = a }

-- each of these calls came back in time, and did not fail
abbrev pub AreFine : AttemptTerms → List Made → Type 0
AreFine t calls = Each (λ m _. (m.answer.now ≤ t.latest) × (m.answer.reply ≢ reply.Failed)) calls

-- only the newest of these calls may have failed, or have come back late
abbrev pub AreFineBefore : AttemptTerms → List Made → Type 0
AreFineBefore t [] = Unit {0}
AreFineBefore t (newest ∷ older) = AreFine t older

-- an operation is under way, or is to begin, and these are its calls
pub record Operates (t : AttemptTerms) (logs : List OpLog) (calls : List Made) : Type 0 where
  pub op : Op
  pub next : ComesNext t logs op
  pub bounded : OpCalls t (sofar t logs) (asked t logs op) calls
  pub fine : AreFineBefore t calls
