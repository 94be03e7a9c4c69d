-- When an answer about a document is right, and the moments of a client's answers.
use Rattle.std.specs.Prelude.{◌≡◌, ◌≢◌, ℕ, suc, ◌-◌, true, List, [], take, Option, Some, None}
use Rattle.std.specs.List.{filter_map, flat_map}
use Rattle.std.specs.List.Sorted.{IsStrictlyIncreasing}
use Rattle.cbt_json.specs.declared.value.Json.{Json}
use Rattle.cbt_expr.specs.declared.plans.Op.{Op}
use Rattle.cbt_expr.specs.declared.plans.Op.TheVariants as op
use Rattle.cbt_expr.specs.declared.plans.TxnPlan.{TxnPlan}
use Rattle.cbt_book.specs.OwnLists.{is_within}
use Rattle.cbt_book.specs.declared.book.Book.{Book}
use Rattle.cbt_book.specs.declared.clients.AttemptLog.{AttemptLog}
use Rattle.cbt_book.specs.declared.clients.ClientLog.{ClientLog}
use Rattle.cbt_book.specs.declared.operations.OpAnswer.{OpAnswer}
use Rattle.cbt_book.specs.declared.operations.OpAnswer.TheVariants as answer
use Rattle.cbt_book.specs.declared.operations.OpLog.{OpLog}
use Rattle.cbt_book.specs.declared.operations.Span.{Span}
use Rattle.cbt_book.specs.declared.operations.When.{When}
use Rattle.cbt_book.specs.declared.operations.When.TheVariants as when
use Rattle.cbt_core.specs.Committed.{table_at}
use Rattle.cbt_core.specs.OpAnswers.{OwnHas}
use Rattle.cbt_core.specs.Walk.{Sofar, nothing_yet, walked}
use Rattle.cbt_core.specs.WriteSets.{numbered, plan_at, attempt_at, write_set}
use Rattle.cbt_core.specs.declared.case.Case.{Case}

-- the document that an operation is about; a test is about none, and no document has this id
abbrev pub doc_of : Op → List ℕ
doc_of (op.Get d name) = d
doc_of (op.Insert d value) = d
doc_of (op.Replace d value) = d
doc_of (op.Remove d) = d
doc_of (op.Need cond) = []

-- an answer that tells a value agrees with this one, or with none
abbrev pub Tells : OpAnswer → Option Json → Type 0
Tells (answer.Value told read) value = told ≡ value
Tells (answer.DocExists read) value = value ≢ None
Tells (answer.DocNotFound read) value = value ≡ None
Tells _ value = Unit {0}

-- when an answer tells what its document is
abbrev pub read_when : OpAnswer → Option When
read_when (answer.Value told read) = Some read
read_when (answer.DocExists read) = Some read
read_when (answer.DocNotFound read) = Some read
read_when _ = None

-- the answer to an operation of a client's attempt, by their numbers, and what the answers before it add up to
pub record IsAnswer (case : Case) (book : Book) (client txn try_no n : ℕ) (o : Op) (log : OpLog) (so : Sofar) : Type 0 where
  pub plan : TxnPlan
  pub plan_is : plan_at case.plans client txn ≡ Some plan
  pub attempt : AttemptLog
  pub attempt_is : attempt_at book.clients client txn try_no ≡ Some attempt
  pub op_is : numbered plan.ops n ≡ Some o
  pub log_is : numbered attempt.ops n ≡ Some log
  pub sofar_is : so ≡ walked (take (n - 1) plan.ops) (take (n - 1) attempt.ops) nothing_yet

-- the answer is right: it tells the attempt's own write, or, where there is none, the committed table at a moment of its span
abbrev pub IsRightWhen : Case → Book → Sofar → List ℕ → Span → OpAnswer → Option When → Type 0
IsRightWhen case book so d span a (Some when.Own) = (value : Option Json) × OwnHas so d value × Tells a value
IsRightWhen case book so d span a (Some (when.At t)) = (so.own d ≡ None) × (is_within span t ≡ true)
    × Tells a (table_at (write_set case.plans book.clients) book.kept.opening book.kept.history (suc t) d)
IsRightWhen case book so d span a None = Unit {0}

-- each answer about a document is right
abbrev pub AnswersRight : Case → Book → Type 0
AnswersRight case book = (client txn try_no n : ℕ) (o : Op) (log : OpLog) (so : Sofar) → IsAnswer case book client txn try_no n o log so
    → IsRightWhen case book so (doc_of o) log.span log.answer (read_when log.answer)

-- the moment of an answer, where it has one
abbrev pub moment_at : Option When → Option ℕ
moment_at (Some (when.At t)) = Some t
moment_at _ = None

-- the moments of a client's answers about documents, in the order of its log
abbrev pub moments_of : ClientLog → List ℕ
moments_of log = flat_map (λ t. flat_map (λ (a : AttemptLog). filter_map (λ (o : OpLog). moment_at (read_when o.answer)) a.ops) t.attempts) log.txns

-- a client's moments rise
abbrev pub MomentsRise : Book → Type 0
MomentsRise book = (client : ℕ) (log : ClientLog) → numbered book.clients client ≡ Some log → IsStrictlyIncreasing (moments_of log)
