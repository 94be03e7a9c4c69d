-- What the answers to an attempt's operations add up to, taken in their order.
use Rattle.std.specs.Prelude.{ℕ, Bool, if◌then◌else◌, List, ◌∷◌, Option, Some, None, Result, Ok, Err}
use Rattle.std.specs.Ordering.{is_eq}
use Rattle.cbt_json.specs.declared.value.Json.{Json}
use Rattle.cbt_expr.specs.Values.{value_of, truth_of}
use Rattle.cbt_expr.specs.declared.plans.Op.{Op}
use Rattle.cbt_expr.specs.declared.plans.Op.TheVariants as op
use Rattle.cbt_expr.specs.declared.plans.TxnPlan.{TxnPlan}
use Rattle.cbt_model.specs.Keys.{doc_cmp}
use Rattle.cbt_model.specs.declared.documents.OpKind.{OpKind}
use Rattle.cbt_model.specs.declared.documents.OpKind.TheVariants.{Insert, Replace, Remove}
use Rattle.cbt_book.specs.declared.operations.OpAnswer.{OpAnswer}
use Rattle.cbt_book.specs.declared.operations.OpAnswer.TheVariants as answer
use Rattle.cbt_book.specs.declared.operations.OpLog.{OpLog}
use Rattle.cbt_book.specs.declared.operations.Span.{Span}
use Rattle.cbt_book.specs.declared.operations.When.TheVariants as when

-- under what an attempt is made: its identifier, the plan of its transaction, the number of transaction records, and the last time,
-- in milliseconds, at which its transaction goes on
pub record AttemptTerms : Type 0 where
  pub id : ℕ
  pub plan : TxnPlan
  pub atrs : ℕ
  pub latest : ℕ

-- a function of document ids or names, with one value set
abbrev pub with_value : {X : Type 0} → List ℕ → X → (List ℕ → X) → List ℕ → X
with_value key x f q = if is_eq (doc_cmp q key) then x else f q

-- a write of the attempt that is staged: its kind, its content (none for a remove), and the place of its last staging
pub record OwnWrite : Type 0 where
  pub kind : OpKind
  pub content : Option Json
  pub place : ℕ

-- the last answer that read a document
pub record LastRead : Type 0 where
  pub span : Span
  pub value : Option Json
  pub moment : ℕ

-- what an attempt has come to: what its gets bound, its own writes, and what it has read since it last took a write back
pub record Sofar : Type 0 where
  pub bound : List ℕ → Option Json
  pub own : List ℕ → Option OwnWrite
  pub read : List ℕ → Option LastRead

-- at the beginning of an attempt
abbrev pub nothing_yet : Sofar
nothing_yet = record { bound = λ name. None; own = λ d. None; read = λ d. None }

-- what an operation asks for: a document's value under a name, a write with this content, or a test with this outcome; an error is
-- the number of the part of its expression that has no value
pub data Request : Type 0 where
  Reads : List ℕ → List ℕ → Request
  Writes : List ℕ → OpKind → Result (Option Json) ℕ → Request
  Tests : Result Bool ℕ → Request

-- the content of a write with this value
abbrev pub content_of : Result Json ℕ → Result (Option Json) ℕ
content_of (Ok value) = Ok (Some value)
content_of (Err part) = Err part

-- what an operation asks for, over what the gets before it have bound
abbrev pub request_of : (List ℕ → Option Json) → Op → Request
request_of bound (op.Get d name) = Reads d name
request_of bound (op.Insert d value) = Writes d Insert (content_of (value_of bound value))
request_of bound (op.Replace d value) = Writes d Replace (content_of (value_of bound value))
request_of bound (op.Remove d) = Writes d Remove (Ok None)
request_of bound (op.Need cond) = Tests (truth_of bound cond)

-- the kind of a write over the own write that stands: an inserted document stays inserted, and what is inserted over an own
-- remove replaces what was there before
abbrev pub kind_over : OpKind → Option OpKind → OpKind
kind_over Insert None = Insert
kind_over Insert (Some k) = Replace
kind_over Replace None = Replace
kind_over Replace (Some Insert) = Insert
kind_over Replace (Some k) = Replace
kind_over Remove k = Remove

-- the kind of an own write, where there is one
abbrev pub own_kind : Option OwnWrite → Option OpKind
own_kind None = None
own_kind (Some w) = Some w.kind

-- what the answer to a get adds
abbrev pub noted_get : List ℕ → List ℕ → Span → OpAnswer → Sofar → Sofar
noted_get d name span (answer.Value value when.Own) so = record so { bound = with_value name value so.bound }
noted_get d name span (answer.Value value (when.At t)) so =
    record so { bound = with_value name value so.bound; read = with_value d (Some (record { span = span; value = value; moment = t })) so.read }
noted_get d name span _ so = so

-- what the answer to a write adds
abbrev pub noted_write : List ℕ → OpKind → Option Json → OpAnswer → Sofar → Sofar
noted_write d kind content (answer.Staged place base) so =
    record so { own = with_value d (Some (record { kind = kind_over kind (own_kind (so.own d)); content = content; place = place })) so.own }
noted_write d kind content (answer.Unstaged place) so = record so { own = with_value d None so.own; read = with_value d None so.read }
noted_write d kind content _ so = so

-- what an answer to this request adds
abbrev pub noted_as : Request → Span → OpAnswer → Sofar → Sofar
noted_as (Reads d name) span a so = noted_get d name span a so
noted_as (Writes d kind (Ok content)) span a so = noted_write d kind content a so
noted_as (Writes d kind (Err part)) span a so = so
noted_as (Tests truth) span a so = so

-- what an answer adds: a get binds its name; a staging sets the own write of its document; an unstaging takes it away, with
-- what was read
abbrev pub noted : Op → OpLog → Sofar → Sofar
noted o log so = noted_as (request_of so.bound o) log.span log.answer so

-- what the answers to a transaction's operations add up to
abbrev pub walked : List Op → List OpLog → Sofar → Sofar
walked (o ∷ ops) (log ∷ logs) so = walked ops logs (noted o log so)
walked _ _ so = so
