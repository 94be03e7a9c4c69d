-- What the laws say of runs.
use Rattle.std.specs.Prelude.{◌≡◌, ◌≢◌, ℕ, suc, ◌<◌, ◌≤◌, Bool, true, false, List, length, slice_get, Option, Some, None}
use Rattle.cbt_json.specs.declared.value.Json.{Json}
use Rattle.cbt_expr.specs.declared.plans.Op.{Op}
use Rattle.cbt_model.specs.History.{after, own, made_at, commits, TakesEffect, CommitsAt, RollsBackAt}
use Rattle.cbt_model.specs.Keys.{doc_at, entry_at}
use Rattle.cbt_model.specs.Table.{touches_doc}
use Rattle.cbt_model.specs.View.{view}
use Rattle.cbt_model.specs.declared.documents.DocState.{DocState}
use Rattle.cbt_model.specs.declared.documents.Stage.{Stage}
use Rattle.cbt_model.specs.declared.entries.Entry.{Entry}
use Rattle.cbt_model.specs.declared.entries.Lists.{Lists}
use Rattle.cbt_model.specs.declared.events.Event.{Event}
use Rattle.cbt_model.specs.declared.events.Made.{Made}
use Rattle.cbt_model.specs.declared.states.State.{State}
use Rattle.cbt_model.specs.declared.steps.Expect.{Expect}
use Rattle.cbt_model.specs.declared.steps.Expect.TheVariants as expect
use Rattle.cbt_model.specs.declared.steps.Reply.TheVariants as reply
use Rattle.cbt_model.specs.declared.steps.Step.{Step}
use Rattle.cbt_model.specs.declared.steps.Step.TheVariants as step
use Rattle.cbt_book.specs.Licence.{IsListed}
use Rattle.cbt_book.specs.Numbers.{client_of, txn_of}
use Rattle.cbt_book.specs.OwnLists.{In, during}
use Rattle.cbt_book.specs.Shown.{ReadsDoc, FindsNoDoc, StagesAt, adds}
use Rattle.cbt_book.specs.Outcomes.{is_refusal}
use Rattle.cbt_book.specs.declared.book.Book.{Book}
use Rattle.cbt_book.specs.declared.cleaners.CleanerLog.{CleanerLog}
use Rattle.cbt_book.specs.declared.cleaners.PassEnd.TheVariants as pass_end
use Rattle.cbt_book.specs.declared.cleaners.PassLog.{PassLog}
use Rattle.cbt_book.specs.declared.cleaners.RoundLog.{RoundLog}
use Rattle.cbt_book.specs.declared.clients.AttemptEnd.{AttemptEnd}
use Rattle.cbt_book.specs.declared.clients.AttemptEnd.TheVariants as attempt_end
use Rattle.cbt_book.specs.declared.clients.AttemptLog.{AttemptLog}
use Rattle.cbt_book.specs.declared.clients.TxnEnd.{TxnEnd}
use Rattle.cbt_book.specs.declared.clients.TxnEnd.TheVariants as txn_end
use Rattle.cbt_book.specs.declared.clients.TxnLog.{TxnLog}
use Rattle.cbt_book.specs.declared.operations.OpAnswer.TheVariants as answer
use Rattle.cbt_book.specs.declared.operations.OpLog.{OpLog}
use Rattle.cbt_book.specs.declared.operations.Span.{Span}
use Rattle.cbt_book.specs.declared.operations.When.TheVariants as when
use Rattle.cbt_core.specs.Committed.{table_at}
use Rattle.cbt_core.specs.Invariant.{DecidedAt}
use Rattle.cbt_core.specs.Right.{IsAnswer, doc_of}
use Rattle.cbt_core.specs.Walk.{Sofar}
use Rattle.cbt_core.specs.WriteSets.{numbered, txn_at, attempt_at, write_set}
use Rattle.cbt_core.specs.declared.case.Case.{Case}

-- no attempt both commits and is rolled back
abbrev pub NeverBoth : State → List Event → Type 0
NeverBoth s0 h = (a i j : ℕ) → CommitsAt s0 h a i → RollsBackAt s0 h a j → ⊥

-- no attempt commits at two places
abbrev pub CommitsOnce : State → List Event → Type 0
CommitsOnce s0 h = (a i j : ℕ) → CommitsAt s0 h a i → CommitsAt s0 h a j → i ≡ j

-- no commit is answered that its entry is decided
abbrev pub NoCommitDecided : State → List Event → Type 0
NoCommitDecided s0 h = (a i : ℕ) (e : Event) → slice_get h i ≡ Some e → commits e.step ≡ Some a → (made_at s0 h i e).answer.reply ≢ reply.Decided

-- at every place of the history, each document resolves to what the committed table has for it
abbrev pub DocumentsCommitted : Case → Book → Type 0
DocumentsCommitted case book = (i : ℕ) (d : List ℕ) → i ≤ length book.kept.history
    → view (after book.kept.opening book.kept.history i) d ≡ table_at (write_set case.plans book.clients) book.kept.opening book.kept.history i d

-- from one place to another, other actors than this one changed document d so often
pub data ChangedByOthers (s0 : State) (h : List Event) (actor : ℕ) (d : List ℕ) (from : ℕ) : ℕ → ℕ → Type 0 where
  unchanged : (to : ℕ) → from ≤ to → ChangedByOthers s0 h actor d from 0 to
  changed : (n k to : ℕ) (e : Event) → ChangedByOthers s0 h actor d from n k → k < to → TakesEffect s0 h k e → touches_doc e.step ≡ Some d → e.actor ≢ actor
      → ChangedByOthers s0 h actor d from (suc n) to

-- where an operation was answered Contended, other actors changed its document eight times in its span
abbrev pub ContendedByOthers : Case → Book → Type 0
ContendedByOthers case book = (client txn try_no n : ℕ) (o : Op) (log : OpLog) (so : Sofar) → IsAnswer case book client txn try_no n o log so → log.answer ≡ answer.Contended
    → ChangedByOthers book.kept.opening book.kept.history client (doc_of o) log.span.from 8 log.span.to

-- an own call told that document d has this CAS, or that there is none: a reading of it, or a staging
pub data TellsCas (d : List ℕ) (m : Made) : Expect → Type 0 where
  found_none : FindsNoDoc d m → TellsCas d m expect.New
  by_reading : (x : ℕ) (body : Option Json) (stage : Option Stage) → ReadsDoc d x body stage m → TellsCas d m (expect.Cas x)
  by_staging : (x : ℕ) (stage : Stage) → StagesAt d x stage m → TellsCas d m (expect.Cas x)

-- the document that a staging or an unstick writes, and what it expects of it
abbrev pub expects : Step → Option (List ℕ × Expect)
expects (step.Stage d ex stage) = Some (d, ex)
expects (step.Unstick d x) = Some (d, expect.Cas x)
expects _ = None

-- the newest call of an operation of this attempt was refused a write of document d. After the own call that told what it expected
-- of the document, and before it, another actor changed the document, and the client did not
pub record MovedInBetween (s0 : State) (h : List Event) (client : ℕ) (d : List ℕ) (attempt operation : Span) : Type 0 where
  pub told : Made
  pub told_in : In told (during attempt (own s0 h client (length h)))
  pub refused : Made
  pub refused_in : In refused (during operation (own s0 h client (length h)))
  pub newest : operation.to ≡ suc refused.answer.place
  pub expected : Expect
  pub tells : TellsCas d told expected
  pub writes : expects refused.step ≡ Some (d, expected)
  pub refusal : is_refusal refused.answer.reply ≡ true
  pub place : ℕ
  pub event : Event
  pub after : told.answer.place < place
  pub before : place < refused.answer.place
  pub takes : TakesEffect s0 h place event
  pub touches : touches_doc event.step ≡ Some d
  pub others : (k : ℕ) (e : Event) → told.answer.place < k → k < refused.answer.place → TakesEffect s0 h k e → touches_doc e.step ≡ Some d → e.actor ≢ client

-- where an operation was answered Moved, another actor changed its document between the own reading or staging on which the write
-- stood and the call that was refused
abbrev pub MovedByOther : Case → Book → Type 0
MovedByOther case book = (client txn try_no n : ℕ) (o : Op) (log : OpLog) (so : Sofar) (it : IsAnswer case book client txn try_no n o log so) → log.answer ≡ answer.Moved
    → MovedInBetween book.kept.opening book.kept.history client (doc_of o) it.attempt.span log.span

-- the attempt `by` is of no transaction with these numbers; or the run began with its entry, which then no attempt of the run has
-- added
pub data IsOfAnother (s0 : State) (client txn by : ℕ) : Type 0 where
  other_transaction : ¬ ((client_of by ≡ client) × (txn_of by ≡ txn)) → IsOfAnother s0 client txn by
  left_over : (r : ℕ) (e : Entry) → entry_at s0 (r, by) ≡ Some e → IsOfAnother s0 client txn by

-- where an operation was answered Blocked, it was by an attempt of another transaction
abbrev pub BlockedByAnother : Case → Book → Type 0
BlockedByAnother case book = (client txn try_no n by : ℕ) (o : Op) (log : OpLog) (so : Sofar) → IsAnswer case book client txn try_no n o log so → log.answer ≡ answer.Blocked by
    → IsOfAnother book.kept.opening client txn by

-- the attempt with this log staged document d over a reading at moment t, and never took that back
pub record WroteOver (case : Case) (book : Book) (a : ℕ) (d : List ℕ) (t : ℕ) : Type 0 where
  pub client : ℕ
  pub txn : ℕ
  pub try_no : ℕ
  pub log : AttemptLog
  pub log_is : attempt_at book.clients client txn try_no ≡ Some log
  pub id : log.id ≡ a
  pub n : ℕ
  pub op : Op
  pub op_log : OpLog
  pub sofar : Sofar
  pub staged : IsAnswer case book client txn try_no n op op_log sofar
  pub doc : doc_of op ≡ d
  pub place : ℕ
  pub answered : op_log.answer ≡ answer.Staged place (when.At t)
  pub kept : (m : ℕ) (later : Op) (later_log : OpLog) (later_sofar : Sofar) (at : ℕ) → n < m
      → IsAnswer case book client txn try_no m later later_log later_sofar → doc_of later ≡ d → later_log.answer ≢ answer.Unstaged at

-- between the moment at which a committed attempt read a document that it wrote and its commit, no other attempt commits a write
-- of that document
abbrev pub NoUpdateLost : Case → Book → Type 0
NoUpdateLost case book = (a b p q t : ℕ) (d : List ℕ) → CommitsAt book.kept.opening book.kept.history a q → WroteOver case book a d t
    → CommitsAt book.kept.opening book.kept.history b p → b ≢ a → write_set case.plans book.clients b d ≢ None → t < p → p < q → ⊥

-- the ends of a transaction that say that none of its attempts commits
abbrev pub tells_none : TxnEnd → Bool
tells_none txn_end.Empty = true
tells_none txn_end.RolledBack = true
tells_none (txn_end.Failed reason) = true
tells_none (txn_end.Expired now) = true
tells_none txn_end.TriesSpent = true
tells_none (txn_end.CallFailed place) = true
tells_none (txn_end.Committed complete) = false
tells_none txn_end.Unknown = false
tells_none txn_end.Stopped = false

-- one of the attempts of a transaction commits at this place
pub record TxnCommitsAt (book : Book) (client txn try_no place : ℕ) : Type 0 where
  pub log : AttemptLog
  pub log_is : attempt_at book.clients client txn try_no ≡ Some log
  pub commits : CommitsAt book.kept.opening book.kept.history log.id place

-- at most one attempt of a transaction commits, and once; a transaction that ended Committed has its commit at the place kept, and
-- one that ended so that none commits has none
pub record AtMostOnce (book : Book) : Type 0 where
  pub one : (client txn j k p q : ℕ) → TxnCommitsAt book client txn j p → TxnCommitsAt book client txn k q → (j ≡ k) × (p ≡ q)
  pub told : (client txn : ℕ) (log : TxnLog) (complete : Bool) → txn_at book.clients client txn ≡ Some log → log.end ≡ txn_end.Committed complete
      → (attempt : AttemptLog) × (place : ℕ) × (numbered log.attempts (length log.attempts) ≡ Some attempt)
      × (attempt.end ≡ attempt_end.Committed place complete) × TxnCommitsAt book client txn (length log.attempts) place
  pub none : (client txn j p : ℕ) (log : TxnLog) → txn_at book.clients client txn ≡ Some log → tells_none log.end ≡ true → TxnCommitsAt book client txn j p → ⊥

-- at this place attempt a has no entry, and of what a commit or an abort of it has listed nothing is staged by it
pub record IsFinishedAt (s0 : State) (h : List Event) (a i : ℕ) : Type 0 where
  pub no_entry : (r : ℕ) → entry_at (after s0 h i) (r, a) ≡ None
  pub unstaged : (q : ℕ) (lists : Lists) (d : List ℕ) (doc : DocState) (stage : Stage) → DecidedAt s0 h q a lists → IsListed d lists → doc_at (after s0 h i) d ≡ Some doc
      → doc.stage ≡ Some stage → stage.attempt ≢ a

-- the ends of an attempt that tell that nothing is left of it
abbrev pub leaves_nothing : AttemptEnd → Bool
leaves_nothing (attempt_end.Committed place complete) = complete
leaves_nothing attempt_end.RolledBack = true
leaves_nothing (attempt_end.EntryLost place) = true
leaves_nothing _ = false

-- from its end on, nothing is left of an attempt that sent its entry and ended so
abbrev pub AttemptsLeaveNothing : Book → Type 0
AttemptsLeaveNothing book = (client txn try_no p i : ℕ) (log : AttemptLog) (e : Event) → attempt_at book.clients client txn try_no ≡ Some log → leaves_nothing log.end ≡ true
    → slice_get book.kept.history p ≡ Some e → adds e.step ≡ Some log.id → log.span.to ≤ i → IsFinishedAt book.kept.opening book.kept.history log.id i

-- before this place another actor than its owner dropped the entry of attempt a while it was pending
pub record IsEvictedBefore (s0 : State) (h : List Event) (a place : ℕ) : Type 0 where
  pub drop : ℕ
  pub event : Event
  pub before : drop < place
  pub takes : TakesEffect s0 h drop event
  pub atr : ℕ
  pub is : event.step ≡ step.DropEntry atr a true
  pub other : event.actor ≢ client_of a

-- an attempt whose commit found no entry was evicted
abbrev pub LostByEviction : Book → Type 0
LostByEviction book = (client txn try_no place : ℕ) (log : AttemptLog) → attempt_at book.clients client txn try_no ≡ Some log → log.end ≡ attempt_end.EntryLost place
    → IsEvictedBefore book.kept.opening book.kept.history log.id place

-- a pass of a cleaner, or of the sweep
pub record IsPass (book : Book) (pass : PassLog) : Type 0 where
  pub number : ℕ
  pub cleaner : CleanerLog
  pub cleaner_is : numbered book.cleaners number ≡ Some cleaner
  pub round : RoundLog
  pub round_in : In round cleaner.rounds
  pub pass_in : In pass round.passes

-- from the end of a pass that ended Ok on, nothing is left of the attempts that it covered
abbrev pub PassesLeaveNothing : Book → Type 0
PassesLeaveNothing book = (pass : PassLog) (covered : List ℕ) (a i : ℕ) → IsPass book pass → pass.end ≡ pass_end.Ok covered → In a covered → pass.span.to ≤ i
    → IsFinishedAt book.kept.opening book.kept.history a i
