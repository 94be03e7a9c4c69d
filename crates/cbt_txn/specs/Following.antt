-- What the operations of a try are on their client's own list: `told` are the calls of those that were answered, behind those before
-- the try, `l0`, and `calls` are those of the one that is under way.
use Rattle.std.specs.Prelude.{◌≡◌, ℕ, ◌≤◌, ◌<◌, ◌⊎◌, Bool, true, false, List, [], ◌∷◌, ◌++◌, length, drop, Option, Some, None, is_some, is_none, Ok}
use Rattle.cbt_json.specs.declared.value.Json.{Json}
use Rattle.cbt_expr.specs.Answers.{bound_in}
use Rattle.cbt_expr.specs.declared.plans.Op.{Op}
use Rattle.cbt_model.specs.declared.documents.OpKind.{OpKind}
use Rattle.cbt_model.specs.declared.documents.OpKind.TheVariants.{Insert, Replace, Remove}
use Rattle.cbt_model.specs.declared.events.Made.{Made}
use Rattle.cbt_model.specs.declared.steps.Reply.TheVariants as reply
use Rattle.cbt_model.specs.declared.steps.Step.TheVariants as step
use Rattle.cbt_book.specs.Calls.{GetCalls}
use Rattle.cbt_book.specs.OwnLists.{Each, during}
use Rattle.cbt_book.specs.ReadAt.{Reading, IsReadAt}
use Rattle.cbt_book.specs.Spans.{oldest, past_of}
use Rattle.cbt_book.specs.declared.operations.OpAnswer.{OpAnswer}
use Rattle.cbt_book.specs.declared.operations.OpLog.{OpLog}
use Rattle.cbt_core.specs.Attempts.{LastIs, all_good}
use Rattle.cbt_core.specs.OpAnswers.{HasCas, StandsOn, agrees_last}
use Rattle.cbt_core.specs.OpCalls.{write_terms}
use Rattle.cbt_core.specs.Operations.{is_good}
use Rattle.cbt_core.specs.Walk.{AttemptTerms, LastRead, OwnWrite, Request, Sofar, noted as noted_by}
use Rattle.cbt_core.specs.Walk as walk
use Rattle.cbt_attempt.specs.OwnWrites.{noted}
use Rattle.cbt_attempt.specs.declared.attempt.Attempt.{Attempt}
use Rattle.cbt_attempt.specs.declared.own.Own.{Own}
use Rattle.cbt_logs.specs.Operating.{AreFine, ComesNext, IsAnswered, Operates, Told, asked, log_of, sofar}
use Rattle.cbt_read.specs.declared.ends.GetEnd.{GetEnd}
use Rattle.cbt_read.specs.declared.ends.GetEnd.TheVariants as get_end
use Rattle.cbt_read.specs.Phases as get_phases
use Rattle.cbt_read.specs.Standing as get
use Rattle.cbt_read.specs.declared.gets.Get.{Get}
use Rattle.cbt_read.specs.declared.phases.Phase.{Phase}
use Rattle.cbt_read.specs.declared.phases.Phase.TheVariants as get_phase
use Rattle.cbt_stage.specs.Phases as put_phases
use Rattle.cbt_stage.specs.Rewrites.{needs_call, rewrite_of}
use Rattle.cbt_stage.specs.Rewriting.{StandsOnce}
use Rattle.cbt_stage.specs.Standing as put
use Rattle.cbt_stage.specs.declared.agains.Again.{Again}
use Rattle.cbt_stage.specs.declared.phases.Phase.TheVariants as put_phase
use Rattle.cbt_stage.specs.declared.puts.Put.{Put}
use Rattle.cbt_txn.specs.Works.{answer_of}
use Rattle.cbt_txn.specs.declared.operations.Fed.{Fed}
use Rattle.cbt_txn.specs.declared.operations.Fed.TheVariants as fed
use Rattle.cbt_txn.specs.declared.operations.Operations.{Operations}
use Rattle.cbt_txn.specs.declared.operations.Work.{Work}
use Rattle.cbt_txn.specs.declared.operations.Work.TheVariants as work

-- an attempt under these terms
pub record IsUnder (t : AttemptTerms) (a : Attempt) : Type 0 where
  pub id_is : a.id ≡ t.id
  pub atrs_is : a.atrs ≡ t.atrs
  pub hold_is : a.exp ≡ t.plan.hold

-- it has noted nothing
pub record IsNew (a : Attempt) : Type 0 where
  pub unwritten : a.writes ≡ []
  pub unread : a.seen ≡ []

-- a remove has no content, and another write has one
abbrev pub is_whole : OpKind → Option Json → Bool
is_whole Insert content = is_some content
is_whole Replace content = is_some content
is_whole Remove content = is_none content

-- no document is noted twice
abbrev pub NotedOnce : {V : Type 0} → List (List ℕ × V) → Type 0
NotedOnce [] = Unit {0}
NotedOnce (note ∷ notes) = (noted notes note.0 ≡ None) × NotedOnce notes

-- its own writes and its last readings agree with what the answers add up to
pub record Agrees (so : Sofar) (a : Attempt) (l : List Made) : Type 0 where
  pub own_none : (d : List ℕ) → noted a.writes d ≡ None → so.own d ≡ None
  pub own_some : (d : List ℕ) (w : Own) → noted a.writes d ≡ Some w
      → (x : ℕ) × (v : OwnWrite) × (w.cas ≡ Some x) × (so.own d ≡ Some v) × (v.kind ≡ w.kind) × (v.content ≡ w.content) × HasCas l d v x
  pub seen_none : (d : List ℕ) → noted a.seen d ≡ None → so.read d ≡ None
  pub seen_some : (d : List ℕ) (it : Reading) → noted a.seen d ≡ Some it
      → (last : LastRead) × (so.read d ≡ Some last) × IsReadAt d it (during last.span l) × (it.value ≡ last.value) × (it.moment ≡ last.moment)
  pub ended : (d : List ℕ) (last : LastRead) → so.read d ≡ Some last → last.span.to ≤ past_of l
  -- it wrote nothing before its entry was sent
  pub sent : (d : List ℕ) (w : Own) → noted a.writes d ≡ Some w → is_some a.sent ≡ true
  pub whole : (d : List ℕ) (w : Own) → noted a.writes d ≡ Some w → is_whole w.kind w.content ≡ true
  pub written_once : NotedOnce a.writes
  pub read_once : NotedOnce a.seen

-- the place of the first of these calls, where there is one
abbrev pub first_place : List Made → Option ℕ
first_place [] = None
first_place (m ∷ older) = Some (oldest m older).answer.place

-- all operations so far were answered well, and the next one has made no call; or there is none
pub record Between (t : AttemptTerms) (c : Operations) (l0 told : List Made) : Type 0 where
  pub under : IsUnder t c.attempt
  pub unbegun : c.first ≡ None
  pub past_is : c.past ≡ past_of (told ++ l0)
  pub tells : Told t l0 told c.logs
  pub good : all_good c.logs ≡ true
  pub bound : (sofar t c.logs).bound ≡ bound_in c.bound
  pub agrees : Agrees (sofar t c.logs) c.attempt (told ++ l0)

-- an operation is under way that all went well for so far
pub record Goes (t : AttemptTerms) (c : Operations) (older calls : List Made) (o : Op) : Type 0 where
  pub next : ComesNext t c.logs o
  pub bound : (sofar t c.logs).bound ≡ bound_in c.bound
  pub agrees : Agrees (sofar t c.logs) c.attempt older
  pub fine : AreFine t calls

-- a write of document d reads it, where it has no own write and the last reading does not agree
pub record ReadsFor (t : AttemptTerms) (c : Operations) (d : List ℕ) (write : Own) (o : Op) : Type 0 where
  pub asks : asked t c.logs o ≡ walk.Writes d write.kind (Ok write.content)
  pub unwritten : noted c.attempt.writes d ≡ None
  pub unserved : agrees_last write.kind ((sofar t c.logs).read d) ≡ false

-- the newest of these calls ended a read of document d so; those before it had left it open
pub record EndsRead (d : List ℕ) (end : GetEnd) (calls : List Made) : Type 0 where
  pub phase : Phase
  pub newest : Made
  pub older : List Made
  pub calls_are : calls ≡ newest ∷ older
  pub knows : get.Knows d phase older
  pub asked : get_phases.step_for d phase ≡ Some newest.step
  pub ended : get_phases.after phase newest.answer.place newest.answer.reply ≡ get_phase.Ended end

-- a put stands on these readings, or on an earlier one
pub record PutsOn (t : AttemptTerms) (c : Operations) (older : List Made) (it : Put) (mine reads : List Made) (o : Op) : Type 0 where
  pub asks : asked t c.logs o ≡ walk.Writes it.task.doc it.task.write.kind (Ok it.task.write.content)
  pub unwritten : noted c.attempt.writes it.task.doc ≡ None
  pub of_attempt : it.task.attempt ≡ t.id
  pub stands_on : StandsOn (reads ++ older) (sofar t c.logs) it.task.doc it.task.write.kind it.task.seen reads
  pub reads_are : (reads ≡ []) ⊎ (GetCalls it.task.doc reads × (agrees_last it.task.write.kind ((sofar t c.logs).read it.task.doc) ≡ false))
  pub read_last : (reads ≡ []) ⊎ EndsRead it.task.doc (get_end.Value it.task.seen) reads
  pub stands : put.StandsFor (write_terms t) it mine
  -- it asks for no entry but that of the attempt whose write waits in the document
  pub asked_for : Each (λ m _. (r by : ℕ) → m.step ≡ step.ReadEntry r by → put.Waits it.task r by) mine
  -- the attempt's entry was sent before the put, or before it stages
  pub sent_before : it.task.sent ≡ true → is_some c.attempt.sent ≡ true
  pub sent : it.phase ≡ put_phase.Staging → is_some c.attempt.sent ≡ true

-- a write over the own write of its document
pub record WritesAgain (t : AttemptTerms) (c : Operations) (it : Again) (calls : List Made) (o : Op) : Type 0 where
  pub kind : OpKind
  pub content : Option Json
  pub own : Own
  pub asks : asked t c.logs o ≡ walk.Writes it.task.doc kind (Ok content)
  pub own_is : noted c.attempt.writes it.task.doc ≡ Some own
  pub needed : needs_call kind own.kind ≡ true
  pub task_is : Some it.task ≡ rewrite_of c.attempt it.task.doc kind content
  pub stands : StandsOnce (write_terms t) it calls

-- what the work is, by the calls of the operation under way, which stand behind `older`
pub data Works (t : AttemptTerms) (c : Operations) (older calls : List Made) : Work → Type 0 where
  gets : (o : Op) (it : Get) (name : List ℕ) → Goes t c older calls o → asked t c.logs o ≡ walk.Reads it.doc name → noted c.attempt.writes it.doc ≡ None
      → get.StandsFor it calls → get_phases.end_of it ≡ None → Works t c older calls (work.Get it None)
  reads : (o : Op) (it : Get) (write : Own) → Goes t c older calls o → ReadsFor t c it.doc write o → get.StandsFor it calls → get_phases.end_of it ≡ None
      → Works t c older calls (work.Get it (Some write))
  puts : (o : Op) (it : Put) (mine reads : List Made) → Goes t c older calls o → calls ≡ mine ++ reads → PutsOn t c older it mine reads o
      → put_phases.end_of it ≡ None → Works t c older calls (work.Put it)
  agains : (o : Op) (it : Again) → Goes t c older calls o → WritesAgain t c it calls o → it.end ≡ None → Works t c older calls (work.Again it)
  done : calls ≡ [] → all_good c.logs ≡ true → drop (length c.logs) t.plan.ops ≡ [] → Works t c older calls work.Done
  refused : calls ≡ [] → LastIs (λ log. is_good log.answer ≡ false) c.logs → Works t c older calls work.Refused
  late : (newest : Made) (before : List Made) → calls ≡ newest ∷ before → t.latest < newest.answer.now → Operates t c.logs calls
      → Works t c older calls (work.Late newest.answer.now)

-- the calls of the try, `mine`, are those of its operations
pub record Follows (t : AttemptTerms) (c : Operations) (l0 mine : List Made) : Type 0 where
  pub told : List Made
  pub calls : List Made
  pub mine_is : mine ≡ calls ++ told
  pub under : IsUnder t c.attempt
  pub first_is : c.first ≡ first_place calls
  pub past_is : c.past ≡ past_of (calls ++ (told ++ l0))
  pub tells : Told t l0 told c.logs
  pub works : Works t c (told ++ l0) calls c.work

-- as much as is so also where no memory was found
pub record Halts (t : AttemptTerms) (logs : List OpLog) (l0 mine : List Made) : Type 0 where
  pub told : List Made
  pub calls : List Made
  pub mine_is : mine ≡ calls ++ told
  pub tells : Told t l0 told logs
  pub operates : (calls ≡ []) ⊎ Operates t logs calls

-- the operation under way has this answer by its calls, and the attempt has noted it
pub record Answers (t : AttemptTerms) (c : Operations) (l0 told calls : List Made) (a : OpAnswer) : Type 0 where
  pub op : Op
  pub next : ComesNext t c.logs op
  pub under : IsUnder t c.attempt
  pub first_is : c.first ≡ first_place calls
  pub past_is : c.past ≡ past_of (calls ++ (told ++ l0))
  pub tells : Told t l0 told c.logs
  pub answered : IsAnswered t (calls ++ (told ++ l0)) c.logs op calls a
  pub bound : (sofar t c.logs).bound ≡ bound_in c.bound
  pub agrees : is_good a ≡ true → Agrees (noted_by op (log_of c.logs (told ++ l0) calls a) (sofar t c.logs)) c.attempt (calls ++ (told ++ l0))

-- the read of an operation's document has ended so: of a get, or of a write that then stages this
abbrev pub AsksRead : AttemptTerms → Operations → List ℕ → Option Own → Op → Type 0
AsksRead t c d None o = (name : List ℕ) × (asked t c.logs o ≡ walk.Reads d name) × (noted c.attempt.writes d ≡ None)
AsksRead t c d (Some write) o = ReadsFor t c d write o

pub record Reads (t : AttemptTerms) (c : Operations) (l0 told calls : List Made) (d : List ℕ) (write : Option Own) (end : GetEnd) : Type 0 where
  pub op : Op
  pub next : ComesNext t c.logs op
  pub asks : AsksRead t c d write op
  pub under : IsUnder t c.attempt
  pub first_is : c.first ≡ first_place calls
  pub past_is : c.past ≡ past_of (calls ++ (told ++ l0))
  pub tells : Told t l0 told c.logs
  pub bound : (sofar t c.logs).bound ≡ bound_in c.bound
  pub agrees : Agrees (sofar t c.logs) c.attempt (told ++ l0)
  pub reads : GetCalls d calls
  pub ends : get.EndsBy d end calls
  pub last : EndsRead d end calls
  pub in_time : Each (λ m _. m.answer.now ≤ t.latest) calls
  -- a call that failed ended it
  pub failed : Each (λ m _. m.answer.reply ≡ reply.Failed → end ≡ get_end.CallFailed m.answer.place) calls

-- an operation has begun: it was answered, and the next one is to begin, or it is under way, or is the last
abbrev pub GoesOn : Bool → AttemptTerms → Operations → List Made → List Made → Type 0
GoesOn true t c l0 told = Between t c l0 told
GoesOn false t c l0 told = Follows t c l0 told

-- the calls are those of the operation under way, as what became of its work says
abbrev pub Fits : AttemptTerms → Operations → List Made → List Made → List Made → Fed → Type 0
Fits t c l0 told calls (fed.Going w) = Follows t (record c { work = w }) l0 (calls ++ told)
Fits t c l0 told calls (fed.Read d write end) = Reads t c l0 told calls d write end
Fits t c l0 told calls (fed.Written end) = Answers t c l0 told calls (answer_of end)
