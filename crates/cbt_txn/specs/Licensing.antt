-- What the client's whole own list shows of an attempt whose operations go on: as much as the licence of each call needs.
use Rattle.std.specs.Prelude.{◌≡◌, ℕ, true, List, ◌++◌, Option, Some, None}
use Rattle.cbt_json.specs.declared.value.Json.{Json}
use Rattle.cbt_model.specs.declared.documents.OpKind.{OpKind}
use Rattle.cbt_model.specs.declared.events.Made.{Made}
use Rattle.cbt_model.specs.declared.steps.Step.TheVariants as step
use Rattle.cbt_book.specs.Numbers.{Identity, client_of}
use Rattle.cbt_book.specs.OwnLists.{Once}
use Rattle.cbt_book.specs.ReadAt.{Reading, IsReadAt}
use Rattle.cbt_book.specs.Shown.{adds, decides, AddsEntry}
use Rattle.cbt_core.specs.Operations.{is_good}
use Rattle.cbt_attempt.specs.Notes.{HasStaged, NotesAll, NotesWrites}
use Rattle.cbt_attempt.specs.OwnWrites.{noted}
use Rattle.cbt_attempt.specs.declared.attempt.Attempt.{Attempt}
use Rattle.cbt_attempt.specs.declared.own.Own.{Own}
use Rattle.cbt_read.specs.Standing as get
use Rattle.cbt_read.specs.declared.ends.GetEnd.{GetEnd}
use Rattle.cbt_read.specs.declared.ends.GetEnd.TheVariants.{Value}
use Rattle.cbt_read.specs.declared.gets.Get.{Get}
use Rattle.cbt_stage.specs.PutCalls.{terms_of}
use Rattle.cbt_stage.specs.Ready.{IsPart, IsReady}
use Rattle.cbt_stage.specs.Rewrites.{rewrite_of}
use Rattle.cbt_stage.specs.Standing as put
use Rattle.cbt_stage.specs.declared.agains.Again.{Again}
use Rattle.cbt_stage.specs.declared.puts.Put.{Put}
use Rattle.cbt_txn.specs.Following.{NotedOnce}
use Rattle.cbt_txn.specs.Works.{answer_of}
use Rattle.cbt_txn.specs.declared.operations.Fed.{Fed}
use Rattle.cbt_txn.specs.declared.operations.Fed.TheVariants.{Going, Read, Written}
use Rattle.cbt_txn.specs.declared.operations.Operations.{Operations}
use Rattle.cbt_txn.specs.declared.operations.Work.{Work}
use Rattle.cbt_txn.specs.declared.operations.Work.TheVariants as work

-- always: it is the client's own, it was not decided, and what it has noted is right; before its entry is sent it has written nothing
pub record Owns (who : Identity) (a : Attempt) (l : List Made) : Type 0 where
  pub own : client_of a.id ≡ who.number
  pub undecided : ¬ Once (λ m _. decides m.step ≡ Some a.id) l
  pub unsent : a.sent ≡ None → ¬ Once (λ m _. adds m.step ≡ Some a.id) l
  pub unstaged : a.sent ≡ None → ¬ HasStaged a.id l
  pub unwritten : (d : List ℕ) → a.sent ≡ None → noted a.writes d ≡ None
  pub sent : (r : ℕ) → a.sent ≡ Some r → Once (λ m _. (exp : ℕ) × (m.step ≡ step.AddEntry r a.id exp)) l
  pub writes : (r : ℕ) → a.sent ≡ Some r → NotesWrites a.id r (noted a.writes) l
  pub read : (d : List ℕ) (it : Reading) → noted a.seen d ≡ Some it → (part : List Made) × IsPart part l × IsReadAt d it part
  pub written_once : NotedOnce a.writes
  pub read_once : NotedOnce a.seen

-- while its operations go on: its entry stands where it was sent, and all is noted
pub record GoesWell (a : Attempt) (l : List Made) : Type 0 where
  pub added : (r : ℕ) → a.sent ≡ Some r → Once (λ m _. AddsEntry r a.id m) l
  pub notes : (r : ℕ) → a.sent ≡ Some r → NotesAll a.id r (noted a.writes) l

-- the work that is under way was begun on an older part of the list: a put for the record of the attempt's entry, and a write over
-- an own write that is still noted so
pub data MayWork (who : Identity) (a : Attempt) (l : List Made) : Work → Type 0 where
  gets : (it : Get) (write : Option Own) (mine older : List Made) → GoesWell a l → l ≡ mine ++ older → get.StandsFor it mine
      → MayWork who a l (work.Get it write)
  puts : (it : Put) (mine older : List Made) → GoesWell a l → l ≡ mine ++ older → put.StandsFor (terms_of a) it mine → IsReady who it.task older
      → ((r : ℕ) → a.sent ≡ Some r → r ≡ it.task.atr) → it.task.write.cas ≡ None → MayWork who a l (work.Put it)
  agains : (it : Again) (d : List ℕ) (kind : OpKind) (content : Option Json) → GoesWell a l → it.end ≡ None → Some it.task ≡ rewrite_of a d kind content
      → MayWork who a l (work.Again it)
  done : GoesWell a l → MayWork who a l work.Done
  refused : MayWork who a l work.Refused
  late : (now : ℕ) → MayWork who a l (work.Late now)

pub record MayGoOn (who : Identity) (c : Operations) (l : List Made) : Type 0 where
  pub owns : Owns who c.attempt l
  pub works : MayWork who c.attempt l c.work

-- a value that was read of a document is shown by some of the calls
abbrev pub MayRead : List ℕ → GetEnd → List Made → Type 0
MayRead d (Value it) l = (part : List Made) × IsPart part l × IsReadAt d it part
MayRead d _ l = Unit {0}

-- what has become of the work by the answer to its call may go on
abbrev pub MayCome : Identity → Attempt → List Made → Fed → Type 0
MayCome who a l (Going w) = MayWork who a l w
MayCome who a l (Read d write end) = GoesWell a l × MayRead d end l
MayCome who a l (Written end) = is_good (answer_of end) ≡ true → GoesWell a l
