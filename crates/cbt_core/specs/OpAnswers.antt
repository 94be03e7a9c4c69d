-- The answers that an operation can have, and what each stands on.
use Rattle.std.specs.Prelude.{◌≡◌, ◌≢◌, ℕ, ◌⊎◌, Bool, true, false, is_some, is_none, List, [], ◌∷◌, Option, Some, None, Result, Ok, Err}
use Rattle.cbt_json.specs.declared.value.Json.{Json}
use Rattle.cbt_model.specs.declared.documents.OpKind.{OpKind}
use Rattle.cbt_model.specs.declared.documents.OpKind.TheVariants.{Insert, Replace, Remove}
use Rattle.cbt_model.specs.declared.documents.Stage.{Stage}
use Rattle.cbt_model.specs.declared.events.Made.{Made}
use Rattle.cbt_model.specs.declared.steps.Expect.TheVariants as expect
use Rattle.cbt_model.specs.declared.steps.Step.{Step}
use Rattle.cbt_model.specs.declared.steps.Step.TheVariants as step
use Rattle.cbt_book.specs.Outcomes.{expected, DoneAt, EndsFailed, is_refusal, AskedFourTimes, IsContended}
use Rattle.cbt_book.specs.OwnLists.{Once, during}
use Rattle.cbt_book.specs.ReadAt.{Reading, IsReadAt}
use Rattle.cbt_book.specs.Shown.{StagesAt}
use Rattle.cbt_book.specs.declared.operations.OpAnswer.{OpAnswer}
use Rattle.cbt_book.specs.declared.operations.OpAnswer.TheVariants as answer
use Rattle.cbt_book.specs.declared.operations.When.{When}
use Rattle.cbt_book.specs.declared.operations.When.TheVariants as when
use Rattle.cbt_core.specs.Walk.{AttemptTerms, Sofar, OwnWrite, LastRead, Request, Reads, Writes, Tests, kind_over, own_kind}

-- an insert wants no value, a replace and a remove want one
abbrev pub agrees : OpKind → Option Json → Bool
agrees Insert value = is_none value
agrees Replace value = is_some value
agrees Remove value = is_some value

-- whether the attempt's last reading of a document agrees
abbrev pub agrees_last : OpKind → Option LastRead → Bool
agrees_last kind None = false
agrees_last kind (Some last) = agrees kind last.value

-- the reading on which a write of a document stands, its own calls being these
pub data StandsOn (l : List Made) (so : Sofar) (d : List ℕ) (kind : OpKind) (it : Reading) (calls : List Made) : Type 0 where
  -- that of the attempt's last answer that read the document, where it agrees
  on_earlier : (last : LastRead) → so.read d ≡ Some last → agrees kind last.value ≡ true
      → IsReadAt d it (during last.span l) → it.value ≡ last.value → it.moment ≡ last.moment → StandsOn l so d kind it calls
  -- else one of its own that agrees
  on_own : agrees_last kind (so.read d) ≡ false → IsReadAt d it calls → agrees kind it.value ≡ true → StandsOn l so d kind it calls

-- x is the CAS of the last staging of the own write w
abbrev pub HasCas : List Made → List ℕ → OwnWrite → ℕ → Type 0
HasCas l d w x = Once (λ m _. (m.answer.place ≡ w.place) × ((stage : Stage) × StagesAt d x stage m)) l

-- which writes over an own write stage again: an insert over a remove, a replace over what is there, a remove of what is replaced
abbrev pub is_restaged : OpKind → OpKind → Bool
is_restaged Insert Remove = true
is_restaged Insert _ = false
is_restaged Replace Remove = false
is_restaged Replace _ = true
is_restaged Remove Replace = true
is_restaged Remove _ = false

-- the staging carries this write of the attempt
pub record Carries (t : AttemptTerms) (so : Sofar) (d : List ℕ) (kind : OpKind) (content : Option Json) (stage : Stage) : Type 0 where
  pub attempt : stage.attempt ≡ t.id
  pub kind_is : stage.kind ≡ kind_over kind (own_kind (so.own d))
  pub content_is : stage.content ≡ content

-- the step stages the write over what it stands on, which is its base
pub data StagesOver (t : AttemptTerms) (l : List Made) (so : Sofar) (d : List ℕ) (kind : OpKind) (content : Option Json) (calls : List Made) (base : When) (st : Step) : Type 0 where
  over_reading : (it : Reading) (stage : Stage) → so.own d ≡ None → StandsOn l so d kind it calls → base ≡ when.At it.moment
      → Carries t so d kind content stage → st ≡ step.Stage d (expected it.cas) stage → StagesOver t l so d kind content calls base st
  over_own : (w : OwnWrite) (x : ℕ) (stage : Stage) → so.own d ≡ Some w → is_restaged kind w.kind ≡ true → HasCas l d w x → base ≡ when.Own
      → Carries t so d kind content stage → st ≡ step.Stage d (expect.Cas x) stage → StagesOver t l so d kind content calls base st

-- the step takes the own insert back that a remove meets
pub record TakesBack (l : List Made) (so : Sofar) (d : List ℕ) (kind : OpKind) (st : Step) : Type 0 where
  pub removes : kind ≡ Remove
  pub own : OwnWrite
  pub own_is : so.own d ≡ Some own
  pub inserted : own.kind ≡ Insert
  pub cas : ℕ
  pub cas_is : HasCas l d own cas
  pub unsticks : st ≡ step.Unstick d cas

-- the newest call was the write, and was refused, since the document had changed
pub record IsMoved (t : AttemptTerms) (l : List Made) (so : Sofar) (d : List ℕ) (kind : OpKind) (content : Option Json) (calls : List Made) : Type 0 where
  pub newest : Made
  pub older : List Made
  pub calls_are : calls ≡ newest ∷ older
  pub writes : ((base : When) × StagesOver t l so d kind content calls base newest.step) ⊎ TakesBack l so d kind newest.step
  pub refused : is_refusal newest.answer.reply ≡ true

-- the four newest calls showed an entry of `by`, which had staged the document when it was read, and none of that reading found
-- this entry missing
pub record IsBlocked (l : List Made) (so : Sofar) (d : List ℕ) (kind : OpKind) (by : ℕ) (calls : List Made) : Type 0 where
  pub own_none : so.own d ≡ None
  pub it : Reading
  pub atr : ℕ
  pub older : List Made
  pub asks : AskedFourTimes atr by older calls
  pub stands : StandsOn l so d kind it older
  pub staged_by : it.by ≡ Some (atr, by)
  pub there : it.gone ≡ false

-- the value was read at this moment, and there is one, or none
pub record ReadsAt (so : Sofar) (d : List ℕ) (value : Option Json) (t : ℕ) (calls : List Made) : Type 0 where
  pub own_none : so.own d ≡ None
  pub it : Reading
  pub read : IsReadAt d it calls
  pub value_is : it.value ≡ value
  pub moment_is : it.moment ≡ t

-- the own write of the document has this content
abbrev pub OwnHas : Sofar → List ℕ → Option Json → Type 0
OwnHas so d value = (w : OwnWrite) × (so.own d ≡ Some w) × (w.content ≡ value)

-- a get may be answered so
abbrev pub GetAnswered : Sofar → List ℕ → List Made → OpAnswer → Type 0
GetAnswered so d calls (answer.Value value when.Own) = OwnHas so d value
GetAnswered so d calls (answer.Value value (when.At t)) = ReadsAt so d value t calls
GetAnswered so d calls answer.Contended = (so.own d ≡ None) × IsContended d calls
GetAnswered so d calls (answer.CallFailed place) = EndsFailed place calls
GetAnswered so d calls _ = ⊥

-- a write may be answered so
abbrev pub WriteAnswered : AttemptTerms → List Made → Sofar → List ℕ → OpKind → Option Json → List Made → OpAnswer → Type 0
WriteAnswered t l so d kind content calls (answer.Staged place base) =
    Once (λ m _. DoneAt place m × StagesOver t l so d kind content calls base m.step) calls
WriteAnswered t l so d kind content calls (answer.Unstaged place) = Once (λ m _. DoneAt place m × TakesBack l so d kind m.step) calls
WriteAnswered t l so d kind content calls (answer.DocExists when.Own) = (kind ≡ Insert) × ((value : Json) × OwnHas so d (Some value))
WriteAnswered t l so d kind content calls (answer.DocExists (when.At moment)) = (kind ≡ Insert) × ((value : Json) × ReadsAt so d (Some value) moment calls)
WriteAnswered t l so d kind content calls (answer.DocNotFound when.Own) = (kind ≢ Insert) × OwnHas so d None
WriteAnswered t l so d kind content calls (answer.DocNotFound (when.At moment)) = (kind ≢ Insert) × ReadsAt so d None moment calls
WriteAnswered t l so d kind content calls (answer.Blocked by) = IsBlocked l so d kind by calls
WriteAnswered t l so d kind content calls answer.Moved = IsMoved t l so d kind content calls
WriteAnswered t l so d kind content calls answer.Contended = (so.own d ≡ None) × IsContended d calls
WriteAnswered t l so d kind content calls (answer.CallFailed place) = EndsFailed place calls
WriteAnswered t l so d kind content calls _ = ⊥

-- a write whose expression has no value is answered so, before its first call
abbrev pub IsBadValue : ℕ → List Made → OpAnswer → Type 0
IsBadValue part calls (answer.BadValue named) = (named ≡ part) × (calls ≡ [])
IsBadValue part calls _ = ⊥

-- a test is answered by whether its condition holds, or by the part of it that has no value
abbrev pub TestAnswered : Result Bool ℕ → OpAnswer → Type 0
TestAnswered truth answer.Holds = truth ≡ Ok true
TestAnswered truth answer.NeedFalse = truth ≡ Ok false
TestAnswered truth (answer.BadValue part) = truth ≡ Err part
TestAnswered truth _ = ⊥

-- an operation's answer is one that it can have, with its cause
abbrev pub Answered : AttemptTerms → List Made → Sofar → Request → List Made → OpAnswer → Type 0
Answered t l so (Reads d name) calls a = GetAnswered so d calls a
Answered t l so (Writes d kind (Ok content)) calls a = WriteAnswered t l so d kind content calls a
Answered t l so (Writes d kind (Err part)) calls a = IsBadValue part calls a
Answered t l so (Tests truth) calls a = TestAnswered truth a
