-- What the calls of a get or of a write come to.
use Rattle.std.specs.Prelude.{◌≡◌, ◌≢◌, ℕ, suc, ◌⊎◌, Bool, true, false, List, [], ◌∷◌, ◌++◌, length, Option, Some, None}
use Rattle.cbt_json.specs.declared.value.Json.{Json}
use Rattle.cbt_model.specs.History.{is_done}
use Rattle.cbt_model.specs.declared.documents.Stage.{Stage}
use Rattle.cbt_model.specs.declared.entries.Entry.{Entry}
use Rattle.cbt_model.specs.declared.entries.EntryState.TheVariants.{Committed}
use Rattle.cbt_model.specs.declared.events.Made.{Made}
use Rattle.cbt_model.specs.declared.steps.Expect.{Expect}
use Rattle.cbt_model.specs.declared.steps.Expect.TheVariants as expect
use Rattle.cbt_model.specs.declared.steps.Reply.{Reply}
use Rattle.cbt_model.specs.declared.steps.Reply.TheVariants as reply
use Rattle.cbt_book.specs.OwnLists.{Each}
use Rattle.cbt_book.specs.Shown.{ReadsDoc, ReadsEntry, FindsNoEntry}

-- what a staging over a reading expects
abbrev pub expected : Option ℕ → Expect
expected None = expect.New
expected (Some x) = expect.Cas x

-- the call at this place was answered Done
abbrev pub DoneAt : ℕ → Made → Type 0
DoneAt place m = (m.answer.place ≡ place) × (is_done m.answer.reply ≡ true)

-- the newest call was answered Failed, at this place
pub record EndsFailed (place : ℕ) (calls : List Made) : Type 0 where
  pub newest : Made
  pub older : List Made
  pub calls_are : calls ≡ newest ∷ older
  pub failed : newest.answer.reply ≡ reply.Failed
  pub place_is : newest.answer.place ≡ place

-- whether a staging or an unstick was refused by the document
abbrev pub is_refusal : Reply → Bool
is_refusal (reply.CasMismatch have) = true
is_refusal reply.Exists = true
is_refusal reply.Absent = true
is_refusal _ = false

-- the four newest calls showed the entry of `by` in this record
pub record AskedFourTimes (atr by : ℕ) (older calls : List Made) : Type 0 where
  pub asked : List Made
  pub calls_are : calls ≡ asked ++ older
  pub four : length asked ≡ 4
  pub shown : Each (λ m _. (e : Entry) × ReadsEntry atr by e m) asked

-- n readings of document d, of which the newest shows it staged so at CAS x: each shows it staged, each after the first at
-- another CAS than the one before, and each but the newest is followed by a reading of its staging's entry, which is committed or
-- not there
pub data ChangesHands (d : List ℕ) : ℕ → ℕ → Stage → List Made → Type 0 where
  once : (x : ℕ) (stage : Stage) (m : Made) (body : Option Json) → ReadsDoc d x body (Some stage) m → ChangesHands d 1 x stage (m ∷ [])
  again : (n x y : ℕ) (old stage : Stage) (m asked : Made) (older : List Made) (body : Option Json) → ReadsDoc d y body (Some stage) m → y ≢ x
      → ((e : Entry) × ReadsEntry old.atr old.attempt e asked × (e.state ≡ Committed)) ⊎ FindsNoEntry old.atr old.attempt asked
      → ChangesHands d n x old older → ChangesHands d (suc n) y stage (m ∷ asked ∷ older)

-- the document changed hands at each of nine readings
abbrev pub IsContended : List ℕ → List Made → Type 0
IsContended d calls = (x : ℕ) × (stage : Stage) × ChangesHands d 9 x stage calls
