-- What was read of a document, at which moment, told from own answers alone.
use Rattle.std.specs.Prelude.{◌≡◌, ◌≢◌, ℕ, Bool, true, false, List, Option, Some, None}
use Rattle.cbt_json.specs.declared.value.Json.{Json}
use Rattle.cbt_model.specs.declared.documents.Stage.{Stage}
use Rattle.cbt_model.specs.declared.entries.Entry.{Entry}
use Rattle.cbt_model.specs.declared.entries.EntryState.TheVariants.{Committed}
use Rattle.cbt_model.specs.declared.events.Made.{Made}
use Rattle.cbt_book.specs.OwnLists.{Once}
use Rattle.cbt_book.specs.Shown.{ReadsDoc, FindsNoDoc, ReadsEntry, FindsNoEntry}

-- what was read of a document
pub record Reading : Type 0 where
  -- its value, or none
  pub value : Option Json
  -- its CAS, where there is a document
  pub cas : Option ℕ
  -- the record and the attempt of the staging that it had
  pub by : Option (ℕ × ℕ)
  -- the entry of that attempt was not there
  pub gone : Bool
  -- the place of the event at which the document had this value
  pub moment : ℕ

-- document d was read so by calls of this own list, in one of these ways
pub data IsReadAt (d : List ℕ) (it : Reading) (l : List Made) : Type 0 where
  -- a reading found no document
  absent : it.value ≡ None → it.cas ≡ None → it.by ≡ None → it.gone ≡ false
      → Once (λ m _. (m.answer.place ≡ it.moment) × FindsNoDoc d m) l → IsReadAt d it l
  -- a reading showed it without a staging: its body
  unstaged : (x : ℕ) → it.cas ≡ Some x → it.by ≡ None → it.gone ≡ false
      → Once (λ m _. (m.answer.place ≡ it.moment) × ReadsDoc d x it.value None m) l → IsReadAt d it l
  -- a reading showed it staged by an attempt whose entry was pending or aborted afterwards: its body, at that reading
  uncommitted : (x : ℕ) (stage : Stage) (e : Entry) → it.cas ≡ Some x → it.by ≡ Some (stage.atr, stage.attempt) → it.gone ≡ false → e.state ≢ Committed
      → Once (λ m before. ReadsEntry stage.atr stage.attempt e m
      × Once (λ n _. (n.answer.place ≡ it.moment) × ReadsDoc d x it.value (Some stage) n) before) l
      → IsReadAt d it l
  -- its staging's entry was committed, between two readings with one CAS: the content, at the reading of the entry
  committed : (x : ℕ) (stage : Stage) (e : Entry) → it.cas ≡ Some x → it.by ≡ Some (stage.atr, stage.attempt) → it.gone ≡ false
      → it.value ≡ stage.content → e.state ≡ Committed
      → Once (λ m before. ((body : Option Json) × (again : Option Stage) × ReadsDoc d x body again m)
      × Once (λ n earlier. (n.answer.place ≡ it.moment) × ReadsEntry stage.atr stage.attempt e n
      × Once (λ k _. (body : Option Json) × ReadsDoc d x body (Some stage) k) earlier) before) l
      → IsReadAt d it l
  -- its staging's entry was not there, between two readings with one CAS: the body, at the second of them
  dead : (x : ℕ) (stage : Stage) → it.cas ≡ Some x → it.by ≡ Some (stage.atr, stage.attempt) → it.gone ≡ true
      → Once (λ m before. (m.answer.place ≡ it.moment) × ((again : Option Stage) × ReadsDoc d x it.value again m)
      × Once (λ n earlier. FindsNoEntry stage.atr stage.attempt n
      × Once (λ k _. (body : Option Json) × ReadsDoc d x body (Some stage) k) earlier) before) l
      → IsReadAt d it l
