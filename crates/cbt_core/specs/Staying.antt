-- What an actor is shown stays so, on its own list: what the interleaving invariant of a legal history makes of it.
use Rattle.std.specs.Prelude.{◌≡◌, ◌≢◌, ℕ, List, Option, Some}
use Rattle.cbt_json.specs.declared.value.Json.{Json}
use Rattle.cbt_model.specs.declared.documents.Stage.{Stage}
use Rattle.cbt_model.specs.declared.entries.Entry.{Entry}
use Rattle.cbt_model.specs.declared.entries.EntryState.TheVariants.{Pending}
use Rattle.cbt_model.specs.declared.events.Made.{Made}
use Rattle.cbt_book.specs.OwnLists.{Once, Each}
use Rattle.cbt_book.specs.Shown.{ReadsDoc, ReadsEntry, FindsNoEntry}

-- a reading that shows document d at this CAS
abbrev pub ReadsAtCas : List ℕ → ℕ → Made → Type 0
ReadsAtCas d x m = (body : Option Json) × (stage : Option Stage) × ReadsDoc d x body stage m

-- a reading that shows a document staged by attempt a, with record r
abbrev pub ShowsStagingOf : ℕ → ℕ → Made → Type 0
ShowsStagingOf r a m =
    (d : List ℕ) × (x : ℕ) × (body : Option Json) × (stage : Stage) × ReadsDoc d x body (Some stage) m × (stage.atr ≡ r) × (stage.attempt ≡ a)

-- what a call shows agrees with what was shown before
pub record AgreesWith (past : List Made) (m : Made) : Type 0 where
  -- a document has one content at a CAS
  pub same : (d : List ℕ) (x : ℕ) (body old : Option Json) (stage was : Option Stage) → ReadsDoc d x body stage m
      → Once (λ n _. ReadsDoc d x old was n) past → (old ≡ body) × (was ≡ stage)
  -- a CAS that a document has left does not return
  pub left : (d : List ℕ) (x y : ℕ) → ReadsAtCas d x m → y ≢ x → ¬ Once (λ n older. ReadsAtCas d y n × Once (λ k _. ReadsAtCas d x k) older) past
  -- an entry that was decided keeps its state
  pub decided : (r a : ℕ) (e was : Entry) → ReadsEntry r a e m → Once (λ n _. ReadsEntry r a was n) past → was.state ≢ Pending → e.state ≡ was.state
  -- an entry that was gone does not return
  pub gone : (r a : ℕ) (e : Entry) → ReadsEntry r a e m → ¬ Once (λ n older. FindsNoEntry r a n × Once (λ k _. ShowsStagingOf r a k) older) past

-- so each call of an own list does
abbrev pub StaysAsShown : List Made → Type 0
StaysAsShown l = Each (λ m past. AgreesWith past m) l
