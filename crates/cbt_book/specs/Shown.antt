-- What the answer to one step shows.
use Rattle.std.specs.Prelude.{◌≡◌, ℕ, List, Option, Some, None}
use Rattle.cbt_json.specs.declared.value.Json.{Json}
use Rattle.cbt_model.specs.declared.documents.Stage.{Stage}
use Rattle.cbt_model.specs.declared.entries.Entry.{Entry}
use Rattle.cbt_model.specs.declared.entries.EntryState.TheVariants.{Committed, Aborted}
use Rattle.cbt_model.specs.declared.entries.Lists.{Lists}
use Rattle.cbt_model.specs.declared.events.Made.{Made}
use Rattle.cbt_model.specs.declared.steps.Expect.{Expect}
use Rattle.cbt_model.specs.declared.steps.Reply.TheVariants as reply
use Rattle.cbt_model.specs.declared.steps.Step.{Step}
use Rattle.cbt_model.specs.declared.steps.Step.TheVariants as step
use Rattle.cbt_book.specs.OwnLists.{In}

-- a reading that shows the document: its CAS, its body and its staging
abbrev pub ReadsDoc : List ℕ → ℕ → Option Json → Option Stage → Made → Type 0
ReadsDoc d x body stage m = (m.step ≡ step.ReadDoc d) × (m.answer.reply ≡ reply.Doc x body stage)

-- a reading that finds no document
abbrev pub FindsNoDoc : List ℕ → Made → Type 0
FindsNoDoc d m = (m.step ≡ step.ReadDoc d) × (m.answer.reply ≡ reply.Absent)

-- a staging of the document that was answered Done, with this CAS
abbrev pub StagesAt : List ℕ → ℕ → Stage → Made → Type 0
StagesAt d x stage m = (expect : Expect) × (m.step ≡ step.Stage d expect stage) × (m.answer.reply ≡ reply.Done x)

-- the document is shown staged so at this CAS
pub data ShowsStaged (d : List ℕ) (x : ℕ) (stage : Stage) (m : Made) : Type 0 where
  by_read : (body : Option Json) → ReadsDoc d x body (Some stage) m → ShowsStaged d x stage m
  by_stage : StagesAt d x stage m → ShowsStaged d x stage m

-- a reading of the entry of attempt a in record r that shows it
abbrev pub ReadsEntry : ℕ → ℕ → Entry → Made → Type 0
ReadsEntry r a e m = (m.step ≡ step.ReadEntry r a) × (m.answer.reply ≡ reply.Entry e)

-- a reading of the entry of attempt a in record r that finds none
abbrev pub FindsNoEntry : ℕ → ℕ → Made → Type 0
FindsNoEntry r a m = (m.step ≡ step.ReadEntry r a) × (m.answer.reply ≡ reply.NoEntry)

-- a reading of record r that shows these entries
abbrev pub ReadsRecord : ℕ → List (ℕ × Entry) → Made → Type 0
ReadsRecord r entries m = (m.step ≡ step.ReadAtr r) × (m.answer.reply ≡ reply.Entries entries)

-- the entry of attempt a in record r is shown, alone or with the whole record
pub data ShowsEntry (r a : ℕ) (e : Entry) (m : Made) : Type 0 where
  alone : ReadsEntry r a e m → ShowsEntry r a e m
  in_record : (entries : List (ℕ × Entry)) → ReadsRecord r entries m → In (a, e) entries → ShowsEntry r a e m

-- attempt a is shown committed in record r, with these lists: by its entry, or by an own commit that was answered Done
pub data ShowsCommitted (r a : ℕ) (lists : Lists) (m : Made) : Type 0 where
  committed_entry : (e : Entry) → ShowsEntry r a e m → e.state ≡ Committed → e.lists ≡ lists → ShowsCommitted r a lists m
  own_commit : (c : ℕ) → m.step ≡ step.Commit r a lists → m.answer.reply ≡ reply.Done c → ShowsCommitted r a lists m

-- attempt a is shown aborted in record r, with these lists: by its entry, or by an own abort that was answered Done or Decided
pub data ShowsAborted (r a : ℕ) (lists : Lists) (m : Made) : Type 0 where
  aborted_entry : (e : Entry) → ShowsEntry r a e m → e.state ≡ Aborted → e.lists ≡ lists → ShowsAborted r a lists m
  own_abort : (c : ℕ) → m.step ≡ step.Abort r a lists → m.answer.reply ≡ reply.Done c → ShowsAborted r a lists m
  refused_abort : m.step ≡ step.Abort r a lists → m.answer.reply ≡ reply.Decided → ShowsAborted r a lists m

-- the attempt whose entry a step adds
abbrev pub adds : Step → Option ℕ
adds (step.AddEntry r a exp) = Some a
adds _ = None

-- the attempt that an abort rolls back
abbrev pub aborts : Step → Option ℕ
aborts (step.Abort r a lists) = Some a
aborts _ = None

-- the attempt that a commit or an abort decides
abbrev pub decides : Step → Option ℕ
decides (step.Commit r a lists) = Some a
decides (step.Abort r a lists) = Some a
decides _ = None

-- the entry of attempt a was added to record r, or was there
pub data AddsEntry (r a : ℕ) (m : Made) : Type 0 where
  added : (exp c : ℕ) → m.step ≡ step.AddEntry r a exp → m.answer.reply ≡ reply.Done c → AddsEntry r a m
  was_there : (exp : ℕ) → m.step ≡ step.AddEntry r a exp → m.answer.reply ≡ reply.Exists → AddsEntry r a m
