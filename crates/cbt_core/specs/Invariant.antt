-- The interleaving invariant: what is so after every prefix of a legal history of licensed actors.
use Rattle.std.specs.Prelude.{◌≡◌, ◌≢◌, ℕ, ◌<◌, ◌≤◌, ◌⊎◌, ◌↔◌, List, Some, None}
use Rattle.cbt_model.specs.History.{after, own, made_at, row_at_event, TakesEffect, CommitsAt, commits, rolls_back}
use Rattle.cbt_model.specs.Keys.{doc_at, entry_at, row_at}
use Rattle.cbt_model.specs.declared.documents.DocState.{DocState}
use Rattle.cbt_model.specs.declared.documents.OpKind.{OpKind}
use Rattle.cbt_model.specs.declared.documents.Stage.{Stage}
use Rattle.cbt_model.specs.declared.entries.ClientRow.{ClientRow}
use Rattle.cbt_model.specs.declared.entries.Entry.{Entry}
use Rattle.cbt_model.specs.declared.entries.EntryState.TheVariants.{Pending, Committed, Aborted}
use Rattle.cbt_model.specs.declared.entries.Lists.{Lists}
use Rattle.cbt_model.specs.declared.events.Event.{Event}
use Rattle.cbt_model.specs.declared.states.State.{State}
use Rattle.cbt_model.specs.declared.steps.Expect.{Expect}
use Rattle.cbt_model.specs.declared.steps.Reply.TheVariants as reply
use Rattle.cbt_model.specs.declared.steps.Step.{Step}
use Rattle.cbt_model.specs.declared.steps.Step.TheVariants as step
use Rattle.cbt_book.specs.Licence.{listed, IsListed, WritesFor}
use Rattle.cbt_book.specs.Numbers.{client_of}
use Rattle.cbt_book.specs.OwnLists.{In}
use Rattle.cbt_book.specs.Shown.{adds}
use Rattle.cbt_book.specs.declared.book.Book.{Book}
use Rattle.cbt_core.specs.Walk.{OwnWrite}
use Rattle.cbt_core.specs.WriteSets.{own_writes_of}
use Rattle.cbt_core.specs.declared.case.Case.{Case}

-- a commit, an abort or a guarded drop of attempt a
abbrev pub Decides : ℕ → Step → Type 0
Decides a st = (commits st ≡ Some a) ⊎ (rolls_back st ≡ Some a)

module _ (s0 : State) (h : List Event) where
  -- event i is a staging of document d that took effect, with this CAS
  pub record StagesEffectively (i : ℕ) (d : List ℕ) (stage : Stage) (x : ℕ) : Type 0 where
    pub event : Event
    pub takes : TakesEffect s0 h i event
    pub expects : Expect
    pub is : event.step ≡ step.Stage d expects stage
    pub cas : (row_at_event (after s0 h i) event).reply ≡ reply.Done x

  -- no stamp is above the clock, and a document has one content at a CAS
  pub record StampsRise : Type 0 where
    pub docs : (i : ℕ) (d : List ℕ) (x : DocState) → doc_at (after s0 h i) d ≡ Some x → x.cas ≤ (after s0 h i).last
    pub entries : (i : ℕ) (key : ℕ × ℕ) (e : Entry) → entry_at (after s0 h i) key ≡ Some e → e.start ≤ (after s0 h i).last
    pub rows : (i id : ℕ) (row : ClientRow) → row_at (after s0 h i) id ≡ Some row → row.heartbeat ≤ (after s0 h i).last
    pub same : (i j : ℕ) (d : List ℕ) (x y : DocState) → doc_at (after s0 h i) d ≡ Some x → doc_at (after s0 h j) d ≡ Some y → x.cas ≡ y.cas → x ≡ y

  -- of an attempt at most one entry is added, before each of its stagings that take effect, and in the record that these name
  pub record AddedOnce : Type 0 where
    pub one : (a i j : ℕ) (e f : Event) → TakesEffect s0 h i e → TakesEffect s0 h j f → adds e.step ≡ Some a → adds f.step ≡ Some a → i ≡ j
    pub before : (i x : ℕ) (d : List ℕ) (stage : Stage) → StagesEffectively i d stage x
        → (j : ℕ) × (exp : ℕ) × (e : Event) × (j < i) × TakesEffect s0 h j e × (e.step ≡ step.AddEntry stage.atr stage.attempt exp)

  -- at most one commit, abort or guarded drop of an attempt takes effect
  abbrev pub DecidedOnce : Type 0
  DecidedOnce = (a i j : ℕ) (e f : Event) → TakesEffect s0 h i e → TakesEffect s0 h j f → Decides a e.step → Decides a f.step → i ≡ j

  -- no event from j on and below i is the owner's writing of document d for attempt a, and takes effect
  abbrev pub WritesNoMore : ℕ → List ℕ → ℕ → ℕ → Type 0
  WritesNoMore a d j i = (k : ℕ) (e : Event) → j < k → k < i → TakesEffect s0 h k e → e.actor ≡ client_of a
      → WritesFor a d (made_at s0 h k e) (own s0 h e.actor k) → ⊥

  -- while an attempt's entry is pending, each document that its owner wrote last by a staging is staged by it, as it was then
  abbrev pub HeldWhilePending : Type 0
  HeldWhilePending = (i j r a x : ℕ) (d : List ℕ) (stage : Stage) (e : Entry) → entry_at (after s0 h i) (r, a) ≡ Some e → e.state ≡ Pending
      → j < i → StagesEffectively j d stage x → stage.attempt ≡ a → WritesNoMore a d j i
      → (doc : DocState) × (doc_at (after s0 h i) d ≡ Some doc) × (doc.stage ≡ Some stage) × (doc.cas ≡ x)

  -- an attempt was committed or aborted by event q
  pub record DecidedAt (q a : ℕ) (lists : Lists) : Type 0 where
    pub event : Event
    pub takes : TakesEffect s0 h q event
    pub atr : ℕ
    pub is : (event.step ≡ step.Commit atr a lists) ⊎ (event.step ≡ step.Abort atr a lists)

  -- while an attempt's entry is decided, each document staged by it is listed there, under its kind where it is committed, and is
  -- as it was at the decision
  pub record ListedWhenDecided : Type 0 where
    pub committed : (i r a : ℕ) (d : List ℕ) (e : Entry) (doc : DocState) (stage : Stage) → entry_at (after s0 h i) (r, a) ≡ Some e → e.state ≡ Committed
        → doc_at (after s0 h i) d ≡ Some doc → doc.stage ≡ Some stage → stage.attempt ≡ a → In d (listed stage.kind e.lists)
    pub aborted : (i r a : ℕ) (d : List ℕ) (e : Entry) (doc : DocState) (stage : Stage) → entry_at (after s0 h i) (r, a) ≡ Some e → e.state ≡ Aborted
        → doc_at (after s0 h i) d ≡ Some doc → doc.stage ≡ Some stage → stage.attempt ≡ a → IsListed d e.lists
    pub unchanged : (i q a : ℕ) (d : List ℕ) (lists : Lists) (doc : DocState) (stage : Stage) → q < i → DecidedAt q a lists
        → doc_at (after s0 h i) d ≡ Some doc → doc.stage ≡ Some stage → stage.attempt ≡ a → doc_at (after s0 h q) d ≡ Some doc

  -- an attempt that was committed or aborted and has no entry any more has no document staged
  abbrev pub GoneWhenFinished : Type 0
  GoneWhenFinished = (i q r a : ℕ) (d : List ℕ) (lists : Lists) (doc : DocState) (stage : Stage) → q < i → DecidedAt q a lists
      → ((r : ℕ) → entry_at (after s0 h i) (r, a) ≡ None) → doc_at (after s0 h i) d ≡ Some doc → doc.stage ≡ Some stage → stage.attempt ≢ a

  -- what was shown stays so: a decided entry keeps its state and lists until it is dropped, a dropped entry does not return, and
  -- neither does a CAS
  pub record ShownStays : Type 0 where
    pub decided : (i j : ℕ) (key : ℕ × ℕ) (e f : Entry) → i ≤ j → entry_at (after s0 h i) key ≡ Some e → entry_at (after s0 h j) key ≡ Some f
        → e.state ≢ Pending → (f.state ≡ e.state) × (f.lists ≡ e.lists)
    pub dropped : (i j k r : ℕ) (key : ℕ × ℕ) (e : Entry) → i ≤ j → j ≤ k → entry_at (after s0 h i) key ≡ Some e → entry_at (after s0 h j) key ≡ None
        → entry_at (after s0 h k) (r, key.1) ≡ None
    pub cas : (i j k : ℕ) (d : List ℕ) (x y z : DocState) → i ≤ j → j ≤ k → doc_at (after s0 h i) d ≡ Some x → doc_at (after s0 h j) d ≡ Some y
        → doc_at (after s0 h k) d ≡ Some z → y.cas ≢ x.cas → z.cas ≢ x.cas

-- document d is written by attempt a, as its log tells it, with this kind and content
abbrev pub IsOwnWrite : Case → Book → ℕ → List ℕ → Stage → Type 0
IsOwnWrite case book a d stage = (w : OwnWrite) × (own_writes_of case.plans book.clients a d ≡ Some w) × (w.kind ≡ stage.kind) × (w.content ≡ stage.content)

-- where the logs follow their plans, the entry of an attempt that was committed by event q lists the attempt's own writes by kind,
-- and what it has staged are these
pub record CommitsOwnWrites (case : Case) (book : Book) : Type 0 where
  pub listed_as : (a q i r : ℕ) (e : Entry) (k : OpKind) (d : List ℕ) → CommitsAt book.kept.opening book.kept.history a q → q < i
      → entry_at (after book.kept.opening book.kept.history i) (r, a) ≡ Some e
      → In d (listed k e.lists) ↔ ((w : OwnWrite) × (own_writes_of case.plans book.clients a d ≡ Some w) × (w.kind ≡ k))
  pub staged_as : (a q i : ℕ) (d : List ℕ) (doc : DocState) (stage : Stage) → CommitsAt book.kept.opening book.kept.history a q → q < i
      → doc_at (after book.kept.opening book.kept.history i) d ≡ Some doc → doc.stage ≡ Some stage → stage.attempt ≡ a → IsOwnWrite case book a d stage

-- the invariant, as far as it speaks of the history alone
pub record Interleaves (s0 : State) (h : List Event) : Type 0 where
  pub stamps : StampsRise s0 h
  pub added : AddedOnce s0 h
  pub decided : DecidedOnce s0 h
  pub held : HeldWhilePending s0 h
  pub listed_when : ListedWhenDecided s0 h
  pub gone : GoneWhenFinished s0 h
  pub shown : ShownStays s0 h
