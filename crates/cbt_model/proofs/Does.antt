-- The step table as a relation: a step is refused and changes nothing, or it is done with the stamp c.
use Rattle.std.proofs.Common.{◌≡◌, ℕ, Bool, true, false, cond, nat_eq, List, Option, Some, None, refl}
use Rattle.std.proofs.lemmas.Bool.{eqb-true as same_true}
use Rattle.cbt_base.specs.Keyed.{with_pair}
use Rattle.cbt_json.specs.declared.value.Json.{Json}
use Rattle.cbt_json.specs.Attributes.{no_attributes, kept_attributes}
use Rattle.cbt_model.specs.History.{is_done}
use Rattle.cbt_model.specs.Keys.{id_cmp, doc_at, entry_at}
use Rattle.cbt_model.specs.Table.{Row, SetsDoc, SetsEntry, DropsEntry, SetsClients, refused, takes, row, read_doc_row, stage_row, publish_row, delete_row, unstick_row, read_entry_row, add_entry_row, decide_row, drop_entry_row, is_pending, may_drop, no_lists, without_gone}
use Rattle.cbt_model.specs.declared.documents.DocState.{DocState}
use Rattle.cbt_model.specs.declared.documents.Stage.{Stage}
use Rattle.cbt_model.specs.declared.entries.Entry.{Entry}
use Rattle.cbt_model.specs.declared.entries.EntryState.{EntryState}
use Rattle.cbt_model.specs.declared.entries.EntryState.TheVariants.{Pending, Committed, Aborted}
use Rattle.cbt_model.specs.declared.entries.Lists.{Lists}
use Rattle.cbt_model.specs.declared.states.State.{State}
use Rattle.cbt_model.specs.declared.steps.Expect.{Expect}
use Rattle.cbt_model.specs.declared.steps.Expect.TheVariants as expect
use Rattle.cbt_model.specs.declared.steps.Reply.{Reply}
use Rattle.cbt_model.specs.declared.steps.Step.{Step}
use Rattle.cbt_model.specs.declared.steps.Step.TheVariants as step

pub data Does (s : State) (c : ℕ) : Step → Row → Type 0 where
  refuses : (st : Step) (r : Reply) → is_done r ≡ false → Does s c st (refused r)
  stages_new : (d : List ℕ) (stage : Stage) → doc_at s d ≡ None
      → Does s c (step.Stage d expect.New stage) (takes c (SetsDoc d (record { cas = c; body = None; attrs = no_attributes; stage = Some stage })))
  stages_over : (d : List ℕ) (x : ℕ) (stage : Stage) (old : DocState) → doc_at s d ≡ Some old → old.cas ≡ x
      → Does s c (step.Stage d (expect.Cas x) stage) (takes c (SetsDoc d (record { cas = c; body = old.body; attrs = old.attrs; stage = Some stage })))
  publishes : (d : List ℕ) (x : ℕ) (body : Json) (old : DocState) → doc_at s d ≡ Some old → old.cas ≡ x
      → Does s c (step.Publish d x body) (takes c (SetsDoc d (record { cas = c; body = Some body; attrs = old.attrs; stage = None })))
  deletes : (d : List ℕ) (x : ℕ) (old : DocState) → doc_at s d ≡ Some old → old.cas ≡ x
      → Does s c (step.Delete d x) (takes c (SetsDoc d (record { cas = c; body = None; attrs = kept_attributes old.attrs; stage = None })))
  unsticks : (d : List ℕ) (x : ℕ) (old : DocState) → doc_at s d ≡ Some old → old.cas ≡ x
      → Does s c (step.Unstick d x) (takes c (SetsDoc d (record { cas = c; body = old.body; attrs = old.attrs; stage = None })))
  adds : (r a exp : ℕ) → entry_at s (r, a) ≡ None
      → Does s c (step.AddEntry r a exp) (takes c (SetsEntry (r, a) (record { state = Pending; start = c; exp = exp; lists = no_lists })))
  commits : (r a : ℕ) (lists : Lists) (old : Entry) → entry_at s (r, a) ≡ Some old → old.state ≡ Pending
      → Does s c (step.Commit r a lists) (takes c (SetsEntry (r, a) (record { state = Committed; start = old.start; exp = old.exp; lists = lists })))
  aborts : (r a : ℕ) (lists : Lists) (old : Entry) → entry_at s (r, a) ≡ Some old → old.state ≡ Pending
      → Does s c (step.Abort r a lists) (takes c (SetsEntry (r, a) (record { state = Aborted; start = old.start; exp = old.exp; lists = lists })))
  drops : (r a : ℕ) (guarded : Bool) (old : Entry) → entry_at s (r, a) ≡ Some old → may_drop guarded old.state ≡ true
      → Does s c (step.DropEntry r a guarded) (takes c (DropsEntry (r, a)))
  beats : (me expires n : ℕ) (gone : List ℕ)
      → Does s c (step.Beat me expires n gone)
      (takes c (SetsClients (without_gone me gone (with_pair id_cmp s.clients me (record { heartbeat = c; expires = expires; num_atrs = n })))))

pending_true : (state : EntryState) → is_pending state ≡ true → state ≡ Pending
pending_true Pending is = refl
pending_true Committed is = absurd (cc)
pending_true Aborted is = absurd (cc)

module _ (s : State) (c : ℕ) where
  -- a test that decides between a done row and a refused one
  by_test : (st : Step) (done : Row) (r : Reply) (b : Bool) → (b ≡ true → Does s c st done) → is_done r ≡ false → Does s c st (cond b done (refused r))
  by_test st done r true takes not_done = takes refl
  by_test st done r false takes not_done = refuses st r not_done

  does_stage : (d : List ℕ) (e : Expect) (stage : Stage) (o : Option DocState) → doc_at s d ≡ o → Does s c (step.Stage d e stage) (stage_row c d e stage o)
  does_stage d expect.New stage (Some old) at = refuses _ _ refl
  does_stage d expect.New stage None at = stages_new d stage at
  does_stage d (expect.Cas x) stage None at = refuses _ _ refl
  does_stage d (expect.Cas x) stage (Some old) at = by_test _ _ _ (nat_eq old.cas x) (λ same. stages_over d x stage old at (same_true old.cas x same)) refl

  does_publish : (d : List ℕ) (x : ℕ) (body : Json) (o : Option DocState) → doc_at s d ≡ o → Does s c (step.Publish d x body) (publish_row c d x body o)
  does_publish d x body None at = refuses _ _ refl
  does_publish d x body (Some old) at = by_test _ _ _ (nat_eq old.cas x) (λ same. publishes d x body old at (same_true old.cas x same)) refl

  does_delete : (d : List ℕ) (x : ℕ) (o : Option DocState) → doc_at s d ≡ o → Does s c (step.Delete d x) (delete_row c d x o)
  does_delete d x None at = refuses _ _ refl
  does_delete d x (Some old) at = by_test _ _ _ (nat_eq old.cas x) (λ same. deletes d x old at (same_true old.cas x same)) refl

  does_unstick : (d : List ℕ) (x : ℕ) (o : Option DocState) → doc_at s d ≡ o → Does s c (step.Unstick d x) (unstick_row c d x o)
  does_unstick d x None at = refuses _ _ refl
  does_unstick d x (Some old) at = by_test _ _ _ (nat_eq old.cas x) (λ same. unsticks d x old at (same_true old.cas x same)) refl

  does_add : (r a exp : ℕ) (o : Option Entry) → entry_at s (r, a) ≡ o → Does s c (step.AddEntry r a exp) (add_entry_row c (r, a) exp o)
  does_add r a exp (Some old) at = refuses _ _ refl
  does_add r a exp None at = adds r a exp at

  does_commit : (r a : ℕ) (lists : Lists) (o : Option Entry) → entry_at s (r, a) ≡ o → Does s c (step.Commit r a lists) (decide_row c (r, a) Committed lists o)
  does_commit r a lists None at = refuses _ _ refl
  does_commit r a lists (Some old) at = by_test _ _ _ (is_pending old.state) (λ is. commits r a lists old at (pending_true old.state is)) refl

  does_abort : (r a : ℕ) (lists : Lists) (o : Option Entry) → entry_at s (r, a) ≡ o → Does s c (step.Abort r a lists) (decide_row c (r, a) Aborted lists o)
  does_abort r a lists None at = refuses _ _ refl
  does_abort r a lists (Some old) at = by_test _ _ _ (is_pending old.state) (λ is. aborts r a lists old at (pending_true old.state is)) refl

  does_drop : (r a : ℕ) (guarded : Bool) (o : Option Entry) → entry_at s (r, a) ≡ o → Does s c (step.DropEntry r a guarded) (drop_entry_row c (r, a) guarded o)
  does_drop r a guarded None at = refuses _ _ refl
  does_drop r a guarded (Some old) at = by_test _ _ _ (may_drop guarded old.state) (λ may. drops r a guarded old at may) refl

  does_read_doc : (d : List ℕ) (o : Option DocState) → Does s c (step.ReadDoc d) (read_doc_row o)
  does_read_doc d None = refuses _ _ refl
  does_read_doc d (Some old) = refuses _ _ refl

  does_read_entry : (r a : ℕ) (o : Option Entry) → Does s c (step.ReadEntry r a) (read_entry_row o)
  does_read_entry r a None = refuses _ _ refl
  does_read_entry r a (Some old) = refuses _ _ refl

  -- each row of the table is one of these
  pub does : (st : Step) → Does s c st (row s c st)
  unfolding row
  does (step.ReadDoc d) = does_read_doc d (doc_at s d)
  does (step.Stage d e stage) = does_stage d e stage (doc_at s d) refl
  does (step.Publish d x body) = does_publish d x body (doc_at s d) refl
  does (step.Delete d x) = does_delete d x (doc_at s d) refl
  does (step.Unstick d x) = does_unstick d x (doc_at s d) refl
  does (step.ReadEntry r a) = does_read_entry r a (entry_at s (r, a))
  does (step.AddEntry r a exp) = does_add r a exp (entry_at s (r, a)) refl
  does (step.Commit r a lists) = does_commit r a lists (entry_at s (r, a)) refl
  does (step.Abort r a lists) = does_abort r a lists (entry_at s (r, a)) refl
  does (step.DropEntry r a guarded) = does_drop r a guarded (entry_at s (r, a)) refl
  does (step.ReadAtr r) = refuses _ _ refl
  does step.ReadClients = refuses _ _ refl
  does (step.Beat me expires n gone) = beats me expires n gone
