-- What one step makes of one entry and of one document, by look-ups: the state before, the stamp c, the step, the key, and
-- what stands at the key afterwards.
use Rattle.std.proofs.Common.{◌≡◌, ◌≢◌, ℕ, Bool, true, false, ⊎_elim, List, Option, Some, None, refl, sym, ap, ◌∙◌}
use Rattle.std.specs.Ordering.{is_eq}
use Rattle.cbt_base.specs.Clock.{clock_mutated}
use Rattle.cbt_json.specs.declared.value.Json.{Json}
use Rattle.cbt_json.specs.Attributes.{no_attributes, kept_attributes}
use Rattle.cbt_model.specs.History.{is_done}
use Rattle.cbt_model.specs.Keys.{IsOrdered, doc_cmp, entry_cmp, doc_at, entry_at}
use Rattle.cbt_model.specs.Table.{Row, Nothing, SetsDoc, SetsEntry, DropsEntry, changed, row, may_drop, no_lists, touches, touches_doc}
use Rattle.cbt_model.specs.declared.documents.DocState.{DocState}
use Rattle.cbt_model.specs.declared.documents.Stage.{Stage}
use Rattle.cbt_model.specs.declared.entries.Entry.{Entry}
use Rattle.cbt_model.specs.declared.entries.EntryState.TheVariants.{Pending, Committed, Aborted}
use Rattle.cbt_model.specs.declared.entries.Lists.{Lists}
use Rattle.cbt_model.specs.declared.states.State.{State}
use Rattle.cbt_model.specs.declared.steps.Expect.TheVariants as expect
use Rattle.cbt_model.specs.declared.steps.Reply.TheVariants as reply
use Rattle.cbt_model.specs.declared.steps.Step.{Step}
use Rattle.cbt_model.specs.declared.steps.Step.TheVariants as step
use Rattle.cbt_model.proofs.Does.{Does, does, refuses, stages_new, stages_over, publishes, deletes, unsticks, adds, commits, aborts, drops, beats}
use Rattle.cbt_model.proofs.Lookups.{set_there, set_elsewhere, gone_there, gone_elsewhere}
use Rattle.cbt_model.proofs.Orders.{doc_order, entry_order, key_cases}

-- what a step makes of the entry k
pub data EntryMove (s : State) (c : ℕ) (st : Step) (k : ℕ × ℕ) (next : Option Entry) : Type 0 where
  same : touches st ≢ Some k → next ≡ entry_at s k → EntryMove s c st k next
  added : (exp : ℕ) → st ≡ step.AddEntry k.0 k.1 exp → entry_at s k ≡ None
      → next ≡ Some (record { state = Pending; start = c; exp = exp; lists = no_lists }) → EntryMove s c st k next
  committed : (lists : Lists) (old : Entry) → st ≡ step.Commit k.0 k.1 lists → entry_at s k ≡ Some old → old.state ≡ Pending
      → next ≡ Some (record { state = Committed; start = old.start; exp = old.exp; lists = lists }) → EntryMove s c st k next
  aborted : (lists : Lists) (old : Entry) → st ≡ step.Abort k.0 k.1 lists → entry_at s k ≡ Some old → old.state ≡ Pending
      → next ≡ Some (record { state = Aborted; start = old.start; exp = old.exp; lists = lists }) → EntryMove s c st k next
  dropped : (guarded : Bool) (old : Entry) → st ≡ step.DropEntry k.0 k.1 guarded → entry_at s k ≡ Some old → may_drop guarded old.state ≡ true
      → next ≡ None → EntryMove s c st k next

-- what a step makes of the document d
pub data DocMove (s : State) (c : ℕ) (st : Step) (d : List ℕ) (next : Option DocState) : Type 0 where
  same : touches_doc st ≢ Some d → next ≡ doc_at s d → DocMove s c st d next
  staged_new : (stage : Stage) → st ≡ step.Stage d expect.New stage → doc_at s d ≡ None
      → next ≡ Some (record { cas = c; body = None; attrs = no_attributes; stage = Some stage }) → DocMove s c st d next
  staged_over : (x : ℕ) (stage : Stage) (old : DocState) → st ≡ step.Stage d (expect.Cas x) stage → doc_at s d ≡ Some old → old.cas ≡ x
      → next ≡ Some (record { cas = c; body = old.body; attrs = old.attrs; stage = Some stage }) → DocMove s c st d next
  published : (x : ℕ) (body : Json) (old : DocState) → st ≡ step.Publish d x body → doc_at s d ≡ Some old → old.cas ≡ x
      → next ≡ Some (record { cas = c; body = Some body; attrs = old.attrs; stage = None }) → DocMove s c st d next
  deleted : (x : ℕ) (old : DocState) → st ≡ step.Delete d x → doc_at s d ≡ Some old → old.cas ≡ x
      → next ≡ Some (record { cas = c; body = None; attrs = kept_attributes old.attrs; stage = None }) → DocMove s c st d next
  unstuck : (x : ℕ) (old : DocState) → st ≡ step.Unstick d x → doc_at s d ≡ Some old → old.cas ≡ x
      → next ≡ Some (record { cas = c; body = old.body; attrs = old.attrs; stage = None }) → DocMove s c st d next

-- a row that is not Done changes nothing
pub not_done-changes_nothing : (s : State) (c : ℕ) {st : Step} {it : Row} → Does s c st it → is_done it.reply ≡ false → it.change ≡ Nothing
not_done-changes_nothing s c (refuses st r not_done) is = refl
not_done-changes_nothing s c (stages_new d stage at) is = absurd (cc)
not_done-changes_nothing s c (stages_over d x stage old at cas) is = absurd (cc)
not_done-changes_nothing s c (publishes d x body old at cas) is = absurd (cc)
not_done-changes_nothing s c (deletes d x old at cas) is = absurd (cc)
not_done-changes_nothing s c (unsticks d x old at cas) is = absurd (cc)
not_done-changes_nothing s c (adds r a exp at) is = absurd (cc)
not_done-changes_nothing s c (commits r a lists old at pending) is = absurd (cc)
not_done-changes_nothing s c (aborts r a lists old at pending) is = absurd (cc)
not_done-changes_nothing s c (drops r a guarded old at may) is = absurd (cc)
not_done-changes_nothing s c (beats me expires n gone) is = absurd (cc)

-- a Done row has the stamp
pub done-stamp : (s : State) (c : ℕ) {st : Step} {it : Row} → Does s c st it → is_done it.reply ≡ true → it.reply ≡ reply.Done c
done-stamp s c (refuses st r not_done) is = absurd (cc)
done-stamp s c (stages_new d stage at) is = refl
done-stamp s c (stages_over d x stage old at cas) is = refl
done-stamp s c (publishes d x body old at cas) is = refl
done-stamp s c (deletes d x old at cas) is = refl
done-stamp s c (unsticks d x old at cas) is = refl
done-stamp s c (adds r a exp at) is = refl
done-stamp s c (commits r a lists old at pending) is = refl
done-stamp s c (aborts r a lists old at pending) is = refl
done-stamp s c (drops r a guarded old at may) is = refl
done-stamp s c (beats me expires n gone) is = refl

-- a Done row moves the clock to the stamp of a change
done-clock : (s : State) (c r : ℕ) {st : Step} {it : Row} → Does s c st it → is_done it.reply ≡ true → (changed s r it.change).last ≡ clock_mutated s.last r
done-clock s c r (refuses st answer not_done) is = absurd (cc)
done-clock s c r (stages_new d stage at) is = refl
done-clock s c r (stages_over d x stage old at cas) is = refl
done-clock s c r (publishes d x body old at cas) is = refl
done-clock s c r (deletes d x old at cas) is = refl
done-clock s c r (unsticks d x old at cas) is = refl
done-clock s c r (adds ar a exp at) is = refl
done-clock s c r (commits ar a lists old at pending) is = refl
done-clock s c r (aborts ar a lists old at pending) is = refl
done-clock s c r (drops ar a guarded old at may) is = refl
done-clock s c r (beats me expires n gone) is = refl

some_same : {X : Type 0} (x y : X) → Some x ≡ Some y → x ≡ y
some_same x y e = cc

-- a done row that touches one entry, seen at each entry
module _ (s : State) (c r : ℕ) (k : ℕ × ℕ) where
  set_entry : (st : Step) (key : ℕ × ℕ) (e : Entry) → touches st ≡ Some key
      → (k ≡ key → (next : Option Entry) → next ≡ Some e → EntryMove s c st k next)
      → EntryMove s c st k (entry_at (changed s r (SetsEntry key e)) k)
  set_entry st key e is here = ⊎_elim
      (λ (l : (is_eq (entry_cmp k key) ≡ true) × (k ≡ key)).
      here l.1 _ (ap (λ q. entry_at (changed s r (SetsEntry key e)) q) l.1 ∙ set_there entry_order s.entries key e))
      (λ (n : (is_eq (entry_cmp k key) ≡ false) × (k ≢ key)).
      same (λ q. n.1 (some_same k key (sym q ∙ is))) (set_elsewhere entry_order s.entries key k e n.1))
      (key_cases entry_order k key)

  drop_entry : (st : Step) (key : ℕ × ℕ) → IsOrdered s → touches st ≡ Some key
      → (k ≡ key → (next : Option Entry) → next ≡ None → EntryMove s c st k next)
      → EntryMove s c st k (entry_at (changed s r (DropsEntry key)) k)
  drop_entry st key ordered is here = ⊎_elim
      (λ (l : (is_eq (entry_cmp k key) ≡ true) × (k ≡ key)).
      here l.1 _ (ap (λ q. entry_at (changed s r (DropsEntry key)) q) l.1 ∙ gone_there entry_order s.entries key ordered.entries))
      (λ (n : (is_eq (entry_cmp k key) ≡ false) × (k ≢ key)).
      same (λ q. n.1 (some_same k key (sym q ∙ is))) (gone_elsewhere entry_order s.entries key k ordered.entries n.1))
      (key_cases entry_order k key)

  untouched : (st : Step) → touches st ≡ None → EntryMove s c st k (entry_at s k)
  untouched st is = same (λ q. none_some k (sym is ∙ q)) refl
    where
      none_some : (x : ℕ × ℕ) → None ≡ Some x → ⊥
      none_some x e = cc

  -- what a step that is done makes of each entry
  pub entry_move : {st : Step} {it : Row} → Does s c st it → is_done it.reply ≡ true → IsOrdered s → EntryMove s c st k (entry_at (changed s r it.change) k)
  entry_move (refuses st answer not_done) is ordered = absurd (cc)
  entry_move (stages_new d stage at) is ordered = untouched _ refl
  entry_move (stages_over d x stage old at cas) is ordered = untouched _ refl
  entry_move (publishes d x body old at cas) is ordered = untouched _ refl
  entry_move (deletes d x old at cas) is ordered = untouched _ refl
  entry_move (unsticks d x old at cas) is ordered = untouched _ refl
  entry_move (adds ar a exp at) is ordered =
      set_entry _ (ar, a) _ refl (λ e next now. added exp (ap (λ (q : ℕ × ℕ). step.AddEntry q.0 q.1 exp) (sym e)) (ap (λ q. entry_at s q) e ∙ at) now)
  entry_move (commits ar a lists old at pending) is ordered =
      set_entry _ (ar, a) _ refl (λ e next now. committed lists old (ap (λ (q : ℕ × ℕ). step.Commit q.0 q.1 lists) (sym e)) (ap (λ q. entry_at s q) e ∙ at) pending now)
  entry_move (aborts ar a lists old at pending) is ordered =
      set_entry _ (ar, a) _ refl (λ e next now. aborted lists old (ap (λ (q : ℕ × ℕ). step.Abort q.0 q.1 lists) (sym e)) (ap (λ q. entry_at s q) e ∙ at) pending now)
  entry_move (drops ar a guarded old at may) is ordered =
      drop_entry _ (ar, a) ordered refl (λ e next now. dropped guarded old (ap (λ (q : ℕ × ℕ). step.DropEntry q.0 q.1 guarded) (sym e)) (ap (λ q. entry_at s q) e ∙ at) may now)
  entry_move (beats me expires n gone) is ordered = untouched _ refl

-- a done row that touches one document, seen at each document
module _ (s : State) (c r : ℕ) (d : List ℕ) where
  set_doc : (st : Step) (key : List ℕ) (x : DocState) → touches_doc st ≡ Some key
      → (d ≡ key → (next : Option DocState) → next ≡ Some x → DocMove s c st d next)
      → DocMove s c st d (doc_at (changed s r (SetsDoc key x)) d)
  set_doc st key x is here = ⊎_elim
      (λ (l : (is_eq (doc_cmp d key) ≡ true) × (d ≡ key)).
      here l.1 _ (ap (λ q. doc_at (changed s r (SetsDoc key x)) q) l.1 ∙ set_there doc_order s.docs key x))
      (λ (n : (is_eq (doc_cmp d key) ≡ false) × (d ≢ key)).
      same (λ q. n.1 (some_same d key (sym q ∙ is))) (set_elsewhere doc_order s.docs key d x n.1))
      (key_cases doc_order d key)

  untouched_doc : (st : Step) → touches_doc st ≡ None → DocMove s c st d (doc_at s d)
  untouched_doc st is = same (λ q. none_some d (sym is ∙ q)) refl
    where
      none_some : (x : List ℕ) → None ≡ Some x → ⊥
      none_some x e = cc

  -- what a step that is done makes of each document
  pub doc_move : {st : Step} {it : Row} → Does s c st it → is_done it.reply ≡ true → DocMove s c st d (doc_at (changed s r it.change) d)
  doc_move (refuses st answer not_done) is = absurd (cc)
  doc_move (stages_new key stage at) is =
      set_doc _ key _ refl (λ e next now. staged_new stage (ap (λ q. step.Stage q expect.New stage) (sym e)) (ap (λ q. doc_at s q) e ∙ at) now)
  doc_move (stages_over key x stage old at cas) is =
      set_doc _ key _ refl (λ e next now. staged_over x stage old (ap (λ q. step.Stage q (expect.Cas x) stage) (sym e)) (ap (λ q. doc_at s q) e ∙ at) cas now)
  doc_move (publishes key x body old at cas) is =
      set_doc _ key _ refl (λ e next now. published x body old (ap (λ q. step.Publish q x body) (sym e)) (ap (λ q. doc_at s q) e ∙ at) cas now)
  doc_move (deletes key x old at cas) is =
      set_doc _ key _ refl (λ e next now. deleted x old (ap (λ q. step.Delete q x) (sym e)) (ap (λ q. doc_at s q) e ∙ at) cas now)
  doc_move (unsticks key x old at cas) is =
      set_doc _ key _ refl (λ e next now. unstuck x old (ap (λ q. step.Unstick q x) (sym e)) (ap (λ q. doc_at s q) e ∙ at) cas now)
  doc_move (adds ar a exp at) is = untouched_doc _ refl
  doc_move (commits ar a lists old at pending) is = untouched_doc _ refl
  doc_move (aborts ar a lists old at pending) is = untouched_doc _ refl
  doc_move (drops ar a guarded old at may) is = untouched_doc _ refl
  doc_move (beats me expires n gone) is = untouched_doc _ refl

-- a step at a state, by the table
pub entry_moves : (s : State) (c r : ℕ) (st : Step) (k : ℕ × ℕ) → IsOrdered s → is_done (row s c st).reply ≡ true → EntryMove s c st k (entry_at (changed s r (row s c st).change) k)
entry_moves s c r st k ordered done = entry_move s c r k (does s c st) done ordered

pub doc_moves : (s : State) (c r : ℕ) (st : Step) (d : List ℕ) → is_done (row s c st).reply ≡ true → DocMove s c st d (doc_at (changed s r (row s c st).change) d)
doc_moves s c r st d done = doc_move s c r d (does s c st) done

pub quiet_row : (s : State) (c : ℕ) (st : Step) → is_done (row s c st).reply ≡ false → (row s c st).change ≡ Nothing
quiet_row s c st not_done = not_done-changes_nothing s c (does s c st) not_done

pub done_row : (s : State) (c : ℕ) (st : Step) → is_done (row s c st).reply ≡ true → (row s c st).reply ≡ reply.Done c
done_row s c st done = done-stamp s c (does s c st) done

pub done_last : (s : State) (c r : ℕ) (st : Step) → is_done (row s c st).reply ≡ true → (changed s r (row s c st).change).last ≡ clock_mutated s.last r
done_last s c r st done = done-clock s c r (does s c st) done
