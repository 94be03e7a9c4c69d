-- The table never answers Failed, and what the laws of steps and fates say.
use Rattle.std.proofs.Common.{◌≡◌, ◌≢◌, ℕ, Bool, true, false, cond, nat_eq, ◌⊎◌, inl, inr, List, Option, Some, None, refl, sym, ap, ◌∙◌}
use Rattle.cbt_base.specs.Clock.{clock_read, clock_mutated}
use Rattle.cbt_json.specs.declared.value.Json.{Json}
use Rattle.cbt_model.specs.History.{is_done, outcome, happens, row_at_event, by_fate}
use Rattle.cbt_model.specs.Keys.{IsOrdered, doc_at, entry_at}
use Rattle.cbt_model.specs.Table.{Row, row, changed, apply_to, touches, touches_doc, read_doc_row, stage_row, publish_row, delete_row, unstick_row, read_entry_row, add_entry_row, decide_row, drop_entry_row, is_pending, may_drop}
use Rattle.cbt_model.specs.declared.documents.DocState.{DocState}
use Rattle.cbt_model.specs.declared.documents.Stage.{Stage}
use Rattle.cbt_model.specs.declared.entries.Entry.{Entry}
use Rattle.cbt_model.specs.declared.entries.EntryState.{EntryState}
use Rattle.cbt_model.specs.declared.entries.EntryState.TheVariants.{Committed, Aborted}
use Rattle.cbt_model.specs.declared.entries.Lists.{Lists}
use Rattle.cbt_model.specs.declared.events.Event.{Event}
use Rattle.cbt_model.specs.declared.events.Fate.{Fate}
use Rattle.cbt_model.specs.declared.events.Fate.TheVariants.{Plain, Lost, Late}
use Rattle.cbt_model.specs.declared.states.State.{State}
use Rattle.cbt_model.specs.declared.steps.Expect.{Expect}
use Rattle.cbt_model.specs.declared.steps.Expect.TheVariants as expect
use Rattle.cbt_model.specs.declared.steps.Reply.{Reply}
use Rattle.cbt_model.specs.declared.steps.Reply.TheVariants as reply
use Rattle.cbt_model.specs.declared.steps.Step.{Step}
use Rattle.cbt_model.specs.declared.steps.Step.TheVariants as step
use Rattle.cbt_model.proofs.Does.{Does, does, refuses, stages_new, stages_over, publishes, deletes, unsticks, adds, commits, aborts, drops, beats}
use Rattle.cbt_model.proofs.Moves.{EntryMove, DocMove, same, added, committed, aborted, dropped, staged_new, staged_over, published, deleted, unstuck, entry_moves, doc_moves, quiet_row, done_last}

abbrev is_failed : Reply → Bool
is_failed reply.Failed = true
is_failed _ = false

either : (b : Bool) (one two : Row) → is_failed one.reply ≡ false → is_failed two.reply ≡ false → is_failed (cond b one two).reply ≡ false
either true one two first second = first
either false one two first second = second

stage_told : (c : ℕ) (d : List ℕ) (e : Expect) (stage : Stage) (o : Option DocState) → is_failed (stage_row c d e stage o).reply ≡ false
stage_told c d expect.New stage None = refl
stage_told c d expect.New stage (Some old) = refl
stage_told c d (expect.Cas x) stage None = refl
stage_told c d (expect.Cas x) stage (Some old) = either (nat_eq old.cas x) _ _ refl refl

publish_told : (c : ℕ) (d : List ℕ) (x : ℕ) (body : Json) (o : Option DocState) → is_failed (publish_row c d x body o).reply ≡ false
publish_told c d x body None = refl
publish_told c d x body (Some old) = either (nat_eq old.cas x) _ _ refl refl

delete_told : (c : ℕ) (d : List ℕ) (x : ℕ) (o : Option DocState) → is_failed (delete_row c d x o).reply ≡ false
delete_told c d x None = refl
delete_told c d x (Some old) = either (nat_eq old.cas x) _ _ refl refl

unstick_told : (c : ℕ) (d : List ℕ) (x : ℕ) (o : Option DocState) → is_failed (unstick_row c d x o).reply ≡ false
unstick_told c d x None = refl
unstick_told c d x (Some old) = either (nat_eq old.cas x) _ _ refl refl

read_doc_told : (o : Option DocState) → is_failed (read_doc_row o).reply ≡ false
read_doc_told None = refl
read_doc_told (Some d) = refl

read_entry_told : (o : Option Entry) → is_failed (read_entry_row o).reply ≡ false
read_entry_told None = refl
read_entry_told (Some e) = refl

add_told : (c : ℕ) (key : ℕ × ℕ) (exp : ℕ) (o : Option Entry) → is_failed (add_entry_row c key exp o).reply ≡ false
add_told c key exp None = refl
add_told c key exp (Some e) = refl

decide_told : (c : ℕ) (key : ℕ × ℕ) (state : EntryState) (lists : Lists) (o : Option Entry) → is_failed (decide_row c key state lists o).reply ≡ false
decide_told c key state lists None = refl
decide_told c key state lists (Some e) = either (is_pending e.state) _ _ refl refl

drop_told : (c : ℕ) (key : ℕ × ℕ) (guarded : Bool) (o : Option Entry) → is_failed (drop_entry_row c key guarded o).reply ≡ false
drop_told c key guarded None = refl
drop_told c key guarded (Some e) = either (may_drop guarded e.state) _ _ refl refl

row_told : (s : State) (c : ℕ) (st : Step) → is_failed (row s c st).reply ≡ false
unfolding row
row_told s c (step.ReadDoc d) = read_doc_told (doc_at s d)
row_told s c (step.Stage d e stage) = stage_told c d e stage (doc_at s d)
row_told s c (step.Publish d x body) = publish_told c d x body (doc_at s d)
row_told s c (step.Delete d x) = delete_told c d x (doc_at s d)
row_told s c (step.Unstick d x) = unstick_told c d x (doc_at s d)
row_told s c (step.ReadEntry r a) = read_entry_told (entry_at s (r, a))
row_told s c (step.AddEntry r a exp) = add_told c (r, a) exp (entry_at s (r, a))
row_told s c (step.Commit r a lists) = decide_told c (r, a) Committed lists (entry_at s (r, a))
row_told s c (step.Abort r a lists) = decide_told c (r, a) Aborted lists (entry_at s (r, a))
row_told s c (step.DropEntry r a guarded) = drop_told c (r, a) guarded (entry_at s (r, a))
row_told s c (step.ReadAtr r) = refl
row_told s c step.ReadClients = refl
row_told s c (step.Beat me expires n gone) = refl

-- the table never answers Failed
pub row-not_failed : (s : State) (c : ℕ) (st : Step) → (row s c st).reply ≢ reply.Failed
row-not_failed s c st is = differ (sym (row_told s c st) ∙ ap is_failed is)
  where
    differ : false ≡ true → ⊥
    differ e = cc

pub refused-quiet : (s : State) (r : ℕ) (st : Step) → is_done (apply_to s r st).1 ≡ false → (apply_to s r st).0 ≡ record s { last = clock_read s.last r }
refused-quiet s r st not_done = ap (λ change. changed s r change) (quiet_row s (clock_mutated s.last r) st not_done)

pub done-clock : (s : State) (r : ℕ) (st : Step) → is_done (apply_to s r st).1 ≡ true → (apply_to s r st).0.last ≡ clock_mutated s.last r
done-clock s r st done = done_last s (clock_mutated s.last r) r st done

-- a document that a step does not name
pub other-doc : (s : State) (r : ℕ) (st : Step) (d : List ℕ) → touches_doc st ≢ Some d → doc_at (apply_to s r st).0 d ≡ doc_at s d
other-doc s r st d other = go (is_done (apply_to s r st).1) refl
  where
    stays : (next : Option DocState) → DocMove s (clock_mutated s.last r) st d next → next ≡ doc_at s d
    stays next (same apart is) = is
    stays next (staged_new stage is at now) = absurd (other (ap touches_doc is))
    stays next (staged_over x stage old is at cas now) = absurd (other (ap touches_doc is))
    stays next (published x body old is at cas now) = absurd (other (ap touches_doc is))
    stays next (deleted x old is at cas now) = absurd (other (ap touches_doc is))
    stays next (unstuck x old is at cas now) = absurd (other (ap touches_doc is))

    go : (b : Bool) → is_done (apply_to s r st).1 ≡ b → doc_at (apply_to s r st).0 d ≡ doc_at s d
    go true done = stays _ (doc_moves s (clock_mutated s.last r) r st d done)
    go false not_done = ap (λ x. doc_at x d) (refused-quiet s r st not_done)

-- an entry that a step does not name
pub other-entry : (s : State) (r : ℕ) (st : Step) (k : ℕ × ℕ) → IsOrdered s → touches st ≢ Some k → entry_at (apply_to s r st).0 k ≡ entry_at s k
other-entry s r st k ordered other = go (is_done (apply_to s r st).1) refl
  where
    stays : (next : Option Entry) → EntryMove s (clock_mutated s.last r) st k next → next ≡ entry_at s k
    stays next (same apart is) = is
    stays next (added exp is at now) = absurd (other (ap touches is))
    stays next (committed lists old is at pending now) = absurd (other (ap touches is))
    stays next (aborted lists old is at pending now) = absurd (other (ap touches is))
    stays next (dropped guarded old is at may now) = absurd (other (ap touches is))

    go : (b : Bool) → is_done (apply_to s r st).1 ≡ b → entry_at (apply_to s r st).0 k ≡ entry_at s k
    go true done = stays _ (entry_moves s (clock_mutated s.last r) r st k ordered done)
    go false not_done = ap (λ x. entry_at x k) (refused-quiet s r st not_done)

-- the rows of the client record, by a step that changes a document or an entry
kept-rows : (s : State) (c r : ℕ) {st : Step} {it : Row} → Does s c st it → (touches_doc st ≢ None) ⊎ (touches st ≢ None) → (changed s r it.change).clients ≡ s.clients
kept-rows s c r (refuses st answer not_done) named = refl
kept-rows s c r (stages_new d stage at) named = refl
kept-rows s c r (stages_over d x stage old at cas) named = refl
kept-rows s c r (publishes d x body old at cas) named = refl
kept-rows s c r (deletes d x old at cas) named = refl
kept-rows s c r (unsticks d x old at cas) named = refl
kept-rows s c r (adds ar a exp at) named = refl
kept-rows s c r (commits ar a lists old at pending) named = refl
kept-rows s c r (aborts ar a lists old at pending) named = refl
kept-rows s c r (drops ar a guarded old at may) named = refl
kept-rows s c r (beats me expires n gone) (inl doc) = absurd (doc refl)
kept-rows s c r (beats me expires n gone) (inr entry) = absurd (entry refl)

pub same-rows : (s : State) (r : ℕ) (st : Step) → (touches_doc st ≢ None) ⊎ (touches st ≢ None) → (apply_to s r st).0.clients ≡ s.clients
same-rows s r st named = kept-rows s (clock_mutated s.last r) r (does s (clock_mutated s.last r) st) named

pub one-kind : (st : Step) → (touches_doc st ≡ None) ⊎ (touches st ≡ None)
one-kind (step.ReadDoc d) = inl refl
one-kind (step.Stage d e stage) = inr refl
one-kind (step.Publish d x body) = inr refl
one-kind (step.Delete d x) = inr refl
one-kind (step.Unstick d x) = inr refl
one-kind (step.ReadEntry r a) = inl refl
one-kind (step.AddEntry r a exp) = inl refl
one-kind (step.Commit r a lists) = inl refl
one-kind (step.Abort r a lists) = inl refl
one-kind (step.DropEntry r a guarded) = inl refl
one-kind (step.ReadAtr r) = inl refl
one-kind step.ReadClients = inl refl
one-kind (step.Beat me expires n gone) = inl refl

pub lost-quiet : (s : State) (e : Event) → e.fate ≡ Lost → happens s e ≡ record s { last = clock_read s.last e.reading }
lost-quiet s e is = ap (λ f. changed s e.reading (by_fate f (row_at_event s e)).change) is

pub others-happen : (s : State) (e : Event) → e.fate ≢ Lost → happens s e ≡ (apply_to s e.reading e.step).0
others-happen s e other = go e.fate other
  where
    go : (f : Fate) → f ≢ Lost → changed s e.reading (by_fate f (row_at_event s e)).change ≡ (apply_to s e.reading e.step).0
    go Plain apart = refl
    go Lost apart = absurd (apart refl)
    go Late apart = refl

pub others-failed : (s : State) (e : Event) → e.fate ≢ Plain → (outcome s e).reply ≡ reply.Failed
others-failed s e other = go e.fate other
  where
    go : (f : Fate) → f ≢ Plain → (by_fate f (row_at_event s e)).reply ≡ reply.Failed
    go Plain apart = absurd (apart refl)
    go Lost apart = refl
    go Late apart = refl

pub plain-told : (s : State) (e : Event) → e.fate ≡ Plain → ((outcome s e).reply ≡ (apply_to s e.reading e.step).1) × ((outcome s e).reply ≢ reply.Failed)
plain-told s e is =
    let told : (outcome s e).reply ≡ (apply_to s e.reading e.step).1 = ap (λ f. (by_fate f (row_at_event s e)).reply) is in
    (told, λ failed. row-not_failed s (clock_mutated s.last e.reading) e.step (sym told ∙ failed))
