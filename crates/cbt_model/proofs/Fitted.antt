-- What the table answers fits the step, and a state goes on having fit bodies.
use Rattle.std.proofs.Common.{◌≡◌, ◌≢◌, ℕ, zero, suc, Bool, true, false, cond, ◌&&◌, nat_eq, nat_lt, ⊎_elim, List, [], ◌∷◌, Option, Some, None, refl, sym, ap, ◌∙◌, subst, arith, slice_get, Result, Ok, Err, IfOk, OnErr, IsTrue}
use Rattle.std.proofs.lemmas.Bool.{eqb-true as same_true, and_parts, and_from}
use Rattle.std.proofs.lemmas.Cmp.{tied_itself, nat_cmp_total}
use Rattle.std.proofs.lemmas.Grind.{common_steps}
use Rattle.std.specs.declared.cmp.Ordering.TheVariants.{Less, Equal}
use Rattle.std.specs.List.{AllByRecursion, cons_option}
use Rattle.std.specs.List.Sorted.{IsStrictlySortedBy}
use Rattle.std.specs.Map.{keys_of}
use Rattle.std.specs.Ordering.{nat_cmp, ordering_then, is_eq}
use Rattle.cbt_base.specs.Clock.{clock_mutated}
use Rattle.cbt_base.specs.Keyed.{Rises, with_pair}
use Rattle.cbt_base.specs.declared.memory.NoMemory.{NoMemory}
use Rattle.cbt_json.specs.declared.value.Json.{Json}
use Rattle.cbt_model.specs.Fitting.{body_fits_maybe, stage_fits, stage_fits_maybe, doc_fits, is_above, ids_rise, ids_rise_from, step_fits, fits, fits_read_doc, fits_stage, fits_unstage, fits_read_entry, fits_add_entry, fits_decide, fits_drop, fits_drop_entry, HasFitBodies}
use Rattle.cbt_model.specs.History.{outcome, happens, happens_maybe, after, by_fate, row_at_event}
use Rattle.cbt_model.specs.Keys.{IsOrdered, doc_cmp, entry_cmp, id_cmp, doc_at, entry_at}
use Rattle.cbt_model.specs.Table.{Row, changed, row, read_doc_row, stage_row, publish_row, delete_row, unstick_row, read_entry_row, add_entry_row, decide_row, drop_entry_row, is_pending, may_drop, entries_of, refused, takes, DropsEntry, apply_to}
use Rattle.cbt_model.specs.declared.documents.DocState.{DocState}
use Rattle.cbt_model.specs.declared.documents.Stage.{Stage}
use Rattle.cbt_model.specs.declared.entries.Entry.{Entry}
use Rattle.cbt_model.specs.declared.entries.EntryState.{EntryState}
use Rattle.cbt_model.specs.declared.entries.EntryState.TheVariants.{Pending, Committed, Aborted}
use Rattle.cbt_model.specs.declared.entries.Lists.{Lists}
use Rattle.cbt_model.specs.declared.events.Event.{Event}
use Rattle.cbt_model.specs.declared.events.Fate.{Fate}
use Rattle.cbt_model.specs.declared.events.Fate.TheVariants.{Plain, Lost, Late}
use Rattle.cbt_model.specs.declared.states.State.{State}
use Rattle.cbt_model.specs.declared.steps.Expect.{Expect}
use Rattle.cbt_model.specs.declared.steps.Expect.TheVariants as expect
use Rattle.cbt_model.specs.declared.steps.Reply.{Reply}
use Rattle.cbt_model.specs.declared.steps.Reply.TheVariants as reply
use Rattle.cbt_model.specs.declared.steps.Step.{Step}
use Rattle.cbt_model.specs.declared.steps.Step.TheVariants as step
use Rattle.cbt_model.proofs.Does.{Does, does, refuses, stages_new, stages_over, publishes, deletes, unsticks, adds, commits, aborts, drops, beats}
use Rattle.cbt_model.proofs.Lookups.{set_there, set_elsewhere}
use Rattle.cbt_model.proofs.Orders.{doc_order, key_cases}

all-along : {K : Type 0} (P Q : K → Type 0) (ks : List K) → ((k : K) → P k → Q k) → AllByRecursion P ks → AllByRecursion Q ks
all-along P Q [] more all = tt
all-along P Q (k ∷ ks) more all = (more k all.0, all-along P Q ks more all.1)

below_true : (m n : ℕ) → nat_cmp m n ≡ Less → nat_lt m n ≡ true
below_true m n less = grind (arith, common_steps)

-- keys that rise are ids that rise
rise-from : {X : Type 0} (low : Option ℕ) (es : List (ℕ × X)) → AllByRecursion (λ id. is_above low id ≡ true) (keys_of es) → Rises id_cmp es → ids_rise_from low es ≡ true
unfolding IsStrictlySortedBy
rise-from low [] above rises = refl
rise-from low (e ∷ es) above rises =
    ap (λ b. b && ids_rise_from (Some e.0) es) above.0
    ∙ rise-from (Some e.0) es (all-along (λ y. nat_cmp e.0 y ≡ Less) (λ y. nat_lt e.0 y ≡ true) (keys_of es) (λ y less. below_true e.0 y less) rises.0) rises.1

all-above_none : (ks : List ℕ) → AllByRecursion (λ id. is_above None id ≡ true) ks
all-above_none [] = tt
all-above_none (k ∷ ks) = (refl, all-above_none ks)

pub ids_rise-keys : {X : Type 0} (es : List (ℕ × X)) → Rises id_cmp es → ids_rise es ≡ true
ids_rise-keys es rises = rise-from None es (all-above_none (keys_of es)) rises

-- the entries of one transaction record above an attempt
of_record-above : (atr a : ℕ) (es : List ((ℕ × ℕ) × Entry)) → AllByRecursion (λ y. entry_cmp (atr, a) y ≡ Less) (keys_of es)
    → AllByRecursion (λ y. nat_cmp a y ≡ Less) (keys_of (entries_of atr es))
of_record-above atr a [] all = tt
of_record-above atr a (e ∷ es) all = go (nat_eq e.0.0 atr) refl (of_record-above atr a es all.1)
  where
    second : nat_eq e.0.0 atr ≡ true → ordering_then (nat_cmp atr e.0.0) (nat_cmp a e.0.1) ≡ Less → nat_cmp a e.0.1 ≡ Less
    second same less =
        let tie : nat_cmp atr e.0.0 ≡ Equal = ap (λ n. nat_cmp atr n) (same_true e.0.0 atr same) ∙ tied_itself nat_cmp_total atr in
        sym (ap (λ o. ordering_then o (nat_cmp a e.0.1)) tie) ∙ less

    go : (b : Bool) → nat_eq e.0.0 atr ≡ b → AllByRecursion (λ y. nat_cmp a y ≡ Less) (keys_of (entries_of atr es))
        → AllByRecursion (λ y. nat_cmp a y ≡ Less) (keys_of (cons_option (cond b (Some (e.0.1, e.1)) None) (entries_of atr es)))
    go true same tail = (second same all.0, tail)
    go false other tail = tail

pub entries_of-rises : (atr : ℕ) (es : List ((ℕ × ℕ) × Entry)) → Rises entry_cmp es → Rises id_cmp (entries_of atr es)
unfolding IsStrictlySortedBy
entries_of-rises atr [] rises = tt
entries_of-rises atr (e ∷ es) rises = go (nat_eq e.0.0 atr) refl (entries_of-rises atr es rises.1)
  where
    here : nat_eq e.0.0 atr ≡ true → AllByRecursion (λ y. entry_cmp (atr, e.0.1) y ≡ Less) (keys_of es)
    here same = let P : ℕ → Type 0 = λ n. AllByRecursion (λ y. entry_cmp (n, e.0.1) y ≡ Less) (keys_of es) in subst P (same_true e.0.0 atr same) rises.0

    go : (b : Bool) → nat_eq e.0.0 atr ≡ b → Rises id_cmp (entries_of atr es) → Rises id_cmp (cons_option (cond b (Some (e.0.1, e.1)) None) (entries_of atr es))
    go true same tail = (of_record-above atr e.0.1 es (here same), tail)
    go false other tail = tail

-- either reply of a test fits
either : (F : Reply → Bool) (b : Bool) (one two : Row) → F one.reply ≡ true → F two.reply ≡ true → F (cond b one two).reply ≡ true
either F true one two first second = first
either F false one two first second = second

pub fits-stage_row : (c : ℕ) (d : List ℕ) (e : Expect) (stage : Stage) (o : Option DocState) → fits_stage e (stage_row c d e stage o).reply ≡ true
fits-stage_row c d expect.New stage (Some old) = refl
fits-stage_row c d expect.New stage None = refl
fits-stage_row c d (expect.Cas x) stage None = refl
fits-stage_row c d (expect.Cas x) stage (Some old) = either (fits_stage (expect.Cas x)) (nat_eq old.cas x) _ _ refl refl

pub fits-publish_row : (c : ℕ) (d : List ℕ) (x : ℕ) (body : Json) (o : Option DocState) → fits_unstage (publish_row c d x body o).reply ≡ true
fits-publish_row c d x body None = refl
fits-publish_row c d x body (Some old) = either fits_unstage (nat_eq old.cas x) _ _ refl refl

pub fits-delete_row : (c : ℕ) (d : List ℕ) (x : ℕ) (o : Option DocState) → fits_unstage (delete_row c d x o).reply ≡ true
fits-delete_row c d x None = refl
fits-delete_row c d x (Some old) = either fits_unstage (nat_eq old.cas x) _ _ refl refl

pub fits-unstick_row : (c : ℕ) (d : List ℕ) (x : ℕ) (o : Option DocState) → fits_unstage (unstick_row c d x o).reply ≡ true
fits-unstick_row c d x None = refl
fits-unstick_row c d x (Some old) = either fits_unstage (nat_eq old.cas x) _ _ refl refl

pub fits-read_entry_row : (o : Option Entry) → fits_read_entry (read_entry_row o).reply ≡ true
fits-read_entry_row None = refl
fits-read_entry_row (Some e) = refl

pub fits-add_entry_row : (c : ℕ) (key : ℕ × ℕ) (exp : ℕ) (o : Option Entry) → fits_add_entry (add_entry_row c key exp o).reply ≡ true
fits-add_entry_row c key exp None = refl
fits-add_entry_row c key exp (Some e) = refl

pub fits-decide_row : (c : ℕ) (key : ℕ × ℕ) (state : EntryState) (lists : Lists) (o : Option Entry) → fits_decide (decide_row c key state lists o).reply ≡ true
fits-decide_row c key state lists None = refl
fits-decide_row c key state lists (Some e) = either fits_decide (is_pending e.state) _ _ refl refl

pub fits-drop_entry_row : (c : ℕ) (key : ℕ × ℕ) (guarded : Bool) (o : Option Entry) → fits_drop_entry guarded (drop_entry_row c key guarded o).reply ≡ true
fits-drop_entry_row c key true None = refl
fits-drop_entry_row c key false None = refl
fits-drop_entry_row c key true (Some e) = either fits_decide (may_drop true e.state) _ _ refl refl
fits-drop_entry_row c key false (Some e) = always e.state
  where
    always : (state : EntryState) → fits_drop (cond (may_drop false state) (takes c (DropsEntry key)) (refused reply.Decided)).reply ≡ true
    always Pending = refl
    always Committed = refl
    always Aborted = refl

pub fits-read_doc_row : (s : State) (d : List ℕ) → HasFitBodies s → (o : Option DocState) → doc_at s d ≡ o → fits_read_doc (read_doc_row o).reply ≡ true
fits-read_doc_row s d fit None at = refl
fits-read_doc_row s d fit (Some x) at = fit.each d x at

-- what the table answers fits the step
pub fits-row : (s : State) (c : ℕ) (st : Step) → IsOrdered s → HasFitBodies s → fits st (row s c st).reply ≡ true
unfolding row
fits-row s c (step.ReadDoc d) ordered fit = fits-read_doc_row s d fit (doc_at s d) refl
fits-row s c (step.Stage d e stage) ordered fit = fits-stage_row c d e stage (doc_at s d)
fits-row s c (step.Publish d x body) ordered fit = fits-publish_row c d x body (doc_at s d)
fits-row s c (step.Delete d x) ordered fit = fits-delete_row c d x (doc_at s d)
fits-row s c (step.Unstick d x) ordered fit = fits-unstick_row c d x (doc_at s d)
fits-row s c (step.ReadEntry r a) ordered fit = fits-read_entry_row (entry_at s (r, a))
fits-row s c (step.AddEntry r a exp) ordered fit = fits-add_entry_row c (r, a) exp (entry_at s (r, a))
fits-row s c (step.Commit r a lists) ordered fit = fits-decide_row c (r, a) Committed lists (entry_at s (r, a))
fits-row s c (step.Abort r a lists) ordered fit = fits-decide_row c (r, a) Aborted lists (entry_at s (r, a))
fits-row s c (step.DropEntry r a guarded) ordered fit = fits-drop_entry_row c (r, a) guarded (entry_at s (r, a))
fits-row s c (step.ReadAtr r) ordered fit = ids_rise-keys (entries_of r s.entries) (entries_of-rises r s.entries ordered.entries)
fits-row s c step.ReadClients ordered fit = ids_rise-keys s.clients ordered.clients
fits-row s c (step.Beat me expires n gone) ordered fit = refl

-- a call that failed fits every step
pub fits-failed : (st : Step) → fits st reply.Failed ≡ true
fits-failed (step.ReadDoc d) = refl
fits-failed (step.Stage d expect.New stage) = refl
fits-failed (step.Stage d (expect.Cas x) stage) = refl
fits-failed (step.Publish d x body) = refl
fits-failed (step.Delete d x) = refl
fits-failed (step.Unstick d x) = refl
fits-failed (step.ReadEntry r a) = refl
fits-failed (step.AddEntry r a exp) = refl
fits-failed (step.Commit r a lists) = refl
fits-failed (step.Abort r a lists) = refl
fits-failed (step.DropEntry r a true) = refl
fits-failed (step.DropEntry r a false) = refl
fits-failed (step.ReadAtr r) = refl
fits-failed step.ReadClients = refl
fits-failed (step.Beat me expires n gone) = refl

module _ (s : State) (fit : HasFitBodies s) where
  body_fit : (d : List ℕ) (x : DocState) → doc_at s d ≡ Some x → body_fits_maybe x.body ≡ true
  body_fit d x at = (and_parts (body_fits_maybe x.body) (stage_fits_maybe x.stage) (fit.each d x at)).0

  -- a document that fits was set
  fit-set : (last : ℕ) (d : List ℕ) (x : DocState) → doc_fits x ≡ true → HasFitBodies (record s { last = last; docs = with_pair doc_cmp s.docs d x })
  fit-set last d x here = record {
    each = λ q y there. ⊎_elim
        (λ (l : (is_eq (doc_cmp q d) ≡ true) × (q ≡ d)). ap doc_fits (same_some y x (sym there ∙ ap (λ k. doc_at (record s { last = last; docs = with_pair doc_cmp s.docs d x }) k) l.1 ∙ set_there doc_order s.docs d x)) ∙ here)
        (λ (r : (is_eq (doc_cmp q d) ≡ false) × (q ≢ d)). fit.each q y (sym (set_elsewhere doc_order s.docs d q x r.1) ∙ there))
        (key_cases doc_order q d);
  }
    where
      same_some : (a b : DocState) → Some a ≡ Some b → a ≡ b
      same_some a b same = cc

  fit-does : (c r : ℕ) {st : Step} {it : Row} → Does s c st it → step_fits st ≡ true → HasFitBodies (changed s r it.change)
  fit-does c r (refuses st reply not_done) carries = record { each = fit.each }
  fit-does c r (stages_new d stage at) carries = fit-set _ d _ carries
  fit-does c r (stages_over d x stage old at same) carries = fit-set _ d _ (and_from (body_fits_maybe old.body) (stage_fits stage) (body_fit d old at) carries)
  fit-does c r (publishes d x body old at same) carries = fit-set _ d _ (and_from _ true carries refl)
  fit-does c r (deletes d x old at same) carries = fit-set _ d _ refl
  fit-does c r (unsticks d x old at same) carries = fit-set _ d _ (and_from (body_fits_maybe old.body) true (body_fit d old at) refl)
  fit-does c r (adds ar a exp at) carries = record { each = fit.each }
  fit-does c r (commits ar a lists old at pending) carries = record { each = fit.each }
  fit-does c r (aborts ar a lists old at pending) carries = record { each = fit.each }
  fit-does c r (drops ar a guarded old at may) carries = record { each = fit.each }
  fit-does c r (beats me expires n gone) carries = record { each = fit.each }

  -- a step that fits leaves fit bodies
  pub fit-row : (c r : ℕ) (st : Step) → step_fits st ≡ true → HasFitBodies (changed s r (row s c st).change)
  fit-row c r st carries = fit-does c r (does s c st) carries

pub fit-happens : (s : State) (e : Event) → HasFitBodies s → step_fits e.step ≡ true → HasFitBodies (happens s e)
fit-happens s e fit carries = go e.fate
  where
    go : (fate : Fate) → HasFitBodies (changed s e.reading (by_fate fate (row_at_event s e)).change)
    go Plain = fit-row s fit (clock_mutated s.last e.reading) e.reading e.step carries
    go Lost = record { each = fit.each }
    go Late = fit-row s fit (clock_mutated s.last e.reading) e.reading e.step carries

-- a history of steps that fit leaves fit bodies
pub fit-after : (s0 : State) (h : List Event) (i : ℕ) → HasFitBodies s0 → ((k : ℕ) (e : Event) → slice_get h k ≡ Some e → step_fits e.step ≡ true) → HasFitBodies (after s0 h i)
fit-after s0 h zero fit carry = fit
fit-after s0 h (suc i) fit carry = go (slice_get h i) refl (fit-after s0 h i fit carry)
  where
    go : (o : Option Event) → slice_get h i ≡ o → HasFitBodies (after s0 h i) → HasFitBodies (happens_maybe (after s0 h i) o)
    go None at before = before
    go (Some e) at before = fit-happens (after s0 h i) e before (carry i e at)

-- the answer of a step that was made by the table fits it
pub fits-told : (s next : State) (r : ℕ) (st : Step) (res : Result Reply NoMemory) → IsOrdered s → HasFitBodies s
    → IfOk res (λ reply. (next, reply) ≡ apply_to s r st) → IfOk res (λ reply. IsTrue (fits st reply))
fits-told s next r st (Ok reply) ordered fit is = ap (λ (p : State × Reply). fits st p.1) is ∙ fits-row s (clock_mutated s.last r) st ordered fit
fits-told s next r st (Err e) ordered fit is = tt

-- a step that fits leaves fit bodies, also where there was no memory for it
pub bodies-told : (s next : State) (r : ℕ) (st : Step) (res : Result Reply NoMemory) → HasFitBodies s → IsTrue (step_fits st)
    → IfOk res (λ reply. (next, reply) ≡ apply_to s r st) → OnErr res (next ≡ s) → HasFitBodies next
bodies-told s next r st (Ok reply) fit carries is refused = subst HasFitBodies (sym (ap (λ (p : State × Reply). p.0) is)) (fit-row s fit (clock_mutated s.last r) r st carries)
bodies-told s next r st (Err e) fit carries is refused = subst HasFitBodies (sym refused) fit
