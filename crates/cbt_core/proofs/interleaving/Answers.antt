-- What an answer tells of the state in which it was given.
use Rattle.std.proofs.Common.{◌≡◌, ◌≢◌, ℕ, Bool, true, false, cond, nat_eq, List, [], ◌∷◌, Option, Some, None, ◌⊎◌, inl, inr, ⊎_elim, refl, sym, ap, ◌∙◌, subst, slice_get, arith}
use Rattle.std.proofs.lemmas.Bool.{eqb-true}
use Rattle.std.proofs.lemmas.Grind.{common_steps}
use Rattle.std.proofs.lemmas.Option.{none-some}
use Rattle.std.specs.List.{cons_option, AllByRecursion}
use Rattle.std.specs.List.Sorted.{IsStrictlySortedBy}
use Rattle.std.specs.Map.{keys_of}
use Rattle.std.specs.Ordering.{is_eq}
use Rattle.std.specs.declared.cmp.Ordering.TheVariants.{Less}
use Rattle.cbt_base.specs.Clock.{clock_mutated}
use Rattle.cbt_json.specs.declared.value.Json.{Json}
use Rattle.cbt_model.specs.History.{after, made_at, row_at_event, by_fate, is_done, TakesEffect}
use Rattle.cbt_base.specs.Keyed.{at_key}
use Rattle.cbt_model.specs.Keys.{IsOrdered, entry_cmp, doc_at, entry_at}
use Rattle.cbt_model.specs.Table.{Row, row, read_doc_row, read_entry_row, add_entry_row, decide_row, drop_entry_row, stage_row, publish_row, delete_row, unstick_row, is_pending, may_drop, refused, takes, entries_of, DropsEntry}
use Rattle.cbt_model.specs.declared.documents.DocState.{DocState}
use Rattle.cbt_model.specs.declared.documents.Stage.{Stage}
use Rattle.cbt_model.specs.declared.entries.Entry.{Entry}
use Rattle.cbt_model.specs.declared.entries.EntryState.{EntryState}
use Rattle.cbt_model.specs.declared.entries.EntryState.TheVariants.{Pending, Committed, Aborted}
use Rattle.cbt_model.specs.declared.entries.Lists.{Lists}
use Rattle.cbt_model.specs.declared.events.Event.{Event}
use Rattle.cbt_model.specs.declared.events.Fate.{Fate}
use Rattle.cbt_model.specs.declared.events.Fate.TheVariants.{Plain, Lost, Late}
use Rattle.cbt_model.specs.declared.states.State.{State}
use Rattle.cbt_model.specs.declared.steps.Expect.{Expect}
use Rattle.cbt_model.specs.declared.steps.Expect.TheVariants as expect
use Rattle.cbt_model.specs.declared.steps.Reply.{Reply}
use Rattle.cbt_model.specs.declared.steps.Reply.TheVariants as reply
use Rattle.cbt_model.specs.declared.steps.Step.{Step}
use Rattle.cbt_model.specs.declared.steps.Step.TheVariants as step
use Rattle.cbt_model.proofs.Moves.{done_row}
use Rattle.cbt_model.proofs.Ordered.{ordered-after}
use Rattle.cbt_model.proofs.Orders.{entry_order, key_cases, key_itself}
use Rattle.cbt_book.specs.OwnLists.{In}
use Rattle.cbt_book.specs.Outcomes.{is_refusal}
use Rattle.cbt_core.proofs.runs.Past.{some_same}

-- a document as an answer shows it
pub record DocShown (s : State) (d : List ℕ) (x : ℕ) (body : Option Json) (stage : Option Stage) : Type 0 where
  pub doc : DocState
  pub there : doc_at s d ≡ Some doc
  pub cas : doc.cas ≡ x
  pub body_is : doc.body ≡ body
  pub stage_is : doc.stage ≡ stage

-- an answer that came back is the table's
came_back : (f : Fate) (it : Row) (r : Reply) → (by_fate f it).reply ≡ r → r ≢ reply.Failed → it.reply ≡ r
came_back Plain it r is not_failed = is
came_back Lost it r is not_failed = absurd (not_failed (sym is))
came_back Late it r is not_failed = absurd (not_failed (sym is))

was_plain : (f : Fate) (it : Row) (r : Reply) → (by_fate f it).reply ≡ r → r ≢ reply.Failed → f ≢ Lost
was_plain Plain it r is not_failed = λ q. cc
was_plain Lost it r is not_failed = absurd (not_failed (sym is))
was_plain Late it r is not_failed = absurd (not_failed (sym is))

-- a call that was not lost and was done is answered Done or Failed
pub done_or_failed : (f : Fate) (it : Row) (c : ℕ) → f ≢ Lost → it.reply ≡ reply.Done c → ((by_fate f it).reply ≡ reply.Done c) ⊎ ((by_fate f it).reply ≡ reply.Failed)
done_or_failed Plain it c here is = inl is
done_or_failed Lost it c here is = absurd (here refl)
done_or_failed Late it c here is = inr refl

-- what the rows of the table tell, by what they looked at
entry_row : (o : Option Entry) (e : Entry) → (read_entry_row o).reply ≡ reply.Entry e → o ≡ Some e
entry_row None e is = absurd (cc)
entry_row (Some x) e is = cc

no_entry_row : (o : Option Entry) → (read_entry_row o).reply ≡ reply.NoEntry → o ≡ None
no_entry_row None is = refl
no_entry_row (Some x) is = absurd (cc)

doc_row : (s : State) (d : List ℕ) (x : ℕ) (body : Option Json) (stage : Option Stage) (o : Option DocState) → doc_at s d ≡ o
    → (read_doc_row o).reply ≡ reply.Doc x body stage → DocShown s d x body stage
doc_row s d x body stage None at is = absurd (cc)
doc_row s d x body stage (Some doc) at is = record { doc = doc; there = at; cas = cc; body_is = cc; stage_is = cc }

no_doc_row : (o : Option DocState) → (read_doc_row o).reply ≡ reply.Absent → o ≡ None
no_doc_row None is = refl
no_doc_row (Some x) is = absurd (cc)

exists_row : (c : ℕ) (key : ℕ × ℕ) (exp : ℕ) (o : Option Entry) → (add_entry_row c key exp o).reply ≡ reply.Exists → (x : Entry) × (o ≡ Some x)
exists_row c key exp None is = absurd (cc)
exists_row c key exp (Some x) is = (x, refl)

either_not : (b : Bool) (done other : Row) (r : Reply) → done.reply ≢ r → other.reply ≢ r → (cond b done other).reply ≢ r
either_not true done other r one two = one
either_not false done other r one two = two

decide_row_none : (c : ℕ) (key : ℕ × ℕ) (state : EntryState) (lists : Lists) (o : Option Entry) → (decide_row c key state lists o).reply ≡ reply.NoEntry → o ≡ None
decide_row_none c key state lists None is = refl
decide_row_none c key state lists (Some x) is = absurd (either_not (is_pending x.state) _ (refused reply.Decided) reply.NoEntry (λ q. cc) (λ q. cc) is)

not_pending : (b : Bool) (done : Row) (state : EntryState) → is_pending state ≡ b → (cond b done (refused reply.Decided)).reply ≡ reply.Decided → done.reply ≢ reply.Decided → state ≢ Pending
not_pending true done state at is other = absurd (other is)
not_pending false done state at is other = λ q. absurd (differ (sym at ∙ ap is_pending q))
  where
    differ : false ≡ true → ⊥
    differ e = cc

decide_row_decided : (c : ℕ) (key : ℕ × ℕ) (state : EntryState) (lists : Lists) (o : Option Entry) → (decide_row c key state lists o).reply ≡ reply.Decided
    → (x : Entry) × (o ≡ Some x) × (x.state ≢ Pending)
decide_row_decided c key state lists None is = absurd (cc)
decide_row_decided c key state lists (Some x) is = (x, refl, not_pending (is_pending x.state) _ x.state refl is (λ q. cc))

drop_row_none : (c : ℕ) (key : ℕ × ℕ) (guarded : Bool) (o : Option Entry) → (drop_entry_row c key guarded o).reply ≡ reply.NoEntry → o ≡ None
drop_row_none c key guarded None is = refl
drop_row_none c key guarded (Some x) is = absurd (either_not (may_drop guarded x.state) _ (refused reply.Decided) reply.NoEntry (λ q. cc) (λ q. cc) is)

drop_row_decided : (c : ℕ) (key : ℕ × ℕ) (o : Option Entry) → (drop_entry_row c key true o).reply ≡ reply.Decided → (x : Entry) × (o ≡ Some x) × (x.state ≢ Pending)
drop_row_decided c key None is = absurd (cc)
drop_row_decided c key (Some x) is = (x, refl, guarded_not_pending (may_drop true x.state) x.state refl is)
  where
    guarded_not_pending : (b : Bool) (state : EntryState) → may_drop true state ≡ b → (cond b (takes c (DropsEntry key)) (refused reply.Decided)).reply ≡ reply.Decided → state ≢ Pending
    guarded_not_pending true state at answer = absurd (done_not answer)
      where
        done_not : reply.Done c ≡ reply.Decided → ⊥
        done_not e = cc
    guarded_not_pending false state at answer = λ q. absurd (differ (sym at ∙ ap (λ s. may_drop true s) q))
      where
        differ : false ≡ true → ⊥
        differ e = cc

mismatch : (b : Bool) (done : Row) (m n have : ℕ) → nat_eq m n ≡ b → (cond b done (refused (reply.CasMismatch m))).reply ≡ reply.CasMismatch have
    → done.reply ≢ reply.CasMismatch have → m ≢ n
mismatch true done m n have at is other = absurd (other is)
mismatch false done m n have at is other = λ q. absurd (grind (arith, common_steps))

publish_row_mismatch : (c : ℕ) (d : List ℕ) (x have : ℕ) (body : Json) (doc : DocState) → (publish_row c d x body (Some doc)).reply ≡ reply.CasMismatch have → doc.cas ≢ x
publish_row_mismatch c d x have body doc is = mismatch (nat_eq doc.cas x) _ doc.cas x have refl is (λ q. cc)

delete_row_mismatch : (c : ℕ) (d : List ℕ) (x have : ℕ) (doc : DocState) → (delete_row c d x (Some doc)).reply ≡ reply.CasMismatch have → doc.cas ≢ x
delete_row_mismatch c d x have doc is = mismatch (nat_eq doc.cas x) _ doc.cas x have refl is (λ q. cc)

unstick_row_mismatch : (c : ℕ) (d : List ℕ) (x have : ℕ) (doc : DocState) → (unstick_row c d x (Some doc)).reply ≡ reply.CasMismatch have → doc.cas ≢ x
unstick_row_mismatch c d x have doc is = mismatch (nat_eq doc.cas x) _ doc.cas x have refl is (λ q. cc)

-- what a staging expects is met by this document, or by none
abbrev pub Meets : Expect → Option DocState → Type 0
Meets expect.New o = o ≡ None
Meets (expect.Cas x) o = (doc : DocState) × (o ≡ Some doc) × (doc.cas ≡ x)

refusal_differs : (b : Bool) (done other : Row) (m n : ℕ) → nat_eq m n ≡ b → is_refusal done.reply ≡ false → is_refusal (cond b done other).reply ≡ true → m ≢ n
refusal_differs true done other m n at free refused = absurd (no_true (sym free ∙ refused))
  where
    no_true : false ≡ true → ⊥
    no_true e = cc
refusal_differs false done other m n at free refused = λ q. absurd (grind (arith, common_steps))

stage_row_refused : (c : ℕ) (d : List ℕ) (ex : Expect) (stage : Stage) (o : Option DocState) → is_refusal (stage_row c d ex stage o).reply ≡ true → Meets ex o → ⊥
stage_row_refused c d expect.New stage None is met = absurd (cc)
stage_row_refused c d expect.New stage (Some x) is met = none-some x (sym met)
stage_row_refused c d (expect.Cas x) stage None is met = none-some met.0 met.1
stage_row_refused c d (expect.Cas x) stage (Some doc) is met = refusal_differs (nat_eq doc.cas x) _ _ doc.cas x refl refl is (ap (λ (z : DocState). z.cas) (some_same met.1) ∙ met.2)

unstick_row_refused : (c : ℕ) (d : List ℕ) (x : ℕ) (o : Option DocState) → is_refusal (unstick_row c d x o).reply ≡ true → Meets (expect.Cas x) o → ⊥
unstick_row_refused c d x None is met = none-some met.0 met.1
unstick_row_refused c d x (Some doc) is met = refusal_differs (nat_eq doc.cas x) _ _ doc.cas x refl refl is (ap (λ (z : DocState). z.cas) (some_same met.1) ∙ met.2)

-- an entry that is listed of a record stands in the map
in_entries : (r a : ℕ) (e : Entry) (m : List ((ℕ × ℕ) × Entry)) → In (a, e) (entries_of r m) → In ((r, a), e) m
in_entries r a e [] there = absurd there
in_entries r a e (p ∷ m) there = by_test (nat_eq p.0.0 r) refl (λ past. in_entries r a e m past) there
  where
    here_is : r ≡ p.0.0 → ◌≡◌ {A = ℕ × Entry} (a, e) (p.0.1, p.1) → ◌≡◌ {A = (ℕ × ℕ) × Entry} ((r, a), e) p
    here_is record_same same = ap (λ q. ((q, a), e)) record_same ∙ ap (λ (w : ℕ × Entry). ((p.0.0, w.0), w.1)) same

    by_test : (b : Bool) → nat_eq p.0.0 r ≡ b → (In (a, e) (entries_of r m) → In ((r, a), e) m)
        → In (a, e) (cons_option (cond b (Some (p.0.1, p.1)) None) (entries_of r m)) → In ((r, a), e) (p ∷ m)
    by_test true is ih listed =
        ⊎_elim (λ (here : ◌≡◌ {A = ℕ × Entry} (a, e) (p.0.1, p.1)). inl (here_is (sym (eqb-true p.0.0 r is)) here)) (λ (past : In (a, e) (entries_of r m)). inr (ih past)) listed
    by_test false is ih listed = inr (ih listed)

all_in : (P : ℕ × ℕ → Type 0) (k : ℕ × ℕ) (v : Entry) (m : List ((ℕ × ℕ) × Entry)) → AllByRecursion P (keys_of m) → In (k, v) m → P k
all_in P k v [] all there = absurd there
all_in P k v (p ∷ m) all there =
    ⊎_elim (λ (here : ◌≡◌ {A = (ℕ × ℕ) × Entry} (k, v) p). subst P (sym (ap (λ (w : (ℕ × ℕ) × Entry). w.0) here)) all.0) (λ (past : In (k, v) m). all_in P k v m all.1 past) there

-- what stands in a map whose keys rise is found at its key
found_in : (k : ℕ × ℕ) (v : Entry) (m : List ((ℕ × ℕ) × Entry)) → IsStrictlySortedBy entry_cmp (keys_of m) → In (k, v) m → at_key entry_cmp m k ≡ Some v
unfolding IsStrictlySortedBy
found_in k v [] rises there = absurd there
found_in k v (p ∷ m) rises there =
    ⊎_elim (λ (here : ◌≡◌ {A = (ℕ × ℕ) × Entry} (k, v) p). at_front (ap (λ (w : (ℕ × ℕ) × Entry). w.0) here) (ap (λ (w : (ℕ × ℕ) × Entry). w.1) here))
    (λ (past : In (k, v) m). behind (all_in (λ q. entry_cmp p.0 q ≡ Less) k v m rises.0 past) (found_in k v m rises.1 past)) there
  where
    at_front : k ≡ p.0 → v ≡ p.1 → cond (is_eq (entry_cmp k p.0)) (Some p.1) (at_key entry_cmp m k) ≡ Some v
    at_front same is =
        ap (λ q. cond (is_eq (entry_cmp q p.0)) (Some p.1) (at_key entry_cmp m k)) same ∙ ap (λ b. cond b (Some p.1) (at_key entry_cmp m k)) (key_itself entry_order p.0) ∙ ap (λ w. Some w) (sym is)

    apart : entry_cmp p.0 k ≡ Less → k ≢ p.0
    apart less = λ same. absurd (not_equal (sym (ap (λ q. is_eq (entry_cmp p.0 q)) same ∙ key_itself entry_order p.0) ∙ ap is_eq less))
      where
        not_equal : true ≡ false → ⊥
        not_equal e = cc

    behind : entry_cmp p.0 k ≡ Less → at_key entry_cmp m k ≡ Some v → cond (is_eq (entry_cmp k p.0)) (Some p.1) (at_key entry_cmp m k) ≡ Some v
    behind less found =
        ⊎_elim (λ (one : (is_eq (entry_cmp k p.0) ≡ true) × (k ≡ p.0)). absurd (apart less one.1))
        (λ (two : (is_eq (entry_cmp k p.0) ≡ false) × (k ≢ p.0)). ap (λ b. cond b (Some p.1) (at_key entry_cmp m k)) two.0 ∙ found) (key_cases entry_order k p.0)

-- the same of the table itself
module _ (s : State) (c : ℕ) where
  shows_entry : (r a : ℕ) (e : Entry) → (row s c (step.ReadEntry r a)).reply ≡ reply.Entry e → entry_at s (r, a) ≡ Some e
  unfolding row
  shows_entry r a e is = entry_row (entry_at s (r, a)) e is

  shows_no_entry : (r a : ℕ) → (row s c (step.ReadEntry r a)).reply ≡ reply.NoEntry → entry_at s (r, a) ≡ None
  unfolding row
  shows_no_entry r a is = no_entry_row (entry_at s (r, a)) is

  shows_doc : (d : List ℕ) (x : ℕ) (body : Option Json) (stage : Option Stage) → (row s c (step.ReadDoc d)).reply ≡ reply.Doc x body stage → DocShown s d x body stage
  unfolding row
  shows_doc d x body stage is = doc_row s d x body stage (doc_at s d) refl is

  shows_no_doc : (d : List ℕ) → (row s c (step.ReadDoc d)).reply ≡ reply.Absent → doc_at s d ≡ None
  unfolding row
  shows_no_doc d is = no_doc_row (doc_at s d) is

  shows_record : (r a : ℕ) (e : Entry) (entries : List (ℕ × Entry)) → IsOrdered s → (row s c (step.ReadAtr r)).reply ≡ reply.Entries entries → In (a, e) entries
      → entry_at s (r, a) ≡ Some e
  unfolding row
  shows_record r a e entries ordered is listed = found_in (r, a) e s.entries ordered.entries (in_entries r a e s.entries (subst (λ l. In (a, e) l) (sym (same_list (entries_of r s.entries) entries is)) listed))
    where
      same_list : (l m : List (ℕ × Entry)) → reply.Entries l ≡ reply.Entries m → l ≡ m
      same_list l m same = cc

  was_there : (r a exp : ℕ) → (row s c (step.AddEntry r a exp)).reply ≡ reply.Exists → (x : Entry) × (entry_at s (r, a) ≡ Some x)
  unfolding row
  was_there r a exp is = exists_row c (r, a) exp (entry_at s (r, a)) is

  commit_none : (r a : ℕ) (lists : Lists) → (row s c (step.Commit r a lists)).reply ≡ reply.NoEntry → entry_at s (r, a) ≡ None
  unfolding row
  commit_none r a lists is = decide_row_none c (r, a) Committed lists (entry_at s (r, a)) is

  abort_none : (r a : ℕ) (lists : Lists) → (row s c (step.Abort r a lists)).reply ≡ reply.NoEntry → entry_at s (r, a) ≡ None
  unfolding row
  abort_none r a lists is = decide_row_none c (r, a) Aborted lists (entry_at s (r, a)) is

  commit_decided : (r a : ℕ) (lists : Lists) → (row s c (step.Commit r a lists)).reply ≡ reply.Decided → (x : Entry) × (entry_at s (r, a) ≡ Some x) × (x.state ≢ Pending)
  unfolding row
  commit_decided r a lists is = decide_row_decided c (r, a) Committed lists (entry_at s (r, a)) is

  abort_decided : (r a : ℕ) (lists : Lists) → (row s c (step.Abort r a lists)).reply ≡ reply.Decided → (x : Entry) × (entry_at s (r, a) ≡ Some x) × (x.state ≢ Pending)
  unfolding row
  abort_decided r a lists is = decide_row_decided c (r, a) Aborted lists (entry_at s (r, a)) is

  drop_none : (r a : ℕ) (guarded : Bool) → (row s c (step.DropEntry r a guarded)).reply ≡ reply.NoEntry → entry_at s (r, a) ≡ None
  unfolding row
  drop_none r a guarded is = drop_row_none c (r, a) guarded (entry_at s (r, a)) is

  drop_decided : (r a : ℕ) → (row s c (step.DropEntry r a true)).reply ≡ reply.Decided → (x : Entry) × (entry_at s (r, a) ≡ Some x) × (x.state ≢ Pending)
  unfolding row
  drop_decided r a is = drop_row_decided c (r, a) (entry_at s (r, a)) is

  publish_refused : (d : List ℕ) (x have : ℕ) (body : Json) (doc : DocState) → doc_at s d ≡ Some doc → (row s c (step.Publish d x body)).reply ≡ reply.CasMismatch have → doc.cas ≢ x
  unfolding row
  publish_refused d x have body doc at is = publish_row_mismatch c d x have body doc (ap (λ o. (publish_row c d x body o).reply) (sym at) ∙ is)

  delete_refused : (d : List ℕ) (x have : ℕ) (doc : DocState) → doc_at s d ≡ Some doc → (row s c (step.Delete d x)).reply ≡ reply.CasMismatch have → doc.cas ≢ x
  unfolding row
  delete_refused d x have doc at is = delete_row_mismatch c d x have doc (ap (λ o. (delete_row c d x o).reply) (sym at) ∙ is)

  unstick_refused : (d : List ℕ) (x have : ℕ) (doc : DocState) → doc_at s d ≡ Some doc → (row s c (step.Unstick d x)).reply ≡ reply.CasMismatch have → doc.cas ≢ x
  unfolding row
  unstick_refused d x have doc at is = unstick_row_mismatch c d x have doc (ap (λ o. (unstick_row c d x o).reply) (sym at) ∙ is)

  stage_refused : (d : List ℕ) (ex : Expect) (stage : Stage) → is_refusal (row s c (step.Stage d ex stage)).reply ≡ true → Meets ex (doc_at s d) → ⊥
  unfolding row
  stage_refused d ex stage is = stage_row_refused c d ex stage (doc_at s d) is

  unstick_not_met : (d : List ℕ) (x : ℕ) → is_refusal (row s c (step.Unstick d x)).reply ≡ true → Meets (expect.Cas x) (doc_at s d) → ⊥
  unfolding row
  unstick_not_met d x is = unstick_row_refused c d x (doc_at s d) is

-- the same of an event, by its step and its answer
module _ (s0 : State) (h : List Event) (i : ℕ) (e : Event) where
  -- the clock's stamp for a change made by the event
  abbrev pub stamp_at : ℕ
  stamp_at = clock_mutated (after s0 h i).last e.reading

  told : (st : Step) (r : Reply) → e.step ≡ st → (made_at s0 h i e).answer.reply ≡ r → r ≢ reply.Failed → (row (after s0 h i) stamp_at st).reply ≡ r
  told st r is answer not_failed =
      ap (λ x. (row (after s0 h i) stamp_at x).reply) (sym is) ∙ came_back e.fate (row_at_event (after s0 h i) e) r answer not_failed

  pub entry_told : (r a : ℕ) (x : Entry) → e.step ≡ step.ReadEntry r a → (made_at s0 h i e).answer.reply ≡ reply.Entry x → entry_at (after s0 h i) (r, a) ≡ Some x
  entry_told r a x is answer = shows_entry (after s0 h i) stamp_at r a x (told (step.ReadEntry r a) (reply.Entry x) is answer (λ q. cc))

  pub record_told : IsOrdered s0 → (r a : ℕ) (x : Entry) (entries : List (ℕ × Entry)) → e.step ≡ step.ReadAtr r → (made_at s0 h i e).answer.reply ≡ reply.Entries entries
      → In (a, x) entries → entry_at (after s0 h i) (r, a) ≡ Some x
  record_told ordered r a x entries is answer listed =
      shows_record (after s0 h i) stamp_at r a x entries (ordered-after s0 h i ordered) (told (step.ReadAtr r) (reply.Entries entries) is answer (λ q. cc)) listed

  pub no_entry_told : (r a : ℕ) → e.step ≡ step.ReadEntry r a → (made_at s0 h i e).answer.reply ≡ reply.NoEntry → entry_at (after s0 h i) (r, a) ≡ None
  no_entry_told r a is answer = shows_no_entry (after s0 h i) stamp_at r a (told (step.ReadEntry r a) reply.NoEntry is answer (λ q. cc))

  pub doc_told : (d : List ℕ) (x : ℕ) (body : Option Json) (stage : Option Stage) → e.step ≡ step.ReadDoc d → (made_at s0 h i e).answer.reply ≡ reply.Doc x body stage
      → DocShown (after s0 h i) d x body stage
  doc_told d x body stage is answer = shows_doc (after s0 h i) stamp_at d x body stage (told (step.ReadDoc d) (reply.Doc x body stage) is answer (λ q. cc))

  pub no_doc_told : (d : List ℕ) → e.step ≡ step.ReadDoc d → (made_at s0 h i e).answer.reply ≡ reply.Absent → doc_at (after s0 h i) d ≡ None
  no_doc_told d is answer = shows_no_doc (after s0 h i) stamp_at d (told (step.ReadDoc d) reply.Absent is answer (λ q. cc))

  pub exists_told : (r a exp : ℕ) → e.step ≡ step.AddEntry r a exp → (made_at s0 h i e).answer.reply ≡ reply.Exists → (x : Entry) × (entry_at (after s0 h i) (r, a) ≡ Some x)
  exists_told r a exp is answer = was_there (after s0 h i) stamp_at r a exp (told (step.AddEntry r a exp) reply.Exists is answer (λ q. cc))

  pub commit_none_told : (r a : ℕ) (lists : Lists) → e.step ≡ step.Commit r a lists → (made_at s0 h i e).answer.reply ≡ reply.NoEntry → entry_at (after s0 h i) (r, a) ≡ None
  commit_none_told r a lists is answer = commit_none (after s0 h i) stamp_at r a lists (told (step.Commit r a lists) reply.NoEntry is answer (λ q. cc))

  pub abort_none_told : (r a : ℕ) (lists : Lists) → e.step ≡ step.Abort r a lists → (made_at s0 h i e).answer.reply ≡ reply.NoEntry → entry_at (after s0 h i) (r, a) ≡ None
  abort_none_told r a lists is answer = abort_none (after s0 h i) stamp_at r a lists (told (step.Abort r a lists) reply.NoEntry is answer (λ q. cc))

  pub commit_decided_told : (r a : ℕ) (lists : Lists) → e.step ≡ step.Commit r a lists → (made_at s0 h i e).answer.reply ≡ reply.Decided
      → (x : Entry) × (entry_at (after s0 h i) (r, a) ≡ Some x) × (x.state ≢ Pending)
  commit_decided_told r a lists is answer = commit_decided (after s0 h i) stamp_at r a lists (told (step.Commit r a lists) reply.Decided is answer (λ q. cc))

  pub abort_decided_told : (r a : ℕ) (lists : Lists) → e.step ≡ step.Abort r a lists → (made_at s0 h i e).answer.reply ≡ reply.Decided
      → (x : Entry) × (entry_at (after s0 h i) (r, a) ≡ Some x) × (x.state ≢ Pending)
  abort_decided_told r a lists is answer = abort_decided (after s0 h i) stamp_at r a lists (told (step.Abort r a lists) reply.Decided is answer (λ q. cc))

  pub drop_none_told : (r a : ℕ) (guarded : Bool) → e.step ≡ step.DropEntry r a guarded → (made_at s0 h i e).answer.reply ≡ reply.NoEntry → entry_at (after s0 h i) (r, a) ≡ None
  drop_none_told r a guarded is answer = drop_none (after s0 h i) stamp_at r a guarded (told (step.DropEntry r a guarded) reply.NoEntry is answer (λ q. cc))

  pub drop_decided_told : (r a : ℕ) → e.step ≡ step.DropEntry r a true → (made_at s0 h i e).answer.reply ≡ reply.Decided → (x : Entry) × (entry_at (after s0 h i) (r, a) ≡ Some x) × (x.state ≢ Pending)
  drop_decided_told r a is answer = drop_decided (after s0 h i) stamp_at r a (told (step.DropEntry r a true) reply.Decided is answer (λ q. cc))

  pub publish_refused_told : (d : List ℕ) (x have : ℕ) (body : Json) (doc : DocState) → doc_at (after s0 h i) d ≡ Some doc → e.step ≡ step.Publish d x body
      → (made_at s0 h i e).answer.reply ≡ reply.CasMismatch have → doc.cas ≢ x
  publish_refused_told d x have body doc at is answer =
      publish_refused (after s0 h i) stamp_at d x have body doc at (told (step.Publish d x body) (reply.CasMismatch have) is answer (λ q. cc))

  pub delete_refused_told : (d : List ℕ) (x have : ℕ) (doc : DocState) → doc_at (after s0 h i) d ≡ Some doc → e.step ≡ step.Delete d x
      → (made_at s0 h i e).answer.reply ≡ reply.CasMismatch have → doc.cas ≢ x
  delete_refused_told d x have doc at is answer =
      delete_refused (after s0 h i) stamp_at d x have doc at (told (step.Delete d x) (reply.CasMismatch have) is answer (λ q. cc))

  pub unstick_refused_told : (d : List ℕ) (x have : ℕ) (doc : DocState) → doc_at (after s0 h i) d ≡ Some doc → e.step ≡ step.Unstick d x
      → (made_at s0 h i e).answer.reply ≡ reply.CasMismatch have → doc.cas ≢ x
  unstick_refused_told d x have doc at is answer =
      unstick_refused (after s0 h i) stamp_at d x have doc at (told (step.Unstick d x) (reply.CasMismatch have) is answer (λ q. cc))

  refusal_told : (st : Step) → e.step ≡ st → is_refusal (made_at s0 h i e).answer.reply ≡ true → is_refusal (row (after s0 h i) stamp_at st).reply ≡ true
  refusal_told st is refused = ap is_refusal (told st (made_at s0 h i e).answer.reply is refl (λ failed. no_true (sym (ap is_refusal failed) ∙ refused))) ∙ refused
    where
      no_true : false ≡ true → ⊥
      no_true q = cc

  -- a staging or an unstick that was refused met another document
  pub stage_refused_told : (d : List ℕ) (ex : Expect) (stage : Stage) → e.step ≡ step.Stage d ex stage → is_refusal (made_at s0 h i e).answer.reply ≡ true → Meets ex (doc_at (after s0 h i) d) → ⊥
  stage_refused_told d ex stage is refused = stage_refused (after s0 h i) stamp_at d ex stage (refusal_told (step.Stage d ex stage) is refused)

  pub unstick_not_met_told : (d : List ℕ) (x : ℕ) → e.step ≡ step.Unstick d x → is_refusal (made_at s0 h i e).answer.reply ≡ true → Meets (expect.Cas x) (doc_at (after s0 h i) d) → ⊥
  unstick_not_met_told d x is refused = unstick_not_met (after s0 h i) stamp_at d x (refusal_told (step.Unstick d x) is refused)

  -- an answer Done tells that the step took effect, with this stamp
  pub done_told : (c : ℕ) → slice_get h i ≡ Some e → (made_at s0 h i e).answer.reply ≡ reply.Done c → TakesEffect s0 h i e × (c ≡ stamp_at)
  done_told c at answer =
      let it : (row_at_event (after s0 h i) e).reply ≡ reply.Done c = came_back e.fate (row_at_event (after s0 h i) e) (reply.Done c) answer (λ q. cc) in (
        record { event = at; not_lost = was_plain e.fate (row_at_event (after s0 h i) e) (reply.Done c) answer (λ q. cc); done = ap is_done it },
        same c stamp_at (sym it ∙ done_row (after s0 h i) stamp_at e.step (ap is_done it)),
      )
    where
      same : (m n : ℕ) → reply.Done m ≡ reply.Done n → m ≡ n
      same m n q = cc

  -- a step that took effect was done with its stamp
  pub effect_row : TakesEffect s0 h i e → (row_at_event (after s0 h i) e).reply ≡ reply.Done stamp_at
  effect_row takes_effect = done_row (after s0 h i) stamp_at e.step takes_effect.done

  -- and its answer was Done or Failed
  pub effect_told : TakesEffect s0 h i e → ((made_at s0 h i e).answer.reply ≡ reply.Done stamp_at) ⊎ ((made_at s0 h i e).answer.reply ≡ reply.Failed)
  effect_told takes_effect = done_or_failed e.fate (row_at_event (after s0 h i) e) stamp_at takes_effect.not_lost (effect_row takes_effect)
