-- An attempt is decided at most once, and by its owner alone where it is committed or aborted.
use Rattle.std.proofs.Common.{◌≡◌, ◌≢◌, ℕ, suc, ◌<◌, Bool, true, false, ◌⊎◌, inl, inr, ⊎_elim, List, Some, None, refl, sym, ap, ◌∙◌, subst, slice_get, arith}
use Rattle.std.proofs.lemmas.Option.{none-some}
use Rattle.cbt_base.specs.Clock.{clock_mutated}
use Rattle.cbt_model.specs.History.{after, made_at, own, TakesEffect, CommitsAt, RollsBackAt, commits, rolls_back}
use Rattle.cbt_model.specs.Keys.{entry_at}
use Rattle.cbt_model.specs.Table.{may_drop, touches}
use Rattle.cbt_model.specs.declared.entries.Entry.{Entry}
use Rattle.cbt_model.specs.declared.entries.EntryState.{EntryState}
use Rattle.cbt_model.specs.declared.entries.EntryState.TheVariants.{Pending, Committed, Aborted}
use Rattle.cbt_model.specs.declared.entries.Lists.{Lists}
use Rattle.cbt_model.specs.declared.events.Event.{Event}
use Rattle.cbt_model.specs.declared.states.State.{State}
use Rattle.cbt_model.specs.declared.steps.Reply.TheVariants as reply
use Rattle.cbt_model.specs.declared.steps.Step.{Step}
use Rattle.cbt_model.specs.declared.steps.Step.TheVariants as step
use Rattle.cbt_model.proofs.Effects.{entry-at_effect}
use Rattle.cbt_model.proofs.Moves.{EntryMove}
use Rattle.cbt_model.proofs.Moves as moves
use Rattle.cbt_book.specs.Licence.{CommitsUnsettled}
use Rattle.cbt_book.specs.Numbers.{client_of}
use Rattle.cbt_book.specs.OwnLists.{Once}
use Rattle.cbt_book.specs.Shown.{adds, aborts, decides, AddsEntry, ReadsEntry}
use Rattle.cbt_book.specs.Shown as shown
use Rattle.cbt_core.specs.Invariant.{Decides}
use Rattle.cbt_core.proofs.interleaving.Answers.{entry_told, exists_told, done_told, effect_told, commit_decided_told, abort_decided_told}
use Rattle.cbt_core.proofs.interleaving.Entries.{Deciding, by_commit, by_abort, Came, by_event, at_first, Settled, by_decision, in_opening, came, settled, sent_once, one_record, stood_between, stays_decided, some_of, entry_then}
use Rattle.cbt_core.proofs.runs.Lawful.{Lawful, may}
use Rattle.cbt_core.proofs.runs.Past.{some_same, one_event, Order, first, equal, after as later_one, order, Earlier, once_at, at_once, kept_at}

-- what a step is that decides an attempt
pub data DecisionIs (r a : ℕ) (st : Step) : Type 0 where
  is_commit : (lists : Lists) → st ≡ step.Commit r a lists → DecisionIs r a st
  is_abort : (lists : Lists) → st ≡ step.Abort r a lists → DecisionIs r a st
  is_eviction : st ≡ step.DropEntry r a true → DecisionIs r a st

pub commits_is : (st : Step) (a : ℕ) → commits st ≡ Some a → (r : ℕ) × (lists : Lists) × (st ≡ step.Commit r a lists)
commits_is (step.Commit r b lists) a is = (r, lists, ap (λ x. step.Commit r x lists) (some_same is))
commits_is (step.ReadDoc d) a is = absurd (none-some a is)
commits_is (step.Stage d e stage) a is = absurd (none-some a is)
commits_is (step.Publish d x body) a is = absurd (none-some a is)
commits_is (step.Delete d x) a is = absurd (none-some a is)
commits_is (step.Unstick d x) a is = absurd (none-some a is)
commits_is (step.ReadEntry r b) a is = absurd (none-some a is)
commits_is (step.AddEntry r b exp) a is = absurd (none-some a is)
commits_is (step.Abort r b lists) a is = absurd (none-some a is)
commits_is (step.DropEntry r b guarded) a is = absurd (none-some a is)
commits_is (step.ReadAtr r) a is = absurd (none-some a is)
commits_is step.ReadClients a is = absurd (none-some a is)
commits_is (step.Beat me expires n gone) a is = absurd (none-some a is)

rolls_back_is : (st : Step) (a : ℕ) → rolls_back st ≡ Some a → (r : ℕ) × DecisionIs r a st
rolls_back_is (step.Abort r b lists) a is = (r, is_abort lists (ap (λ x. step.Abort r x lists) (some_same is)))
rolls_back_is (step.DropEntry r b true) a is = (r, is_eviction (ap (λ x. step.DropEntry r x true) (some_same is)))
rolls_back_is (step.DropEntry r b false) a is = absurd (none-some a is)
rolls_back_is (step.Commit r b lists) a is = absurd (none-some a is)
rolls_back_is (step.ReadDoc d) a is = absurd (none-some a is)
rolls_back_is (step.Stage d e stage) a is = absurd (none-some a is)
rolls_back_is (step.Publish d x body) a is = absurd (none-some a is)
rolls_back_is (step.Delete d x) a is = absurd (none-some a is)
rolls_back_is (step.Unstick d x) a is = absurd (none-some a is)
rolls_back_is (step.ReadEntry r b) a is = absurd (none-some a is)
rolls_back_is (step.AddEntry r b exp) a is = absurd (none-some a is)
rolls_back_is (step.ReadAtr r) a is = absurd (none-some a is)
rolls_back_is step.ReadClients a is = absurd (none-some a is)
rolls_back_is (step.Beat me expires n gone) a is = absurd (none-some a is)

pub decision_is : (st : Step) (a : ℕ) → Decides a st → (r : ℕ) × DecisionIs r a st
decision_is st a is =
    ⊎_elim (λ (c : commits st ≡ Some a). let it = commits_is st a c in (it.0, is_commit it.1 it.2)) (λ (b : rolls_back st ≡ Some a). rolls_back_is st a b) is

-- a commit or an abort of attempt a
pub data Closing (r a : ℕ) (lists : Lists) (st : Step) : Type 0 where
  commit : st ≡ step.Commit r a lists → Closing r a lists st
  abort : st ≡ step.Abort r a lists → Closing r a lists st

pub decides_is : (st : Step) (a : ℕ) → decides st ≡ Some a → (r : ℕ) × (lists : Lists) × Closing r a lists st
decides_is (step.Commit r b lists) a is = (r, lists, commit (ap (λ x. step.Commit r x lists) (some_same is)))
decides_is (step.Abort r b lists) a is = (r, lists, abort (ap (λ x. step.Abort r x lists) (some_same is)))
decides_is (step.DropEntry r b guarded) a is = absurd (none-some a is)
decides_is (step.ReadDoc d) a is = absurd (none-some a is)
decides_is (step.Stage d e stage) a is = absurd (none-some a is)
decides_is (step.Publish d x body) a is = absurd (none-some a is)
decides_is (step.Delete d x) a is = absurd (none-some a is)
decides_is (step.Unstick d x) a is = absurd (none-some a is)
decides_is (step.ReadEntry r b) a is = absurd (none-some a is)
decides_is (step.AddEntry r b exp) a is = absurd (none-some a is)
decides_is (step.ReadAtr r) a is = absurd (none-some a is)
decides_is step.ReadClients a is = absurd (none-some a is)
decides_is (step.Beat me expires n gone) a is = absurd (none-some a is)

-- a guarded drop needs a pending entry
pub guarded_pending : (state : EntryState) → may_drop true state ≡ true → state ≡ Pending
guarded_pending Pending is = refl
guarded_pending Committed is = absurd (cc)
guarded_pending Aborted is = absurd (cc)

pub drops_guarded : (r a q b : ℕ) (g k : Bool) → step.DropEntry r a g ≡ step.DropEntry q b k → g ≡ k
drops_guarded r a q b g k same = cc

not_commit-add : (r a q b exp : ℕ) (lists : Lists) → step.Commit r a lists ≡ step.AddEntry q b exp → ⊥
not_commit-add r a q b exp lists same = cc

not_abort-add : (r a q b exp : ℕ) (lists : Lists) → step.Abort r a lists ≡ step.AddEntry q b exp → ⊥
not_abort-add r a q b exp lists same = cc

not_drop-add : (r a q b exp : ℕ) (g : Bool) → step.DropEntry r a g ≡ step.AddEntry q b exp → ⊥
not_drop-add r a q b exp g same = cc

not_commit-drop : (r a q b : ℕ) (lists : Lists) (g : Bool) → step.Commit r a lists ≡ step.DropEntry q b g → ⊥
not_commit-drop r a q b lists g same = cc

not_abort-drop : (r a q b : ℕ) (lists : Lists) (g : Bool) → step.Abort r a lists ≡ step.DropEntry q b g → ⊥
not_abort-drop r a q b lists g same = cc

not_commit-abort : (r a q b : ℕ) (lists other : Lists) → step.Commit r a lists ≡ step.Abort q b other → ⊥
not_commit-abort r a q b lists other same = cc

not_commit-read : (r a q b : ℕ) (lists : Lists) → step.Commit r a lists ≡ step.ReadEntry q b → ⊥
not_commit-read r a q b lists same = cc

commit_is : (r a q b : ℕ) (lists other : Lists) → step.Commit r a lists ≡ step.Commit q b other → lists ≡ other
commit_is r a q b lists other same = cc

abort_is : (r a q b : ℕ) (lists other : Lists) → step.Abort r a lists ≡ step.Abort q b other → lists ≡ other
abort_is r a q b lists other same = cc

committed-pending : Committed ≢ Pending
committed-pending q = cc

aborted-pending : Aborted ≢ Pending
aborted-pending q = cc

module _ (s0 : State) (h : List Event) (lawful : Lawful s0 h) where
  -- the entry at its decision, and afterwards
  pub record AtDecision (i r a : ℕ) : Type 0 where
    pub old : Entry
    pub there : entry_then s0 h lawful i (r, a) ≡ Some old
    pub pending : old.state ≡ Pending
    pub next : (entry_then s0 h lawful (suc i) (r, a) ≡ None) ⊎ ((y : Entry) × (entry_then s0 h lawful (suc i) (r, a) ≡ Some y) × (y.state ≢ Pending))

  pub at_decision : (i r a : ℕ) (e : Event) → TakesEffect s0 h i e → DecisionIs r a e.step → AtDecision i r a
  at_decision i r a e takes decision = go decision (entry-at_effect s0 h i e (r, a) lawful.sound.ordered takes)
    where
      touched : DecisionIs r a e.step → touches e.step ≡ Some (r, a)
      touched (is_commit lists is) = ap touches is
      touched (is_abort lists is) = ap touches is
      touched (is_eviction is) = ap touches is

      not_added : (exp : ℕ) → DecisionIs r a e.step → e.step ≡ step.AddEntry r a exp → ⊥
      not_added exp (is_commit lists is) add = not_commit-add r a r a exp lists (sym is ∙ add)
      not_added exp (is_abort lists is) add = not_abort-add r a r a exp lists (sym is ∙ add)
      not_added exp (is_eviction is) add = not_drop-add r a r a exp true (sym is ∙ add)

      guard : (g : Bool) → DecisionIs r a e.step → e.step ≡ step.DropEntry r a g → g ≡ true
      guard g (is_commit lists is) drop = absurd (not_commit-drop r a r a lists g (sym is ∙ drop))
      guard g (is_abort lists is) drop = absurd (not_abort-drop r a r a lists g (sym is ∙ drop))
      guard g (is_eviction is) drop = drops_guarded r a r a g true (sym drop ∙ is)

      go : DecisionIs r a e.step → EntryMove (after s0 h i) (clock_mutated (after s0 h i).last e.reading) e.step (r, a) (entry_at (after s0 h (suc i)) (r, a)) → AtDecision i r a
      go d (moves.same apart is) = absurd (apart (touched d))
      go d (moves.added exp is at now) = absurd (not_added exp d is)
      go d (moves.committed lists old is at pending now) = record { old = old; there = at; pending = pending; next = inr (_, now, committed-pending) }
      go d (moves.aborted lists old is at pending now) = record { old = old; there = at; pending = pending; next = inr (_, now, aborted-pending) }
      go d (moves.dropped guarded old is at may_be now) =
          record { old = old; there = at; pending = guarded_pending old.state (ap (λ g. may_drop g old.state) (sym (guard guarded d is)) ∙ may_be); next = inl now }

  decided_before : (i j r q a : ℕ) → i < j → AtDecision i r a → AtDecision j q a → ⊥
  decided_before i j r q a low one two = go one.next
    where
      same : r ≡ q
      same = one_record s0 h lawful i j r q a one.old two.old one.there two.there

      later : entry_then s0 h lawful j (r, a) ≡ Some two.old
      later = subst (λ x. entry_then s0 h lawful j (x, a) ≡ Some two.old) (sym same) two.there

      go : (entry_then s0 h lawful (suc i) (r, a) ≡ None) ⊎ ((y : Entry) × (entry_then s0 h lawful (suc i) (r, a) ≡ Some y) × (y.state ≢ Pending)) → ⊥
      go (inl gone) = stood_between s0 h lawful i (suc i) j (r, a) one.old two.old (omega arith) (omega arith) one.there later gone
      go (inr it) = it.2 (sym (stays_decided s0 h lawful (suc i) j (r, a) it.0 two.old (omega arith) it.1 it.2 later).0 ∙ two.pending)

  -- at most one commit, abort or guarded drop of an attempt takes effect
  pub decided_once : (a i j : ℕ) (e f : Event) → TakesEffect s0 h i e → TakesEffect s0 h j f → Decides a e.step → Decides a f.step → i ≡ j
  decided_once a i j e f takes takes2 one two = go (order i j)
    where
      first_is : (r : ℕ) × DecisionIs r a e.step
      first_is = decision_is e.step a one

      next_is : (r : ℕ) × DecisionIs r a f.step
      next_is = decision_is f.step a two

      at_one : AtDecision i first_is.0 a
      at_one = at_decision i first_is.0 a e takes first_is.1

      at_two : AtDecision j next_is.0 a
      at_two = at_decision j next_is.0 a f takes2 next_is.1

      go : Order i j → i ≡ j
      go (first l) = absurd (decided_before i j first_is.0 next_is.0 a l at_one at_two)
      go (equal s) = s
      go (later_one l) = absurd (decided_before j i next_is.0 first_is.0 a l at_two at_one)

  commits_no_rollback : (st : Step) (a : ℕ) → commits st ≡ Some a → rolls_back st ≡ Some a → ⊥
  commits_no_rollback st a one two = let it = commits_is st a one in none-some a (sym (ap rolls_back it.2) ∙ two)

  pub never_both : (a i j : ℕ) → CommitsAt s0 h a i → RollsBackAt s0 h a j → ⊥
  never_both a i j one two =
      let same = decided_once a i j one.event two.event one.takes two.takes (inl one.is) (inr two.is) in
      let one_is : one.event ≡ two.event = one_event h j one.event two.event (subst (λ n. slice_get h n ≡ Some one.event) same one.takes.event) two.takes.event in
      commits_no_rollback two.event.step a (ap (λ (x : Event). commits x.step) (sym one_is) ∙ one.is) two.is

  pub commits_once : (a i j : ℕ) → CommitsAt s0 h a i → CommitsAt s0 h a j → i ≡ j
  commits_once a i j one two = decided_once a i j one.event two.event one.takes two.takes (inl one.is) (inl two.is)

  -- an entry that was added by an own call: its event
  pub record Added (r a actor i : ℕ) : Type 0 where
    pub place : ℕ
    pub event : Event
    pub exp : ℕ
    pub before : place < i
    pub takes : TakesEffect s0 h place event
    pub is : event.step ≡ step.AddEntry r a exp
    pub by : event.actor ≡ actor
    pub owner : client_of a ≡ actor
    pub entry : Entry
    pub now : entry_then s0 h lawful (suc place) (r, a) ≡ Some entry

  abbrev owned : (p r a exp : ℕ) (e : Event) → slice_get h p ≡ Some e → e.step ≡ step.AddEntry r a exp → client_of a ≡ e.actor
  owned p r a exp e at is = (may s0 h lawful p e (step.AddEntry r a exp) at is).own

  pub after_add : (p r a exp : ℕ) (e : Event) → TakesEffect s0 h p e → e.step ≡ step.AddEntry r a exp → (y : Entry) × (entry_then s0 h lawful (suc p) (r, a) ≡ Some y) × (y.state ≡ Pending)
  after_add p r a exp e takes is = go (entry-at_effect s0 h p e (r, a) lawful.sound.ordered takes)
    where
      go : EntryMove (after s0 h p) (clock_mutated (after s0 h p).last e.reading) e.step (r, a) (entry_at (after s0 h (suc p)) (r, a))
          → (y : Entry) × (entry_then s0 h lawful (suc p) (r, a) ≡ Some y) × (y.state ≡ Pending)
      go (moves.same apart kept) = absurd (apart (ap touches is))
      go (moves.added exp2 add at now) = (_, now, refl)
      go (moves.committed lists old st at pending now) = absurd (not_commit-add r a r a exp lists (sym st ∙ is))
      go (moves.aborted lists old st at pending now) = absurd (not_abort-add r a r a exp lists (sym st ∙ is))
      go (moves.dropped guarded old st at may_be now) = absurd (not_drop-add r a r a exp guarded (sym st ∙ is))

  -- an entry that an own call adds is never there already
  add_not_there : (p r a exp : ℕ) (e : Event) → slice_get h p ≡ Some e → e.step ≡ step.AddEntry r a exp → (q : ℕ) (x : Entry) → entry_then s0 h lawful p (q, a) ≡ Some x → ⊥
  add_not_there p r a exp e at is q x there = go (came s0 h lawful p (q, a) x there)
    where
      go : Came s0 h lawful (q, a) p → ⊥
      go (by_event m f exp2 low takes add since) = let same = sent_once s0 h lawful m p a f e takes.event at (ap adds add) (ap adds is) in omega arith
      go (at_first since) = let old = some_of (entry_then s0 h lawful 0 (q, a)) (since 0 (omega arith)) in lawful.fresh.no_entry p q a e old.0 at (ap adds is) old.1

  pub added_at : (actor i r a : ℕ) → Once (λ m _. AddsEntry r a m) (own s0 h actor i) → Added r a actor i
  added_at actor i r a once = go (once_at s0 h (λ m _. AddsEntry r a m) actor i once)
    where
      by_answer : (it : Earlier s0 h (λ m _. AddsEntry r a m) actor i) → AddsEntry r a (made_at s0 h it.place it.event) → Added r a actor i
      by_answer it (shown.added exp c is answer) =
          let takes = (done_told s0 h it.place it.event c it.is answer).0 in
          let y = after_add it.place r a exp it.event takes is in
          record {
            place = it.place;
            event = it.event;
            exp = exp;
            before = it.before;
            takes = takes;
            is = is;
            by = it.by;
            owner = owned it.place r a exp it.event it.is is ∙ it.by;
            entry = y.0;
            now = y.1;
          }
      by_answer it (shown.was_there exp is answer) =
          let x = exists_told s0 h it.place it.event r a exp is answer in absurd (add_not_there it.place r a exp it.event it.is is r x.0 x.1)

      go : Earlier s0 h (λ m _. AddsEntry r a m) actor i → Added r a actor i
      go it = by_answer it it.holds

  -- an entry that was sent by an own call
  pub record Sent (r a actor i : ℕ) : Type 0 where
    pub place : ℕ
    pub event : Event
    pub exp : ℕ
    pub before : place < i
    pub at : slice_get h place ≡ Some event
    pub is : event.step ≡ step.AddEntry r a exp
    pub owner : client_of a ≡ actor

  pub sent_at : (actor i r a : ℕ) → Once (λ m _. (exp : ℕ) × (m.step ≡ step.AddEntry r a exp)) (own s0 h actor i) → Sent r a actor i
  sent_at actor i r a once =
      let it = once_at s0 h (λ m _. (exp : ℕ) × (m.step ≡ step.AddEntry r a exp)) actor i once in
      record { place = it.place; event = it.event; exp = it.holds.0; before = it.before; at = it.is; is = it.holds.1; owner = owned it.place r a it.holds.0 it.event it.is it.holds.1 ∙ it.by }

  -- who commits or aborts an attempt has sent its entry
  pub closer : (i r a : ℕ) (lists : Lists) (e : Event) → slice_get h i ≡ Some e → Closing r a lists e.step → Sent r a e.actor i
  closer i r a lists e at (commit is) =
      let it = kept_at s0 h (λ m _. AddsEntry r a m) _ e.actor i (may s0 h lawful i e (step.Commit r a lists) at is).written in
      let added = added_at e.actor i r a (at_once s0 h (λ m _. AddsEntry r a m) e.actor i it.place it.event it.before it.is it.by it.holds) in
      record { place = added.place; event = added.event; exp = added.exp; before = added.before; at = added.takes.event; is = added.is; owner = added.owner }
  closer i r a lists e at (abort is) = sent_at e.actor i r a (may s0 h lawful i e (step.Abort r a lists) at is).sent

  -- the entry of an attempt that was sent in this history was not there at first
  pub not_at_first : (r a actor i q : ℕ) (x : Entry) → Sent r a actor i → entry_then s0 h lawful 0 (q, a) ≡ Some x → ⊥
  not_at_first r a actor i q x it there = lawful.fresh.no_entry it.place q a it.event x it.at (ap adds it.is) there

  -- the state of an entry after a commit or an abort that took effect
  pub record Closed (i r a : ℕ) (lists : Lists) (st : Step) : Type 0 where
    pub old : Entry
    pub there : entry_then s0 h lawful i (r, a) ≡ Some old
    pub entry : Entry
    pub now : entry_then s0 h lawful (suc i) (r, a) ≡ Some entry
    pub deciding : Deciding r a lists st entry.state
    pub lists_are : entry.lists ≡ lists

  pub closed_at : (i r a : ℕ) (lists : Lists) (e : Event) → TakesEffect s0 h i e → Closing r a lists e.step → Closed i r a lists e.step
  closed_at i r a lists e takes closing = go closing (entry-at_effect s0 h i e (r, a) lawful.sound.ordered takes)
    where
      touched : Closing r a lists e.step → touches e.step ≡ Some (r, a)
      touched (commit is) = ap touches is
      touched (abort is) = ap touches is

      go : Closing r a lists e.step → EntryMove (after s0 h i) (clock_mutated (after s0 h i).last e.reading) e.step (r, a) (entry_at (after s0 h (suc i)) (r, a)) → Closed i r a lists e.step
      go d (moves.same apart is) = absurd (apart (touched d))
      go (commit st) (moves.added exp is at now) = absurd (not_commit-add r a r a exp lists (sym st ∙ is))
      go (abort st) (moves.added exp is at now) = absurd (not_abort-add r a r a exp lists (sym st ∙ is))
      go (commit st) (moves.committed other old is at pending now) =
          let same : lists ≡ other = commit_is r a r a lists other (sym st ∙ is) in
          record { old = old; there = at; entry = _; now = now; deciding = by_commit st refl; lists_are = sym same }
      go (abort st) (moves.committed other old is at pending now) = absurd (not_commit-abort r a r a other lists (sym is ∙ st))
      go (commit st) (moves.aborted other old is at pending now) = absurd (not_commit-abort r a r a lists other (sym st ∙ is))
      go (abort st) (moves.aborted other old is at pending now) =
          let same : lists ≡ other = abort_is r a r a lists other (sym st ∙ is) in
          record { old = old; there = at; entry = _; now = now; deciding = by_abort st refl; lists_are = sym same }
      go (commit st) (moves.dropped guarded old is at may_be now) = absurd (not_commit-drop r a r a lists guarded (sym st ∙ is))
      go (abort st) (moves.dropped guarded old is at may_be now) = absurd (not_abort-drop r a r a lists guarded (sym st ∙ is))

  deciding_not_pending : (r a : ℕ) (lists : Lists) (st : Step) (state : EntryState) → Deciding r a lists st state → state ≢ Pending
  deciding_not_pending r a lists st state (by_commit is at) = λ q. committed-pending (sym at ∙ q)
  deciding_not_pending r a lists st state (by_abort is at) = λ q. aborted-pending (sym at ∙ q)

  pub closed-decided : (i r a : ℕ) (lists : Lists) (st : Step) (it : Closed i r a lists st) → it.entry.state ≢ Pending
  closed-decided i r a lists st it = deciding_not_pending r a lists st it.entry.state it.deciding

  failed-decided : reply.Failed ≢ reply.Decided
  failed-decided q = cc

  done-failed : (c : ℕ) → reply.Done c ≢ reply.Failed
  done-failed c q = cc

  done-decided : (c : ℕ) → reply.Done c ≢ reply.Decided
  done-decided c q = cc

  -- where the owner's commits are not settled, none has taken effect
  unsettled_none : (q i r t a : ℕ) (lists : Lists) (e : Event) (actor : ℕ) → q < i → TakesEffect s0 h q e → e.actor ≡ actor → e.step ≡ step.Commit r a lists
      → CommitsUnsettled (own s0 h actor i) t a → ⊥
  unsettled_none q i r t a lists e actor low takes by is unsettled = ⊎_elim answered failed (effect_told s0 h q e takes)
    where
      answered : (made_at s0 h q e).answer.reply ≡ reply.Done (clock_mutated (after s0 h q).last e.reading) → ⊥
      answered done =
          unsettled.unanswered (at_once s0 h (λ m _. (commits m.step ≡ Some a) × (m.answer.reply ≢ reply.Failed) × (m.answer.reply ≢ reply.Decided)) actor i q e low takes.event by
          (ap commits is, λ x. done-failed _ (sym done ∙ x), λ x. done-decided _ (sym done ∙ x)))

      failed : (made_at s0 h q e).answer.reply ≡ reply.Failed → ⊥
      failed answer =
          let read = kept_at s0 h (λ m _. (x : Entry) × ReadsEntry t a x m × (x.state ≢ Committed)) (λ m _. commits m.step ≡ Some a) actor i
          (unsettled.read (at_once s0 h (λ m _. commits m.step ≡ Some a) actor i q e low takes.event by (ap commits is))) in
          by_place read.place read.event read.is read.holds read.since (order q read.place)
        where
          by_place : (m : ℕ) (f : Event) → slice_get h m ≡ Some f → ((x : Entry) × ReadsEntry t a x (made_at s0 h m f) × (x.state ≢ Committed))
              → ((k : ℕ) (g : Event) → m < k → k < i → slice_get h k ≡ Some g → g.actor ≡ actor → commits (made_at s0 h k g).step ≡ Some a → ⊥) → Order q m → ⊥
          by_place m f at held since (first l) =
              let it = closed_at q r a lists e takes (commit is) in
              let there : entry_then s0 h lawful m (t, a) ≡ Some held.0 = entry_told s0 h m f t a held.0 held.1.0 held.1.1 in
              let same : r ≡ t = one_record s0 h lawful (suc q) m r t a it.entry held.0 it.now there in
              let now : entry_then s0 h lawful m (r, a) ≡ Some held.0 = subst (λ z. entry_then s0 h lawful m (z, a) ≡ Some held.0) (sym same) there in
              held.2 ((stays_decided s0 h lawful (suc q) m (r, a) it.entry held.0 (omega arith) it.now (closed-decided q r a lists e.step it) now).0 ∙ is_committed it.deciding)
            where
              is_committed : {state : EntryState} → Deciding r a lists e.step state → state ≡ Committed
              is_committed (by_commit st at2) = at2
              is_committed (by_abort st at2) = absurd (not_commit-abort r a r a lists lists (sym is ∙ st))
          by_place m f at held since (equal s) =
              let same : e ≡ f = one_event h m e f (subst (λ n. slice_get h n ≡ Some e) s takes.event) at in
              not_commit-read r a t a lists (sym is ∙ ap (λ (x : Event). x.step) same ∙ held.1.0)
          by_place m f at held since (later_one l) = since q e l low takes.event by (ap commits is)

  -- no own commit or abort is made after one that took effect
  pub closed_last : (q i r t a : ℕ) (lists other : Lists) (e f : Event) → q < i → TakesEffect s0 h q e → Closing r a lists e.step → slice_get h i ≡ Some f → Closing t a other f.step → ⊥
  closed_last q i r t a lists other e f low takes one at two = go one two
    where
      mine : e.actor ≡ f.actor
      mine = sym (closer q r a lists e takes.event one).owner ∙ (closer i t a other f at two).owner

      go : Closing r a lists e.step → Closing t a other f.step → ⊥
      go (commit is) (commit its) = unsettled_none q i r t a lists e f.actor low takes mine is (may s0 h lawful i f (step.Commit t a other) at its).again
      go (commit is) (abort its) = unsettled_none q i r t a lists e f.actor low takes mine is (may s0 h lawful i f (step.Abort t a other) at its).after_commits
      go (abort is) (commit its) = (may s0 h lawful i f (step.Commit t a other) at its).unaborted (at_once s0 h (λ m _. aborts m.step ≡ Some a) f.actor i q e low takes.event mine (ap aborts is))
      go (abort is) (abort its) = (may s0 h lawful i f (step.Abort t a other) at its).first (at_once s0 h (λ m _. aborts m.step ≡ Some a) f.actor i q e low takes.event mine (ap aborts is))

  -- at an own commit or abort the entry is not decided yet
  pub undecided_there : (i r a q : ℕ) (lists : Lists) (f : Event) (x : Entry) → slice_get h i ≡ Some f → Closing r a lists f.step → entry_then s0 h lawful i (q, a) ≡ Some x → x.state ≢ Pending → ⊥
  undecided_there i r a q lists f x at closing there decided = go (settled s0 h lawful i (q, a) x there decided)
    where
      as_closing : (e : Event) → Deciding q a x.lists e.step x.state → Closing q a x.lists e.step
      as_closing e (by_commit is state) = commit is
      as_closing e (by_abort is state) = abort is

      go : Settled s0 h lawful (q, a) i x → ⊥
      go (by_decision m e old y low takes deciding old_at pending now state same) = closed_last m i q r a x.lists lists e f low takes (as_closing e deciding) at closing
      go (in_opening y first_at state same) = not_at_first r a f.actor i q y (closer i r a lists f at closing) first_at

  -- no own commit is answered Decided
  pub no_commit_decided : (i a : ℕ) (f : Event) → slice_get h i ≡ Some f → commits f.step ≡ Some a → (made_at s0 h i f).answer.reply ≢ reply.Decided
  no_commit_decided i a f at is answer =
      let it = commits_is f.step a is in
      let x = commit_decided_told s0 h i f it.0 a it.1 it.2 answer in
      undecided_there i it.0 a it.0 it.1 f x.0 at (commit it.2) x.1 x.2

  -- and no own abort
  pub no_abort_decided : (i r a : ℕ) (lists : Lists) (f : Event) → slice_get h i ≡ Some f → f.step ≡ step.Abort r a lists → (made_at s0 h i f).answer.reply ≢ reply.Decided
  no_abort_decided i r a lists f at is answer =
      let x = abort_decided_told s0 h i f r a lists is answer in
      undecided_there i r a r lists f x.0 at (abort is) x.1 x.2
