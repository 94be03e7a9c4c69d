-- The life of an attempt: how its entry comes, is decided, and goes.
use Rattle.std.proofs.Common.{◌≡◌, ◌≢◌, ℕ, zero, suc, ◌<◌, ◌≤◌, Bool, true, ◌⊎◌, inl, inr, ⊎_elim, List, Option, Some, None, refl, sym, ap, ◌∙◌, subst, slice_get, arith}
use Rattle.std.proofs.lemmas.Bool.{cases_lt}
use Rattle.std.proofs.lemmas.Option.{none-some}
use Rattle.cbt_base.specs.Clock.{clock_mutated}
use Rattle.cbt_model.specs.History.{after, TakesEffect}
use Rattle.cbt_model.specs.Keys.{entry_at}
use Rattle.cbt_model.specs.Table.{may_drop}
use Rattle.cbt_model.specs.declared.entries.Entry.{Entry}
use Rattle.cbt_model.specs.declared.entries.EntryState.{EntryState}
use Rattle.cbt_model.specs.declared.entries.EntryState.TheVariants.{Pending, Committed, Aborted}
use Rattle.cbt_model.specs.declared.entries.Lists.{Lists}
use Rattle.cbt_model.specs.declared.events.Event.{Event}
use Rattle.cbt_model.specs.declared.states.State.{State}
use Rattle.cbt_model.specs.declared.steps.Step.{Step}
use Rattle.cbt_model.specs.declared.steps.Step.TheVariants as step
use Rattle.cbt_model.proofs.Effects.{IsQuiet, quiet_or_effect, entry-at_effect}
use Rattle.cbt_model.proofs.Moves.{EntryMove}
use Rattle.cbt_model.proofs.Moves as moves
use Rattle.cbt_book.specs.Shown.{adds}
use Rattle.cbt_core.proofs.runs.Lawful.{Lawful, may}
use Rattle.cbt_core.proofs.runs.Past.{some_same, one_event, below_next, Order, first, equal, after as later_one, order, at_once}

-- a decision: a commit or an abort of attempt a in record r, with its lists, and the state that it gives
pub data Deciding (r a : ℕ) (lists : Lists) (st : Step) (state : EntryState) : Type 0 where
  by_commit : st ≡ step.Commit r a lists → state ≡ Committed → Deciding r a lists st state
  by_abort : st ≡ step.Abort r a lists → state ≡ Aborted → Deciding r a lists st state

not_pending-decided : (r a : ℕ) (lists : Lists) (st : Step) (state : EntryState) → Deciding r a lists st state → state ≢ Pending
not_pending-decided r a lists st state (by_commit is at) = λ q. cc
not_pending-decided r a lists st state (by_abort is at) = λ q. cc

-- the step that adds an attempt's entry
pub adds_is : (st : Step) (a : ℕ) → adds st ≡ Some a → (r exp : ℕ) × (st ≡ step.AddEntry r a exp)
adds_is (step.AddEntry r b exp) a is = (r, exp, ap (λ x. step.AddEntry r x exp) (some_same is))
adds_is (step.ReadDoc d) a is = absurd (none-some a is)
adds_is (step.Stage d e stage) a is = absurd (none-some a is)
adds_is (step.Publish d x body) a is = absurd (none-some a is)
adds_is (step.Delete d x) a is = absurd (none-some a is)
adds_is (step.Unstick d x) a is = absurd (none-some a is)
adds_is (step.ReadEntry r b) a is = absurd (none-some a is)
adds_is (step.Commit r b lists) a is = absurd (none-some a is)
adds_is (step.Abort r b lists) a is = absurd (none-some a is)
adds_is (step.DropEntry r b guarded) a is = absurd (none-some a is)
adds_is (step.ReadAtr r) a is = absurd (none-some a is)
adds_is step.ReadClients a is = absurd (none-some a is)
adds_is (step.Beat me expires n gone) a is = absurd (none-some a is)

pub none_below : (n : ℕ) → n ≤ 0 → n ≡ 0
none_below n low = omega arith

pub between : (i j : ℕ) → i ≤ j → j ≤ i → i ≡ j
between i j low high = omega arith

pub some_of : {X : Type 0} (o : Option X) → o ≢ None → (x : X) × (o ≡ Some x)
some_of None not_none = absurd (not_none refl)
some_of (Some x) not_none = (x, refl)

pub none_or : {X : Type 0} (o : Option X) → ((x : X) → o ≡ Some x → ⊥) → o ≡ None
none_or None never = refl
none_or (Some x) never = absurd (never x refl)

pub is_pending_or_not : (state : EntryState) → (state ≡ Pending) ⊎ (state ≢ Pending)
is_pending_or_not Pending = inl refl
is_pending_or_not Committed = inr (λ q. cc)
is_pending_or_not Aborted = inr (λ q. cc)

module _ (s0 : State) (h : List Event) (lawful : Lawful s0 h) where
  -- the entry with this key after so many events
  abbrev pub entry_then : ℕ → ℕ × ℕ → Option Entry
  entry_then i key = entry_at (after s0 h i) key

  -- one entry stands with a key at a place
  pub one_entry : (i j : ℕ) (key : ℕ × ℕ) (x y : Entry) → i ≡ j → entry_then i key ≡ Some x → entry_then j key ≡ Some y → x ≡ y
  one_entry i j key x y same at there = some_same (sym at ∙ ap (λ k. entry_then k key) same ∙ there)

  -- what an event makes of an entry
  pub data Goes (key : ℕ × ℕ) (i : ℕ) : Type 0 where
    stays : entry_then (suc i) key ≡ entry_then i key → Goes key i
    is_added : (e : Event) (exp : ℕ) (x : Entry) → TakesEffect s0 h i e → e.step ≡ step.AddEntry key.0 key.1 exp → entry_then i key ≡ None
        → entry_then (suc i) key ≡ Some x → x.state ≡ Pending → x.start ≡ clock_mutated (after s0 h i).last e.reading → Goes key i
    is_decided : (e : Event) (lists : Lists) (old x : Entry) → TakesEffect s0 h i e → Deciding key.0 key.1 lists e.step x.state → entry_then i key ≡ Some old
        → old.state ≡ Pending → entry_then (suc i) key ≡ Some x → x.lists ≡ lists → x.start ≡ old.start → Goes key i
    is_dropped : (e : Event) (guarded : Bool) (old : Entry) → TakesEffect s0 h i e → e.step ≡ step.DropEntry key.0 key.1 guarded → entry_then i key ≡ Some old
        → may_drop guarded old.state ≡ true → entry_then (suc i) key ≡ None → Goes key i

  pub goes : (i : ℕ) (key : ℕ × ℕ) → Goes key i
  goes i key = ⊎_elim (λ (it : IsQuiet (after s0 h i) (after s0 h (suc i))). stays (quietly it)) (λ (it : (e : Event) × TakesEffect s0 h i e). by_move it.0 it.1 (entry-at_effect s0 h i it.0 key lawful.sound.ordered it.1)) (quiet_or_effect s0 h i)
    where
      quietly : IsQuiet (after s0 h i) (after s0 h (suc i)) → entry_then (suc i) key ≡ entry_then i key
      quietly it = ap (λ entries. entry_at (record (after s0 h i) { entries = entries }) key) it.entries

      by_move : (e : Event) → TakesEffect s0 h i e → EntryMove (after s0 h i) (clock_mutated (after s0 h i).last e.reading) e.step key (entry_at (after s0 h (suc i)) key) → Goes key i
      by_move e takes (moves.same apart is) = stays is
      by_move e takes (moves.added exp is at now) = is_added e exp _ takes is at now refl refl
      by_move e takes (moves.committed lists old is at pending now) = is_decided e lists old _ takes (by_commit is refl) at pending now refl refl
      by_move e takes (moves.aborted lists old is at pending now) = is_decided e lists old _ takes (by_abort is refl) at pending now refl refl
      by_move e takes (moves.dropped guarded old is at may now) = is_dropped e guarded old takes is at may now

  -- how an entry came that stands after i events: it was added by an event and stands since, or it stood at first
  pub data Came (key : ℕ × ℕ) (i : ℕ) : Type 0 where
    by_event : (m : ℕ) (e : Event) (exp : ℕ) → m < i → TakesEffect s0 h m e → e.step ≡ step.AddEntry key.0 key.1 exp
        → ((n : ℕ) → m < n → n ≤ i → entry_then n key ≢ None) → Came key i
    at_first : ((n : ℕ) → n ≤ i → entry_then n key ≢ None) → Came key i

  stands_next : (key : ℕ × ℕ) (i : ℕ) → Came key i → entry_then (suc i) key ≢ None → Came key (suc i)
  stands_next key i (by_event m e exp low takes is since) now =
      by_event m e exp (omega arith) takes is
      (λ n from to. ⊎_elim (λ (l : n < suc i). since n from (omega arith)) (λ (s : n ≡ suc i). subst (λ k. entry_then k key ≢ None) (sym s) now) (below_next n (suc i) (omega arith)))
  stands_next key i (at_first since) now =
      at_first (λ n to. ⊎_elim (λ (l : n < suc i). since n (omega arith)) (λ (s : n ≡ suc i). subst (λ k. entry_then k key ≢ None) (sym s) now) (below_next n (suc i) (omega arith)))

  came_next : (key : ℕ × ℕ) (i : ℕ) → Goes key i → ((x : Entry) → entry_then i key ≡ Some x → Came key i) → (x : Entry) → entry_then (suc i) key ≡ Some x → Came key (suc i)
  came_next key i (stays is) ih x at = stands_next key i (ih x (sym is ∙ at)) (λ q. none-some x (sym q ∙ at))
  came_next key i (is_added e exp y takes is none now pending start) ih x at =
      by_event i e exp (omega arith) takes is
      (λ n from to. ⊎_elim (λ (l : n < suc i). absurd (omega arith)) (λ (s : n ≡ suc i). subst (λ k. entry_then k key ≢ None) (sym s) (λ q. none-some x (sym q ∙ at))) (below_next n (suc i) (omega arith)))
  came_next key i (is_decided e lists old y takes deciding there pending now same start) ih x at = stands_next key i (ih old there) (λ q. none-some x (sym q ∙ at))
  came_next key i (is_dropped e guarded old takes is there may_be now) ih x at = absurd (none-some x (sym now ∙ at))

  pub came : (i : ℕ) (key : ℕ × ℕ) (x : Entry) → entry_then i key ≡ Some x → Came key i
  came zero key x at = at_first (λ n to q. none-some x (sym (subst (λ k. entry_then k key ≡ None) (none_below n to) q) ∙ at))
  came (suc i) key x at = came_next key i (goes i key) (λ y there. came i key y there) x at

  -- an attempt's entry is sent once
  added_before : (i j a : ℕ) (e f : Event) → i < j → slice_get h i ≡ Some e → slice_get h j ≡ Some f → adds e.step ≡ Some a → adds f.step ≡ Some a → ⊥
  added_before i j a e f low at there one two =
      let mine = adds_is e.step a one in
      let its = adds_is f.step a two in
      let first_may = may s0 h lawful i e (step.AddEntry mine.0 a mine.1) at mine.2 in
      let next_may = may s0 h lawful j f (step.AddEntry its.0 a its.1) there its.2 in
      next_may.first (at_once s0 h (λ m _. adds m.step ≡ Some a) f.actor j i e low at (sym first_may.own ∙ next_may.own) one)

  pub sent_once : (i j a : ℕ) (e f : Event) → slice_get h i ≡ Some e → slice_get h j ≡ Some f → adds e.step ≡ Some a → adds f.step ≡ Some a → i ≡ j
  sent_once i j a e f at there one two = go (order i j)
    where
      go : Order i j → i ≡ j
      go (first l) = absurd (added_before i j a e f l at there one two)
      go (equal s) = s
      go (later_one l) = absurd (added_before j i a f e l there at two one)

  same_event : (i j a : ℕ) (e f : Event) → slice_get h i ≡ Some e → slice_get h j ≡ Some f → adds e.step ≡ Some a → adds f.step ≡ Some a → e ≡ f
  same_event i j a e f at there one two = one_event h j e f (subst (λ n. slice_get h n ≡ Some e) (sent_once i j a e f at there one two) at) there

  record_is : (r q a exp exp2 : ℕ) → step.AddEntry r a exp ≡ step.AddEntry q a exp2 → r ≡ q
  record_is r q a exp exp2 same = cc

  -- an attempt has its entry in one record
  pub one_record : (i j r q a : ℕ) (x y : Entry) → entry_then i (r, a) ≡ Some x → entry_then j (q, a) ≡ Some y → r ≡ q
  one_record i j r q a x y at there = go (came i (r, a) x at) (came j (q, a) y there)
    where
      go : Came (r, a) i → Came (q, a) j → r ≡ q
      go (by_event m e exp low takes is since) (by_event n f exp2 low2 takes2 is2 since2) =
          record_is r q a exp exp2 (sym is ∙ ap (λ (z : Event). z.step) (same_event m n a e f takes.event takes2.event (ap adds is) (ap adds is2)) ∙ is2)
      go (by_event m e exp low takes is since) (at_first since2) =
          let old = some_of (entry_then 0 (q, a)) (since2 0 (omega arith)) in absurd (lawful.fresh.no_entry m q a e old.0 takes.event (ap adds is) old.1)
      go (at_first since) (by_event n f exp2 low2 takes2 is2 since2) =
          let old = some_of (entry_then 0 (r, a)) (since 0 (omega arith)) in absurd (lawful.fresh.no_entry n r a f old.0 takes2.event (ap adds is2) old.1)
      go (at_first since) (at_first since2) =
          let old = some_of (entry_then 0 (r, a)) (since 0 (omega arith)) in
          let its = some_of (entry_then 0 (q, a)) (since2 0 (omega arith)) in
          lawful.sound.one r q a old.0 its.0 old.1 its.1

  -- an entry that stood at i and stands at k stood all the time between
  pub stood_between : (i j k : ℕ) (key : ℕ × ℕ) (x z : Entry) → i ≤ j → j ≤ k → entry_then i key ≡ Some x → entry_then k key ≡ Some z → entry_then j key ≢ None
  stood_between i j k key x z low high at there = go (came i key x at) (came k key z there)
    where
      go : Came key i → Came key k → entry_then j key ≢ None
      go (by_event m e exp low1 takes is since) (by_event n f exp2 low2 takes2 is2 since2) =
          since2 j (let same = sent_once m n key.1 e f takes.event takes2.event (ap adds is) (ap adds is2) in omega arith) high
      go (by_event m e exp low1 takes is since) (at_first since2) = since2 j high
      go (at_first since) (by_event n f exp2 low2 takes2 is2 since2) =
          let old = some_of (entry_then 0 key) (since 0 (omega arith)) in absurd (lawful.fresh.no_entry n key.0 key.1 f old.0 takes2.event (ap adds is2) old.1)
      go (at_first since) (at_first since2) = since2 j high

  -- an entry that was dropped does not return, in any record
  pub stays_gone : (i j k r : ℕ) (key : ℕ × ℕ) (x : Entry) → i ≤ j → j ≤ k → entry_then i key ≡ Some x → entry_then j key ≡ None → entry_then k (r, key.1) ≡ None
  stays_gone i j k r key x low high at gone =
      none_or (entry_then k (r, key.1)) (λ z there.
      let same : r ≡ key.0 = one_record k i r key.0 key.1 z x there at in
      stood_between i j k key x z low high at (subst (λ q. entry_then k (q, key.1) ≡ Some z) same there) gone)

  -- a decided entry keeps its state and lists while it stands
  stays_next : (key : ℕ × ℕ) (i j : ℕ) (x : Entry) → i ≤ j → entry_then i key ≡ Some x → x.state ≢ Pending → Goes key j
      → ((y : Entry) → entry_then j key ≡ Some y → (y.state ≡ x.state) × (y.lists ≡ x.lists)) → (y : Entry) → entry_then (suc j) key ≡ Some y
      → (y.state ≡ x.state) × (y.lists ≡ x.lists)
  stays_next key i j x low at decided (stays is) ih y there = ih y (sym is ∙ there)
  stays_next key i j x low at decided (is_added e exp z takes is none now pending start) ih y there =
      absurd (stood_between i j (suc j) key x y low (omega arith) at there none)
  stays_next key i j x low at decided (is_decided e lists old z takes deciding old_at pending now same start) ih y there =
      absurd (decided (sym (ih old old_at).0 ∙ pending))
  stays_next key i j x low at decided (is_dropped e guarded old takes is old_at may_be now) ih y there = absurd (none-some y (sym now ∙ there))

  decided_from : (key : ℕ × ℕ) (i j : ℕ) (x y : Entry) → i ≤ j → entry_then i key ≡ Some x → x.state ≢ Pending → entry_then j key ≡ Some y
      → (y.state ≡ x.state) × (y.lists ≡ x.lists)
  decided_from key i zero x y low at decided there =
      let same = one_entry i zero key x y (none_below i low) at there in (ap (λ (z : Entry). z.state) (sym same), ap (λ (z : Entry). z.lists) (sym same))
  decided_from key i (suc j) x y low at decided there =
      ⊎_elim (λ (l : i < suc j). stays_next key i j x (omega arith) at decided (goes j key) (λ z z_at. decided_from key i j x z (omega arith) at decided z_at) y there)
      (λ (s : suc j ≤ i). let same = one_entry i (suc j) key x y (between i (suc j) low s) at there in (ap (λ (z : Entry). z.state) (sym same), ap (λ (z : Entry). z.lists) (sym same)))
      (cases_lt i (suc j))

  pub stays_decided : (i j : ℕ) (key : ℕ × ℕ) (x y : Entry) → i ≤ j → entry_then i key ≡ Some x → x.state ≢ Pending → entry_then j key ≡ Some y
      → (y.state ≡ x.state) × (y.lists ≡ x.lists)
  stays_decided i j key x y low at decided there = decided_from key i j x y low at decided there

  -- an entry that is pending was so since it came
  pub was_pending : (i j k : ℕ) (key : ℕ × ℕ) (x z : Entry) → i ≤ j → j ≤ k → entry_then i key ≡ Some x → entry_then k key ≡ Some z → z.state ≡ Pending
      → (y : Entry) × (entry_then j key ≡ Some y) × (y.state ≡ Pending)
  was_pending i j k key x z low high at there pending =
      let mid = some_of (entry_then j key) (stood_between i j k key x z low high at there) in
      (mid.0, mid.1, ⊎_elim (λ (p : mid.0.state ≡ Pending). p) (λ (n : mid.0.state ≢ Pending). absurd (n (sym (stays_decided j k key mid.0 z high mid.1 n there).0 ∙ pending))) (is_pending_or_not mid.0.state))

  -- how a decided entry was decided: by an event, or it stood so at first
  pub data Settled (key : ℕ × ℕ) (i : ℕ) (x : Entry) : Type 0 where
    by_decision : (q : ℕ) (e : Event) (old y : Entry) → q < i → TakesEffect s0 h q e → Deciding key.0 key.1 x.lists e.step x.state → entry_then q key ≡ Some old → old.state ≡ Pending
        → entry_then (suc q) key ≡ Some y → y.state ≡ x.state → y.lists ≡ x.lists → Settled key i x
    in_opening : (y : Entry) → entry_then 0 key ≡ Some y → y.state ≡ x.state → y.lists ≡ x.lists → Settled key i x

  settled_as : (key : ℕ × ℕ) (i : ℕ) (x y : Entry) → x ≡ y → Settled key i x → Settled key (suc i) y
  settled_as key i x y same (by_decision q e old z low takes deciding at pending now state lists) =
      subst (λ w. Settled key (suc i) w) same (by_decision q e old z (omega arith) takes deciding at pending now state lists)
  settled_as key i x y same (in_opening z at state lists) = subst (λ w. Settled key (suc i) w) same (in_opening z at state lists)

  settled_next : (key : ℕ × ℕ) (i : ℕ) → Goes key i → ((x : Entry) → entry_then i key ≡ Some x → x.state ≢ Pending → Settled key i x) → (x : Entry) → entry_then (suc i) key ≡ Some x
      → x.state ≢ Pending → Settled key (suc i) x
  settled_next key i (stays is) ih x at decided = settled_as key i x x refl (ih x (sym is ∙ at) decided)
  settled_next key i (is_added e exp y takes is none now pending start) ih x at decided = absurd (decided (ap (λ (z : Entry). z.state) (some_same (sym at ∙ now)) ∙ pending))
  settled_next key i (is_decided e lists old y takes deciding there pending now same start) ih x at decided =
      let is : x ≡ y = some_same (sym at ∙ now) in
      let with_lists : Deciding key.0 key.1 y.lists e.step y.state = subst (λ l. Deciding key.0 key.1 l e.step y.state) (sym same) deciding in
      subst (λ w. Settled key (suc i) w) (sym is) (by_decision i e old y (omega arith) takes with_lists there pending now refl refl)
  settled_next key i (is_dropped e guarded old takes is there may_be now) ih x at decided = absurd (none-some x (sym now ∙ at))

  pub settled : (i : ℕ) (key : ℕ × ℕ) (x : Entry) → entry_then i key ≡ Some x → x.state ≢ Pending → Settled key i x
  settled zero key x at decided = in_opening x at refl refl
  settled (suc i) key x at decided = settled_next key i (goes i key) (λ y there not. settled i key y there not) x at decided
