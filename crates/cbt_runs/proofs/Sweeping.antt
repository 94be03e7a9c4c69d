-- Two drives, one behind the other.
use Rattle.std.proofs.Common.{◌≡◌, ℕ, zero, suc, ◌+◌, ◌<◌, ◌≤◌, ◌⊎◌, inl, inr, ⊎_elim, Bool, true, false, IsTrue, ◌↔◌, ◌||◌, List, [], ◌∷◌, ◌++◌, length, slice_get, Some, None, Result, OnOk, OnErr, is_err, refl, sym, ap, ◌∙◌, subst, arith}
use Rattle.std.specs.List.{range_with_len}
use Rattle.std.proofs.lemmas.Bool.{cases_lt}
use Rattle.std.proofs.lemmas.List.{append-nil, length-map}
use Rattle.std.proofs.lemmas.Option.{slice_get_within}
use Rattle.cbt_model.specs.History.{own}
use Rattle.cbt_model.specs.Legal.{KeepsTerms, Terms}
use Rattle.cbt_model.specs.Stops.{stop_of}
use Rattle.cbt_model.specs.declared.actors.Actor.{Ghosts as ActorOf}
use Rattle.cbt_model.specs.declared.events.Event.{Event}
use Rattle.cbt_model.specs.declared.events.Item.{Item}
use Rattle.cbt_model.specs.declared.events.Kept.{Kept}
use Rattle.cbt_model.specs.declared.events.Made.{Made}
use Rattle.cbt_model.specs.declared.events.Mark.{Mark}
use Rattle.cbt_core.specs.WriteSets.{numbered}
use Rattle.cbt_core.proofs.runs.Past.{own_descends}
use Rattle.cbt_sched.specs.Stopping.{StopReached}
use Rattle.cbt_sched.specs.Turns.{AddsMarks, AreAmong, none, taken, missed, callers, calls_of, marks_of, turns}
use Rattle.cbt_sched.proofs.Calling.{holds-at_err, holds-at_ok}
use Rattle.cbt_sched.proofs.Ending.{length-own}
use Rattle.cbt_sched.proofs.Following.{adds-further}
use Rattle.cbt_runs.specs.Driven.{own_in, AreDriven, HasRun, HaveRun}
use Rattle.cbt_runs.specs.Ordered.{sweep_mark, AreInTurns}
use Rattle.cbt_runs.specs.Stopped.{AreStopped, StayWithin}
use Rattle.cbt_runs.proofs.Numbering.{one-plus}

-- neither of two refused
pub or_parts : (a b : Bool) → (a || b) ≡ false → (a ≡ false) × (b ≡ false)
or_parts true b fine = absurd (cc)
or_parts false b fine = (refl, fine)

module _ {A : Type 0} (kind : ActorOf A) where
  -- what one drive says of its actors
  pub have_run : (first : ℕ) (kept : Kept) (begun now : List A) → length now ≡ length begun
      → ((k : ℕ) (a : A) → slice_get now k ≡ Some a → kind.stands_for a (own_in kept (first + k)))
      → ((k : ℕ) (b a : A) → slice_get begun k ≡ Some b → slice_get now k ≡ Some a → kind.same_origin b a)
      → ((k : ℕ) (a : A) → slice_get now k ≡ Some a → kind.step_now a ≡ None) → HaveRun kind first kept begun now
  have_run first kept begun now same stands origin ended = record {
    same_length = same;
    each = λ k b a at is. record {
      stands = stands k a is;
      descends = own_descends kept.opening kept.history (first + k) (length kept.history);
      origin = origin k b a at is;
      ended = ended k a is;
    };
  }

  -- they have run where their own lists stay
  pub have_run-still : (first : ℕ) (kept kept' : Kept) (begun now : List A)
      → ((k : ℕ) → k < length begun → own_in kept' (first + k) ≡ own_in kept (first + k)) → HaveRun kind first kept begun now → HaveRun kind first kept' begun now
  have_run-still first kept kept' begun now same run = record {
    same_length = run.same_length;
    each = λ k b a at is. subst (λ l. HasRun kind b a l) (sym (same k (slice_get_within begun k b at))) (run.each k b a at is);
  }

  -- no stop was reached where none is named
  pub never_stopped : (stops : List (ℕ × ℕ)) (number : ℕ) (begun now : A) (l : List Made) → stops ≡ []
      → (kind.is_stopped now ≡ true → StopReached kind.stands_for kind.step_now kind.same_origin kind.stopped_as (stop_of stops number) begun now l)
      → kind.is_stopped now ≡ false
  never_stopped stops number begun now l empty cause = go (kind.is_stopped now) refl
    where
      go : (b : Bool) → kind.is_stopped now ≡ b → kind.is_stopped now ≡ false
      go true is = absurd (let clash : None ≡ Some (length l) = sym (ap (λ s. stop_of s number) empty) ∙ (cause is).reached in cc)
      go false is = is

-- a list that was found not to be empty
pub some-items : {X : Type 0} (xs : List X) (empty : Bool) → IsTrue empty ↔ (xs ≡ []) → empty ≡ false → 0 < length xs
some-items [] empty is none_empty = absurd (let clash : false ≡ true = subst (λ b. IsTrue b) none_empty (is.1 refl) in cc)
some-items (x ∷ xs) empty is none_empty = omega arith

-- marks
pub no-sweep_mark : (sweeps ahead place : ℕ) (marks : List Mark) → sweeps ≡ 0 → AddsMarks false (sweep_mark sweeps ahead place) marks marks
no-sweep_mark zero ahead place marks none_swept = record { added = []; grown = sym (append-nil marks); among = none; all = λ fine. refl }
no-sweep_mark (suc sweeps) ahead place marks none_swept = absurd (omega arith)

none-among : (added due : List Mark) → due ≡ [] → AreAmong added due → added ≡ []
none-among _ _ is none = refl
none-among _ _ is (taken m added due more) = absurd (cc)
none-among _ _ is (missed m added due more) = absurd (cc)

no-more : (refused : Bool) (due old new : List Mark) → due ≡ [] → AddsMarks refused due old new → new ≡ old
no-more refused due old new is adds = adds.grown ∙ ap (λ ms. old ++ ms) (none-among adds.added due is adds.among) ∙ append-nil old

adds-one : (refused : Bool) (m : Mark) (old new : List Mark) → new ≡ old ++ m ∷ [] → AddsMarks refused (m ∷ []) old new
adds-one refused m old new grown = record { added = m ∷ []; grown = grown; among = taken m [] [] none; all = λ fine. refl }

misses-one : (m : Mark) (old new : List Mark) → new ≡ old → AddsMarks true (m ∷ []) old new
misses-one m old new same = record { added = []; grown = same ∙ sym (append-nil old); among = missed m [] [] none; all = λ fine. absurd (cc) }

-- the clock was moved ahead before a sweep, or found no memory for that, and not by the sweep
pub adds-sweep_mark : {T E : Type 0} (r : Result T E) (failed refused : Bool) (sweeps ahead place : ℕ) (old mid new due : List Mark) → 0 < sweeps → failed ≡ is_err r
    → OnOk r (mid ≡ old ++ record { place = place; ms = ahead } ∷ []) → OnErr r (mid ≡ old) → due ≡ [] → AddsMarks refused due mid new
    → AddsMarks (failed || refused) (sweep_mark sweeps ahead place) old new
adds-sweep_mark r failed refused zero ahead place old mid new due some is ok err none_due adds = absurd (omega arith)
adds-sweep_mark r true refused (suc sweeps) ahead place old mid new due some is ok err none_due adds =
    misses-one (record { place = place; ms = ahead }) old new (no-more refused due mid new none_due adds ∙ holds-at_err r (mid ≡ old) is err)
adds-sweep_mark r false refused (suc sweeps) ahead place old mid new due some is ok err none_due adds =
    adds-one refused (record { place = place; ms = ahead }) old new
    (no-more refused due mid new none_due adds ∙ holds-at_ok r (mid ≡ old ++ record { place = place; ms = ahead } ∷ []) is ok)

-- who may be refused more
adds-weaker : (refused refused' : Bool) (due old new : List Mark) → (refused' ≡ false → refused ≡ false) → AddsMarks refused due old new → AddsMarks refused' due old new
adds-weaker refused refused' due old new sticky adds =
    record { added = adds.added; grown = adds.grown; among = adds.among; all = λ fine. adds.all (sticky fine) }

-- the drive of the workers from `old` to `mid`, and that of the sweep from there to `new`
module _ {A : Type 0} (kind : ActorOf A) (old mid new : Kept) (workers worked sweep swept : List A) (number : ℕ) (first : number ≡ suc (length workers))
    (empty : old.history ≡ [])
    (apart : (other : ℕ) → (other < 1) ⊎ (1 + length workers ≤ other) → own_in mid other ≡ own_in old other)
    (others : (other : ℕ) → (other < number) ⊎ (number + length sweep ≤ other) → own_in new other ≡ own_in mid other) where
  -- the workers' own lists stay as they were behind their drive
  stays : (other : ℕ) → other ≤ length workers → own_in new other ≡ own_in mid other
  stays other low = others other (inl (omega arith))

  -- who is no worker has made no call then
  pub none_yet : (other : ℕ) → (other < 1) ⊎ (1 + length workers ≤ other) → own_in mid other ≡ []
  none_yet other outside = apart other outside ∙ ap (λ h. own old.opening h other (length h)) empty

  module _ (known : (i : ℕ) (e : Event) → slice_get mid.history i ≡ Some e → length old.history ≤ i → (1 ≤ e.actor) × (e.actor < 1 + length workers))
      (longer : (i : ℕ) → i < length mid.history → slice_get new.history i ≡ slice_get mid.history i)
      (behind : (i : ℕ) (e : Event) → slice_get new.history i ≡ Some e → length mid.history ≤ i → (number ≤ e.actor) × (e.actor < number + length sweep)) where
    of_these : (i : ℕ) (e : Event) → slice_get new.history i ≡ Some e → (0 < e.actor) × (e.actor ≤ length workers + length sweep)
    of_these i e there = ⊎_elim early late (cases_lt i (length mid.history))
      where
        early : i < length mid.history → (0 < e.actor) × (e.actor ≤ length workers + length sweep)
        early low =
            let whole = ap (λ (h : List Event). length h) empty in
            let none : length old.history ≤ i = omega arith in
            let of_worker = known i e (sym (longer i low) ∙ there) none in
            let from = of_worker.0 in
            let to = of_worker.1 in
            (omega arith, omega arith)

        late : length mid.history ≤ i → (0 < e.actor) × (e.actor ≤ length workers + length sweep)
        late high =
            let of_sweep = behind i e there high in
            let from = of_sweep.0 in
            let to = of_sweep.1 in
            (omega arith, omega arith)

    pub are_driven : (terms : Terms) → KeepsTerms terms new.history new.marks → HaveRun kind 1 mid workers worked → HaveRun kind number new sweep swept
        → AreDriven kind terms new workers worked sweep swept
    are_driven terms keeps have_worked have_swept = record {
      have_worked = have_run-still kind 1 mid new workers worked (λ k low. stays (1 + k) (omega arith)) have_worked;
      have_swept = subst (λ n. HaveRun kind n new sweep swept) first have_swept;
      legal = record { keeps = keeps; numbered = of_these };
    }

  module _ (stops : List (ℕ × ℕ)) where
    pub stay_within : ((k most : ℕ) → k < length workers → stop_of stops (1 + k) ≡ Some most → calls_of (callers mid.history) (1 + k) ≤ most)
        → StayWithin stops (length workers) new
    stay_within within zero most low stop =
        let length-is = ap (λ (l : List Made). length l) (stays 0 low ∙ none_yet 0 (inl (omega arith))) in omega arith
    stay_within within (suc k) most low stop =
        let length-is = ap (λ (l : List Made). length l) (stays (suc k) low) ∙ length-own mid.opening mid.history (suc k) in
        let fits = within k most (omega arith) (ap (stop_of stops) (one-plus k) ∙ stop) in
        let same = ap (calls_of (callers mid.history)) (one-plus k) in
        omega arith

    pub are_stopped : ((k : ℕ) (begun a : A) → slice_get workers k ≡ Some begun → slice_get worked k ≡ Some a → kind.is_stopped begun ≡ false → kind.is_stopped a ≡ true
        → StopReached kind.stands_for kind.step_now kind.same_origin kind.stopped_as (stop_of stops (1 + k)) begun a (own_in mid (1 + k)))
        → ((k : ℕ) (begun a : A) → slice_get sweep k ≡ Some begun → slice_get swept k ≡ Some a → kind.is_stopped begun ≡ false → kind.is_stopped a ≡ false)
        → AreStopped kind stops new workers worked sweep swept
    are_stopped reached never = record { reached = at_stop; never = no_stop }
      where
        at_stop : (n : ℕ) (begun a : A) → numbered workers n ≡ Some begun → numbered worked n ≡ Some a → kind.is_stopped begun ≡ false → kind.is_stopped a ≡ true
            → StopReached kind.stands_for kind.step_now kind.same_origin kind.stopped_as (stop_of stops n) begun a (own_in new n)
        at_stop zero begun a at is runs stopped = absurd (cc)
        at_stop (suc k) begun a at is runs stopped =
            subst (λ l. StopReached kind.stands_for kind.step_now kind.same_origin kind.stopped_as (stop_of stops (suc k)) begun a l)
            (sym (stays (suc k) (let low = slice_get_within workers k begun at in omega arith)))
            (subst (λ n. StopReached kind.stands_for kind.step_now kind.same_origin kind.stopped_as (stop_of stops n) begun a (own_in mid n))
            (one-plus k) (reached k begun a at is runs stopped))

        no_stop : (n : ℕ) (begun a : A) → numbered sweep n ≡ Some begun → numbered swept n ≡ Some a → kind.is_stopped begun ≡ false → kind.is_stopped a ≡ false
        no_stop zero begun a at is runs = absurd (cc)
        no_stop (suc k) begun a at is runs = never k begun a at is runs

  pub are_in_turns : (ahead : ℕ) (order : List Item) (r1 r2 : Bool) (marks mid_marks new_marks : List Mark)
      → callers mid.history ≡ turns (calls_of (callers mid.history)) (range_with_len 1 (length workers)) order (callers old.history)
      → callers new.history ≡ turns (calls_of (callers new.history)) (range_with_len number (length sweep)) [] (callers mid.history)
      → AddsMarks r1 (marks_of (calls_of (callers mid.history)) order (callers old.history)) marks mid_marks
      → AddsMarks r2 (sweep_mark (length sweep) ahead (length mid.history)) mid_marks new_marks
      → AreInTurns (length workers) (length sweep) ahead order (r1 || r2) new.history marks new_marks
  are_in_turns ahead order r1 r2 marks mid_marks new_marks by_order by_sweep marked swept_marked = record {
    by_workers = callers mid.history;
    alone = λ other high. sym (length-own mid.opening mid.history other) ∙ ap (λ (l : List Made). length l) (none_yet other (inr (omega arith)));
    in_turns = by_order ∙ ap (λ h. turns (calls_of (callers mid.history)) (range_with_len 1 (length workers)) order (callers h)) empty;
    behind = by_sweep ∙ ap (λ n. turns (calls_of (callers new.history)) (range_with_len n (length sweep)) [] (callers mid.history)) first;
    marks = adds-further r1 (r1 || r2) (marks_of (calls_of (callers mid.history)) order []) (sweep_mark (length sweep) ahead (length (callers mid.history)))
        marks mid_marks new_marks (λ fine. (or_parts r1 r2 fine).0)
        (subst (λ h. AddsMarks r1 (marks_of (calls_of (callers mid.history)) order (callers h)) marks mid_marks) empty marked)
        (adds-weaker r2 (r1 || r2) (sweep_mark (length sweep) ahead (length (callers mid.history))) mid_marks new_marks (λ fine. (or_parts r1 r2 fine).1)
        (subst (λ n. AddsMarks r2 (sweep_mark (length sweep) ahead n) mid_marks new_marks) (sym (length-map mid.history (λ (e : Event). e.actor))) swept_marked));
  }
