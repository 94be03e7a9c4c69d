-- Each event of a history takes effect, or changes nothing but the clock: fates and refusals are seen no more above this.
use Rattle.std.proofs.Common.{◌≡◌, ◌≢◌, ℕ, suc, ◌≤◌, Bool, true, false, ◌⊎◌, inl, inr, List, Option, Some, None, refl, sym, ap, ◌∙◌, subst, arith, slice_get}
use Rattle.cbt_base.specs.Clock.{clock_read, clock_mutated}
use Rattle.cbt_model.specs.History.{is_done, by_fate, row_at_event, happens, happens_maybe, after, TakesEffect}
use Rattle.cbt_model.specs.Keys.{IsOrdered, doc_at, entry_at}
use Rattle.cbt_model.specs.Table.{changed}
use Rattle.cbt_model.specs.declared.events.Event.{Event}
use Rattle.cbt_model.specs.declared.events.Fate.{Fate}
use Rattle.cbt_model.specs.declared.events.Fate.TheVariants.{Plain, Lost, Late}
use Rattle.cbt_model.specs.declared.states.State.{State}
use Rattle.cbt_model.proofs.Moves.{EntryMove, DocMove, entry_moves, doc_moves, quiet_row, done_last}
use Rattle.cbt_model.proofs.Ordered.{ordered-after}

-- what two states have besides their clocks is the same, and the clock did not fall
pub record IsQuiet (before next : State) : Type 0 where
  pub docs : next.docs ≡ before.docs
  pub entries : next.entries ≡ before.entries
  pub clients : next.clients ≡ before.clients
  pub clock : before.last ≤ next.last

quiet-read : (s : State) (r : ℕ) → IsQuiet s (record s { last = clock_read s.last r })
quiet-read s r = record { docs = refl; entries = refl; clients = refl; clock = omega arith }

module _ (s0 : State) (h : List Event) (i : ℕ) where
  -- place i takes effect, or is quiet
  pub quiet_or_effect : IsQuiet (after s0 h i) (after s0 h (suc i)) ⊎ ((e : Event) × TakesEffect s0 h i e)
  quiet_or_effect = go (slice_get h i) refl
    where
      none : slice_get h i ≡ None → IsQuiet (after s0 h i) (after s0 h (suc i))
      none at = subst (IsQuiet (after s0 h i)) (sym (ap (λ o. happens_maybe (after s0 h i) o) at)) (record { docs = refl; entries = refl; clients = refl; clock = omega arith })

      quiet : (e : Event) → slice_get h i ≡ Some e → (happens (after s0 h i) e ≡ record (after s0 h i) { last = clock_read (after s0 h i).last e.reading })
          → IsQuiet (after s0 h i) (after s0 h (suc i))
      quiet e at is =
          subst (IsQuiet (after s0 h i)) (sym (ap (λ o. happens_maybe (after s0 h i) o) at ∙ is)) (quiet-read (after s0 h i) e.reading)

      refused_row : (e : Event) (f : Fate) → is_done (row_at_event (after s0 h i) e).reply ≡ false
          → changed (after s0 h i) e.reading (by_fate f (row_at_event (after s0 h i) e)).change ≡ record (after s0 h i) { last = clock_read (after s0 h i).last e.reading }
      refused_row e Plain not_done =
          ap (λ change. changed (after s0 h i) e.reading change) (quiet_row (after s0 h i) (clock_mutated (after s0 h i).last e.reading) e.step not_done)
      refused_row e Lost not_done = refl
      refused_row e Late not_done =
          ap (λ change. changed (after s0 h i) e.reading change) (quiet_row (after s0 h i) (clock_mutated (after s0 h i).last e.reading) e.step not_done)

      lost_row : (e : Event) → e.fate ≡ Lost → happens (after s0 h i) e ≡ record (after s0 h i) { last = clock_read (after s0 h i).last e.reading }
      lost_row e is = ap (λ f. changed (after s0 h i) e.reading (by_fate f (row_at_event (after s0 h i) e)).change) is

      by_answer : (e : Event) → slice_get h i ≡ Some e → e.fate ≢ Lost → (b : Bool) → is_done (row_at_event (after s0 h i) e).reply ≡ b
          → IsQuiet (after s0 h i) (after s0 h (suc i)) ⊎ ((x : Event) × TakesEffect s0 h i x)
      by_answer e at here true done = inr (e, record { event = at; not_lost = here; done = done })
      by_answer e at here false not_done = inl (quiet e at (refused_row e e.fate not_done))

      by_fate_of : (e : Event) → slice_get h i ≡ Some e → (f : Fate) → e.fate ≡ f → IsQuiet (after s0 h i) (after s0 h (suc i)) ⊎ ((x : Event) × TakesEffect s0 h i x)
      by_fate_of e at Plain is = by_answer e at (λ q. plain_lost (sym is ∙ q)) _ refl
        where
          plain_lost : Plain ≡ Lost → ⊥
          plain_lost q = cc
      by_fate_of e at Lost is = inl (quiet e at (lost_row e is))
      by_fate_of e at Late is = by_answer e at (λ q. late_lost (sym is ∙ q)) _ refl
        where
          late_lost : Late ≡ Lost → ⊥
          late_lost q = cc

      go : (o : Option Event) → slice_get h i ≡ o → IsQuiet (after s0 h i) (after s0 h (suc i)) ⊎ ((e : Event) × TakesEffect s0 h i e)
      go None at = inl (none at)
      go (Some e) at = by_fate_of e at e.fate refl

  -- the state after an event that takes effect
  pub effect-after : (e : Event) → TakesEffect s0 h i e → after s0 h (suc i) ≡ changed (after s0 h i) e.reading (row_at_event (after s0 h i) e).change
  effect-after e takes = ap (λ o. happens_maybe (after s0 h i) o) takes.event ∙ go e.fate takes.not_lost
    where
      go : (f : Fate) → f ≢ Lost
          → changed (after s0 h i) e.reading (by_fate f (row_at_event (after s0 h i) e)).change ≡ changed (after s0 h i) e.reading (row_at_event (after s0 h i) e).change
      go Plain here = refl
      go Lost here = absurd (here refl)
      go Late here = refl

  -- what it makes of each entry
  pub entry-at_effect : (e : Event) (k : ℕ × ℕ) → IsOrdered s0 → TakesEffect s0 h i e
      → EntryMove (after s0 h i) (clock_mutated (after s0 h i).last e.reading) e.step k (entry_at (after s0 h (suc i)) k)
  entry-at_effect e k ordered takes =
      let P : State → Type 0 = λ next. EntryMove (after s0 h i) (clock_mutated (after s0 h i).last e.reading) e.step k (entry_at next k) in
      subst P (sym (effect-after e takes))
      (entry_moves (after s0 h i) (clock_mutated (after s0 h i).last e.reading) e.reading e.step k (ordered-after s0 h i ordered) takes.done)

  -- and of each document
  pub doc-at_effect : (e : Event) (d : List ℕ) → TakesEffect s0 h i e
      → DocMove (after s0 h i) (clock_mutated (after s0 h i).last e.reading) e.step d (doc_at (after s0 h (suc i)) d)
  doc-at_effect e d takes =
      let P : State → Type 0 = λ next. DocMove (after s0 h i) (clock_mutated (after s0 h i).last e.reading) e.step d (doc_at next d) in
      subst P (sym (effect-after e takes)) (doc_moves (after s0 h i) (clock_mutated (after s0 h i).last e.reading) e.reading e.step d takes.done)

  -- the clock moves to the stamp, which is above it
  pub clock-at_effect : (e : Event) → TakesEffect s0 h i e → (after s0 h (suc i)).last ≡ clock_mutated (after s0 h i).last e.reading
  clock-at_effect e takes =
      ap (λ (s : State). s.last) (effect-after e takes) ∙ done_last (after s0 h i) (clock_mutated (after s0 h i).last e.reading) e.reading e.step takes.done
