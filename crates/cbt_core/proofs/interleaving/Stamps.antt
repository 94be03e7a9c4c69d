-- No stamp is above the clock: those of entries and of the client record's rows.
use Rattle.std.proofs.Common.{◌≡◌, ℕ, zero, suc, ◌≤◌, Bool, true, false, cond, nat_eq, if◌then◌else◌, ◌⊎◌, inl, inr, ⊎_elim, List, [], ◌∷◌, Option, Some, None, sym, ap, ◌∙◌, arith}
use Rattle.std.proofs.lemmas.Option.{none-some}
use Rattle.std.specs.Ordering.{is_eq}
use Rattle.cbt_base.specs.Clock.{clock_mutated}
use Rattle.cbt_base.specs.Keyed.{at_key, with_pair, without_key, Rises}
use Rattle.cbt_base.proofs.Maps.{at_key-with_pair, at_key-without_key, rises-with_pair, rises-without_key}
use Rattle.cbt_model.specs.History.{after, is_done, TakesEffect, row_at_event}
use Rattle.cbt_model.specs.Keys.{IsOrdered, id_cmp, row_at}
use Rattle.cbt_model.specs.Table.{Row, changed, row, without_gone}
use Rattle.cbt_model.specs.declared.entries.ClientRow.{ClientRow}
use Rattle.cbt_model.specs.declared.entries.Entry.{Entry}
use Rattle.cbt_model.specs.declared.events.Event.{Event}
use Rattle.cbt_model.specs.declared.states.State.{State}
use Rattle.cbt_model.specs.declared.steps.Step.{Step}
use Rattle.cbt_model.proofs.Does.{Does, does, refuses, stages_new, stages_over, publishes, deletes, unsticks, adds, commits, aborts, drops, beats}
use Rattle.cbt_model.proofs.Effects.{IsQuiet, quiet_or_effect, effect-after, clock-at_effect}
use Rattle.cbt_model.proofs.Ordered.{ordered-after}
use Rattle.cbt_model.proofs.Orders.{id_order}
use Rattle.cbt_core.proofs.interleaving.Documents.{clock_rises}
use Rattle.cbt_core.proofs.interleaving.Entries.{Goes, stays, is_added, is_decided, is_dropped, goes, entry_then}
use Rattle.cbt_core.proofs.runs.Lawful.{Lawful}
use Rattle.cbt_core.proofs.runs.Past.{some_same}

along : {a b c : ℕ} → a ≤ b → b ≤ c → a ≤ c
along low high = omega arith

at_most : {a b c : ℕ} → a ≡ b → c ≡ b → a ≤ c
at_most one two = omega arith

-- what is there without some keys was there before
kept_row : (b : Bool) (o : Option ClientRow) (row : ClientRow) → cond b None o ≡ Some row → o ≡ Some row
kept_row true o row at = absurd (none-some row at)
kept_row false o row at = at

without_gone_row : (me : ℕ) (gone : List ℕ) (rows : List (ℕ × ClientRow)) (id : ℕ) (row : ClientRow) → Rises id_cmp rows → at_key id_cmp (without_gone me gone rows) id ≡ Some row
    → at_key id_cmp rows id ≡ Some row
without_gone_row me [] rows id row rises at = at
without_gone_row me (g ∷ gone) rows id row rises at =
    by_test (nat_eq g me) (without_gone_row me gone (if nat_eq g me then rows else without_key id_cmp rows g) id row (rises_on (nat_eq g me)) at)
  where
    rises_on : (b : Bool) → Rises id_cmp (cond b rows (without_key id_cmp rows g))
    rises_on true = rises
    rises_on false = rises-without_key id_cmp id_order.total rows g rises

    by_test : (b : Bool) → at_key id_cmp (cond b rows (without_key id_cmp rows g)) id ≡ Some row → at_key id_cmp rows id ≡ Some row
    by_test true there = there
    by_test false there = kept_row (is_eq (id_cmp id g)) (at_key id_cmp rows id) row (sym (at_key-without_key id_cmp id_order.total rows g id rises) ∙ there)

new_or_old : (b : Bool) (mine : ClientRow) (o : Option ClientRow) (row : ClientRow) → cond b (Some mine) o ≡ Some row → (o ≡ Some row) ⊎ (row ≡ mine)
new_or_old true mine o row at = inr (sym (some_same at))
new_or_old false mine o row at = inl at

-- a row of the client record is as it was, or has the stamp of the step that wrote it
rows_by : (s : State) (c r : ℕ) {st : Step} {it : Row} → Does s c st it → IsOrdered s → is_done it.reply ≡ true → (id : ℕ) (row : ClientRow) → row_at (changed s r it.change) id ≡ Some row
    → (row_at s id ≡ Some row) ⊎ (row.heartbeat ≡ c)
rows_by s c r (refuses st reply not_done) ordered done id row at = inl at
rows_by s c r (stages_new d stage there) ordered done id row at = inl at
rows_by s c r (stages_over d x stage old there same) ordered done id row at = inl at
rows_by s c r (publishes d x body old there same) ordered done id row at = inl at
rows_by s c r (deletes d x old there same) ordered done id row at = inl at
rows_by s c r (unsticks d x old there same) ordered done id row at = inl at
rows_by s c r (adds ar a exp there) ordered done id row at = inl at
rows_by s c r (commits ar a lists old there pending) ordered done id row at = inl at
rows_by s c r (aborts ar a lists old there pending) ordered done id row at = inl at
rows_by s c r (drops ar a guarded old there may) ordered done id row at = inl at
rows_by s c r (beats me expires n gone) ordered done id row at =
    let mine : ClientRow = record { heartbeat = c; expires = expires; num_atrs = n } in
    ⊎_elim (λ (old : at_key id_cmp s.clients id ≡ Some row). inl old) (λ (same : row ≡ mine). inr (ap (λ (w : ClientRow). w.heartbeat) same))
    (new_or_old (is_eq (id_cmp id me)) mine (at_key id_cmp s.clients id) row
    (sym (at_key-with_pair id_cmp id_order.total s.clients me mine id)
    ∙ without_gone_row me gone (with_pair id_cmp s.clients me mine) id row (rises-with_pair id_cmp id_order.total s.clients me mine ordered.clients) at))

module _ (s0 : State) (h : List Event) (lawful : Lawful s0 h) where
  start_next : (key : ℕ × ℕ) (i : ℕ) → Goes s0 h lawful key i → ((e : Entry) → entry_then s0 h lawful i key ≡ Some e → e.start ≤ (after s0 h i).last) → (e : Entry)
      → entry_then s0 h lawful (suc i) key ≡ Some e → e.start ≤ (after s0 h (suc i)).last
  start_next key i (stays same) ih e at = along (ih e (sym same ∙ at)) (clock_rises s0 h lawful i)
  start_next key i (is_added f exp x takes is none now pending start) ih e at =
      at_most (ap (λ (z : Entry). z.start) (some_same (sym at ∙ now)) ∙ start) (clock-at_effect s0 h i f takes)
  start_next key i (is_decided f lists old x takes deciding there pending now same start) ih e at =
      along (equal_low (ap (λ (z : Entry). z.start) (some_same (sym at ∙ now)) ∙ start) (ih old there)) (clock_rises s0 h lawful i)
    where
      equal_low : {a b c : ℕ} → a ≡ b → b ≤ c → a ≤ c
      equal_low one two = omega arith
  start_next key i (is_dropped f guarded old takes is there may_be now) ih e at = absurd (none-some e (sym now ∙ at))

  pub start_low : (i : ℕ) (key : ℕ × ℕ) (e : Entry) → entry_then s0 h lawful i key ≡ Some e → e.start ≤ (after s0 h i).last
  start_low zero key e at = lawful.sound.starts key e at
  start_low (suc i) key e at = start_next key i (goes s0 h lawful i key) (λ x there. start_low i key x there) e at

  row_next : (i id : ℕ) (row : ClientRow) → ((w : ClientRow) → row_at (after s0 h i) id ≡ Some w → w.heartbeat ≤ (after s0 h i).last) → row_at (after s0 h (suc i)) id ≡ Some row
      → row.heartbeat ≤ (after s0 h (suc i)).last
  row_next i id row ih at = ⊎_elim quiet effect (quiet_or_effect s0 h i)
    where
      quiet : IsQuiet (after s0 h i) (after s0 h (suc i)) → row.heartbeat ≤ (after s0 h (suc i)).last
      quiet it = along (ih row (ap (λ rows. at_key id_cmp rows id) (sym it.clients) ∙ at)) it.clock

      effect : ((e : Event) × TakesEffect s0 h i e) → row.heartbeat ≤ (after s0 h (suc i)).last
      effect it =
          let e = it.0 in
          let c = clock_mutated (after s0 h i).last e.reading in
          let now : row_at (changed (after s0 h i) e.reading (row_at_event (after s0 h i) e).change) id ≡ Some row = ap (λ s. row_at s id) (sym (effect-after s0 h i e it.1)) ∙ at in
          ⊎_elim (λ (old : row_at (after s0 h i) id ≡ Some row). along (ih row old) (clock_rises s0 h lawful i))
          (λ (new : row.heartbeat ≡ c). at_most new (clock-at_effect s0 h i e it.1))
          (rows_by (after s0 h i) c e.reading (does (after s0 h i) c e.step) (ordered-after s0 h i lawful.sound.ordered) it.1.done id row now)

  pub heartbeat_low : (i id : ℕ) (row : ClientRow) → row_at (after s0 h i) id ≡ Some row → row.heartbeat ≤ (after s0 h i).last
  heartbeat_low zero id row at = lawful.sound.rows id row at
  heartbeat_low (suc i) id row at = row_next i id row (λ w there. heartbeat_low i id w there) at
