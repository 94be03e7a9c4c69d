-- The keys of a state's maps rise at each place of a history.
use Rattle.std.proofs.Common.{ℕ, zero, suc, Bool, true, false, cond, nat_eq, if◌then◌else◌, List, [], ◌∷◌, Option, Some, None, slice_get}
use Rattle.cbt_base.specs.Clock.{clock_mutated}
use Rattle.cbt_base.specs.Keyed.{without_key, Rises}
use Rattle.cbt_base.proofs.Maps.{rises-with_pair, rises-without_key}
use Rattle.cbt_model.specs.History.{happens, happens_maybe, after, by_fate, row_at_event}
use Rattle.cbt_model.specs.Keys.{IsOrdered, id_cmp}
use Rattle.cbt_model.specs.Table.{Row, changed, without_gone}
use Rattle.cbt_model.specs.declared.entries.ClientRow.{ClientRow}
use Rattle.cbt_model.specs.declared.events.Event.{Event}
use Rattle.cbt_model.specs.declared.events.Fate.{Fate}
use Rattle.cbt_model.specs.declared.events.Fate.TheVariants.{Plain, Lost, Late}
use Rattle.cbt_model.specs.declared.states.State.{State}
use Rattle.cbt_model.specs.declared.steps.Step.{Step}
use Rattle.cbt_model.proofs.Does.{Does, does, refuses, stages_new, stages_over, publishes, deletes, unsticks, adds, commits, aborts, drops, beats}
use Rattle.cbt_model.proofs.Orders.{doc_order, entry_order, id_order}

pub rises-without_gone : (me : ℕ) (gone : List ℕ) (rows : List (ℕ × ClientRow)) → Rises id_cmp rows → Rises id_cmp (without_gone me gone rows)
rises-without_gone me [] rows rises = rises
rises-without_gone me (id ∷ gone) rows rises = rises-without_gone me gone (if nat_eq id me then rows else without_key id_cmp rows id) (step (nat_eq id me))
  where
    step : (b : Bool) → Rises id_cmp (cond b rows (without_key id_cmp rows id))
    step true = rises
    step false = rises-without_key id_cmp id_order.total rows id rises

ordered-does : (s : State) (c r : ℕ) {st : Step} {it : Row} → Does s c st it → IsOrdered s → IsOrdered (changed s r it.change)
ordered-does s c r (refuses st reply not_done) is = record { docs = is.docs; entries = is.entries; clients = is.clients }
ordered-does s c r (stages_new d stage at) is = record { docs = rises-with_pair _ doc_order.total _ d _ is.docs; entries = is.entries; clients = is.clients }
ordered-does s c r (stages_over d x stage old at same) is = record { docs = rises-with_pair _ doc_order.total _ d _ is.docs; entries = is.entries; clients = is.clients }
ordered-does s c r (publishes d x body old at same) is = record { docs = rises-with_pair _ doc_order.total _ d _ is.docs; entries = is.entries; clients = is.clients }
ordered-does s c r (deletes d x old at same) is = record { docs = rises-with_pair _ doc_order.total _ d _ is.docs; entries = is.entries; clients = is.clients }
ordered-does s c r (unsticks d x old at same) is = record { docs = rises-with_pair _ doc_order.total _ d _ is.docs; entries = is.entries; clients = is.clients }
ordered-does s c r (adds ar a exp at) is = record { docs = is.docs; entries = rises-with_pair _ entry_order.total _ (ar, a) _ is.entries; clients = is.clients }
ordered-does s c r (commits ar a lists old at pending) is = record { docs = is.docs; entries = rises-with_pair _ entry_order.total _ (ar, a) _ is.entries; clients = is.clients }
ordered-does s c r (aborts ar a lists old at pending) is = record { docs = is.docs; entries = rises-with_pair _ entry_order.total _ (ar, a) _ is.entries; clients = is.clients }
ordered-does s c r (drops ar a guarded old at may) is = record { docs = is.docs; entries = rises-without_key _ entry_order.total _ (ar, a) is.entries; clients = is.clients }
ordered-does s c r (beats me expires n gone) is = record {
  docs = is.docs;
  entries = is.entries;
  clients = rises-without_gone me gone _ (rises-with_pair _ id_order.total _ me _ is.clients);
}

ordered-by_fate : (s : State) (r : ℕ) (fate : Fate) (it : Row) → IsOrdered s → IsOrdered (changed s r it.change) → IsOrdered (changed s r (by_fate fate it).change)
ordered-by_fate s r Plain it is next = next
ordered-by_fate s r Lost it is next = record { docs = is.docs; entries = is.entries; clients = is.clients }
ordered-by_fate s r Late it is next = next

pub ordered-happens : (s : State) (e : Event) → IsOrdered s → IsOrdered (happens s e)
ordered-happens s e is = ordered-by_fate s e.reading e.fate (row_at_event s e) is (ordered-does s (clock_mutated s.last e.reading) e.reading (does s (clock_mutated s.last e.reading) e.step) is)

ordered-maybe : (s : State) (o : Option Event) → IsOrdered s → IsOrdered (happens_maybe s o)
ordered-maybe s None is = is
ordered-maybe s (Some e) is = ordered-happens s e is

pub ordered-after : (s0 : State) (h : List Event) (i : ℕ) → IsOrdered s0 → IsOrdered (after s0 h i)
ordered-after s0 h zero is = is
ordered-after s0 h (suc i) is = ordered-maybe (after s0 h i) (slice_get h i) (ordered-after s0 h i is)
