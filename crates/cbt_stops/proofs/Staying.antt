-- Each call of an actor's own list agrees with those before it.
use Rattle.std.proofs.Common.{ℕ, zero, suc, List, length, sym, subst}
use Rattle.cbt_model.specs.History.{own}
use Rattle.cbt_model.specs.declared.events.Event.{Event}
use Rattle.cbt_model.specs.declared.states.State.{State}
use Rattle.cbt_book.specs.declared.book.Book.{Book}
use Rattle.cbt_core.specs.Lawful.{IsLawfulRun}
use Rattle.cbt_core.specs.Runs.{own_of}
use Rattle.cbt_core.specs.Staying.{StaysAsShown}
use Rattle.cbt_core.specs.declared.case.Case.{Case}
use Rattle.cbt_core.proofs.runs.FreshOpenings.{lawful_run}
use Rattle.cbt_core.proofs.runs.Lawful.{Lawful}
use Rattle.cbt_core.proofs.runs.Past.{Whose, mine, other, whose}
use Rattle.cbt_stops.proofs.Agreeing.{agrees}

module _ (s0 : State) (h : List Event) (lawful : Lawful s0 h) (actor : ℕ) where
  -- one event more adds a call that agrees, or none
  stays_next : (i : ℕ) → Whose s0 h actor i → StaysAsShown (own s0 h actor i) → StaysAsShown (own s0 h actor (suc i))
  stays_next i (mine e at by is) before = subst (λ l. StaysAsShown l) (sym is) (agrees s0 h lawful actor i e, before)
  stays_next i (other is none) before = subst (λ l. StaysAsShown l) (sym is) before

  -- after every prefix of the history
  pub stays : (i : ℕ) → StaysAsShown (own s0 h actor i)
  stays zero = tt
  stays (suc i) = stays_next i (whose s0 h actor i) (stays i)

-- and so at the end of a run
pub run_stays : (case : Case) (book : Book) → IsLawfulRun case book → (actor : ℕ) → StaysAsShown (own_of book actor)
run_stays case book run actor = stays book.kept.opening book.kept.history (lawful_run case book run) actor (length book.kept.history)
