-- The calls of a pass are a cleaner's.
use Rattle.std.proofs.Common.{◌≡◌, ℕ, true, List, slice_get, Option, Some, None, refl, sym, ap, ◌∙◌}
use Rattle.std.proofs.lemmas.Option.{none-some}
use Rattle.cbt_json.specs.declared.value.Json.{Json}
use Rattle.cbt_model.specs.declared.entries.EntryState.{EntryState}
use Rattle.cbt_model.specs.declared.entries.EntryState.TheVariants.{Pending, Committed, Aborted}
use Rattle.cbt_model.specs.declared.events.Made.{Made}
use Rattle.cbt_model.specs.declared.steps.Step.{Step}
use Rattle.cbt_model.specs.declared.steps.Step.TheVariants as step
use Rattle.cbt_book.specs.OwnLists.{Each}
use Rattle.cbt_book.specs.Shown.{adds, decides}
use Rattle.cbt_clean.specs.Phases.{docs_of, publish, take_off, clearing_step, taking_step, step_for}
use Rattle.cbt_clean.specs.Ready.{cleans}
use Rattle.cbt_clean.specs.Staging.{Staging}
use Rattle.cbt_clean.specs.Standing.{Runs, begun, goes_on}
use Rattle.cbt_clean.specs.declared.covers.Cover.{Cover}
use Rattle.cbt_clean.specs.declared.phases.Phase.{Phase}
use Rattle.cbt_clean.specs.declared.phases.Phase.TheVariants.{Begun, Clearing, Taking, Evicting, Asking, Ended}

some_same : {X : Type 0} {x y : X} → Some x ≡ Some y → x ≡ y
some_same both = cc

take_off_cleans : (state : EntryState) (d : List ℕ) (s : Staging) → cleans (take_off state d s) ≡ true
take_off_cleans Committed d s = by s.content
  where
    by : (o : Option Json) → cleans (publish d s.cas o) ≡ true
    by None = refl
    by (Some body) = refl
take_off_cleans Pending d s = refl
take_off_cleans Aborted d s = refl

clearing_cleans : (r : ℕ) (c : Cover) (o : Option (List ℕ)) → cleans (clearing_step r c o) ≡ true
clearing_cleans r c None = refl
clearing_cleans r c (Some d) = refl

taking_cleans : (state : EntryState) (t : Staging) (o : Option (List ℕ)) (s : Step) → taking_step state t o ≡ Some s → cleans s ≡ true
taking_cleans state t None s asked = absurd (none-some s asked)
taking_cleans state t (Some d) s asked = ap cleans (sym (some_same asked)) ∙ take_off_cleans state d t

pub asked_cleans : (r : ℕ) (p : Phase) (s : Step) → step_for r p ≡ Some s → cleans s ≡ true
asked_cleans r Begun s asked = ap cleans (sym (some_same asked))
asked_cleans r (Clearing c at) s asked = ap cleans (sym (some_same asked)) ∙ clearing_cleans r c (slice_get (docs_of c.entry.lists) at)
asked_cleans r (Taking c at t) s asked = taking_cleans c.entry.state t (slice_get (docs_of c.entry.lists) at) s asked
asked_cleans r (Evicting c again) s asked = ap cleans (sym (some_same asked))
asked_cleans r (Asking c) s asked = ap cleans (sym (some_same asked))
asked_cleans r (Ended end) s asked = absurd (none-some s asked)

pub calls_clean : (r : ℕ) (p : Phase) (mine : List Made) → Runs r p mine → Each (λ m _. cleans m.step ≡ true) mine
calls_clean r _ _ begun = tt
calls_clean r _ _ (goes_on p mine m run asked fit) = (asked_cleans r p m.step asked, calls_clean r p mine run)

pub adds_none : (s : Step) → cleans s ≡ true → adds s ≡ None
adds_none (step.AddEntry r a exp) it = absurd (cc)
adds_none _ it = refl

pub decides_none : (s : Step) → cleans s ≡ true → decides s ≡ None
decides_none (step.Commit r a lists) it = absurd (cc)
decides_none (step.Abort r a lists) it = absurd (cc)
decides_none _ it = refl
