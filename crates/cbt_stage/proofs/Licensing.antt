-- The step that a put asks for is one that its client may take.
use Rattle.std.proofs.Common.{◌≡◌, ℕ, ◌+◌, ◌≤◌, Bool, true, false, ◌⊎◌, inl, inr, ⊎_elim, List, [], ◌∷◌, ◌++◌, count_by, Option, Some, None, refl, ap, sym, ◌∙◌, subst, arith}
use Rattle.std.proofs.lemmas.Option.{none-some}
use Rattle.cbt_json.specs.declared.value.Json.{Json}
use Rattle.cbt_model.specs.declared.documents.Stage.{Stage}
use Rattle.cbt_model.specs.declared.events.Made.{Made}
use Rattle.cbt_model.specs.declared.steps.Step.{Step}
use Rattle.cbt_model.specs.declared.steps.Step.TheVariants as step
use Rattle.cbt_book.specs.Calls.{adds_entry, MayWrite, WriteTerms}
use Rattle.cbt_book.specs.Licence.{MayStand, on_nothing, on_unstaged, on_dead, MayTake}
use Rattle.cbt_book.specs.Numbers.{Identity}
use Rattle.cbt_book.specs.OwnLists.{Once}
use Rattle.cbt_book.specs.Outcomes.{expected}
use Rattle.cbt_book.specs.ReadAt.{IsReadAt, absent, unstaged, uncommitted, committed, dead}
use Rattle.cbt_book.specs.Shown.{adds, decides, AddsEntry, ReadsDoc, ReadsEntry, FindsNoEntry}
use Rattle.cbt_stage.specs.Phases.{step_for}
use Rattle.cbt_stage.specs.Ready.{IsPart, IsReady}
use Rattle.cbt_stage.specs.Standing.{IsFree, Knows, HasRoom}
use Rattle.cbt_stage.specs.declared.phases.Phase.{Phase}
use Rattle.cbt_stage.specs.declared.phases.Phase.TheVariants.{Asking, Adding, Staging, Ended}
use Rattle.cbt_stage.specs.declared.tasks.Task.{Task}
use Rattle.cbt_stage.proofs.Counting.{some_same, counts, counts_not}
use Rattle.cbt_stage.proofs.Joining.{once_weaker, once_first, once_second, neither, none_of}

-- what is so of a call in a part of a list is so in the list
once_in : (P : Made → Type 0) (part l : List Made) → IsPart part l → Once (λ m _. P m) part → Once (λ m _. P m) l
once_in P part [] is once = subst (λ k. Once (λ m _. P m) k) is once
once_in P part (m ∷ l) is once =
    ⊎_elim (λ without. inr (once_in P part l without once))
    (λ it. ⊎_elim (λ here. inl here) (λ later. inr (once_in P it.0 l it.2 later)) (subst (λ k. Once (λ n _. P n) k) it.1 once)) is

-- and so are two calls, one after the other
abbrev Behind : (Made → Type 0) → (Made → Type 0) → List Made → Type 0
Behind P Q l = Once (λ m before. P m × Once (λ n _. Q n) before) l

both_in : (P Q : Made → Type 0) (part l : List Made) → IsPart part l → Behind P Q part → Behind P Q l
both_in P Q part [] is once = subst (Behind P Q) is once
both_in P Q part (m ∷ l) is once =
    ⊎_elim (λ without. inr (both_in P Q part l without once))
    (λ it. ⊎_elim (λ here. inl (here.0, once_in Q it.0 l it.2 here.1)) (λ later. inr (both_in P Q it.0 l it.2 later)) (subst (Behind P Q) it.1 once)) is

-- what is so before a call is so
once_before : (P Q : Made → List Made → Type 0) (l : List Made) → ((m : Made) (before : List Made) → Q m before → Once P before) → Once Q l → Once P l
once_before P Q [] earlier once = absurd once
once_before P Q (m ∷ l) earlier once = ⊎_elim (λ here. inr (earlier m l here)) (λ later. inr (once_before P Q l earlier later)) once

-- a call of the newer list comes behind one of the older
behind : (P Q : Made → Type 0) (mine l0 : List Made) → Once (λ m _. P m) mine → Once (λ n _. Q n) l0 → Behind P Q (mine ++ l0)
behind P Q [] l0 newer older = absurd newer
behind P Q (m ∷ mine) l0 newer older = ⊎_elim (λ here. inl (here, once_second Q mine l0 older)) (λ later. inr (behind P Q mine l0 later older)) newer

behind_second : (P Q : Made → Type 0) (mine l0 : List Made) → Behind P Q l0 → Behind P Q (mine ++ l0)
behind_second P Q [] l0 once = once
behind_second P Q (m ∷ mine) l0 once = inr (behind_second P Q mine l0 once)

abbrev ShowsPlain : List ℕ → ℕ → Made → Type 0
ShowsPlain d x m = (body : Option Json) × ReadsDoc d x body None m

abbrev ShowsStaging : List ℕ → ℕ → Stage → Made → Type 0
ShowsStaging d x stage m = (body : Option Json) × ReadsDoc d x body (Some stage) m

-- what the reading shows may be staged over, once nobody is in the way
stands : (o : Task) (mine l0 part : List Made) → IsFree o mine → IsPart part l0 → IsReadAt o.doc o.seen part → MayStand (mine ++ l0) o.doc o.attempt (expected o.seen.cas)
stands o mine l0 part free is (absent value cas by gone once) = on_nothing (ap expected cas)
stands o mine l0 part free is (unstaged x cas by gone once) =
    on_unstaged x (ap expected cas)
    (once_second (ShowsPlain o.doc x) mine l0
    (once_in (ShowsPlain o.doc x) part l0 is
    (once_weaker (λ m _. ShowsPlain o.doc x m) (λ m _. (m.answer.place ≡ o.seen.moment) × ReadsDoc o.doc x o.seen.value None m) part (λ m before read. (o.seen.value, read.1)) once)))
stands o mine l0 part free is (uncommitted x stage e cas by gone pending once) =
    on_dead x stage (ap expected cas)
    (behind (FindsNoEntry stage.atr stage.attempt) (ShowsStaging o.doc x stage) mine l0 (free stage.atr stage.attempt (record { staged_by = by; there = gone }))
    (once_in (ShowsStaging o.doc x stage) part l0 is
    (once_before (λ m _. ShowsStaging o.doc x stage m)
    (λ m before. ReadsEntry stage.atr stage.attempt e m × Once (λ n _. (n.answer.place ≡ o.seen.moment) × ReadsDoc o.doc x o.seen.value (Some stage) n) before) part
    (λ m before read. once_weaker (λ n _. ShowsStaging o.doc x stage n) (λ n _. (n.answer.place ≡ o.seen.moment) × ReadsDoc o.doc x o.seen.value (Some stage) n) before (λ n past it. (o.seen.value, it.1)) read.1)
    once)))
stands o mine l0 part free is (committed x stage e cas by gone content state once) =
    on_dead x stage (ap expected cas)
    (behind (FindsNoEntry stage.atr stage.attempt) (ShowsStaging o.doc x stage) mine l0 (free stage.atr stage.attempt (record { staged_by = by; there = gone }))
    (once_in (ShowsStaging o.doc x stage) part l0 is
    (once_before (λ m _. ShowsStaging o.doc x stage m)
    (λ m before. ((body : Option Json) × (again : Option Stage) × ReadsDoc o.doc x body again m)
    × Once (λ n earlier. (n.answer.place ≡ o.seen.moment) × ReadsEntry stage.atr stage.attempt e n × Once (λ k _. ShowsStaging o.doc x stage k) earlier) before) part
    (λ m before read. once_before (λ n _. ShowsStaging o.doc x stage n)
    (λ n earlier. (n.answer.place ≡ o.seen.moment) × ReadsEntry stage.atr stage.attempt e n × Once (λ k _. ShowsStaging o.doc x stage k) earlier) before
    (λ n earlier it. it.2) read.1)
    once)))
stands o mine l0 part free is (dead x stage cas by gone once) =
    on_dead x stage (ap expected cas)
    (behind_second (FindsNoEntry stage.atr stage.attempt) (ShowsStaging o.doc x stage) mine l0
    (both_in (FindsNoEntry stage.atr stage.attempt) (ShowsStaging o.doc x stage) part l0 is
    (once_before (λ n earlier. FindsNoEntry stage.atr stage.attempt n × Once (λ k _. ShowsStaging o.doc x stage k) earlier)
    (λ m before. (m.answer.place ≡ o.seen.moment) × ((again : Option Stage) × ReadsDoc o.doc x o.seen.value again m)
    × Once (λ n earlier. FindsNoEntry stage.atr stage.attempt n × Once (λ k _. ShowsStaging o.doc x stage k) earlier) before) part
    (λ m before read. read.2) once)))

-- a test that no call passes
none_counted : (p : Made → Bool) (l : List Made) → count_by p l ≡ 0 → ¬ Once (λ m _. p m ≡ true) l
none_counted p [] none once = once
none_counted p (m ∷ l) none once = by_test (p m) refl (λ fails later. none_counted p l (sym (counts_not p m l fails) ∙ none) later) once
  where
    counts_one : p m ≡ true → ⊥
    counts_one passes = let more = counts p m l passes in omega arith

    by_test : (b : Bool) → p m ≡ b → (p m ≡ false → Once (λ n _. p n ≡ true) l → ⊥) → ((p m ≡ true) ⊎ Once (λ n _. p n ≡ true) l) → ⊥
    by_test true passes others it = counts_one passes
    by_test false fails others it = ⊎_elim (λ here. counts_one here) (λ later. others fails later) it

adds_one : (a : ℕ) (s : Step) → adds s ≡ Some a → adds_entry s ≡ true
adds_one a (step.AddEntry r b exp) is = refl
adds_one a _ is = absurd (none-some a is)

unadded : (a : ℕ) (mine : List Made) → count_by (λ m. adds_entry m.step) mine + 1 ≤ 1 → ¬ Once (λ m _. adds m.step ≡ Some a) mine
unadded a mine few once =
    let none : count_by (λ m. adds_entry m.step) mine ≡ 0 = omega arith in
    none_counted (λ m. adds_entry m.step) mine none (once_weaker (λ m _. adds_entry m.step ≡ true) (λ m _. adds m.step ≡ Some a) mine (λ m before is. adds_one a m.step is) once)

write_undecided : (t : WriteTerms) (d : List ℕ) (a : ℕ) (s : Step) → MayWrite t d s → decides s ≡ Some a → ⊥
write_undecided t d a (step.Commit r b lists) may is = may
write_undecided t d a (step.Abort r b lists) may is = may
write_undecided t d a _ may is = none-some a is

pub licensed : (who : Identity) (t : WriteTerms) (o : Task) (p : Phase) (mine l0 : List Made) (s : Step) → Knows o p mine → HasRoom t o.doc p mine → IsReady who o l0
    → step_for o p ≡ Some s → MayTake who (mine ++ l0) s
licensed who t o (Asking r by left) mine l0 s was room ready asked = subst (MayTake who (mine ++ l0)) (some_same asked) (record {})
licensed who t o Adding mine l0 s may room ready asked =
    subst (MayTake who (mine ++ l0)) (some_same asked)
    (record { own = ready.own; first = neither (λ m. adds m.step ≡ Some o.attempt) mine l0 (unadded o.attempt mine room.added) (ready.unsent may.unsent) })
licensed who t o Staging mine l0 s has room ready asked =
    subst (MayTake who (mine ++ l0)) (some_same asked)
    (record {
      added = ⊎_elim (λ sent. once_second (AddsEntry o.atr o.attempt) mine l0 (ready.sent sent)) (λ own. once_first (AddsEntry o.atr o.attempt) mine l0 own) has.entered;
      undecided =
          neither (λ m. decides m.step ≡ Some o.attempt) mine l0
          (none_of (λ m. MayWrite t o.doc m.step) (λ m. decides m.step ≡ Some o.attempt) mine (λ m writes is. write_undecided t o.doc o.attempt m.step writes is) room.only)
          ready.undecided;
      over = stands o mine l0 ready.read.0 has.free ready.read.1 ready.read.2;
    })
licensed who t o (Ended end) mine l0 s it room ready asked = absurd (none-some s asked)
