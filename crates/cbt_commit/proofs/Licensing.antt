-- Each call of a commit is licensed by its client's whole own list, where the attempt's notes were right before it.
use Rattle.std.proofs.Common.{◌≡◌, ◌≢◌, ℕ, ◌+◌, ◌<◌, ◌≤◌, ◌==◌, ◌⊎◌, Bool, true, false, inl, inr, ⊎_elim, List, ◌∷◌, ◌++◌, length, slice_get, Option, Some, None, refl, ap, sym, ◌∙◌, subst, arith}
use Rattle.std.proofs.lemmas.Option.{none-some, slice_get_within, slice_get_cases}
use Rattle.cbt_json.specs.declared.value.Json.{Json}
use Rattle.cbt_model.specs.History.{is_done, commits}
use Rattle.cbt_model.specs.declared.documents.Stage.{Stage}
use Rattle.cbt_model.specs.declared.entries.Entry.{Entry}
use Rattle.cbt_model.specs.declared.entries.EntryState.TheVariants as state
use Rattle.cbt_model.specs.declared.entries.Lists.{Lists}
use Rattle.cbt_model.specs.declared.events.Made.{Made}
use Rattle.cbt_model.specs.declared.steps.Reply.TheVariants as reply
use Rattle.cbt_model.specs.declared.steps.Step.{Step}
use Rattle.cbt_model.specs.declared.steps.Step.TheVariants as step
use Rattle.cbt_attempt.specs.Notes.{stage_of, NotesAll, IsQuiet}
use Rattle.cbt_attempt.specs.declared.own.Own.{Own}
use Rattle.cbt_attempt.proofs.Notes.{all_quiet, commit_licensed}
use Rattle.cbt_book.specs.Closing.{IsInDoubt}
use Rattle.cbt_book.specs.Licence.{IsListed, Unstages, publishes as publication, deletes as deletion, MayHaveStaged, WritesFor, stages, CommitsUnsettled, MayResolve, of_own, Clears, unstaged, moved_from_own, MayDrop, MayTake}
use Rattle.cbt_book.specs.Numbers.{Identity}
use Rattle.cbt_book.specs.OwnLists.{Once, Kept, Each, In}
use Rattle.cbt_book.specs.Shown.{ReadsEntry, StagesAt, ShowsStaged, by_stage, alone, ShowsCommitted, committed_entry, own_commit, AddsEntry, aborts, decides}
use Rattle.cbt_commit.specs.Phases.{Task, unstage_with, unstage, going_step, step_for, end_in, after}
use Rattle.cbt_commit.specs.Ready.{IsReady}
use Rattle.cbt_commit.specs.Standing.{Runs, begun, goes_on}
use Rattle.cbt_commit.specs.Written.{Written}
use Rattle.cbt_commit.specs.declared.phases.FinishEnd.{FinishEnd}
use Rattle.cbt_commit.specs.declared.phases.FinishEnd.TheVariants.{Committed, EntryLost, NotCommitted, Unknown}
use Rattle.cbt_commit.specs.declared.phases.Phase.{Phase}
use Rattle.cbt_commit.specs.declared.phases.Phase.TheVariants.{Sending, Reading, Going, Ended}
use Rattle.cbt_commit.proofs.Knowing.{unstaging}
use Rattle.cbt_commit.proofs.Moving.{IsPublished, by_it, before_it, Moves, commits_it, loses_entry, doubts, finds_committed, sends_again, gives_up, stays_unknown, publishes, drops, fails, some_same, moves}
use Rattle.cbt_commit.proofs.OwnCalls.{once_weaker, in_once, kept_weaker, kept_once}

-- what a call leaves alone: the own writes, and whether the attempt is aborted
record IsHarmless (a : ℕ) (s : Step) : Type 0 where
  quiet : IsQuiet a s
  no_abort : aborts s ≡ None

module _ (t : Task) where
  content_harmless : (d : List ℕ) (x : ℕ) (content : Option Json) → IsHarmless t.attempt (unstage_with d x content)
  content_harmless d x None = record { quiet = record {}; no_abort = refl }
  content_harmless d x (Some body) = record { quiet = record {}; no_abort = refl }

  going_harmless : (o : Option (List ℕ × Written)) → IsHarmless t.attempt (going_step t o)
  going_harmless None = record { quiet = record {}; no_abort = refl }
  going_harmless (Some w) = content_harmless w.0 w.1.cas w.1.content

  asked_harmless : (p : Phase) (s : Step) → step_for t p ≡ Some s → IsHarmless t.attempt s
  asked_harmless (Sending left) s asked = subst (IsHarmless t.attempt) (some_same asked) (record { quiet = record {}; no_abort = refl })
  asked_harmless (Reading left commit) s asked = subst (IsHarmless t.attempt) (some_same asked) (record { quiet = record {}; no_abort = refl })
  asked_harmless (Going commit at) s asked = subst (IsHarmless t.attempt) (some_same asked) (going_harmless (slice_get t.works at))
  asked_harmless (Ended end) s asked = absurd (none-some s asked)

  -- what stays so through all phases
  record IsNoted (own : List ℕ → Option Own) (l : List Made) : Type 0 where
    notes : NotesAll t.attempt t.atr own l
    added : Once (λ m _. AddsEntry t.atr t.attempt m) l
    unaborted : ¬ Once (λ m _. aborts m.step ≡ Some t.attempt) l

  noted_on : (own : List ℕ → Option Own) (m : Made) (l : List Made) → IsHarmless t.attempt m.step → IsNoted own l → IsNoted own (m ∷ l)
  noted_on own m l harmless it = record {
    notes = all_quiet t.attempt t.atr own l m harmless.quiet it.notes;
    added = inr it.added;
    unaborted = λ once. ⊎_elim (λ here. none-some t.attempt (sym harmless.no_abort ∙ here)) (λ later. it.unaborted later) once;
  }

  noted : (l0 : List Made) (ready : IsReady t l0) (p : Phase) (mine : List Made) → Runs t p mine → IsNoted ready.own (mine ++ l0)
  noted l0 ready _ _ begun = record { notes = ready.well.notes; added = ready.well.added; unaborted = ready.well.unaborted }
  noted l0 ready _ _ (goes_on p mine m run asked fit) = noted_on ready.own m (mine ++ l0) (asked_harmless p m.step asked) (noted l0 ready p mine run)

  -- a commit that was answered
  abbrev Answered : Made → Type 0
  Answered m = (commits m.step ≡ Some t.attempt) × (m.answer.reply ≢ reply.Failed) × (m.answer.reply ≢ reply.Decided)

  -- the commits so far are in doubt, and the last decision is a commit with these lists
  record InDoubt (l : List Made) : Type 0 where
    unanswered : ¬ Once (λ m _. Answered m) l
    last : Kept (λ m _. m.step ≡ step.Commit t.atr t.attempt t.lists) (λ m _. decides m.step ≡ Some t.attempt) l

  -- the attempt is shown committed, and each document before a place is cleared since
  record Clearing (at : ℕ) (l : List Made) : Type 0 where
    showing : Made
    shown : Lists
    earlier : In showing l
    shows : ShowsCommitted t.atr t.attempt shown showing
    last : Kept (λ m _. m.step ≡ step.Commit t.atr t.attempt t.lists) (λ m _. decides m.step ≡ Some t.attempt) l
    cleared : (j : ℕ) (w : List ℕ × Written) → j < at → slice_get t.works j ≡ Some w
        → Once (λ m before. In showing before × Clears t.attempt showing w.0 m before) l

  -- after a third commit in vain the commits are unsettled
  abbrev HoldsAtEnd : FinishEnd → List Made → Type 0
  HoldsAtEnd (NotCommitted place) l = CommitsUnsettled l t.atr t.attempt
  HoldsAtEnd (Committed place complete) l = Unit {0}
  HoldsAtEnd (EntryLost place) l = Unit {0}
  HoldsAtEnd (Unknown commit reading) l = Unit {0}

  -- what a phase needs of the whole list
  abbrev Holds : Phase → List Made → Type 0
  Holds (Sending left) l = CommitsUnsettled l t.atr t.attempt
  Holds (Reading left commit) l = InDoubt l
  Holds (Going commit at) l = Clearing at l
  Holds (Ended end) l = HoldsAtEnd end l

  content_takes_off : (d : List ℕ) (x : ℕ) (content : Option Json) → Unstages d x (unstage_with d x content)
  content_takes_off d x None = deletion refl
  content_takes_off d x (Some body) = publication body refl

  -- a publication takes off what was staged, or finds that somebody else did
  clears : (own : List ℕ → Option Own) (m showing : Made) (l : List Made) (w : List ℕ × Written) (v : Own) → IsNoted own l → own w.0 ≡ Some v → v.cas ≡ Some w.1.cas
      → m.step ≡ unstage w.0 w.1 → IsPublished m.answer.reply → Clears t.attempt showing w.0 m l
  clears own m showing l w v it at cas is (by_it c done) =
      unstaged w.1.cas (subst (Unstages w.0 w.1.cas) (sym is) (content_takes_off w.0 w.1.cas w.1.content)) (ap is_done done)
      (kept_once (λ k _. StagesAt w.0 w.1.cas (stage_of t.attempt t.atr v) k)
      (λ k _. (stage : Stage) × (stage.attempt ≡ t.attempt) × ShowsStaged w.0 w.1.cas stage k)
      (WritesFor t.attempt w.0) l (λ k past staged. (stage_of t.attempt t.atr v, refl, by_stage staged)) (it.notes.last w.0 v w.1.cas at cas))
  clears own m showing l w v it at cas is (before_it have moved) =
      moved_from_own w.1.cas have (subst (Unstages w.0 w.1.cas) (sym is) (content_takes_off w.0 w.1.cas w.1.content)) moved
      (kept_weaker (λ k _. StagesAt w.0 w.1.cas (stage_of t.attempt t.atr v) k)
      (λ k _. (stage : Stage) × (stage.attempt ≡ t.attempt) × StagesAt w.0 w.1.cas stage k)
      (WritesFor t.attempt w.0) (λ k _. MayHaveStaged t.attempt w.0 k) l (λ k past staged. (stage_of t.attempt t.atr v, refl, staged))
      (λ k past may. stages may.0.0 may.0.1) (it.notes.last w.0 v w.1.cas at cas))

  -- a commit in doubt and a reading answer no commit
  in_doubt : (m : Made) → IsInDoubt m.answer.reply → Answered m → ⊥
  in_doubt m doubt answered = ⊎_elim answered.1 answered.2 doubt

  unread : (m : Made) → m.step ≡ step.ReadEntry t.atr t.attempt → Answered m → ⊥
  unread m is answered = none-some t.attempt (sym (ap commits is) ∙ answered.0)

  undecided : (m : Made) → decides m.step ≡ None → decides m.step ≡ Some t.attempt → ⊥
  undecided m none it = none-some t.attempt (sym none ∙ it)

  -- the showing makes a beginning
  shown_now : (m : Made) (l : List Made) (shown : Lists) → ShowsCommitted t.atr t.attempt shown m
      → Kept (λ k _. k.step ≡ step.Commit t.atr t.attempt t.lists) (λ k _. decides k.step ≡ Some t.attempt) (m ∷ l) → Clearing 0 (m ∷ l)
  shown_now m l shown shows last = record {
    showing = m;
    shown = shown;
    earlier = inl refl;
    shows = shows;
    last = last;
    cleared = λ j w before here. absurd (omega arith);
  }

  cleared_more : (own : List ℕ → Option Own) (m : Made) (l : List Made) (at : ℕ) (w : List ℕ × Written) (v : Own) → IsNoted own l → own w.0 ≡ Some v
      → v.cas ≡ Some w.1.cas
      → slice_get t.works at ≡ Some w → m.step ≡ unstage w.0 w.1 → IsPublished m.answer.reply → Clearing at l → Clearing (at + 1) (m ∷ l)
  cleared_more own m l at w v it known cas here is off was = record {
    showing = was.showing;
    shown = was.shown;
    earlier = inr was.earlier;
    shows = was.shows;
    last = inr (undecided m (unstaging w m is).no_decision, was.last);
    cleared = λ j u before there. by j u there (j == at) refl before;
  }
    where
      by : (j : ℕ) (u : List ℕ × Written) → slice_get t.works j ≡ Some u → (b : Bool) → (j == at) ≡ b → j < at + 1
          → Once (λ k before. In was.showing before × Clears t.attempt was.showing u.0 k before) (m ∷ l)
      by j u there true same before =
          let place : j ≡ at = grind arith in
          let work : w ≡ u = some_same (sym here ∙ ap (λ i. slice_get t.works i) (sym place) ∙ there) in
          inl (was.earlier, subst (λ (x : List ℕ × Written). Clears t.attempt was.showing x.0 m l) work (clears own m was.showing l w v it known cas is off))
      by j u there false other before = inr (was.cleared j u (grind arith) there)

  -- the reading behind a commit in doubt shows it in vain
  settles : (m : Made) (l : List Made) (e : Entry) → ReadsEntry t.atr t.attempt e m → e.state ≢ state.Committed → InDoubt l
      → CommitsUnsettled (m ∷ l) t.atr t.attempt
  settles m l e reads apart was = record {
    unanswered = λ once. ⊎_elim (λ here. unread m reads.0 here) (λ later. was.unanswered later) once;
    read = λ _. inl (e, reads, apart);
  }

  holds_on : (l0 : List Made) (ready : IsReady t l0) (m : Made) (l : List Made) (p q : Phase) → Moves t m p q → IsNoted ready.own l → Holds p l → Holds q (m ∷ l)
  holds_on l0 ready m l _ _ (commits_it left c is done) it was = shown_now m l t.lists (own_commit c is done) (inl is)
  holds_on l0 ready m l _ _ (loses_entry left is none) it was = record {}
  holds_on l0 ready m l _ _ (doubts left is doubt) it was = record {
    unanswered = λ once. ⊎_elim (λ here. in_doubt m doubt here) (λ later. was.unanswered later) once;
    last = inl is;
  }
  holds_on l0 ready m l _ _ (finds_committed left commit e reads is) it was =
      shown_now m l e.lists (committed_entry e (alone reads) is refl) (inr (undecided m (ap decides reads.0), was.last))
  holds_on l0 ready m l _ _ (sends_again left commit e reads apart) it was = settles m l e reads apart was
  holds_on l0 ready m l _ _ (gives_up commit e reads apart) it was = settles m l e reads apart was
  holds_on l0 ready m l _ _ (stays_unknown left commit is unshown) it was = record {}
  holds_on l0 ready m l _ _ (publishes commit at w here is off) it was =
      let own = ready.is_of.works.known at w here in
      cleared_more ready.own m l at w own.0 it own.1 own.2 here is off was
  holds_on l0 ready m l _ _ (drops commit at past is dropped) it was = record {}
  holds_on l0 ready m l _ _ (fails commit at asked failed) it was = record {}

  holds : (l0 : List Made) (ready : IsReady t l0) (p : Phase) (mine : List Made) → Runs t p mine → Holds p (mine ++ l0)
  holds l0 ready _ _ begun = record {
    unanswered = λ once. ready.well.uncommitted (once_weaker (λ m _. Answered m) (λ m _. commits m.step ≡ Some t.attempt) l0 (λ m past it. it.0) once);
    read = λ once. absurd (ready.well.uncommitted once);
  }
  holds l0 ready _ _ (goes_on p mine m run asked fit) =
      holds_on l0 ready m (mine ++ l0) p (after t p m.answer.place m.answer.reply) (moves t m p asked fit) (noted l0 ready p mine run) (holds l0 ready p mine run)

  module _ (l0 : List Made) (ready : IsReady t l0) (who : Identity) (l : List Made) (it : IsNoted ready.own l) where
    may_resolve : (at : ℕ) (w : List ℕ × Written) (content : Option Json) → slice_get t.works at ≡ Some w → w.1.content ≡ content → Clearing at l
        → MayResolve l w.0 w.1.cas content
    may_resolve at w content here is was =
        let own = ready.is_of.works.known at w here in
        record {
          stage = stage_of t.attempt t.atr own.0;
          staged = kept_once (λ k _. StagesAt w.0 w.1.cas (stage_of t.attempt t.atr own.0) k) (λ k _. ShowsStaged w.0 w.1.cas (stage_of t.attempt t.atr own.0) k)
              (WritesFor t.attempt w.0) l (λ k past staged. by_stage staged) (it.notes.last w.0 own.0 w.1.cas own.1 own.2);
          content_is = own.3 ∙ is;
          committed = in_once (λ k. (lists : Lists) × ShowsCommitted t.atr t.attempt lists k) was.showing l was.earlier (was.shown, was.shows);
        }

    may_publish : (at : ℕ) (w : List ℕ × Written) (content : Option Json) → slice_get t.works at ≡ Some w → w.1.content ≡ content → Clearing at l
        → MayTake who l (unstage_with w.0 w.1.cas content)
    may_publish at w None here is was = may_resolve at w None here is was
    may_publish at w (Some body) here is was = may_resolve at w (Some body) here is was

    may_drop : (at : ℕ) → slice_get t.works at ≡ None → Clearing at l → MayDrop l t.atr t.attempt
    may_drop at past was = record {
      showing = was.showing;
      shown = was.shown;
      due = t.lists;
      earlier = was.earlier;
      decided = inl was.shows;
      due_is = of_own (kept_weaker (λ k _. k.step ≡ step.Commit t.atr t.attempt t.lists)
          (λ k _. (r : ℕ) × ((k.step ≡ step.Commit r t.attempt t.lists) ⊎ (k.step ≡ step.Abort r t.attempt t.lists)))
          (λ k _. decides k.step ≡ Some t.attempt) (λ k _. decides k.step ≡ Some t.attempt) l
          (λ k before is. (t.atr, inl is)) (λ k before decided. decided) was.last);
      cleared = cleared_all;
    }
      where
        beyond : length t.works ≤ at
        beyond = ⊎_elim (λ found. absurd (none-some found.0 (sym past ∙ found.2))) (λ found. found.0) (slice_get_cases t.works at).1

        reached : (j n : ℕ) → j < n → n ≤ at → j < at
        reached j n before end = omega arith

        cleared_all : (d : List ℕ) → IsListed d t.lists → Once (λ m before. In was.showing before × Clears t.attempt was.showing d m before) l
        cleared_all d listed =
            let own = (ready.is_of.lists listed.0 d).0 listed.1 in
            let stamp = it.notes.known d own.0 own.1 in
            let work = ready.is_of.works.all d own.0 stamp.0 own.1 stamp.1 in
            subst (λ q. Once (λ m before. In was.showing before × Clears t.attempt was.showing q m before) l) work.3
            (was.cleared work.0 work.1 (reached work.0 (length t.works) (slice_get_within t.works work.0 work.1 work.2) beyond) work.2)

    may_go : (at : ℕ) (o : Option (List ℕ × Written)) → slice_get t.works at ≡ o → Clearing at l → MayTake who l (going_step t o)
    may_go at None past was = may_drop at past was
    may_go at (Some w) here was = may_publish at w w.1.content here refl was

    may_take : (p : Phase) (s : Step) → Holds p l → step_for t p ≡ Some s → MayTake who l s
    may_take (Sending left) s was asked =
        subst (λ u. MayTake who l u) (some_same asked)
        (commit_licensed t.attempt t.atr ready.own l t.lists ready.is_of.lists it.unaborted was it.notes it.added)
    may_take (Reading left commit) s was asked = subst (λ u. MayTake who l u) (some_same asked) (record {})
    may_take (Going commit at) s was asked = subst (λ u. MayTake who l u) (some_same asked) (may_go at (slice_get t.works at) refl was)
    may_take (Ended end) s was asked = absurd (none-some s asked)

  pub licensed : (who : Identity) (l0 mine : List Made) (p : Phase) (s : Step) → IsReady t l0 → Runs t p mine → step_for t p ≡ Some s → MayTake who (mine ++ l0) s
  licensed who l0 mine p s ready run asked =
      may_take l0 ready who (mine ++ l0) (noted l0 ready p mine run) p s (holds l0 ready p mine run) asked

  -- the commits in vain are unsettled
  pub unsettled : (l0 mine : List Made) (p : Phase) (place : ℕ) → IsReady t l0 → Runs t p mine → end_in p ≡ Some (NotCommitted place)
      → CommitsUnsettled (mine ++ l0) t.atr t.attempt
  unsettled l0 mine p place ready run ended = by p (holds l0 ready p mine run) ended
    where
      by : (q : Phase) → Holds q (mine ++ l0) → end_in q ≡ Some (NotCommitted place) → CommitsUnsettled (mine ++ l0) t.atr t.attempt
      by (Sending left) was it = absurd (none-some (NotCommitted place) it)
      by (Reading left commit) was it = absurd (none-some (NotCommitted place) it)
      by (Going commit at) was it = absurd (none-some (NotCommitted place) it)
      by (Ended end) was it = subst (λ e. HoldsAtEnd e (mine ++ l0)) (some_same it) was

  -- the calls leave the own writes alone, and abort nothing
  pub all_quiet_calls : (p : Phase) (mine : List Made) → Runs t p mine → Each (λ m _. IsQuiet t.attempt m.step) mine
  all_quiet_calls _ _ begun = record {}
  all_quiet_calls _ _ (goes_on p mine m run asked fit) = ((asked_harmless p m.step asked).quiet, all_quiet_calls p mine run)

  pub none_aborts : (p : Phase) (mine : List Made) → Runs t p mine → Each (λ m _. aborts m.step ≡ None) mine
  none_aborts _ _ begun = record {}
  none_aborts _ _ (goes_on p mine m run asked fit) = ((asked_harmless p m.step asked).no_abort, none_aborts p mine run)
