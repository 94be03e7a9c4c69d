-- Each call of a rollback is licensed by its client's whole own list.
use Rattle.std.proofs.Common.{◌≡◌, ℕ, suc, ◌+◌, ◌≤◌, ◌==◌, Bool, true, false, ◌⊎◌, inl, inr, ⊎_elim, List, [], ◌∷◌, ◌++◌, length, slice_get, Option, Some, None, refl, sym, ap, ◌∙◌, subst, arith}
use Rattle.std.proofs.lemmas.Bool.{eqb-true}
use Rattle.std.proofs.lemmas.Option.{none-some, slice_get_within, slice_get_cases}
use Rattle.cbt_json.specs.declared.value.Json.{Json}
use Rattle.cbt_model.specs.History.{is_done}
use Rattle.cbt_model.specs.declared.documents.Stage.{Stage}
use Rattle.cbt_model.specs.declared.entries.Lists.{Lists}
use Rattle.cbt_model.specs.declared.events.Made.{Made}
use Rattle.cbt_model.specs.declared.steps.Expect.{Expect}
use Rattle.cbt_model.specs.declared.steps.Step.{Step}
use Rattle.cbt_model.specs.declared.steps.Step.TheVariants as step
use Rattle.cbt_attempt.specs.Notes.{stage_of}
use Rattle.cbt_attempt.proofs.Notes.{abort_licensed}
use Rattle.cbt_book.specs.Licence.{IsListed, WasStaged, MayHaveStaged, MayUnstick, MayDrop, MayTake, Clears}
use Rattle.cbt_book.specs.Licence as licence
use Rattle.cbt_book.specs.Numbers.{Identity}
use Rattle.cbt_book.specs.OwnLists.{Once, Kept, In}
use Rattle.cbt_book.specs.Shown.{ReadsDoc, StagesAt, ShowsStaged, ShowsAborted, decides}
use Rattle.cbt_book.specs.Shown as shown
use Rattle.cbt_rollback.proofs.Moves.{IsTakenOff, by_it, before_it, FindsOff, absent, unstaged, of_another, elsewhere, Moves, finds_no_entry, is_aborted, unsticks, finds_off, finds_staged, takes, drops, fails}
use Rattle.cbt_rollback.specs.Phases.{Work, Task, take_off, going_step, taking_step, step_for, after}
use Rattle.cbt_rollback.specs.Ready.{IsReady}
use Rattle.cbt_rollback.specs.Standing.{Runs, begun, goes_on}
use Rattle.cbt_rollback.specs.declared.phases.Phase.{Phase}
use Rattle.cbt_rollback.specs.declared.phases.Phase.TheVariants.{Aborting, Going, Taking, Ended}
use Rattle.cbt_rollback.proofs.Moving.{moves}

some_same : {X : Type 0} {x y : X} → Some x ≡ Some y → x ≡ y
some_same both = cc

once_weaker : (P Q : Made → List Made → Type 0) (l : List Made) → ((m : Made) (past : List Made) → P m past → Q m past) → Once P l → Once Q l
once_weaker P Q [] weaker once = absurd once
once_weaker P Q (m ∷ l) weaker once = ⊎_elim (λ here. inl (weaker m l here)) (λ later. inr (once_weaker P Q l weaker later)) once

kept_weaker : (P Q U : Made → List Made → Type 0) (l : List Made) → ((m : Made) (past : List Made) → P m past → Q m past) → Kept P U l → Kept Q U l
kept_weaker P Q U [] weaker kept = absurd kept
kept_weaker P Q U (m ∷ l) weaker kept = ⊎_elim (λ here. inl (weaker m l here)) (λ later. inr (later.0, kept_weaker P Q U l weaker later.1)) kept

kept_once : (P U : Made → List Made → Type 0) (l : List Made) → Kept P U l → Once P l
kept_once P U [] kept = absurd kept
kept_once P U (m ∷ l) kept = ⊎_elim (λ here. inl here) (λ later. inr (kept_once P U l later.1)) kept

in_once : (P : Made → Type 0) (m : Made) (l : List Made) → P m → In m l → Once (λ n _. P n) l
in_once P m [] so there = absurd there
in_once P m (n ∷ l) so there = ⊎_elim (λ is. inl (subst P is so)) (λ later. inr (in_once P m l so later)) there

-- a step that stages nothing
unstick_stage : (d q : List ℕ) (x : ℕ) (e : Expect) (stage : Stage) → step.Unstick d x ≡ step.Stage q e stage → ⊥
unstick_stage d q x e stage both = cc

read_stage : (d q : List ℕ) (e : Expect) (stage : Stage) → step.ReadDoc d ≡ step.Stage q e stage → ⊥
read_stage d q e stage both = cc

abort_stage : (r a : ℕ) (lists : Lists) (q : List ℕ) (e : Expect) (stage : Stage) → step.Abort r a lists ≡ step.Stage q e stage → ⊥
abort_stage r a lists q e stage both = cc

-- what the attempt staged over this CAS may not have been staged since
record Stands (t : Task) (d : List ℕ) (x : ℕ) (l : List Made) : Type 0 where
  pub stage : Stage
  pub by_attempt : stage.attempt ≡ t.attempt
  pub in_record : stage.atr ≡ t.atr
  pub kept : Kept (λ m _. StagesAt d x stage m) (λ m _. MayHaveStaged t.attempt d m) l

-- a document is one of the works from this place on
record IsLeft (t : Task) (at : ℕ) (d : List ℕ) : Type 0 where
  pub place : ℕ
  pub work : Work
  pub from : at ≤ place
  pub here : slice_get t.works place ≡ Some work
  pub doc_is : work.0 ≡ d

-- the attempt is shown aborted, which was its last decision; what is known of the works from this place on stands; and each listed
-- document is one of them, or was cleared since
record Undoes (t : Task) (at : ℕ) (l : List Made) : Type 0 where
  pub showing : Made
  pub earlier : In showing l
  pub shows : ShowsAborted t.atr t.attempt t.lists showing
  pub due : Kept (λ m _. (r : ℕ) × ((m.step ≡ step.Commit r t.attempt t.lists) ⊎ (m.step ≡ step.Abort r t.attempt t.lists))) (λ m _. decides m.step ≡ Some t.attempt) l
  pub stands : (j x : ℕ) (w : Work) → at ≤ j → slice_get t.works j ≡ Some w → w.1 ≡ Some x → Stands t w.0 x l
  pub cleared : (d : List ℕ) → IsListed d t.lists → IsLeft t at d ⊎ Once (λ m before. In showing before × Clears t.attempt showing d m before) l

-- the document of the work at this place was read staged by the attempt, since it was shown aborted
record WasRead (t : Task) (showing : Made) (d : List ℕ) (x : ℕ) (l : List Made) : Type 0 where
  pub body : Option Json
  pub stage : Stage
  pub by_attempt : stage.attempt ≡ t.attempt
  pub in_record : stage.atr ≡ t.atr
  pub once : Once (λ n before. ReadsDoc d x body (Some stage) n × In showing before) l

record Takes (t : Task) (at x : ℕ) (l : List Made) : Type 0 where
  pub undoes : Undoes t at l
  pub read : (w : Work) → slice_get t.works at ≡ Some w → WasRead t undoes.showing w.0 x l

abbrev Holds : Task → Phase → List Made → Type 0
Holds t Aborting l = IsReady t l
Holds t (Going at) l = Undoes t at l
Holds t (Taking at x) l = Takes t at x l
Holds t (Ended end) l = Unit {0}

module _ (t : Task) (m : Made) (l : List Made) where
  stands_more : (d : List ℕ) (x : ℕ) → ¬ MayHaveStaged t.attempt d m → Stands t d x l → Stands t d x (m ∷ l)
  stands_more d x no_staging it = record { stage = it.stage; by_attempt = it.by_attempt; in_record = it.in_record; kept = inr (no_staging, it.kept) }

  -- a call that clears no work
  stays : (at : ℕ) → decides m.step ≡ None → ((d : List ℕ) → ¬ MayHaveStaged t.attempt d m) → Undoes t at l → Undoes t at (m ∷ l)
  stays at undecided no_staging it = record {
    showing = it.showing;
    earlier = inr it.earlier;
    shows = it.shows;
    due = inr ((λ is. none-some t.attempt (sym undecided ∙ is)), it.due);
    stands = λ j x w from here known. stands_more w.0 x (no_staging w.0) (it.stands j x w from here known);
    cleared = λ d named. ⊎_elim (λ left. inl left) (λ done. inr (inr done)) (it.cleared d named);
  }

  -- a call that clears the first work left
  passes : (at : ℕ) (w : Work) → slice_get t.works at ≡ Some w → decides m.step ≡ None → ((d : List ℕ) → ¬ MayHaveStaged t.attempt d m) → (it : Undoes t at l)
      → Clears t.attempt it.showing w.0 m l → Undoes t (at + 1) (m ∷ l)
  passes at w here undecided no_staging it clears = record {
    showing = it.showing;
    earlier = inr it.earlier;
    shows = it.shows;
    due = inr ((λ is. none-some t.attempt (sym undecided ∙ is)), it.due);
    stands = λ j x v from there known. stands_more v.0 x (no_staging v.0) (it.stands j x v (before j from) there known);
    cleared = λ d named. ⊎_elim (λ left. by_place d left (left.place == at) refl) (λ done. inr (inr done)) (it.cleared d named);
  }
    where
      before : (j : ℕ) → at + 1 ≤ j → at ≤ j
      before j from = omega arith

      further : (j : ℕ) → at ≤ j → (j == at) ≡ false → at + 1 ≤ j
      further j from other = grind arith

      by_place : (d : List ℕ) (left : IsLeft t at d) (b : Bool) → (left.place == at) ≡ b
          → IsLeft t (at + 1) d ⊎ Once (λ n past. In it.showing past × Clears t.attempt it.showing d n past) (m ∷ l)
      by_place d left true is =
          let same : w ≡ left.work = some_same (sym here ∙ ap (λ j. slice_get t.works j) (sym (eqb-true left.place at is)) ∙ left.here) in
          inr (inl (it.earlier, subst (λ q. Clears t.attempt it.showing q m l) (ap (λ (v : Work). v.0) same ∙ left.doc_is) clears))
      by_place d left false other = inl (record { place = left.place; work = left.work; from = further left.place left.from other; here = left.here; doc_is = left.doc_is })

  unstick_stages : (d q : List ℕ) (x : ℕ) → m.step ≡ step.Unstick d x → ¬ MayHaveStaged t.attempt q m
  unstick_stages d q x is it = let staged = it.0.1 in unstick_stage d q x staged.0 staged.1 (sym is ∙ staged.2)

  read_stages : (d q : List ℕ) → m.step ≡ step.ReadDoc d → ¬ MayHaveStaged t.attempt q m
  read_stages d q is it = let staged = it.0.1 in read_stage d q staged.0 staged.1 (sym is ∙ staged.2)

  -- what is taken off over the CAS of its own staging
  own_clears : (showing : Made) (d : List ℕ) (x : ℕ) → m.step ≡ step.Unstick d x → IsTakenOff m.answer.reply → Stands t d x l → Clears t.attempt showing d m l
  own_clears showing d x is (by_it c told) it =
      licence.unstaged x (licence.unsticks is) (ap is_done told)
      (once_weaker (λ n _. StagesAt d x it.stage n) _ l (λ n past staged. (it.stage, it.by_attempt, shown.by_stage staged)) (kept_once _ _ l it.kept))
  own_clears showing d x is (before_it have told) it =
      licence.moved_from_own x have (licence.unsticks is) told
      (kept_weaker (λ n _. StagesAt d x it.stage n) _ (λ n _. MayHaveStaged t.attempt d n) l (λ n past staged. (it.stage, it.by_attempt, staged)) it.kept)

  -- what is taken off over the CAS at which it was read
  read_clears : (showing : Made) (d : List ℕ) (x : ℕ) → m.step ≡ step.Unstick d x → IsTakenOff m.answer.reply → WasRead t showing d x l → Clears t.attempt showing d m l
  read_clears showing d x is (by_it c told) it =
      licence.unstaged x (licence.unsticks is) (ap is_done told)
      (once_weaker (λ n before. ReadsDoc d x it.body (Some it.stage) n × In showing before) _ l (λ n past read. (it.stage, it.by_attempt, shown.by_read it.body read.0)) it.once)
  read_clears showing d x is (before_it have told) it =
      licence.moved_on x have (licence.unsticks is) told
      (once_weaker (λ n before. ReadsDoc d x it.body (Some it.stage) n × In showing before) _ l (λ n past read. (it.body, it.stage, read.0, it.by_attempt, read.1)) it.once)

  off_clears : (showing : Made) (d : List ℕ) → ShowsAborted t.atr t.attempt t.lists showing → FindsOff t d m → Clears t.attempt showing d m l
  off_clears showing d shows (absent finds) = licence.absent finds
  off_clears showing d shows (unstaged x body reads) = licence.free x body reads
  off_clears showing d shows (of_another x body stage reads other) = licence.of_another x body stage reads other
  off_clears showing d shows (elsewhere x body stage reads other) = licence.elsewhere t.atr x t.lists body stage (inr shows) reads other

  -- the abort was answered Done or Decided
  aborted_undoes : m.step ≡ step.Abort t.atr t.attempt t.lists → ShowsAborted t.atr t.attempt t.lists m → IsReady t l → Undoes t 0 (m ∷ l)
  aborted_undoes is shows ready = record {
    showing = m;
    earlier = inl refl;
    shows = shows;
    due = inl (t.atr, inr is);
    stands = λ j x w from here known. own_stands j x w here known;
    cleared = λ d named. inl (all_left d named);
  }
    where
      no_staging : (d : List ℕ) → ¬ MayHaveStaged t.attempt d m
      no_staging d it = let staged = it.0.1 in abort_stage t.atr t.attempt t.lists d staged.0 staged.1 (sym is ∙ staged.2)

      own_stands : (j x : ℕ) (w : Work) → slice_get t.works j ≡ Some w → w.1 ≡ Some x → Stands t w.0 x (m ∷ l)
      own_stands j x w here known =
          let own = ready.is_of.works.noted j w here in
          record {
            stage = stage_of t.attempt t.atr own.0;
            by_attempt = refl;
            in_record = refl;
            kept = inr (no_staging w.0, ready.abortable.notes.staged w.0 own.0 x own.1 (own.2 ∙ known));
          }

      all_left : (d : List ℕ) → IsListed d t.lists → IsLeft t 0 d
      all_left d named =
          let own = (ready.is_of.lists named.0 d).0 named.1 in
          let work = ready.is_of.works.all d own.0 own.1 in
          record { place = work.0; work = work.1; from = omega arith; here = work.2; doc_is = work.3 }

  holds_on : (p q : Phase) → Moves t m p q → Holds t p l → Holds t q (m ∷ l)
  unfolding stays
  holds_on _ _ (finds_no_entry is told) ready = tt
  holds_on _ _ (is_aborted is shows fine) ready = aborted_undoes is shows ready
  holds_on _ _ (unsticks at x w here known is off) it =
      passes at w here (ap decides is) (λ d. unstick_stages w.0 d x is) it (own_clears it.showing w.0 x is off (it.stands at x w (omega arith) here known))
  holds_on _ _ (finds_off at w here none is off) it =
      passes at w here (ap decides is) (λ d. read_stages w.0 d is) it (off_clears it.showing w.0 it.shows off)
  holds_on _ _ (finds_staged at x w body stage here none reads record_is attempt_is) it = record {
    undoes = stays at (ap decides reads.0) (λ d. read_stages w.0 d reads.0) it;
    read = λ v there.
        subst (λ (u : Work). WasRead t it.showing u.0 x (m ∷ l)) (some_same (sym here ∙ there))
        (record { body = body; stage = stage; by_attempt = attempt_is; in_record = record_is; once = inl (reads, it.earlier) });
  }
  holds_on _ _ (takes at x w here is off) it =
      passes at w here (ap decides is) (λ d. unstick_stages w.0 d x is) it.undoes (read_clears it.undoes.showing w.0 x is off (it.read w here))
  holds_on _ _ (drops at past is gone) it = tt
  holds_on p _ (fails _ asked failed) it = tt

-- what is shown of the attempt is shown of its staging
shown_aborted : (t : Task) (stage : Stage) (at : ℕ) (l : List Made) → stage.attempt ≡ t.attempt → stage.atr ≡ t.atr → Undoes t at l
    → Once (λ m _. (lists : Lists) × ShowsAborted stage.atr stage.attempt lists m) l
shown_aborted t stage at l by_attempt in_record it =
    in_once (λ n. (lists : Lists) × ShowsAborted stage.atr stage.attempt lists n) it.showing l
    (t.lists, subst (λ r. ShowsAborted r stage.attempt t.lists it.showing) (sym in_record) (subst (λ a. ShowsAborted t.atr a t.lists it.showing) (sym by_attempt) it.shows)) it.earlier

-- past the last work each listed document has been cleared
may_drop : (t : Task) (at : ℕ) (l : List Made) → slice_get t.works at ≡ None → Undoes t at l → MayDrop l t.atr t.attempt
may_drop t at l past it = record {
  showing = it.showing;
  shown = t.lists;
  due = t.lists;
  earlier = it.earlier;
  decided = inr it.shows;
  due_is = licence.of_own it.due;
  cleared = λ d named. ⊎_elim (λ left. absurd (none_left left.place left.from (slice_get_within t.works left.place left.work left.here))) (λ done. done) (it.cleared d named);
}
  where
    beyond : length t.works ≤ at
    beyond = ⊎_elim (λ found. absurd (none-some found.0 (sym past ∙ found.2))) (λ none. none.0) (slice_get_cases t.works at).1

    none_left : (j : ℕ) → at ≤ j → suc j ≤ length t.works → ⊥
    none_left j from within = omega (arith, beyond)

going_licensed : (who : Identity) (t : Task) (at : ℕ) (l : List Made) (o : Option Work) → slice_get t.works at ≡ o → Undoes t at l → MayTake who l (going_step t o)
going_licensed who t at l None past it = may_drop t at l past it
going_licensed who t at l (Some w) here it = by w.1 refl
  where
    by : (c : Option ℕ) → w.1 ≡ c → MayTake who l (take_off w.0 c)
    by None none = tt
    by (Some x) known =
        let stands = it.stands at x w (omega arith) here known in
        licence.after_abort stands.stage
        (once_weaker (λ n _. StagesAt w.0 x stands.stage n) _ l (λ n past staged. shown.by_stage staged) (kept_once _ _ l stands.kept))
        (shown_aborted t stands.stage at l stands.by_attempt stands.in_record it)

taking_licensed : (who : Identity) (t : Task) (at x : ℕ) (l : List Made) (o : Option Work) (s : Step) → slice_get t.works at ≡ o → Takes t at x l → taking_step x o ≡ Some s
    → MayTake who l s
taking_licensed who t at x l None s past it asked = absurd (none-some s asked)
taking_licensed who t at x l (Some w) s here it asked =
    let read = it.read w here in
    subst (λ u. MayTake who l u) (some_same asked)
    (licence.after_abort read.stage
    (once_weaker (λ n before. ReadsDoc w.0 x read.body (Some read.stage) n × In it.undoes.showing before) _ l (λ n past reads. shown.by_read read.body reads.0) read.once)
    (shown_aborted t read.stage at l read.by_attempt read.in_record it.undoes))

may_take : (who : Identity) (t : Task) (p : Phase) (l : List Made) (s : Step) → Holds t p l → step_for t p ≡ Some s → MayTake who l s
may_take who t Aborting l s ready asked =
    subst (λ u. MayTake who l u) (some_same asked)
    (abort_licensed t.attempt t.atr ready.own l t.lists ready.is_of.lists ready.abortable.unaborted ready.abortable.unsettled ready.abortable.notes ready.abortable.sent)
may_take who t (Going at) l s it asked = subst (λ u. MayTake who l u) (some_same asked) (going_licensed who t at l (slice_get t.works at) refl it)
may_take who t (Taking at x) l s it asked = taking_licensed who t at x l (slice_get t.works at) s refl it asked
may_take who t (Ended end) l s it asked = absurd (none-some s asked)

module _ (who : Identity) (t : Task) (l0 : List Made) (ready : IsReady t l0) where
  holds : (p : Phase) (mine : List Made) → Runs t p mine → Holds t p (mine ++ l0)
  holds _ _ begun = ready
  holds _ _ (goes_on p mine m run asked fit) = holds_on t m (mine ++ l0) p (after t p m.answer.place m.answer.reply) (moves t m p asked fit) (holds p mine run)

  pub licensed : (p : Phase) (mine : List Made) (s : Step) → Runs t p mine → step_for t p ≡ Some s → MayTake who (mine ++ l0) s
  licensed p mine s run asked = may_take who t p (mine ++ l0) s (holds p mine run) asked
