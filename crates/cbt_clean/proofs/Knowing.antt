-- What a phase of a pass tells of the calls that led to it.
use Rattle.std.proofs.Common.{◌≡◌, ◌≢◌, ℕ, ◌≤◌, ◌==◌, Bool, true, false, ◌⊎◌, inl, inr, ⊎_elim, List, [], ◌∷◌, ◌++◌, filter, slice_get, Option, Some, None, refl, sym, ap, ◌∙◌, subst, arith}
use Rattle.std.proofs.lemmas.Bool.{eqb-true}
use Rattle.std.proofs.lemmas.Option.{none-some}
use Rattle.cbt_json.specs.declared.value.Json.{Json}
use Rattle.cbt_model.specs.Fitting.{ids_rise}
use Rattle.cbt_model.specs.History.{is_done}
use Rattle.cbt_model.specs.declared.entries.Entry.{Entry}
use Rattle.cbt_model.specs.declared.entries.EntryState.{EntryState}
use Rattle.cbt_model.specs.declared.entries.EntryState.TheVariants.{Pending, Committed, Aborted}
use Rattle.cbt_model.specs.declared.events.Made.{Made}
use Rattle.cbt_model.specs.declared.steps.Reply.{Reply}
use Rattle.cbt_model.specs.declared.steps.Reply.TheVariants as reply
use Rattle.cbt_model.specs.declared.steps.Step.{Step}
use Rattle.cbt_model.specs.declared.steps.Step.TheVariants as step
use Rattle.cbt_book.specs.OwnLists.{Once, Each, In}
use Rattle.cbt_book.specs.Passes.{is_expired, expired_in, covered_by, IsDropped, Finishes, dropped, missing, pending, MayPass, EndsPass, drops_entry_of}
use Rattle.cbt_book.specs.Shown.{ReadsEntry, ReadsRecord}
use Rattle.cbt_clean.proofs.Keeping.{Keeps, kept}
use Rattle.cbt_clean.proofs.Moves.{IsTakenOff, by_it, before_it, FindsOff, absent, unstaged, of_another, elsewhere, Moves, reads_record, finds_off, finds_staged, takes, drops, evicts, finds_decided, leaves, finds_none, reads_entry, fails}
use Rattle.cbt_clean.proofs.Touching.{touches, Untouched, drops_of, drops_more, drops_same, untouched_drops, untouched_reads, ReadsPending, untouched_pending, finishes_more, quiet_unfinished, untouched_unfinished, decided_unfinished, read_unfinished, ids_of, Apart, apart_kept}
use Rattle.cbt_clean.specs.Phases.{docs_of, publish, take_off, clearing_step, taking_step, step_for, treat_in, go_on, next, with_entry}
use Rattle.cbt_clean.specs.Staging.{Staging}
use Rattle.cbt_clean.specs.Standing.{Runs}
use Rattle.cbt_clean.specs.declared.covers.Cover.{Cover}
use Rattle.cbt_clean.specs.declared.phases.Phase.{Phase}
use Rattle.cbt_clean.specs.declared.phases.Phase.TheVariants.{Begun, Clearing, Taking, Evicting, Asking, Ended}

some_same : {X : Type 0} {x y : X} → Some x ≡ Some y → x ≡ y
some_same both = cc

-- whether an answer is Failed
abbrev is_failed : Reply → Bool
is_failed reply.Failed = true
is_failed _ = false

-- no call failed
abbrev pub NoneFailed : List Made → Type 0
NoneFailed calls = Each (λ m _. m.answer.reply ≢ reply.Failed) calls

-- each covered attempt is finished or waits, and those that wait were not touched
pub record Waits (r : ℕ) (first : Made) (later : List Made) (covered : List ℕ) (waiting : List (ℕ × Entry)) : Type 0 where
  pub entries : List (ℕ × Entry)
  pub shown : ReadsRecord r entries first
  pub covered_is : covered ≡ expired_in entries first.answer.now
  pub fine : NoneFailed (later ++ first ∷ [])
  pub among : (a : ℕ) → In a (ids_of waiting) → In a covered
  pub done : (a : ℕ) → In a covered → Finishes r a (later ++ first ∷ []) ⊎ In a (ids_of waiting)
  pub apart : Apart (ids_of waiting)
  pub untouched : (a : ℕ) → In a (ids_of waiting) → Untouched a later

-- each covered attempt is finished, is the one that is treated, or waits
pub record Progress (r : ℕ) (first : Made) (later : List Made) (c : Cover) : Type 0 where
  pub entries : List (ℕ × Entry)
  pub shown : ReadsRecord r entries first
  pub covered_is : c.covered ≡ expired_in entries first.answer.now
  pub fine : NoneFailed (later ++ first ∷ [])
  pub current : In c.attempt c.covered
  pub among : (a : ℕ) → In a (ids_of c.waiting) → In a c.covered
  pub done : (a : ℕ) → In a c.covered → Finishes r a (later ++ first ∷ []) ⊎ ((a ≡ c.attempt) ⊎ In a (ids_of c.waiting))
  pub apart : Apart (c.attempt ∷ ids_of c.waiting)
  pub untouched : (a : ℕ) → In a (ids_of c.waiting) → Untouched a later

-- the attempt is decided
pub record Clears (r : ℕ) (first : Made) (later : List Made) (c : Cover) : Type 0 where
  pub progress : Progress r first later c
  pub few : drops_of c.attempt later ≤ 1
  pub unfinished : ¬ Finishes r c.attempt (later ++ first ∷ [])

-- its entry is pending
pub record Evicts (r : ℕ) (first : Made) (later : List Made) (c : Cover) : Type 0 where
  pub progress : Progress r first later c
  pub untouched : Untouched c.attempt later

-- a drop of its entry was refused, and it was read pending then: a drop is to be sent once more
pub record Leaves (r : ℕ) (first : Made) (later : List Made) (c : Cover) : Type 0 where
  pub progress : Progress r first later c
  pub few : drops_of c.attempt later ≤ 1
  pub pends : ReadsPending r c.attempt (later ++ first ∷ [])
  pub unfinished : ¬ Finishes r c.attempt (later ++ first ∷ [])

-- a drop of its entry was refused
pub record Asks (r : ℕ) (first : Made) (later : List Made) (c : Cover) : Type 0 where
  pub clears : Clears r first later c
  pub unread : ¬ Once (λ m _. m.step ≡ step.ReadEntry r c.attempt) later
  pub refused : Once (λ n _. (n.step ≡ step.DropEntry r c.attempt true) × (n.answer.reply ≡ reply.Decided)) (later ++ first ∷ [])

-- what a phase tells of the reading of the record and the later calls
abbrev pub State : ℕ → Made → List Made → Phase → Type 0
State r first later Begun = ⊥
State r first later (Clearing c at) = Clears r first later c
State r first later (Taking c at s) = Clears r first later c
State r first later (Evicting c false) = Evicts r first later c
State r first later (Evicting c true) = Leaves r first later c
State r first later (Asking c) = Asks r first later c
State r first later (Ended end) = EndsPass r first (later ++ first ∷ []) end

-- the next of the attempts that wait is treated
treated : (r : ℕ) (first : Made) (later : List Made) (c : Cover) → touches c.attempt first.step ≡ false → Progress r first later c → Untouched c.attempt later → (state : EntryState)
    → State r first later (treat_in state c false)
treated r first later c quiet it fresh state = by state
  where
    clears : Clears r first later c
    clears = record {
      progress = it;
      few = let none = untouched_drops c.attempt later fresh in omega arith;
      unfinished = untouched_unfinished r c.attempt first later quiet fresh;
    }

    by : (s : EntryState) → State r first later (treat_in s c false)
    by Pending = record { progress = it; untouched = fresh }
    by Committed = clears
    by Aborted = clears

gone_on : (r : ℕ) (first : Made) (later : List Made) (covered : List ℕ) (waiting : List (ℕ × Entry)) → Waits r first later covered waiting → State r first later (go_on covered waiting)
gone_on r first later covered [] it = record {
  entries = it.entries;
  shown = it.shown.1;
  covered_is = it.covered_is;
  finished = λ a there. ⊎_elim (λ done. done) (λ none. absurd none) (it.done a there);
  answered = it.fine;
}
gone_on r first later covered (x ∷ waiting) it =
    treated r first later (record { covered = covered; attempt = x.0; entry = x.1; waiting = waiting }) (ap (touches x.0) it.shown.0)
    (record {
      entries = it.entries;
      shown = it.shown;
      covered_is = it.covered_is;
      fine = it.fine;
      current = it.among x.0 (inl refl);
      among = λ a there. it.among a (inr there);
      done = λ a there. it.done a there;
      apart = it.apart;
      untouched = λ a there. it.untouched a (inr there);
    })
    (it.untouched x.0 (inl refl)) x.1.state

module _ (r : ℕ) (first : Made) (later : List Made) (m : Made) where
  -- a call that is about no other attempt's entry
  progress_more : (c : Cover) → m.answer.reply ≢ reply.Failed → ((a : ℕ) → a ≢ c.attempt → touches a m.step ≡ false) → Progress r first later c → Progress r first (m ∷ later) c
  progress_more c fine alone it = record {
    entries = it.entries;
    shown = it.shown;
    covered_is = it.covered_is;
    fine = (fine, it.fine);
    current = it.current;
    among = it.among;
    done = λ a there. ⊎_elim (λ done. inl (finishes_more r a m (later ++ first ∷ []) done)) (λ left. inr left) (it.done a there);
    apart = it.apart;
    untouched = λ a there. (alone a (λ same. it.apart.0 (subst (λ b. In b (ids_of c.waiting)) same there)), it.untouched a there);
  }

  -- such a call finishes the attempt, or it was finished
  progress_next : (c : Cover) → m.answer.reply ≢ reply.Failed → ((a : ℕ) → a ≢ c.attempt → touches a m.step ≡ false) → Progress r first later c
      → Finishes r c.attempt (m ∷ (later ++ first ∷ [])) → State r first (m ∷ later) (next c)
  progress_next c fine alone it finished =
      let more = progress_more c fine alone it in
      gone_on r first (m ∷ later) c.covered c.waiting
      (record {
        entries = more.entries;
        shown = more.shown;
        covered_is = more.covered_is;
        fine = more.fine;
        among = more.among;
        done = λ a there. ⊎_elim (λ done. inl done) (λ left. ⊎_elim (λ same. inl (subst (λ b. Finishes r b (m ∷ (later ++ first ∷ []))) (sym same) finished)) (λ waits. inr waits) left) (more.done a there);
        apart = more.apart.1;
        untouched = more.untouched;
      })

  -- a call on a document
  clears_more : (c : Cover) → m.answer.reply ≢ reply.Failed → ((a : ℕ) → touches a m.step ≡ false) → drops_entry_of c.attempt m.step ≡ false → Clears r first later c
      → Clears r first (m ∷ later) c
  clears_more c fine quiet none it = record {
    progress = progress_more c fine (λ a other. quiet a) it.progress;
    few = let same = drops_same c.attempt m later none in let before = it.few in omega arith;
    unfinished = quiet_unfinished r c.attempt m (later ++ first ∷ []) (quiet c.attempt) it.unfinished;
  }

  -- an answer of another kind is not Failed
  fine : (a : Reply) → m.answer.reply ≡ a → is_failed a ≡ false → m.answer.reply ≢ reply.Failed
  fine a told other failed = wrong (ap is_failed (sym failed ∙ told) ∙ other)
    where
      wrong : true ≡ false → ⊥
      wrong both = cc

  off_fine : IsTakenOff m.answer.reply → m.answer.reply ≢ reply.Failed
  off_fine (by_it x told) = fine (reply.Done x) told refl
  off_fine (before_it have told) = fine (reply.CasMismatch have) told refl

  dropped_fine : IsDropped m.answer.reply → m.answer.reply ≢ reply.Failed
  dropped_fine gone failed = ⊎_elim (λ done. wrong (sym (ap is_done failed) ∙ done)) (λ none. fine reply.NoEntry none refl failed) gone
    where
      wrong : false ≡ true → ⊥
      wrong both = cc

  finds_fine : (a : ℕ) (d : List ℕ) → FindsOff r a d m → m.answer.reply ≢ reply.Failed
  finds_fine a d (absent finds) = fine reply.Absent finds.1 refl
  finds_fine a d (unstaged x body reads) = fine (reply.Doc x body None) reads.1 refl
  finds_fine a d (of_another x body stage reads other) = fine (reply.Doc x body (Some stage)) reads.1 refl
  finds_fine a d (elsewhere x body stage reads other) = fine (reply.Doc x body (Some stage)) reads.1 refl

-- the record was read
first_waits : (r : ℕ) (m : Made) (entries : List (ℕ × Entry)) → ReadsRecord r entries m → ids_rise entries ≡ true
    → Waits r m [] (expired_in entries m.answer.now) (filter (λ e. is_expired m.answer.now e.1) entries)
first_waits r m entries reads rise = record {
  entries = entries;
  shown = reads;
  covered_is = refl;
  fine = (fine r m [] m (reply.Entries entries) reads.1 refl, tt);
  among = λ a there. there;
  done = λ a there. inr there;
  apart = apart_kept (λ e. is_expired m.answer.now e.1) None entries rise;
  untouched = λ a there. tt;
}

-- what takes a staging off is about no entry
quiet_take_off : (state : EntryState) (d : List ℕ) (s : Staging) (a : ℕ) → (touches a (take_off state d s) ≡ false) × (drops_entry_of a (take_off state d s) ≡ false)
quiet_take_off Committed d s a = by s.content
  where
    by : (o : Option Json) → (touches a (publish d s.cas o) ≡ false) × (drops_entry_of a (publish d s.cas o) ≡ false)
    by None = (refl, refl)
    by (Some body) = (refl, refl)
quiet_take_off Pending d s a = (refl, refl)
quiet_take_off Aborted d s a = (refl, refl)

-- another attempt's entry is another
other_entry : (a b : ℕ) → a ≢ b → (a == b) ≡ false
other_entry a b differ = by (a == b) refl
  where
    by : (k : Bool) → (a == b) ≡ k → (a == b) ≡ false
    by true same = absurd (differ (eqb-true a b same))
    by false other = other

module _ (r : ℕ) (first : Made) (later : List Made) (m : Made) where
  drop_alone : (b : ℕ) (guarded : Bool) → m.step ≡ step.DropEntry r b guarded → (a : ℕ) → a ≢ b → touches a m.step ≡ false
  drop_alone b guarded is a differ = ap (touches a) is ∙ other_entry a b differ

  read_alone : (b : ℕ) → m.step ≡ step.ReadEntry r b → (a : ℕ) → a ≢ b → touches a m.step ≡ false
  read_alone b is a differ = ap (touches a) is ∙ other_entry a b differ

  -- the entry of a covered attempt was read for itself, after a drop was refused
  read_progress : (c : Cover) (e : Entry) → ReadsEntry r c.attempt e m → Progress r first later c → Progress r first (m ∷ later) (with_entry c e)
  read_progress c e reads it =
      let more = progress_more r first later m c (fine r first later m (reply.Entry e) reads.1 refl) (read_alone c.attempt reads.0) it in
      record {
        entries = more.entries;
        shown = more.shown;
        covered_is = more.covered_is;
        fine = more.fine;
        current = more.current;
        among = more.among;
        done = more.done;
        apart = more.apart;
        untouched = more.untouched;
      }

  read_few : (c : Cover) (e : Entry) → ReadsEntry r c.attempt e m → drops_of c.attempt later ≤ 1 → drops_of c.attempt (m ∷ later) ≤ 1
  read_few c e reads few = let same = drops_same c.attempt m later (ap (drops_entry_of c.attempt) reads.0) in omega arith

  read_decided : (c : Cover) (e : Entry) → ReadsEntry r c.attempt e m → Asks r first later c → Clears r first (m ∷ later) (with_entry c e)
  read_decided c e reads it = record {
    progress = read_progress c e reads it.clears.progress;
    few = read_few c e reads it.clears.few;
    unfinished = read_unfinished r c.attempt e m (later ++ first ∷ []) reads it.clears.unfinished;
  }

  read_state : (c : Cover) (e : Entry) → ReadsEntry r c.attempt e m → Asks r first later c → (state : EntryState) → e.state ≡ state → State r first (m ∷ later) (treat_in state (with_entry c e) true)
  read_state c e reads it Pending is = record {
    progress = read_progress c e reads it.clears.progress;
    few = read_few c e reads it.clears.few;
    pends = inl ((e, reads, is), it.refused);
    unfinished = read_unfinished r c.attempt e m (later ++ first ∷ []) reads it.clears.unfinished;
  }
  read_state c e reads it Committed is = read_decided c e reads it
  read_state c e reads it Aborted is = read_decided c e reads it

  -- a pending entry is dropped, or a drop of it was refused
  evicted : (c : Cover) (again : Bool) → m.step ≡ step.DropEntry r c.attempt true → m.answer.reply ≢ reply.Failed → Finishes r c.attempt (m ∷ (later ++ first ∷ []))
      → State r first later (Evicting c again) → State r first (m ∷ later) (next c)
  evicted c false is fine finished it = progress_next r first later m c fine (drop_alone c.attempt true is) it.progress finished
  evicted c true is fine finished it = progress_next r first later m c fine (drop_alone c.attempt true is) it.progress finished

  refused : (c : Cover) → m.step ≡ step.DropEntry r c.attempt true → m.answer.reply ≡ reply.Decided → Evicts r first later c → Asks r first (m ∷ later) c
  refused c is told it = record {
    clears = record {
      progress = progress_more r first later m c (fine r first later m reply.Decided told refl) (drop_alone c.attempt true is) it.progress;
      few = let none = untouched_drops c.attempt later it.untouched in let more = drops_more c.attempt m later in omega arith;
      unfinished = decided_unfinished r c.attempt m (later ++ first ∷ []) is told
          (untouched_pending r c.attempt first later (ap (touches c.attempt) it.progress.shown.0) it.untouched)
          (untouched_unfinished r c.attempt first later (ap (touches c.attempt) it.progress.shown.0) it.untouched);
    };
    unread = λ once. ⊎_elim (λ here. differ (sym is ∙ here)) (λ before. untouched_reads r c.attempt later it.untouched before) once;
    refused = inl (is, told);
  }
    where
      differ : step.DropEntry r c.attempt true ≡ step.ReadEntry r c.attempt → ⊥
      differ both = cc

  fine_so_far : (p : Phase) → step_for r p ≡ Some m.step → State r first later p → NoneFailed (later ++ first ∷ [])
  fine_so_far Begun asked it = absurd it
  fine_so_far (Clearing c at) asked it = it.progress.fine
  fine_so_far (Taking c at s) asked it = it.progress.fine
  fine_so_far (Evicting c false) asked it = it.progress.fine
  fine_so_far (Evicting c true) asked it = it.progress.fine
  fine_so_far (Asking c) asked it = it.clears.progress.fine
  fine_so_far (Ended end) asked it = absurd (none-some m.step asked)

  pub state_on : (p q : Phase) → Moves r m p q → State r first later p → State r first (m ∷ later) q
  state_on _ _ (reads_record entries reads rise) it = absurd it
  state_on _ _ (finds_off c at d here is off) it =
      clears_more r first later m c (finds_fine r first later m c.attempt d off) (λ a. ap (touches a) is) (ap (drops_entry_of c.attempt) is) it
  state_on _ _ (finds_staged c at x d body stage here reads record_is attempt_is) it =
      clears_more r first later m c (fine r first later m (reply.Doc x body (Some stage)) reads.1 refl) (λ a. ap (touches a) reads.0) (ap (drops_entry_of c.attempt) reads.0) it
  state_on _ _ (takes c at d s here is off) it =
      clears_more r first later m c (off_fine r first later m off) (λ a. ap (touches a) is ∙ (quiet_take_off c.entry.state d s a).0)
      (ap (drops_entry_of c.attempt) is ∙ (quiet_take_off c.entry.state d s c.attempt).1) it
  state_on _ _ (drops c at past is gone) it =
      progress_next r first later m c (dropped_fine r first later m gone) (drop_alone c.attempt false is) it.progress (dropped (inl (false, is, gone)))
  state_on _ _ (evicts c again is gone) it = evicted c again is (dropped_fine r first later m gone) (dropped (inl (true, is, gone))) it
  state_on _ _ (finds_decided c is told) it = refused c is told it
  state_on _ _ (leaves c is told) it = evicted c true is (fine r first later m reply.Decided told refl) (pending (inl (is, it.pends))) it
  state_on _ _ (finds_none c finds) it =
      progress_next r first later m c (fine r first later m reply.NoEntry finds.1 refl) (read_alone c.attempt finds.0) it.clears.progress (missing (inl finds))
  state_on _ _ (reads_entry c e reads) it = read_state c e reads it e.state refl
  state_on p _ (fails _ asked failed) it =
      (record { newest = m; older = later ++ first ∷ []; calls_are = refl; failed = failed; place_is = refl }, fine_so_far p asked it)

-- what the pass covers is what its reading of the record shows expired
covered_from : (r : ℕ) (first : Made) (entries : List (ℕ × Entry)) (covered : List ℕ) → ReadsRecord r entries first → covered ≡ expired_in entries first.answer.now
    → covered ≡ covered_by first.answer.reply first.answer.now
covered_from r first entries covered reads is = is ∙ sym (ap (λ a. covered_by a first.answer.now) reads.1)

in_covered : (r : ℕ) (first : Made) (later : List Made) (c : Cover) → Progress r first later c → In c.attempt (covered_by first.answer.reply first.answer.now)
in_covered r first later c it = subst (λ l. In c.attempt l) (covered_from r first it.entries c.covered it.shown it.covered_is) it.current

-- each call that a phase asks for is one of a pass
module _ (r : ℕ) (first : Made) (later : List Made) where
  may_take_off : (state : EntryState) (d : List ℕ) (s : Staging) (covered : List ℕ) → MayPass r covered later (take_off state d s)
  may_take_off Committed d s covered = by s.content
    where
      by : (o : Option Json) → MayPass r covered later (publish d s.cas o)
      by None = tt
      by (Some body) = tt
  may_take_off Pending d s covered = tt
  may_take_off Aborted d s covered = tt

  may_clear : (c : Cover) (o : Option (List ℕ)) → Clears r first later c → MayPass r (covered_by first.answer.reply first.answer.now) later (clearing_step r c o)
  may_clear c None it = (refl, in_covered r first later c it.progress, it.few)
  may_clear c (Some d) it = tt

  may_take : (state : EntryState) (s : Staging) (o : Option (List ℕ)) (covered : List ℕ) (u : Step) → taking_step state s o ≡ Some u → MayPass r covered later u
  may_take state s None covered u asked = absurd (none-some u asked)
  may_take state s (Some d) covered u asked = subst (λ v. MayPass r covered later v) (some_same asked) (may_take_off state d s covered)

  may_evict : (c : Cover) (again : Bool) → State r first later (Evicting c again) → MayPass r (covered_by first.answer.reply first.answer.now) later (step.DropEntry r c.attempt true)
  may_evict c false it = (refl, in_covered r first later c it.progress, (let none = untouched_drops c.attempt later it.untouched in omega arith))
  may_evict c true it = (refl, in_covered r first later c it.progress, it.few)

  pub may_ask : (p : Phase) (u : Step) → step_for r p ≡ Some u → State r first later p → MayPass r (covered_by first.answer.reply first.answer.now) later u
  may_ask Begun u asked it = absurd it
  may_ask (Clearing c at) u asked it =
      subst (λ v. MayPass r (covered_by first.answer.reply first.answer.now) later v) (some_same asked) (may_clear c (slice_get (docs_of c.entry.lists) at) it)
  may_ask (Taking c at s) u asked it = may_take c.entry.state s (slice_get (docs_of c.entry.lists) at) (covered_by first.answer.reply first.answer.now) u asked
  may_ask (Evicting c again) u asked it =
      subst (λ v. MayPass r (covered_by first.answer.reply first.answer.now) later v) (some_same asked) (may_evict c again it)
  may_ask (Asking c) u asked it =
      subst (λ v. MayPass r (covered_by first.answer.reply first.answer.now) later v) (some_same asked) (refl, in_covered r first later c it.clears.progress, it.unread)
  may_ask (Ended end) u asked it = absurd (none-some u asked)

-- the calls of a pass that has begun: its reading of the record, and later ones
pub record Passed (r : ℕ) (p : Phase) (first : Made) (later : List Made) : Type 0 where
  pub reads : first.step ≡ step.ReadAtr r
  pub only : Each (λ m past. MayPass r (covered_by first.answer.reply first.answer.now) past m.step) later
  pub state : State r first later p

pub passed_on : (r : ℕ) (first : Made) (later : List Made) (m : Made) (p q : Phase) → Moves r m p q → step_for r p ≡ Some m.step → Passed r p first later → Passed r q first (m ∷ later)
passed_on r first later m p q moved asked it =
    record { reads = it.reads; only = (may_ask r first later p m.step asked it.state, it.only); state = state_on r first later m p q moved it.state }

pub passed_first : (r : ℕ) (m : Made) (q : Phase) → Moves r m Begun q → Passed r q m []
passed_first r m q (reads_record entries reads rise) =
    record { reads = reads.0; only = tt; state = gone_on r m [] (expired_in entries m.answer.now) (filter (λ e. is_expired m.answer.now e.1) entries) (first_waits r m entries reads rise) }
passed_first r m q (fails _ asked failed) = record {
  reads = sym (some_same asked);
  only = tt;
  state = (record { newest = m; older = []; calls_are = refl; failed = failed; place_is = refl }, tt);
}

pub keeps_passed : (r : ℕ) → Keeps r (λ p first later. Passed r p first later)
keeps_passed r = record { first = λ m q moved. passed_first r m q moved; later = λ first later m p q moved asked it. passed_on r first later m p q moved asked it }

-- what is known of the calls of a pass that has read its record
pub passed : (r : ℕ) (p : Phase) (first : Made) (later : List Made) → Runs r p (later ++ first ∷ []) → Passed r p first later
passed r p first later run = kept r (λ q m l. Passed r q m l) (keeps_passed r) p first later run
