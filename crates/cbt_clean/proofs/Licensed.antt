-- Each call of a pass is licensed by its cleaner's whole own list.
use Rattle.std.proofs.Common.{◌≡◌, ◌≢◌, ℕ, suc, ◌+◌, ◌≤◌, ◌==◌, Bool, true, false, ◌⊎◌, inl, inr, ⊎_elim, List, [], ◌∷◌, ◌++◌, length, filter, slice_get, Option, Some, None, refl, sym, ap, ◌∙◌, subst, arith}
use Rattle.std.proofs.lemmas.Bool.{eqb-true}
use Rattle.std.proofs.lemmas.Option.{none-some, slice_get_within, slice_get_cases}
use Rattle.cbt_json.specs.declared.value.Json.{Json}
use Rattle.cbt_model.specs.History.{is_done}
use Rattle.cbt_model.specs.View.{IsExpired}
use Rattle.cbt_model.specs.declared.documents.Stage.{Stage}
use Rattle.cbt_model.specs.declared.entries.Entry.{Entry}
use Rattle.cbt_model.specs.declared.entries.EntryState.{EntryState}
use Rattle.cbt_model.specs.declared.entries.EntryState.TheVariants.{Pending, Committed, Aborted}
use Rattle.cbt_model.specs.declared.entries.Lists.{Lists}
use Rattle.cbt_model.specs.declared.events.Made.{Made}
use Rattle.cbt_model.specs.declared.steps.Step.{Step}
use Rattle.cbt_book.specs.Licence.{IsListed, WasStaged, Unstages, ShowsDecided, MayResolve, MayUnstick, MayEvict, MayDrop, MayTake, Clears}
use Rattle.cbt_book.specs.Licence as licence
use Rattle.cbt_book.specs.Numbers.{Identity}
use Rattle.cbt_book.specs.OwnLists.{Once, In}
use Rattle.cbt_book.specs.Passes.{is_expired, expired_in}
use Rattle.cbt_book.specs.Shown.{ReadsDoc, ShowsStaged, ShowsEntry, ReadsRecord, ShowsCommitted, ShowsAborted, decides}
use Rattle.cbt_book.specs.Shown as shown
use Rattle.cbt_clean.proofs.Listing.{in_filter, listed_at}
use Rattle.cbt_clean.proofs.Moves.{IsTakenOff, by_it, before_it, FindsOff, absent, unstaged, of_another, elsewhere, IsAt, Moves, reads_record, finds_off, finds_staged, takes, drops, evicts, finds_decided, leaves, finds_none, reads_entry, fails}
use Rattle.cbt_clean.proofs.Moving.{moves}
use Rattle.cbt_clean.specs.Phases.{docs_of, publish, take_off, clearing_step, taking_step, step_for, treat_in, go_on, with_entry, after}
use Rattle.cbt_clean.specs.Ready.{DecidesNothing}
use Rattle.cbt_clean.specs.Staging.{Staging}
use Rattle.cbt_clean.specs.Standing.{Runs, begun, goes_on}
use Rattle.cbt_clean.specs.declared.covers.Cover.{Cover}
use Rattle.cbt_clean.specs.declared.phases.Phase.{Phase}
use Rattle.cbt_clean.specs.declared.phases.Phase.TheVariants.{Begun, Clearing, Taking, Evicting, Asking, Ended}

some_same : {X : Type 0} {x y : X} → Some x ≡ Some y → x ≡ y
some_same both = cc

once_weaker : (P Q : Made → List Made → Type 0) (l : List Made) → ((m : Made) (past : List Made) → P m past → Q m past) → Once P l → Once Q l
once_weaker P Q [] weaker once = absurd once
once_weaker P Q (m ∷ l) weaker once = ⊎_elim (λ here. inl (weaker m l here)) (λ later. inr (once_weaker P Q l weaker later)) once

in_once : (P : Made → Type 0) (m : Made) (l : List Made) → P m → In m l → Once (λ n _. P n) l
in_once P m [] so there = absurd there
in_once P m (n ∷ l) so there = ⊎_elim (λ is. inl (subst P is so)) (λ later. inr (in_once P m l so later)) there

-- where nothing is decided no attempt is
undecided : (a : ℕ) (l : List Made) → DecidesNothing l → ¬ Once (λ m _. decides m.step ≡ Some a) l
undecided a [] each once = once
undecided a (m ∷ l) each once = ⊎_elim (λ here. none-some a (sym each.0 ∙ here)) (λ later. undecided a l each.1 later) once

-- the entry of attempt a is shown by a reading of record r, as one that has expired by then
record ShownExpired (r a : ℕ) (e : Entry) (l : List Made) : Type 0 where
  pub reading : Made
  pub earlier : In reading l
  pub entries : List (ℕ × Entry)
  pub reads : ReadsRecord r entries reading
  pub there : In (a, e) entries
  pub expired : IsExpired e reading.answer.now

-- no call decides anything, and the entries that wait are shown expired
record Base (r : ℕ) (waiting : List (ℕ × Entry)) (l : List Made) : Type 0 where
  pub undecided : DecidesNothing l
  pub shown : (a : ℕ) (e : Entry) → In (a, e) waiting → ShownExpired r a e l

-- a document is one of those of the entry from this place on
record IsLeft (c : Cover) (at : ℕ) (d : List ℕ) : Type 0 where
  pub place : ℕ
  pub from : at ≤ place
  pub here : IsAt c place (Some d)

-- the attempt is shown decided, with its lists, and each listed document is left or was cleared since
record Claims (r : ℕ) (c : Cover) (at : ℕ) (l : List Made) : Type 0 where
  pub base : Base r c.waiting l
  pub showing : Made
  pub earlier : In showing l
  pub shows : ShowsEntry r c.attempt c.entry showing
  pub decided : c.entry.state ≢ Pending
  pub cleared : (d : List ℕ) → IsListed d c.entry.lists → IsLeft c at d ⊎ Once (λ m before. In showing before × Clears c.attempt showing d m before) l

-- the document was read staged so by the attempt, since it was shown decided
record WasRead (r : ℕ) (c : Cover) (showing : Made) (d : List ℕ) (s : Staging) (l : List Made) : Type 0 where
  pub body : Option Json
  pub stage : Stage
  pub by_attempt : stage.attempt ≡ c.attempt
  pub in_record : stage.atr ≡ r
  pub content_is : stage.content ≡ s.content
  pub once : Once (λ n before. ReadsDoc d s.cas body (Some stage) n × In showing before) l

record Takes (r : ℕ) (c : Cover) (at : ℕ) (s : Staging) (l : List Made) : Type 0 where
  pub claims : Claims r c at l
  pub read : (d : List ℕ) → IsAt c at (Some d) → WasRead r c claims.showing d s l

record Evicts (r : ℕ) (c : Cover) (l : List Made) : Type 0 where
  pub base : Base r c.waiting l
  pub may : MayEvict l r c.attempt

abbrev Holds : ℕ → Phase → List Made → Type 0
Holds r Begun l = DecidesNothing l
Holds r (Clearing c at) l = Claims r c at l
Holds r (Taking c at s) l = Takes r c at s l
Holds r (Evicting c again) l = Evicts r c l
Holds r (Asking c) l = Evicts r c l
Holds r (Ended end) l = Unit {0}

-- an attempt is treated by the state of its entry, which is shown
treated : (r : ℕ) (c : Cover) (again : Bool) (l : List Made) (showing : Made) → In showing l → ShowsEntry r c.attempt c.entry showing → Base r c.waiting l → MayEvict l r c.attempt
    → (state : EntryState) → c.entry.state ≡ state → Holds r (treat_in state c again) l
treated r c again l showing earlier shows base may state is = by state is
  where
    claims : c.entry.state ≢ Pending → Claims r c 0 l
    claims decided = record {
      base = base;
      showing = showing;
      earlier = earlier;
      shows = shows;
      decided = decided;
      cleared = λ d named. inl (let it = listed_at d c.entry.lists named in record { place = it.0; from = omega arith; here = it.1 });
    }

    no_commit : Committed ≡ Pending → ⊥
    no_commit both = cc

    no_abort : Aborted ≡ Pending → ⊥
    no_abort both = cc

    by : (s : EntryState) → c.entry.state ≡ s → Holds r (treat_in s c again) l
    by Pending same = record { base = base; may = may }
    by Committed same = claims (λ pending. no_commit (sym same ∙ pending))
    by Aborted same = claims (λ pending. no_abort (sym same ∙ pending))

may_evict : (r a : ℕ) (e : Entry) (l : List Made) → ShownExpired r a e l → MayEvict l r a
may_evict r a e l it =
    in_once (λ n. (entries : List (ℕ × Entry)) × (f : Entry) × ReadsRecord r entries n × In (a, f) entries × IsExpired f n.answer.now) it.reading l
    (it.entries, e, it.reads, it.there, it.expired) it.earlier

-- the next attempt that waits is treated
gone_on : (r : ℕ) (covered : List ℕ) (waiting : List (ℕ × Entry)) (l : List Made) → Base r waiting l → Holds r (go_on covered waiting) l
gone_on r covered [] l base = tt
gone_on r covered (x ∷ waiting) l base =
    let it = base.shown x.0 x.1 (inl refl) in
    treated r (record { covered = covered; attempt = x.0; entry = x.1; waiting = waiting }) false l it.reading it.earlier (shown.in_record it.entries it.reads it.there)
    (record { undecided = base.undecided; shown = λ a e there. base.shown a e (inr there) }) (may_evict r x.0 x.1 l it) x.1.state refl

module _ (r : ℕ) (m : Made) (l : List Made) where
  base_more : (waiting : List (ℕ × Entry)) → decides m.step ≡ None → Base r waiting l → Base r waiting (m ∷ l)
  base_more waiting none base = record {
    undecided = (none, base.undecided);
    shown = λ a e there. let it = base.shown a e there in
        record { reading = it.reading; earlier = inr it.earlier; entries = it.entries; reads = it.reads; there = it.there; expired = it.expired };
  }

  -- a call that clears nothing
  stays : (c : Cover) (at : ℕ) → decides m.step ≡ None → Claims r c at l → Claims r c at (m ∷ l)
  stays c at none it = record {
    base = base_more c.waiting none it.base;
    showing = it.showing;
    earlier = inr it.earlier;
    shows = it.shows;
    decided = it.decided;
    cleared = λ d named. ⊎_elim (λ left. inl left) (λ done. inr (inr done)) (it.cleared d named);
  }

  -- a call that clears the first document left
  passes : (c : Cover) (at : ℕ) (d : List ℕ) → IsAt c at (Some d) → decides m.step ≡ None → (it : Claims r c at l) → Clears c.attempt it.showing d m l → Claims r c (at + 1) (m ∷ l)
  passes c at d here none it clears = record {
    base = base_more c.waiting none it.base;
    showing = it.showing;
    earlier = inr it.earlier;
    shows = it.shows;
    decided = it.decided;
    cleared = λ q named. ⊎_elim (λ left. by_place q left (left.place == at) refl) (λ done. inr (inr done)) (it.cleared q named);
  }
    where
      further : (j : ℕ) → at ≤ j → (j == at) ≡ false → at + 1 ≤ j
      further j from other = grind arith

      by_place : (q : List ℕ) (left : IsLeft c at q) (b : Bool) → (left.place == at) ≡ b
          → IsLeft c (at + 1) q ⊎ Once (λ n past. In it.showing past × Clears c.attempt it.showing q n past) (m ∷ l)
      by_place q left true is =
          let same : d ≡ q = some_same (sym here ∙ ap (λ j. slice_get (docs_of c.entry.lists) j) (sym (eqb-true left.place at is)) ∙ left.here) in
          inr (inl (it.earlier, subst (λ u. Clears c.attempt it.showing u m l) same clears))
      by_place q left false other = inl (record { place = left.place; from = further left.place left.from other; here = left.here })

  -- what is taken off over the CAS at which it was read
  taken_clears : (c : Cover) (showing : Made) (d : List ℕ) (s : Staging) → Unstages d s.cas m.step → IsTakenOff m.answer.reply → WasRead r c showing d s l → Clears c.attempt showing d m l
  taken_clears c showing d s by (by_it x told) it =
      licence.unstaged s.cas by (ap is_done told)
      (once_weaker (λ n before. ReadsDoc d s.cas it.body (Some it.stage) n × In showing before) _ l (λ n past read. (it.stage, it.by_attempt, shown.by_read it.body read.0)) it.once)
  taken_clears c showing d s by (before_it have told) it =
      licence.moved_on s.cas have by told
      (once_weaker (λ n before. ReadsDoc d s.cas it.body (Some it.stage) n × In showing before) _ l (λ n past read. (it.body, it.stage, read.0, it.by_attempt, read.1)) it.once)

  off_clears : (c : Cover) (showing : Made) (d : List ℕ) → ShowsDecided r c.attempt c.entry.lists showing → FindsOff r c.attempt d m → Clears c.attempt showing d m l
  off_clears c showing d shows (absent finds) = licence.absent finds
  off_clears c showing d shows (unstaged x body reads) = licence.free x body reads
  off_clears c showing d shows (of_another x body stage reads other) = licence.of_another x body stage reads other
  off_clears c showing d shows (elsewhere x body stage reads other) = licence.elsewhere r x c.entry.lists body stage shows reads other

-- what takes a staging off decides nothing
take_off_unstages : (state : EntryState) (d : List ℕ) (s : Staging) (u : Step) → u ≡ take_off state d s → Unstages d s.cas u × (decides u ≡ None)
take_off_unstages Committed d s u is = by s.content is
  where
    by : (o : Option Json) → u ≡ publish d s.cas o → Unstages d s.cas u × (decides u ≡ None)
    by None same = (licence.deletes same, ap decides same)
    by (Some body) same = (licence.publishes body same, ap decides same)
take_off_unstages Pending d s u is = (licence.unsticks is, ap decides is)
take_off_unstages Aborted d s u is = (licence.unsticks is, ap decides is)

-- an entry that is not pending is shown decided
shown_decided : (r : ℕ) (c : Cover) (showing : Made) → ShowsEntry r c.attempt c.entry showing → c.entry.state ≢ Pending → (state : EntryState) → c.entry.state ≡ state
    → ShowsDecided r c.attempt c.entry.lists showing
shown_decided r c showing shows decided Pending is = absurd (decided is)
shown_decided r c showing shows decided Committed is = inl (shown.committed_entry c.entry shows is refl)
shown_decided r c showing shows decided Aborted is = inr (shown.aborted_entry c.entry shows is refl)

decided_by : (r : ℕ) (c : Cover) (at : ℕ) (l : List Made) (it : Claims r c at l) → ShowsDecided r c.attempt c.entry.lists it.showing
decided_by r c at l it = shown_decided r c it.showing it.shows it.decided c.entry.state refl

-- the record was read: the entries that have expired wait
record_holds : (r : ℕ) (m : Made) (l : List Made) (entries : List (ℕ × Entry)) → ReadsRecord r entries m → DecidesNothing l
    → Base r (filter (λ e. is_expired m.answer.now e.1) entries) (m ∷ l)
record_holds r m l entries reads none = record {
  undecided = (ap decides reads.0, none);
  shown = λ a e there. let it = in_filter m.answer.now (a, e) entries there in
      record { reading = m; earlier = inl refl; entries = entries; reads = reads; there = it.0; expired = it.1 };
}

module _ (r : ℕ) (m : Made) (l : List Made) where
  evicts_more : (c : Cover) → decides m.step ≡ None → Evicts r c l → Evicts r c (m ∷ l)
  evicts_more c none it = record { base = base_more r m l c.waiting none it.base; may = inr it.may }

  holds_on : (p q : Phase) → Moves r m p q → Holds r p l → Holds r q (m ∷ l)
  unfolding stays
  holds_on _ _ (reads_record entries reads rise) none =
      gone_on r (expired_in entries m.answer.now) (filter (λ e. is_expired m.answer.now e.1) entries) (m ∷ l) (record_holds r m l entries reads none)
  holds_on _ _ (finds_off c at d here is off) it =
      passes r m l c at d here (ap decides is) it (off_clears r m l c it.showing d (decided_by r c at l it) off)
  holds_on _ _ (finds_staged c at x d body stage here reads record_is attempt_is) it = record {
    claims = stays r m l c at (ap decides reads.0) it;
    read = λ q there.
        subst (λ u. WasRead r c it.showing u (record { cas = x; content = stage.content }) (m ∷ l)) (some_same (sym here ∙ there))
        (record { body = body; stage = stage; by_attempt = attempt_is; in_record = record_is; content_is = refl; once = inl (reads, it.earlier) });
  }
  holds_on _ _ (takes c at d s here is off) it =
      let by = take_off_unstages c.entry.state d s m.step is in
      passes r m l c at d here by.1 it.claims (taken_clears r m l c it.claims.showing d s by.0 off (it.read d here))
  holds_on _ _ (drops c at past is gone) it = gone_on r c.covered c.waiting (m ∷ l) (base_more r m l c.waiting (ap decides is) it.base)
  holds_on _ _ (evicts c again is gone) it = gone_on r c.covered c.waiting (m ∷ l) (base_more r m l c.waiting (ap decides is) it.base)
  holds_on _ _ (finds_decided c is told) it = evicts_more c (ap decides is) it
  holds_on _ _ (leaves c is told) it = gone_on r c.covered c.waiting (m ∷ l) (base_more r m l c.waiting (ap decides is) it.base)
  holds_on _ _ (finds_none c finds) it = gone_on r c.covered c.waiting (m ∷ l) (base_more r m l c.waiting (ap decides finds.0) it.base)
  holds_on _ _ (reads_entry c e reads) it =
      treated r (with_entry c e) true (m ∷ l) m (inl refl) (shown.alone reads) (base_more r m l c.waiting (ap decides reads.0) it.base) (inr it.may) e.state refl
  holds_on p _ (fails _ asked failed) it = tt

-- past the last document each listed one has been cleared
may_drop : (r : ℕ) (c : Cover) (at : ℕ) (l : List Made) → IsAt c at None → Claims r c at l → MayDrop l r c.attempt
may_drop r c at l past it = record {
  showing = it.showing;
  shown = c.entry.lists;
  due = c.entry.lists;
  earlier = it.earlier;
  decided = decided_by r c at l it;
  due_is = licence.of_shown (undecided c.attempt l it.base.undecided) refl;
  cleared = λ d named. ⊎_elim (λ left. absurd (none_left left.place left.from (slice_get_within (docs_of c.entry.lists) left.place d left.here))) (λ done. done) (it.cleared d named);
}
  where
    beyond : length (docs_of c.entry.lists) ≤ at
    beyond = ⊎_elim (λ found. absurd (none-some found.0 (sym past ∙ found.2))) (λ none. none.0) (slice_get_cases (docs_of c.entry.lists) at).1

    none_left : (j : ℕ) → at ≤ j → suc j ≤ length (docs_of c.entry.lists) → ⊥
    none_left j from within = omega (arith, beyond)

clearing_licensed : (who : Identity) (r : ℕ) (c : Cover) (at : ℕ) (l : List Made) (o : Option (List ℕ)) → IsAt c at o → Claims r c at l → MayTake who l (clearing_step r c o)
clearing_licensed who r c at l None past it = may_drop r c at l past it
clearing_licensed who r c at l (Some d) here it = tt

-- what was read staged so may be taken off as its attempt was decided
taking_licensed : (who : Identity) (r : ℕ) (c : Cover) (s : Staging) (d : List ℕ) (showing : Made) (l : List Made) → In showing l → ShowsEntry r c.attempt c.entry showing
    → c.entry.state ≢ Pending → WasRead r c showing d s l → (state : EntryState) → c.entry.state ≡ state → MayTake who l (take_off state d s)
taking_licensed who r c s d showing l earlier shows decided read Pending is = absurd (decided is)
taking_licensed who r c s d showing l earlier shows decided read Committed is = by s.content refl
  where
    resolves : MayResolve l d s.cas s.content
    resolves = record {
      stage = read.stage;
      staged = once_weaker (λ n before. ReadsDoc d s.cas read.body (Some read.stage) n × In showing before) _ l (λ n past reads. shown.by_read read.body reads.0) read.once;
      content_is = read.content_is;
      committed = in_once (λ n. (lists : Lists) × ShowsCommitted read.stage.atr read.stage.attempt lists n) showing l (
        c.entry.lists,
        subst (λ q. ShowsCommitted q read.stage.attempt c.entry.lists showing) (sym read.in_record)
            (subst (λ a. ShowsCommitted r a c.entry.lists showing) (sym read.by_attempt) (shown.committed_entry c.entry shows is refl)),
      ) earlier;
    }

    by : (o : Option Json) → s.content ≡ o → MayTake who l (publish d s.cas o)
    by None none = subst (λ o. MayResolve l d s.cas o) none resolves
    by (Some body) some = subst (λ o. MayResolve l d s.cas o) some resolves
taking_licensed who r c s d showing l earlier shows decided read Aborted is =
    licence.after_abort read.stage
    (once_weaker (λ n before. ReadsDoc d s.cas read.body (Some read.stage) n × In showing before) _ l (λ n past reads. shown.by_read read.body reads.0) read.once)
    (in_once (λ n. (lists : Lists) × ShowsAborted read.stage.atr read.stage.attempt lists n) showing l (
      c.entry.lists,
      subst (λ q. ShowsAborted q read.stage.attempt c.entry.lists showing) (sym read.in_record)
          (subst (λ a. ShowsAborted r a c.entry.lists showing) (sym read.by_attempt) (shown.aborted_entry c.entry shows is refl)),
    ) earlier)

taking_by : (who : Identity) (r : ℕ) (c : Cover) (at : ℕ) (s : Staging) (l : List Made) (o : Option (List ℕ)) (u : Step) → IsAt c at o → Takes r c at s l
    → taking_step c.entry.state s o ≡ Some u → MayTake who l u
taking_by who r c at s l None u past it asked = absurd (none-some u asked)
taking_by who r c at s l (Some d) u here it asked =
    subst (λ v. MayTake who l v) (some_same asked)
    (taking_licensed who r c s d it.claims.showing l it.claims.earlier it.claims.shows it.claims.decided (it.read d here) c.entry.state refl)

may_take : (who : Identity) (r : ℕ) (p : Phase) (l : List Made) (s : Step) → Holds r p l → step_for r p ≡ Some s → MayTake who l s
may_take who r Begun l s none asked = subst (λ u. MayTake who l u) (some_same asked) tt
may_take who r (Clearing c at) l s it asked = subst (λ u. MayTake who l u) (some_same asked) (clearing_licensed who r c at l (slice_get (docs_of c.entry.lists) at) refl it)
may_take who r (Taking c at t) l s it asked = taking_by who r c at t l (slice_get (docs_of c.entry.lists) at) s refl it asked
may_take who r (Evicting c again) l s it asked = subst (λ u. MayTake who l u) (some_same asked) it.may
may_take who r (Asking c) l s it asked = subst (λ u. MayTake who l u) (some_same asked) tt
may_take who r (Ended end) l s it asked = absurd (none-some s asked)

module _ (who : Identity) (r : ℕ) (l0 : List Made) (ready : DecidesNothing l0) where
  holds : (p : Phase) (mine : List Made) → Runs r p mine → Holds r p (mine ++ l0)
  holds _ _ begun = ready
  holds _ _ (goes_on p mine m run asked fit) =
      holds_on r m (mine ++ l0) p (after r p m.answer.place m.answer.now m.answer.reply) (moves r m p asked fit) (holds p mine run)

  pub licensed : (p : Phase) (mine : List Made) (s : Step) → Runs r p mine → step_for r p ≡ Some s → MayTake who (mine ++ l0) s
  licensed p mine s run asked = may_take who r p (mine ++ l0) s (holds p mine run) asked
