-- How a document changes: its stamps rise, and a staging stands until a later stamp.
use Rattle.std.proofs.Common.{◌≡◌, ℕ, zero, suc, ◌<◌, ◌≤◌, ◌⊎◌, inl, inr, ⊎_elim, List, Option, Some, None, refl, sym, ap, ◌∙◌, subst, arith}
use Rattle.std.proofs.lemmas.Bool.{cases_lt}
use Rattle.std.proofs.lemmas.Option.{none-some}
use Rattle.cbt_base.specs.Clock.{clock_mutated}
use Rattle.cbt_json.specs.declared.value.Json.{Json}
use Rattle.cbt_model.specs.History.{after, TakesEffect}
use Rattle.cbt_model.specs.Keys.{doc_at}
use Rattle.cbt_model.specs.Table.{touches_doc}
use Rattle.cbt_model.specs.declared.documents.DocState.{DocState}
use Rattle.cbt_model.specs.declared.documents.Stage.{Stage}
use Rattle.cbt_model.specs.declared.events.Event.{Event}
use Rattle.cbt_model.specs.declared.states.State.{State}
use Rattle.cbt_model.specs.declared.steps.Expect.{Expect}
use Rattle.cbt_model.specs.declared.steps.Expect.TheVariants as expect
use Rattle.cbt_model.specs.declared.steps.Step.{Step}
use Rattle.cbt_model.specs.declared.steps.Step.TheVariants as step
use Rattle.cbt_model.proofs.Effects.{IsQuiet, quiet_or_effect, doc-at_effect, clock-at_effect}
use Rattle.cbt_model.proofs.Moves.{DocMove}
use Rattle.cbt_model.proofs.Moves as moves
use Rattle.cbt_core.proofs.runs.Lawful.{Lawful}
use Rattle.cbt_core.proofs.runs.Past.{some_same, below_next}
use Rattle.cbt_core.proofs.interleaving.Entries.{none_below}

-- a step that takes the staging off document d, over CAS y: what it makes of the body
pub data TakesOff (d : List ℕ) (y : ℕ) (before now : Option Json) (st : Step) : Type 0 where
  by_publish : (body : Json) → st ≡ step.Publish d y body → now ≡ Some body → TakesOff d y before now st
  by_delete : st ≡ step.Delete d y → now ≡ None → TakesOff d y before now st
  by_unstick : st ≡ step.Unstick d y → now ≡ before → TakesOff d y before now st

stage_names : (d d2 : List ℕ) (e e2 : Expect) (s s2 : Stage) → step.Stage d e s ≡ step.Stage d2 e2 s2 → s ≡ s2
stage_names d d2 e e2 s s2 same = cc

module _ (s0 : State) (h : List Event) (lawful : Lawful s0 h) where
  -- the document after so many events
  abbrev pub doc_then : ℕ → List ℕ → Option DocState
  doc_then i d = doc_at (after s0 h i) d

  -- the stamp of a change by the event at a place
  abbrev pub stamp : ℕ → Event → ℕ
  stamp i e = clock_mutated (after s0 h i).last e.reading

  -- what an event makes of a document
  pub data DocGoes (d : List ℕ) (i : ℕ) : Type 0 where
    stays : doc_then (suc i) d ≡ doc_then i d → DocGoes d i
    is_staged_new : (e : Event) (stage : Stage) (x : DocState) → TakesEffect s0 h i e → e.step ≡ step.Stage d expect.New stage → doc_then i d ≡ None
        → doc_then (suc i) d ≡ Some x → x.cas ≡ stamp i e → x.stage ≡ Some stage → x.body ≡ None → DocGoes d i
    is_staged : (e : Event) (y : ℕ) (stage : Stage) (old x : DocState) → TakesEffect s0 h i e → e.step ≡ step.Stage d (expect.Cas y) stage → doc_then i d ≡ Some old
        → old.cas ≡ y → doc_then (suc i) d ≡ Some x → x.cas ≡ stamp i e → x.stage ≡ Some stage → x.body ≡ old.body → DocGoes d i
    is_unstaged : (e : Event) (y : ℕ) (old x : DocState) → TakesEffect s0 h i e → TakesOff d y old.body x.body e.step → doc_then i d ≡ Some old
        → old.cas ≡ y → doc_then (suc i) d ≡ Some x → x.cas ≡ stamp i e → x.stage ≡ None → DocGoes d i

  pub doc_goes : (i : ℕ) (d : List ℕ) → DocGoes d i
  doc_goes i d = ⊎_elim (λ (it : IsQuiet (after s0 h i) (after s0 h (suc i))). stays (quietly it)) (λ (it : (e : Event) × TakesEffect s0 h i e). by_move it.0 it.1 (doc-at_effect s0 h i it.0 d it.1)) (quiet_or_effect s0 h i)
    where
      quietly : IsQuiet (after s0 h i) (after s0 h (suc i)) → doc_then (suc i) d ≡ doc_then i d
      quietly it = ap (λ docs. doc_at (record (after s0 h i) { docs = docs }) d) it.docs

      by_move : (e : Event) → TakesEffect s0 h i e → DocMove (after s0 h i) (clock_mutated (after s0 h i).last e.reading) e.step d (doc_at (after s0 h (suc i)) d) → DocGoes d i
      by_move e takes (moves.same apart is) = stays is
      by_move e takes (moves.staged_new stage is at now) = is_staged_new e stage _ takes is at now refl refl refl
      by_move e takes (moves.staged_over y stage old is at cas now) = is_staged e y stage old _ takes is at cas now refl refl refl
      by_move e takes (moves.published y body old is at cas now) = is_unstaged e y old _ takes (by_publish body is refl) at cas now refl refl
      by_move e takes (moves.deleted y old is at cas now) = is_unstaged e y old _ takes (by_delete is refl) at cas now refl refl
      by_move e takes (moves.unstuck y old is at cas now) = is_unstaged e y old _ takes (by_unstick is refl) at cas now refl refl

  -- the clock does not fall
  pub clock_rises : (i : ℕ) → (after s0 h i).last ≤ (after s0 h (suc i)).last
  clock_rises i = ⊎_elim (λ (it : IsQuiet (after s0 h i) (after s0 h (suc i))). it.clock) (λ (it : (e : Event) × TakesEffect s0 h i e). above (after s0 h i).last (after s0 h (suc i)).last it.0.reading (clock-at_effect s0 h i it.0 it.1)) (quiet_or_effect s0 h i)
    where
      above : (l n r : ℕ) → n ≡ clock_mutated l r → l ≤ n
      above l n r is = omega arith

  stamp_above : (l r : ℕ) → l < clock_mutated l r
  stamp_above l r = omega arith

  cas_next : (d : List ℕ) (i : ℕ) → DocGoes d i → ((x : DocState) → doc_then i d ≡ Some x → x.cas ≤ (after s0 h i).last) → (x : DocState) → doc_then (suc i) d ≡ Some x
      → x.cas ≤ (after s0 h (suc i)).last
  cas_next d i (stays is) ih x at = along (ih x (sym is ∙ at)) (clock_rises i)
    where
      along : {a b c : ℕ} → a ≤ b → b ≤ c → a ≤ c
      along low high = omega arith
  cas_next d i (is_staged_new e stage y takes is none now cas staged body) ih x at = stamped (ap (λ (z : DocState). z.cas) (some_same (sym at ∙ now)) ∙ cas) (clock-at_effect s0 h i e takes)
    where
      stamped : {a b c : ℕ} → a ≡ b → c ≡ b → a ≤ c
      stamped one two = omega arith
  cas_next d i (is_staged e z stage old y takes is there over now cas staged body) ih x at = stamped (ap (λ (z : DocState). z.cas) (some_same (sym at ∙ now)) ∙ cas) (clock-at_effect s0 h i e takes)
    where
      stamped : {a b c : ℕ} → a ≡ b → c ≡ b → a ≤ c
      stamped one two = omega arith
  cas_next d i (is_unstaged e z old y takes off there over now cas unstaged) ih x at = stamped (ap (λ (z : DocState). z.cas) (some_same (sym at ∙ now)) ∙ cas) (clock-at_effect s0 h i e takes)
    where
      stamped : {a b c : ℕ} → a ≡ b → c ≡ b → a ≤ c
      stamped one two = omega arith

  -- no CAS is above the clock
  pub cas_low : (i : ℕ) (d : List ℕ) (x : DocState) → doc_then i d ≡ Some x → x.cas ≤ (after s0 h i).last
  cas_low zero d x at = lawful.sound.docs d x at
  cas_low (suc i) d x at = cas_next d i (doc_goes i d) (λ y there. cas_low i d y there) x at

  -- a change gives a CAS above the one before
  new_cas : (i : ℕ) (d : List ℕ) (e : Event) (old x : DocState) → doc_then i d ≡ Some old → x.cas ≡ stamp i e → old.cas < x.cas
  new_cas i d e old x there cas = higher (cas_low i d old there) (stamp_above (after s0 h i).last e.reading) cas
    where
      higher : {a b c n : ℕ} → a ≤ b → b < c → n ≡ c → a < n
      higher low up is = omega arith

  -- a document that was there is there later: the same, or with a higher CAS
  pub record Later (d : List ℕ) (j : ℕ) (x : DocState) : Type 0 where
    pub doc : DocState
    pub there : doc_then j d ≡ Some doc
    pub same_or_above : (x ≡ doc) ⊎ (x.cas < doc.cas)

  above_all : (x y z : DocState) → (x ≡ y) ⊎ (x.cas < y.cas) → y.cas < z.cas → x.cas < z.cas
  above_all x y z (inl same) up = subst (λ (w : DocState). w.cas < z.cas) (sym same) up
  above_all x y z (inr low) up = omega arith

  later_next : (d : List ℕ) (i : ℕ) (x : DocState) → DocGoes d i → Later d i x → Later d (suc i) x
  later_next d i x (stays is) it = record { doc = it.doc; there = is ∙ it.there; same_or_above = it.same_or_above }
  later_next d i x (is_staged_new e stage y takes is none now cas staged body) it = absurd (none-some it.doc (sym none ∙ it.there))
  later_next d i x (is_staged e z stage old y takes is there over now cas staged body) it =
      record { doc = y; there = now; same_or_above = inr (above_all x it.doc y it.same_or_above (new_cas i d e it.doc y it.there cas)) }
  later_next d i x (is_unstaged e z old y takes off there over now cas unstaged) it =
      record { doc = y; there = now; same_or_above = inr (above_all x it.doc y it.same_or_above (new_cas i d e it.doc y it.there cas)) }

  pub doc_later : (i j : ℕ) (d : List ℕ) (x : DocState) → i ≤ j → doc_then i d ≡ Some x → Later d j x
  doc_later i zero d x low at = record { doc = x; there = subst (λ n. doc_then n d ≡ Some x) (none_below i low) at; same_or_above = inl refl }
  doc_later i (suc j) d x low at =
      ⊎_elim (λ (l : i < suc j). later_next d j x (doc_goes j d) (doc_later i j d x (omega arith) at))
      (λ (s : i ≡ suc j). record { doc = x; there = subst (λ n. doc_then n d ≡ Some x) s at; same_or_above = inl refl })
      (below_next i (suc j) (omega arith))

  -- a document has one content at a CAS
  same_later : (i j : ℕ) (d : List ℕ) (x y : DocState) → i ≤ j → doc_then i d ≡ Some x → doc_then j d ≡ Some y → x.cas ≡ y.cas → x ≡ y
  same_later i j d x y low at there same =
      let it = doc_later i j d x low at in
      let is : it.doc ≡ y = some_same (sym it.there ∙ there) in
      ⊎_elim (λ (s : x ≡ it.doc). s ∙ is) (λ (l : x.cas < it.doc.cas). absurd (apart l (ap (λ (z : DocState). z.cas) is) same)) it.same_or_above
    where
      apart : {a b c : ℕ} → a < b → b ≡ c → a ≡ c → ⊥
      apart low2 one two = omega arith

  pub same_at_cas : (i j : ℕ) (d : List ℕ) (x y : DocState) → doc_then i d ≡ Some x → doc_then j d ≡ Some y → x.cas ≡ y.cas → x ≡ y
  same_at_cas i j d x y at there same =
      ⊎_elim (λ (l : i < j). same_later i j d x y (omega arith) at there same) (λ (g : j ≤ i). sym (same_later j i d y x g there at (sym same))) (cases_lt i j)

  -- a document that has one CAS at two places was the same all the time between
  pub same_between : (i j k : ℕ) (d : List ℕ) (x z : DocState) → i ≤ j → j ≤ k → doc_then i d ≡ Some x → doc_then k d ≡ Some z → x.cas ≡ z.cas → doc_then j d ≡ Some x
  same_between i j k d x z low high at there same = go (doc_later i j d x low at)
    where
      not_above : (y w : DocState) → x.cas < y.cas → (y ≡ w) ⊎ (y.cas < w.cas) → w.cas ≡ z.cas → ⊥
      not_above y w up (inl is) cas = let e : y.cas ≡ w.cas = ap (λ (q : DocState). q.cas) is in omega arith
      not_above y w up (inr more) cas = omega arith

      go : Later d j x → doc_then j d ≡ Some x
      go it =
          ⊎_elim (λ (s : x ≡ it.doc). it.there ∙ ap (λ y. Some y) (sym s))
          (λ (l : x.cas < it.doc.cas).
          let on = doc_later j k d it.doc high it.there in
          absurd (not_above it.doc on.doc l on.same_or_above (ap (λ (q : DocState). q.cas) (some_same (sym on.there ∙ there)))))
          it.same_or_above

  -- the document after a staging that took effect
  pub record Staged (d : List ℕ) (i x : ℕ) (stage : Stage) : Type 0 where
    pub doc : DocState
    pub there : doc_then i d ≡ Some doc
    pub cas : doc.cas ≡ x
    pub staged : doc.stage ≡ Some stage

  pub after_stage : (i : ℕ) (d : List ℕ) (e : Event) (ex : Expect) (stage : Stage) → TakesEffect s0 h i e → e.step ≡ step.Stage d ex stage → Staged d (suc i) (stamp i e) stage
  after_stage i d e ex stage takes is = go (doc-at_effect s0 h i e d takes)
    where
      not_publish : (d2 : List ℕ) (y : ℕ) (body : Json) → e.step ≡ step.Publish d2 y body → ⊥
      not_publish d2 y body st = differ d ex stage d2 y body (sym is ∙ st)
        where
          differ : (d : List ℕ) (ex : Expect) (stage : Stage) (d2 : List ℕ) (y : ℕ) (body : Json) → step.Stage d ex stage ≡ step.Publish d2 y body → ⊥
          differ d ex stage d2 y body same = cc

      not_delete : (d2 : List ℕ) (y : ℕ) → e.step ≡ step.Delete d2 y → ⊥
      not_delete d2 y st = differ d ex stage d2 y (sym is ∙ st)
        where
          differ : (d : List ℕ) (ex : Expect) (stage : Stage) (d2 : List ℕ) (y : ℕ) → step.Stage d ex stage ≡ step.Delete d2 y → ⊥
          differ d ex stage d2 y same = cc

      not_unstick : (d2 : List ℕ) (y : ℕ) → e.step ≡ step.Unstick d2 y → ⊥
      not_unstick d2 y st = differ d ex stage d2 y (sym is ∙ st)
        where
          differ : (d : List ℕ) (ex : Expect) (stage : Stage) (d2 : List ℕ) (y : ℕ) → step.Stage d ex stage ≡ step.Unstick d2 y → ⊥
          differ d ex stage d2 y same = cc

      go : DocMove (after s0 h i) (clock_mutated (after s0 h i).last e.reading) e.step d (doc_at (after s0 h (suc i)) d) → Staged d (suc i) (stamp i e) stage
      go (moves.same apart kept) = absurd (apart (ap touches_doc is))
      go (moves.staged_new other st at now) = record { doc = _; there = now; cas = refl; staged = ap (λ w. Some w) (stage_names d d expect.New ex other stage (sym st ∙ is)) }
      go (moves.staged_over y other old st at cas now) = record { doc = _; there = now; cas = refl; staged = ap (λ w. Some w) (stage_names d d (expect.Cas y) ex other stage (sym st ∙ is)) }
      go (moves.published y body old st at cas now) = absurd (not_publish d y body st)
      go (moves.deleted y old st at cas now) = absurd (not_delete d y st)
      go (moves.unstuck y old st at cas now) = absurd (not_unstick d y st)

  -- how a staging came: an event made it and it stands since, or it stood at first
  pub data StagedBy (d : List ℕ) (i : ℕ) (x : DocState) (stage : Stage) : Type 0 where
    by_staging : (j : ℕ) (e : Event) (ex : Expect) → j < i → TakesEffect s0 h j e → e.step ≡ step.Stage d ex stage → x.cas ≡ stamp j e
        → ((n : ℕ) → j < n → n ≤ i → doc_then n d ≡ Some x) → StagedBy d i x stage
    from_first : ((n : ℕ) → n ≤ i → doc_then n d ≡ Some x) → StagedBy d i x stage

  stands_on : (d : List ℕ) (i : ℕ) (x : DocState) (stage : Stage) → doc_then (suc i) d ≡ Some x → StagedBy d i x stage → StagedBy d (suc i) x stage
  stands_on d i x stage now (by_staging j e ex low takes is cas since) =
      by_staging j e ex (omega arith) takes is cas
      (λ n from to. ⊎_elim (λ (l : n < suc i). since n from (omega arith)) (λ (s : n ≡ suc i). subst (λ k. doc_then k d ≡ Some x) (sym s) now) (below_next n (suc i) (omega arith)))
  stands_on d i x stage now (from_first since) =
      from_first (λ n to. ⊎_elim (λ (l : n < suc i). since n (omega arith)) (λ (s : n ≡ suc i). subst (λ k. doc_then k d ≡ Some x) (sym s) now) (below_next n (suc i) (omega arith)))

  just_staged : (d : List ℕ) (i : ℕ) (x : DocState) (stage : Stage) (e : Event) (ex : Expect) → TakesEffect s0 h i e → e.step ≡ step.Stage d ex stage → x.cas ≡ stamp i e
      → doc_then (suc i) d ≡ Some x → StagedBy d (suc i) x stage
  just_staged d i x stage e ex takes is cas now =
      by_staging i e ex (omega arith) takes is cas (λ n from to. subst (λ k. doc_then k d ≡ Some x) (at_next i n from to) now)
    where
      at_next : (i n : ℕ) → i < n → n ≤ suc i → suc i ≡ n
      at_next i n from to = omega arith

  staged_next : (d : List ℕ) (i : ℕ) (stage : Stage) → DocGoes d i → ((x : DocState) → doc_then i d ≡ Some x → x.stage ≡ Some stage → StagedBy d i x stage) → (x : DocState)
      → doc_then (suc i) d ≡ Some x → x.stage ≡ Some stage → StagedBy d (suc i) x stage
  staged_next d i stage (stays is) ih x at staged = stands_on d i x stage at (ih x (sym is ∙ at) staged)
  staged_next d i stage (is_staged_new e other y takes is none now cas put body) ih x at staged =
      let same : x ≡ y = some_same (sym at ∙ now) in
      let w : other ≡ stage = some_same (sym put ∙ ap (λ (z : DocState). z.stage) (sym same) ∙ staged) in
      just_staged d i x stage e expect.New takes (subst (λ q. e.step ≡ step.Stage d expect.New q) w is) (ap (λ (z : DocState). z.cas) same ∙ cas) at
  staged_next d i stage (is_staged e z other old y takes is there over now cas put body) ih x at staged =
      let same : x ≡ y = some_same (sym at ∙ now) in
      let w : other ≡ stage = some_same (sym put ∙ ap (λ (z : DocState). z.stage) (sym same) ∙ staged) in
      just_staged d i x stage e (expect.Cas z) takes (subst (λ q. e.step ≡ step.Stage d (expect.Cas z) q) w is) (ap (λ (z : DocState). z.cas) same ∙ cas) at
  staged_next d i stage (is_unstaged e z old y takes off there over now cas unstaged) ih x at staged =
      absurd (none-some stage (sym unstaged ∙ ap (λ (z : DocState). z.stage) (sym (some_same (sym at ∙ now))) ∙ staged))

  pub staged_by : (i : ℕ) (d : List ℕ) (x : DocState) (stage : Stage) → doc_then i d ≡ Some x → x.stage ≡ Some stage → StagedBy d i x stage
  staged_by zero d x stage at staged = from_first (λ n to. subst (λ k. doc_then k d ≡ Some x) (sym (none_below n to)) at)
  staged_by (suc i) d x stage at staged = staged_next d i stage (doc_goes i d) (λ y there put. staged_by i d y stage there put) x at staged
