-- What the answers of an attempt add up to, told by the calls of its operations.
use Rattle.std.proofs.Common.{◌≡◌, ◌≢◌, ℕ, suc, ◌<◌, ◌≤◌, true, false, cond, ◌⊎◌, inl, inr, ⊎_elim, List, [], ◌∷◌, Option, Some, None, Ok, Err, refl, sym, ap, ◌∙◌, subst, arith}
use Rattle.std.proofs.lemmas.Bool.{cases_lt}
use Rattle.std.proofs.lemmas.Option.{none-some}
use Rattle.std.specs.Ordering.{is_eq}
use Rattle.cbt_json.specs.declared.value.Json.{Json}
use Rattle.cbt_expr.specs.declared.plans.Op.{Op}
use Rattle.cbt_model.specs.History.{is_done}
use Rattle.cbt_model.specs.Keys.{doc_cmp}
use Rattle.cbt_model.specs.declared.documents.OpKind.{OpKind}
use Rattle.cbt_model.specs.declared.documents.Stage.{Stage}
use Rattle.cbt_model.specs.declared.events.Made.{Made}
use Rattle.cbt_model.specs.declared.steps.Expect.{Expect}
use Rattle.cbt_model.specs.declared.steps.Step.TheVariants as step
use Rattle.cbt_model.proofs.Orders.{doc_order, key_cases}
use Rattle.cbt_book.specs.OwnLists.{Each, In, during}
use Rattle.cbt_book.specs.Spans.{IsSpan}
use Rattle.cbt_book.specs.Spans as spans
use Rattle.cbt_book.specs.Outcomes.{DoneAt}
use Rattle.cbt_book.specs.Calls.{MayGet, MayWrite, WriteTerms}
use Rattle.cbt_book.specs.declared.operations.OpAnswer.{OpAnswer}
use Rattle.cbt_book.specs.declared.operations.OpAnswer.TheVariants as answer
use Rattle.cbt_book.specs.declared.operations.OpLog.{OpLog}
use Rattle.cbt_book.specs.declared.operations.Span.{Span}
use Rattle.cbt_book.specs.declared.operations.When.{When}
use Rattle.cbt_book.specs.declared.operations.When.TheVariants as when
use Rattle.cbt_core.specs.Walk.{AttemptTerms, Sofar, OwnWrite, LastRead, Request, Reads, Writes, Tests, request_of, noted, noted_as, walked, with_value, nothing_yet, kind_over, own_kind}
use Rattle.cbt_core.specs.OpAnswers.{StagesOver, TakesBack, Answered}
use Rattle.cbt_core.specs.OpCalls.{OpCalls, write_terms}
use Rattle.cbt_core.specs.Operations.{StandsAt, OpFollows, OpsFollow, ops_end}
use Rattle.cbt_core.specs.OpAnswers as operations
use Rattle.cbt_core.proofs.logs.Calls.{in_empty, in_during, during_in, after_gap, each_of, some_call}
use Rattle.cbt_core.proofs.runs.Past.{some_same}

-- a staging of document d that was done, and an unstick of it
pub record StagesDone (d : List ℕ) (m : Made) : Type 0 where
  pub expects : Expect
  pub stage : Stage
  pub is : m.step ≡ step.Stage d expects stage
  pub done : is_done m.answer.reply ≡ true

pub record UnsticksDone (d : List ℕ) (m : Made) : Type 0 where
  pub cas : ℕ
  pub is : m.step ≡ step.Unstick d cas
  pub done : is_done m.answer.reply ≡ true

abbrev pub WritesDone : List ℕ → Made → Type 0
WritesDone d m = StagesDone d m ⊎ UnsticksDone d m

-- the call of an own write, after which the document was written no more
pub record OwnWriteAt (t : AttemptTerms) (l : List Made) (from to : ℕ) (d : List ℕ) (w : OwnWrite) : Type 0 where
  pub call : Made
  pub there : In call l
  pub low : from ≤ call.answer.place
  pub high : call.answer.place < to
  pub place_is : call.answer.place ≡ w.place
  pub stages : StagesDone d call
  pub attempt : stages.stage.attempt ≡ t.id
  pub kind_is : stages.stage.kind ≡ w.kind
  pub content_is : stages.stage.content ≡ w.content
  pub last : (m : Made) → In m l → call.answer.place < m.answer.place → m.answer.place < to → WritesDone d m → ⊥

-- a staging that was taken back
pub record TakenBack (l : List Made) (to : ℕ) (d : List ℕ) (m : Made) : Type 0 where
  pub call : Made
  pub there : In call l
  pub after : m.answer.place < call.answer.place
  pub high : call.answer.place < to
  pub unsticks : UnsticksDone d call

-- a reading after which the document was written no more
pub record UnwrittenSince (l : List Made) (from to : ℕ) (d : List ℕ) (last : LastRead) : Type 0 where
  pub low : from ≤ last.span.from
  pub high : last.span.to ≤ to
  pub unwritten : (m : Made) → In m l → last.span.from ≤ m.answer.place → m.answer.place < to → WritesDone d m → ⊥

-- the own writes are the stagings of the calls between two places that were not taken back, and a document without one was not
-- written since it was read
pub record IsNoted (t : AttemptTerms) (l : List Made) (from to : ℕ) (so : Sofar) : Type 0 where
  pub staged : (d : List ℕ) (w : OwnWrite) → so.own d ≡ Some w → OwnWriteAt t l from to d w
  pub free : (d : List ℕ) (m : Made) → so.own d ≡ None → In m l → from ≤ m.answer.place → m.answer.place < to → StagesDone d m → TakenBack l to d m
  pub read : (d : List ℕ) (last : LastRead) → so.own d ≡ None → so.read d ≡ Some last → UnwrittenSince l from to d last

-- a span ends where it begins, or later
pub span_order : (l : List Made) (at : ℕ) (span : Span) → IsSpan l at span → span.from ≤ span.to
span_order l at span it = go it.ends
  where
    go : spans.HasEnds at span (during span l) → span.from ≤ span.to
    go (spans.without_calls from to) = omega arith
    go (spans.with_calls first last in_first in_last from to) = let within = during_in span first l in_first in let a = within.low in let b = within.high in omega arith

-- the place of the call for which a write was answered
abbrev told_at : OpAnswer → Option ℕ
told_at (answer.Staged place base) = Some place
told_at (answer.Unstaged place) = Some place
told_at _ = None

-- what stands at the place of a write that was done
stands_staged : (a : OpAnswer) (d : List ℕ) (m : Made) → (is_done m.answer.reply ≡ true → StandsAt m.answer.place a m.step) → (s : StagesDone d m) → (base : When) × (a ≡ answer.Staged m.answer.place base)
stands_staged a d m stands s = subst (λ st. StandsAt m.answer.place a st) s.is (stands s.done)

stands_unstuck : (a : OpAnswer) (d : List ℕ) (m : Made) → (is_done m.answer.reply ≡ true → StandsAt m.answer.place a m.step) → (u : UnsticksDone d m) → a ≡ answer.Unstaged m.answer.place
stands_unstuck a d m stands u = subst (λ st. StandsAt m.answer.place a st) u.is (stands u.done)

pub writes_told : (a : OpAnswer) (d : List ℕ) (m : Made) → (is_done m.answer.reply ≡ true → StandsAt m.answer.place a m.step) → WritesDone d m → told_at a ≡ Some m.answer.place
writes_told a d m stands (inl s) = ap told_at (stands_staged a d m stands s).1
writes_told a d m stands (inr u) = ap told_at (stands_unstuck a d m stands u)

-- a write names its own document
pub names_own : (t : WriteTerms) (q d : List ℕ) (m : Made) → MayWrite t q m.step → WritesDone d m → d ≡ q
names_own t q d m may (inl s) = (subst (λ st. MayWrite t q st) s.is may).0
names_own t q d m may (inr u) = subst (λ st. MayWrite t q st) u.is may

pub gets_nothing : (q d : List ℕ) (m : Made) → MayGet q m.step → WritesDone d m → ⊥
gets_nothing q d m may (inl s) = subst (λ st. MayGet q st) s.is may
gets_nothing q d m may (inr u) = subst (λ st. MayGet q st) u.is may

module _ (t : AttemptTerms) (l : List Made) (from at : ℕ) (so : Sofar) (calls : List Made) (to : ℕ)
    (covers : (m : Made) → In m l → at ≤ m.answer.place → m.answer.place < to → In m calls)
    (inside : (m : Made) → In m calls → In m l × (at ≤ m.answer.place) × (m.answer.place < to))
    (begins : from ≤ at) (ends : at ≤ to) where
  -- what was before, seen from later on
  kept_staged : (d : List ℕ) (w : OwnWrite) → OwnWriteAt t l from at d w → ((m : Made) → In m calls → WritesDone d m → ⊥) → OwnWriteAt t l from to d w
  kept_staged d w it none = record {
    call = it.call;
    there = it.there;
    low = it.low;
    high = (let a = it.high in omega arith);
    place_is = it.place_is;
    stages = it.stages;
    attempt = it.attempt;
    kind_is = it.kind_is;
    content_is = it.content_is;
    last = λ m there after below writes.
        ⊎_elim (λ (early : m.answer.place < at). it.last m there after early writes) (λ (late : at ≤ m.answer.place). none m (covers m there late below) writes) (cases_lt m.answer.place at);
  }

  kept_back : (d : List ℕ) (m : Made) → TakenBack l at d m → TakenBack l to d m
  kept_back d m it = record { call = it.call; there = it.there; after = it.after; high = (let a = it.high in omega arith); unsticks = it.unsticks }

  kept_free : (d : List ℕ) (m : Made) → IsNoted t l from at so → so.own d ≡ None → In m l → from ≤ m.answer.place → m.answer.place < to → StagesDone d m
      → ((m : Made) → In m calls → WritesDone d m → ⊥) → TakenBack l to d m
  kept_free d m before free there low below stages none =
      ⊎_elim (λ (early : m.answer.place < at). kept_back d m (before.free d m free there low early stages))
      (λ (late : at ≤ m.answer.place). absurd (none m (covers m there late below) (inl stages))) (cases_lt m.answer.place at)

  kept_read : (d : List ℕ) (last : LastRead) → UnwrittenSince l from at d last → ((m : Made) → In m calls → WritesDone d m → ⊥) → UnwrittenSince l from to d last
  kept_read d last it none = record {
    low = it.low;
    high = (let a = it.high in omega arith);
    unwritten = λ m there after below writes.
        ⊎_elim (λ (early : m.answer.place < at). it.unwritten m there after early writes) (λ (late : at ≤ m.answer.place). none m (covers m there late below) writes) (cases_lt m.answer.place at);
  }

  -- an operation that wrote nothing
  quiet : (next : Sofar) → IsNoted t l from at so → ((d : List ℕ) → next.own d ≡ so.own d) → ((d : List ℕ) (m : Made) → In m calls → WritesDone d m → ⊥)
      → ((d : List ℕ) (last : LastRead) → next.own d ≡ None → next.read d ≡ Some last → UnwrittenSince l from to d last) → IsNoted t l from to next
  quiet next before same none read = record {
    staged = λ d w is. kept_staged d w (before.staged d w (sym (same d) ∙ is)) (none d);
    free = λ d m free there low below stages. kept_free d m before (sym (same d) ∙ free) there low below stages (none d);
    read = read;
  }

  -- and told nothing
  silent : IsNoted t l from at so → ((d : List ℕ) (m : Made) → In m calls → WritesDone d m → ⊥) → IsNoted t l from to so
  silent before none = quiet so before (λ d. refl) none (λ d last free is. kept_read d last (before.read d last free is) (none d))

  -- an operation that staged document q, and nothing else
  stages_one : (next : Sofar) (q : List ℕ) (w : OwnWrite) (c : Made) → IsNoted t l from at so → ((d : List ℕ) → next.own d ≡ with_value q (Some w) so.own d)
      → ((d : List ℕ) → next.read d ≡ so.read d) → In c calls → (s : StagesDone q c)
      → c.answer.place ≡ w.place → s.stage.attempt ≡ t.id → s.stage.kind ≡ w.kind → s.stage.content ≡ w.content
      → ((d : List ℕ) (m : Made) → In m calls → WritesDone d m → (d ≡ q) × (m.answer.place ≡ c.answer.place)) → IsNoted t l from to next
  stages_one next q w c before same same_read in_calls s place attempt kind content only = record {
    staged = λ d v is. by_key d v is (key_cases doc_order d q);
    free = λ d m free there low below stages. by_free d m free there low below stages (key_cases doc_order d q);
    read = λ d last free is. by_read d last free is (key_cases doc_order d q);
  }
    where
      at_c : In c l × (at ≤ c.answer.place) × (c.answer.place < to)
      at_c = inside c in_calls

      mine : OwnWriteAt t l from to q w
      mine = record {
        call = c;
        there = at_c.0;
        low = (let a = at_c.1 in omega arith);
        high = at_c.2;
        place_is = place;
        stages = s;
        attempt = attempt;
        kind_is = kind;
        content_is = content;
        last = λ m there after below writes.
            let late : at ≤ m.answer.place = (let a = at_c.1 in omega arith) in
            let same_place = (only q m (covers m there late below) writes).1 in
            absurd (omega arith);
      }

      by_key : (d : List ℕ) (v : OwnWrite) → next.own d ≡ Some v → ((is_eq (doc_cmp d q) ≡ true) × (d ≡ q)) ⊎ ((is_eq (doc_cmp d q) ≡ false) × (d ≢ q)) → OwnWriteAt t l from to d v
      by_key d v is (inl key) =
          let v_is : v ≡ w = sym (some_same (sym (same d ∙ ap (λ x. cond x (Some w) (so.own d)) key.0) ∙ is)) in
          subst (λ y. OwnWriteAt t l from to d y) (sym v_is) (subst (λ y. OwnWriteAt t l from to y w) (sym key.1) mine)
      by_key d v is (inr key) =
          kept_staged d v (before.staged d v (sym (same d ∙ ap (λ x. cond x (Some w) (so.own d)) key.0) ∙ is)) (λ m there writes. key.1 (only d m there writes).0)

      by_free : (d : List ℕ) (m : Made) → next.own d ≡ None → In m l → from ≤ m.answer.place → m.answer.place < to → StagesDone d m
          → ((is_eq (doc_cmp d q) ≡ true) × (d ≡ q)) ⊎ ((is_eq (doc_cmp d q) ≡ false) × (d ≢ q)) → TakenBack l to d m
      by_free d m free there low below stages (inl key) = absurd (none-some w (sym free ∙ same d ∙ ap (λ x. cond x (Some w) (so.own d)) key.0))
      by_free d m free there low below stages (inr key) =
          kept_free d m before (sym (same d ∙ ap (λ x. cond x (Some w) (so.own d)) key.0) ∙ free) there low below stages (λ n n_there writes. key.1 (only d n n_there writes).0)

      by_read : (d : List ℕ) (last : LastRead) → next.own d ≡ None → next.read d ≡ Some last → ((is_eq (doc_cmp d q) ≡ true) × (d ≡ q)) ⊎ ((is_eq (doc_cmp d q) ≡ false) × (d ≢ q)) → UnwrittenSince l from to d last
      by_read d last free is (inl key) = absurd (none-some w (sym free ∙ same d ∙ ap (λ x. cond x (Some w) (so.own d)) key.0))
      by_read d last free is (inr key) =
          kept_read d last (before.read d last (sym (same d ∙ ap (λ x. cond x (Some w) (so.own d)) key.0) ∙ free) (sym (same_read d) ∙ is)) (λ m there writes. key.1 (only d m there writes).0)

  -- an operation that took its staging of document q back, and wrote nothing else
  unstages_one : (next : Sofar) (q : List ℕ) (c : Made) → IsNoted t l from at so → ((d : List ℕ) → next.own d ≡ with_value q None so.own d)
      → ((d : List ℕ) → next.read d ≡ with_value q None so.read d) → In c calls → UnsticksDone q c
      → ((d : List ℕ) (m : Made) → In m calls → WritesDone d m → (d ≡ q) × (StagesDone d m → ⊥)) → IsNoted t l from to next
  unstages_one next q c before same same_read in_calls u only = record {
    staged = λ d v is. by_key d v is (key_cases doc_order d q);
    free = λ d m free there low below stages. by_free d m free there low below stages (key_cases doc_order d q);
    read = λ d last free is. by_read d last free is (key_cases doc_order d q);
  }
    where
      at_c : In c l × (at ≤ c.answer.place) × (c.answer.place < to)
      at_c = inside c in_calls

      by_key : (d : List ℕ) (v : OwnWrite) → next.own d ≡ Some v → ((is_eq (doc_cmp d q) ≡ true) × (d ≡ q)) ⊎ ((is_eq (doc_cmp d q) ≡ false) × (d ≢ q)) → OwnWriteAt t l from to d v
      by_key d v is (inl key) = absurd (none-some v (sym (same d ∙ ap (λ x. cond x None (so.own d)) key.0) ∙ is))
      by_key d v is (inr key) =
          kept_staged d v (before.staged d v (sym (same d ∙ ap (λ x. cond x None (so.own d)) key.0) ∙ is)) (λ m there writes. key.1 (only d m there writes).0)

      by_free : (d : List ℕ) (m : Made) → next.own d ≡ None → In m l → from ≤ m.answer.place → m.answer.place < to → StagesDone d m
          → ((is_eq (doc_cmp d q) ≡ true) × (d ≡ q)) ⊎ ((is_eq (doc_cmp d q) ≡ false) × (d ≢ q)) → TakenBack l to d m
      by_free d m free there low below stages (inl key) =
          ⊎_elim (λ (early : m.answer.place < at). record { call = c; there = at_c.0; after = (let a = at_c.1 in omega arith); high = at_c.2; unsticks = subst (λ y. UnsticksDone y c) (sym key.1) u })
          (λ (late : at ≤ m.answer.place). absurd ((only d m (covers m there late below) (inl stages)).1 stages)) (cases_lt m.answer.place at)
      by_free d m free there low below stages (inr key) =
          kept_free d m before (sym (same d ∙ ap (λ x. cond x None (so.own d)) key.0) ∙ free) there low below stages (λ n n_there writes. key.1 (only d n n_there writes).0)

      by_read : (d : List ℕ) (last : LastRead) → next.own d ≡ None → next.read d ≡ Some last → ((is_eq (doc_cmp d q) ≡ true) × (d ≡ q)) ⊎ ((is_eq (doc_cmp d q) ≡ false) × (d ≢ q)) → UnwrittenSince l from to d last
      by_read d last free is (inl key) = absurd (none-some last (sym (same_read d ∙ ap (λ x. cond x None (so.read d)) key.0) ∙ is))
      by_read d last free is (inr key) =
          kept_read d last
          (before.read d last (sym (same d ∙ ap (λ x. cond x None (so.own d)) key.0) ∙ free) (sym (same_read d ∙ ap (λ x. cond x None (so.read d)) key.0) ∙ is))
          (λ m there writes. key.1 (only d m there writes).0)

  same_told : (p q : ℕ) → Some p ≡ Some q → q ≡ p
  same_told p q same = sym (some_same same)

  stages_by : (kind : OpKind) (content : Option Json) (d : List ℕ) (c : Made) (base : When) → is_done c.answer.reply ≡ true → StagesOver t l so d kind content calls base c.step
      → (s : StagesDone d c) × (s.stage.attempt ≡ t.id) × (s.stage.kind ≡ kind_over kind (own_kind (so.own d))) × (s.stage.content ≡ content)
  stages_by kind content d c base done (operations.over_reading it stage free on base_is carries is) =
      (record { expects = _; stage = stage; is = is; done = done }, carries.attempt, carries.kind_is, carries.content_is)
  stages_by kind content d c base done (operations.over_own w x stage own restaged cas base_is carries is) =
      (record { expects = _; stage = stage; is = is; done = done }, carries.attempt, carries.kind_is, carries.content_is)

  module _ (before : IsNoted t l from at so) where
    no_told : (a : OpAnswer) (d : List ℕ) (m : Made) → Each (λ x _. is_done x.answer.reply ≡ true → StandsAt x.answer.place a x.step) calls → In m calls → WritesDone d m → told_at a ≡ None → ⊥
    no_told a d m stands there writes none =
        none-some m.answer.place (sym none ∙ writes_told a d m (each_of (λ x. is_done x.answer.reply ≡ true → StandsAt x.answer.place a x.step) calls m stands there) writes)

    by_write : (q : List ℕ) (kind : OpKind) (content : Option Json) (span : Span) (a : OpAnswer) → Answered t l so (Writes q kind (Ok content)) calls a → OpCalls t so (Writes q kind (Ok content)) calls
        → Each (λ m _. is_done m.answer.reply ≡ true → StandsAt m.answer.place a m.step) calls → IsNoted t l from to (noted_as (Writes q kind (Ok content)) span a so)
    by_write q kind content span (answer.Staged place base) told may stands =
        let c = some_call (λ m. DoneAt place m × StagesOver t l so q kind content calls base m.step) calls told in
        let s = stages_by kind content q c.0 base c.2.0.1 c.2.1 in
        stages_one (noted_as (Writes q kind (Ok content)) span (answer.Staged place base) so) q (record { kind = kind_over kind (own_kind (so.own q)); content = content; place = place }) c.0 before (λ d. refl) (λ d. refl) c.1 s.0 c.2.0.0 s.1 s.2 s.3
        (λ d m there writes. (
          names_own (write_terms t) q d m (each_of (λ x. MayWrite (write_terms t) q x.step) calls m may.0.only there) writes,
          same_told place m.answer.place (writes_told (answer.Staged place base) d m (each_of (λ x. is_done x.answer.reply ≡ true → StandsAt x.answer.place (answer.Staged place base) x.step) calls m stands there) writes) ∙ sym c.2.0.0,
        ))
    by_write q kind content span (answer.Unstaged place) told may stands =
        let c = some_call (λ m. DoneAt place m × TakesBack l so q kind m.step) calls told in
        unstages_one (noted_as (Writes q kind (Ok content)) span (answer.Unstaged place) so) q c.0 before (λ d. refl) (λ d. refl) c.1 (record { cas = c.2.1.cas; is = c.2.1.unsticks; done = c.2.0.1 })
        (λ d m there writes. (
          names_own (write_terms t) q d m (each_of (λ x. MayWrite (write_terms t) q x.step) calls m may.0.only there) writes,
          λ s. not_staged place m.answer.place (stands_staged (answer.Unstaged place) d m (each_of (λ x. is_done x.answer.reply ≡ true → StandsAt x.answer.place (answer.Unstaged place) x.step) calls m stands there) s),
        ))
      where
        not_staged : (place other : ℕ) → ((base : When) × (answer.Unstaged place ≡ answer.Staged other base)) → ⊥
        not_staged place other it = differ place other it.0 it.1
          where
            differ : (place other : ℕ) (base : When) → answer.Unstaged place ≡ answer.Staged other base → ⊥
            differ place other base same = cc
    by_write q kind content span (answer.DocExists w) told may stands = silent before (λ d m there writes. no_told (answer.DocExists w) d m stands there writes refl)
    by_write q kind content span (answer.DocNotFound w) told may stands = silent before (λ d m there writes. no_told (answer.DocNotFound w) d m stands there writes refl)
    by_write q kind content span (answer.Blocked by) told may stands = silent before (λ d m there writes. no_told (answer.Blocked by) d m stands there writes refl)
    by_write q kind content span answer.Moved told may stands = silent before (λ d m there writes. no_told answer.Moved d m stands there writes refl)
    by_write q kind content span answer.Contended told may stands = silent before (λ d m there writes. no_told answer.Contended d m stands there writes refl)
    by_write q kind content span (answer.CallFailed place) told may stands = silent before (λ d m there writes. no_told (answer.CallFailed place) d m stands there writes refl)
    by_write q kind content span (answer.Value value w) told may stands = absurd told
    by_write q kind content span answer.Holds told may stands = absurd told
    by_write q kind content span answer.NeedFalse told may stands = absurd told
    by_write q kind content span (answer.BadValue part) told may stands = absurd told

    own_stays : (d : List ℕ) (name : List ℕ) (span : Span) (a : OpAnswer) (q : List ℕ) → (noted_as (Reads d name) span a so).own q ≡ so.own q
    own_stays d name span (answer.Value value when.Own) q = refl
    own_stays d name span (answer.Value value (when.At moment)) q = refl
    own_stays d name span (answer.Staged place base) q = refl
    own_stays d name span (answer.Unstaged place) q = refl
    own_stays d name span (answer.DocExists w) q = refl
    own_stays d name span (answer.DocNotFound w) q = refl
    own_stays d name span (answer.Blocked by) q = refl
    own_stays d name span answer.Moved q = refl
    own_stays d name span answer.Contended q = refl
    own_stays d name span (answer.CallFailed place) q = refl
    own_stays d name span answer.Holds q = refl
    own_stays d name span answer.NeedFalse q = refl
    own_stays d name span (answer.BadValue part) q = refl

    no_calls : (q : List ℕ) (kind : OpKind) (part : ℕ) (a : OpAnswer) → Answered t l so (Writes q kind (Err part)) calls a → calls ≡ []
    no_calls q kind part (answer.BadValue named) told = told.1
    no_calls q kind part (answer.Value value w) told = absurd told
    no_calls q kind part (answer.Staged place base) told = absurd told
    no_calls q kind part (answer.Unstaged place) told = absurd told
    no_calls q kind part (answer.DocExists w) told = absurd told
    no_calls q kind part (answer.DocNotFound w) told = absurd told
    no_calls q kind part (answer.Blocked by) told = absurd told
    no_calls q kind part answer.Moved told = absurd told
    no_calls q kind part answer.Contended told = absurd told
    no_calls q kind part (answer.CallFailed place) told = absurd told
    no_calls q kind part answer.Holds told = absurd told
    no_calls q kind part answer.NeedFalse told = absurd told

    gets_none : (d name : List ℕ) (q : List ℕ) (m : Made) → OpCalls t so (Reads d name) calls → In m calls → WritesDone q m → ⊥
    gets_none d name q m may there writes = gets_nothing d q m (each_of (λ x. MayGet d x.step) calls m may.only there) writes

    -- a value that was read is one of a document that the get does not write
    read_now : (d name : List ℕ) (span : Span) (a : OpAnswer) → at ≤ span.from → span.to ≤ to → OpCalls t so (Reads d name) calls → (q : List ℕ) (last : LastRead)
        → (noted_as (Reads d name) span a so).own q ≡ None → (noted_as (Reads d name) span a so).read q ≡ Some last → UnwrittenSince l from to q last
    read_now d name span (answer.Value value (when.At moment)) low high may q last free is = by_key (key_cases doc_order q d)
      where
        now : LastRead
        now = record { span = span; value = value; moment = moment }

        since : UnwrittenSince l from to q now
        since = record { low = omega arith; high = high; unwritten = λ m there after below writes. gets_none d name q m may (covers m there (omega arith) below) writes }

        by_key : ((is_eq (doc_cmp q d) ≡ true) × (q ≡ d)) ⊎ ((is_eq (doc_cmp q d) ≡ false) × (q ≢ d)) → UnwrittenSince l from to q last
        by_key (inl key) = subst (λ x. UnwrittenSince l from to q x) (some_same (sym (ap (λ x. cond x (Some now) (so.read q)) key.0) ∙ is)) since
        by_key (inr key) =
            kept_read q last (before.read q last free (sym (ap (λ x. cond x (Some now) (so.read q)) key.0) ∙ is)) (λ m there writes. gets_none d name q m may there writes)
    read_now d name span (answer.Value value when.Own) low high may q last free is = kept_read q last (before.read q last free is) (λ m there writes. gets_none d name q m may there writes)
    read_now d name span (answer.Staged place base) low high may q last free is = kept_read q last (before.read q last free is) (λ m there writes. gets_none d name q m may there writes)
    read_now d name span (answer.Unstaged place) low high may q last free is = kept_read q last (before.read q last free is) (λ m there writes. gets_none d name q m may there writes)
    read_now d name span (answer.DocExists w) low high may q last free is = kept_read q last (before.read q last free is) (λ m there writes. gets_none d name q m may there writes)
    read_now d name span (answer.DocNotFound w) low high may q last free is = kept_read q last (before.read q last free is) (λ m there writes. gets_none d name q m may there writes)
    read_now d name span (answer.Blocked by) low high may q last free is = kept_read q last (before.read q last free is) (λ m there writes. gets_none d name q m may there writes)
    read_now d name span answer.Moved low high may q last free is = kept_read q last (before.read q last free is) (λ m there writes. gets_none d name q m may there writes)
    read_now d name span answer.Contended low high may q last free is = kept_read q last (before.read q last free is) (λ m there writes. gets_none d name q m may there writes)
    read_now d name span (answer.CallFailed place) low high may q last free is = kept_read q last (before.read q last free is) (λ m there writes. gets_none d name q m may there writes)
    read_now d name span answer.Holds low high may q last free is = kept_read q last (before.read q last free is) (λ m there writes. gets_none d name q m may there writes)
    read_now d name span answer.NeedFalse low high may q last free is = kept_read q last (before.read q last free is) (λ m there writes. gets_none d name q m may there writes)
    read_now d name span (answer.BadValue part) low high may q last free is = kept_read q last (before.read q last free is) (λ m there writes. gets_none d name q m may there writes)

    by_request : (r : Request) (span : Span) (a : OpAnswer) → at ≤ span.from → span.to ≤ to → Answered t l so r calls a → OpCalls t so r calls → Each (λ m _. is_done m.answer.reply ≡ true → StandsAt m.answer.place a m.step) calls
        → IsNoted t l from to (noted_as r span a so)
    by_request (Reads d name) span a low high told may stands =
        quiet (noted_as (Reads d name) span a so) before (λ q. own_stays d name span a q) (λ q m there writes. gets_none d name q m may there writes)
        (λ q last free is. read_now d name span a low high may q last free is)
    by_request (Writes q kind (Ok content)) span a low high told may stands = by_write q kind content span a told may stands
    by_request (Writes q kind (Err part)) span a low high told may stands = silent before (λ d m there writes. absurd (subst (λ c. In m c) (no_calls q kind part a told) there))
    by_request (Tests truth) span a low high told may stands = silent before (λ d m there writes. in_empty m calls may there)

-- an operation's answer adds to what was noted what its calls have done
noted_next : (t : AttemptTerms) (l : List Made) (from at n : ℕ) (so : Sofar) (o : Op) (log : OpLog) → OpFollows t l at n so o log → from ≤ at → IsNoted t l from at so → IsNoted t l from log.span.to (noted o log so)
noted_next t l from at n so o log follows begins before =
    by_request t l from at so (during log.span l) log.span.to
    (λ m there low high. in_during log.span m l there (after_gap l at log.span m follows.spanned there low) high)
    (λ m there. let it = during_in log.span m l there in (it.there, (let a = follows.spanned.follows in let b = it.low in omega arith), it.high))
    begins (let a = follows.spanned.follows in let b = span_order l at log.span follows.spanned in omega arith)
    before (request_of so.bound o) log.span log.answer follows.spanned.follows (omega arith) follows.answered follows.calls follows.stands

-- operations end where they begin, or later
pub ops_low : (t : AttemptTerms) (l : List Made) (at n : ℕ) (so : Sofar) (ops : List Op) (logs : List OpLog) → OpsFollow t l at n so ops logs → at ≤ ops_end at logs
ops_low t l at n so ops [] follow = omega arith
ops_low t l at n so [] (log ∷ logs) follow = absurd follow
ops_low t l at n so (o ∷ ops) (log ∷ logs) follow =
    let rest = ops_low t l log.span.to (suc n) (noted o log so) ops logs follow.2 in
    let a = follow.0.spanned.follows in let b = span_order l at log.span follow.0.spanned in omega arith

-- so for all operations of an attempt
pub noted_all : (t : AttemptTerms) (l : List Made) (from at n : ℕ) (so : Sofar) (ops : List Op) (logs : List OpLog) → OpsFollow t l at n so ops logs → from ≤ at → IsNoted t l from at so
    → IsNoted t l from (ops_end at logs) (walked ops logs so)
noted_all t l from at n so [] [] follow begins before = before
noted_all t l from at n so (o ∷ ops) [] follow begins before = before
noted_all t l from at n so [] (log ∷ logs) follow begins before = absurd follow
noted_all t l from at n so (o ∷ ops) (log ∷ logs) follow begins before =
    noted_all t l from log.span.to (suc n) (noted o log so) ops logs follow.2 (let a = follow.0.spanned.follows in let b = span_order l at log.span follow.0.spanned in omega arith)
    (noted_next t l from at n so o log follow.0 begins before)

-- nothing is noted before the first operation
pub noted_none : (t : AttemptTerms) (l : List Made) (at : ℕ) → IsNoted t l at at nothing_yet
noted_none t l at = record {
  staged = λ d w is. absurd (none-some w is);
  free = λ d m none there low high stages. absurd (omega arith);
  read = λ d last none is. absurd (none-some last is);
}
