-- No update is lost: between the moment at which a committed attempt read a document that it wrote and its commit, nobody else
-- commits a write of it.
use Rattle.std.proofs.Common.{◌≡◌, ◌≢◌, ℕ, zero, suc, ◌-◌, ◌<◌, ◌≤◌, true, ⊎_elim, List, length, take, slice_get, Option, Some, None, Result, Ok, Err, refl, sym, ap, ◌∙◌, subst, arith}
use Rattle.std.proofs.lemmas.Bool.{cases_lt}
use Rattle.std.proofs.lemmas.Option.{none-some}
use Rattle.cbt_base.specs.Clock.{clock_mutated}
use Rattle.cbt_base.specs.Ids.{attempt_number}
use Rattle.cbt_json.specs.declared.value.Json.{Json}
use Rattle.cbt_expr.specs.Values.{value_of}
use Rattle.cbt_expr.specs.declared.plans.Op.{Op}
use Rattle.cbt_expr.specs.declared.plans.Op.TheVariants as op
use Rattle.cbt_expr.specs.declared.plans.TxnPlan.{TxnPlan}
use Rattle.cbt_model.specs.History.{after, own, made_at, is_done, TakesEffect, CommitsAt}
use Rattle.cbt_model.specs.Keys.{doc_at}
use Rattle.cbt_model.specs.Table.{touches_doc}
use Rattle.cbt_model.specs.declared.documents.DocState.{DocState}
use Rattle.cbt_model.specs.declared.documents.OpKind.{OpKind}
use Rattle.cbt_model.specs.declared.documents.OpKind.TheVariants.{Insert, Replace, Remove}
use Rattle.cbt_model.specs.declared.documents.Stage.{Stage}
use Rattle.cbt_model.specs.declared.entries.Entry.{Entry}
use Rattle.cbt_model.specs.declared.entries.EntryState.{EntryState}
use Rattle.cbt_model.specs.declared.entries.EntryState.TheVariants.{Pending, Committed, Aborted}
use Rattle.cbt_model.specs.declared.entries.Lists.{Lists}
use Rattle.cbt_model.specs.declared.events.Event.{Event}
use Rattle.cbt_model.specs.declared.events.Made.{Made}
use Rattle.cbt_model.specs.declared.states.State.{State}
use Rattle.cbt_model.specs.declared.steps.Expect.{Expect}
use Rattle.cbt_model.specs.declared.steps.Expect.TheVariants as expect
use Rattle.cbt_model.specs.declared.steps.Step.{Step}
use Rattle.cbt_model.specs.declared.steps.Step.TheVariants as step
use Rattle.cbt_model.proofs.Effects.{doc-at_effect}
use Rattle.cbt_model.proofs.Moves.{DocMove}
use Rattle.cbt_model.proofs.Moves as moves
use Rattle.cbt_book.specs.Numbers.{client_of, txn_of}
use Rattle.cbt_book.specs.OwnLists.{In, is_within, during, Descends}
use Rattle.cbt_book.specs.ReadAt.{Reading, IsReadAt}
use Rattle.cbt_book.specs.Outcomes.{DoneAt, expected}
use Rattle.cbt_book.specs.Calls.{MayGet, MayWrite}
use Rattle.cbt_book.specs.declared.book.Book.{Book}
use Rattle.cbt_book.specs.declared.clients.AttemptLog.{AttemptLog}
use Rattle.cbt_book.specs.declared.operations.OpAnswer.TheVariants as answer
use Rattle.cbt_book.specs.declared.operations.OpLog.{OpLog}
use Rattle.cbt_book.specs.declared.operations.Span.{Span}
use Rattle.cbt_book.specs.declared.operations.When.{When}
use Rattle.cbt_book.specs.declared.operations.When.TheVariants as when
use Rattle.cbt_core.specs.Laws.{WroteOver, NoUpdateLost}
use Rattle.cbt_core.specs.OpAnswers.{StandsOn, StagesOver, Answered, GetAnswered, WriteAnswered}
use Rattle.cbt_core.specs.OpAnswers as operations
use Rattle.cbt_core.specs.OpCalls.{OpCalls, write_terms}
use Rattle.cbt_core.specs.Operations.{StandsAt, ops_end}
use Rattle.cbt_core.specs.Right.{IsAnswer, doc_of}
use Rattle.cbt_core.specs.Runs.{IsLegalRun, LogsFollow, own_of}
use Rattle.cbt_core.specs.Walk.{AttemptTerms, Sofar, Writes, request_of, content_of, walked, nothing_yet}
use Rattle.cbt_core.specs.WriteSets.{numbered, plan_at, plan_of, write_set}
use Rattle.cbt_core.specs.declared.case.Case.{Case}
use Rattle.cbt_core.proofs.interleaving.Answers.{done_told}
use Rattle.cbt_core.proofs.logs.Calls.{during_in, Within, each_of, some_call, filter_in, in_empty, filter_descends}
use Rattle.cbt_core.proofs.logs.Commits.{Wrote, wrote, wrote_not, wrote_as, it as attempt_it, here as commit_inside, no_late_write, owned_call, inside_of, Inside, staging, done_in_ops}
use Rattle.cbt_core.proofs.interleaving.Decisions.{at_decision, is_commit, commits_is, closed_at, closed-decided, commit}
use Rattle.cbt_core.proofs.interleaving.Documents.{doc_then, after_stage, DocGoes, stays, is_staged_new, is_staged, is_unstaged, doc_goes, doc_later, same_at_cas, same_between}
use Rattle.cbt_core.proofs.interleaving.Entries.{entry_then, was_pending, one_record, none_below}
use Rattle.cbt_core.proofs.interleaving.Gone.{gone_unstaged}
use Rattle.cbt_core.proofs.logs.Find.{Decodes}
use Rattle.cbt_core.proofs.interleaving.Held.{not_pending_later}
use Rattle.cbt_core.proofs.logs.Index.{OpIndex, op_index, ends_before, op_at, OpAt, from_one, minus_one}
use Rattle.cbt_core.proofs.runs.Lawful.{Lawful}
use Rattle.cbt_core.proofs.interleaving.Listed.{done_is}
use Rattle.cbt_core.proofs.k6_once.Once.{same_log, id_is, numbers}
use Rattle.cbt_core.proofs.logs.Owners.{AttemptOf}
use Rattle.cbt_core.proofs.runs.Past.{some_same, below_next, one_event, Order, first, equal, after as later_one, order, in_at, Member, own_descends}
use Rattle.cbt_core.proofs.k3_answers.Readings.{HasCasAt, missing, standing, Resolves, read_right}
use Rattle.cbt_core.proofs.interleaving.Worth.{WasDecided, StandsOver, unstaged, own_staging, dead_staging, stands_over, Removes, resolved, taken_back, undone, removes, stager}

-- a staging over a reading, as an operation was answered for it
pub record StagedOver (t : AttemptTerms) (l : List Made) (d : List ℕ) (calls : List Made) (place moment : ℕ) : Type 0 where
  pub call : Made
  pub there : In call calls
  pub at : call.answer.place ≡ place
  pub done : is_done call.answer.reply ≡ true
  pub it : Reading
  pub moment_is : it.moment ≡ moment
  pub stage : Stage
  pub attempt : stage.attempt ≡ t.id
  pub is : call.step ≡ step.Stage d (expected it.cas) stage
  pub span : Span
  pub read : IsReadAt d it (during span l)

same_moment : (m n : ℕ) → when.At m ≡ when.At n → m ≡ n
same_moment m n same = cc

own_no_moment : (n : ℕ) → when.At n ≡ when.Own → ⊥
own_no_moment n same = cc

module _ (t : AttemptTerms) (l : List Made) (so : Sofar) (span : Span) (place moment : ℕ) where
  abbrev calls : List Made
  calls = during span l

  by_staging_over : (d : List ℕ) (kind : OpKind) (content : Option Json) → WriteAnswered t l so d kind content calls (answer.Staged place (when.At moment)) → StagedOver t l d calls place moment
  by_staging_over d kind content told = go (some_call (λ m. DoneAt place m × StagesOver t l so d kind content calls (when.At moment) m.step) calls told)
    where
      go : (m : Made) × In m calls × (DoneAt place m × StagesOver t l so d kind content calls (when.At moment) m.step) → StagedOver t l d calls place moment
      go m = by_way m.2.1
        where
          by_reading : (it : Reading) → StandsOn l so d kind it calls → (s : Span) × IsReadAt d it (during s l)
          by_reading it (operations.on_earlier last is agrees read value at) = (last.span, read)
          by_reading it (operations.on_own apart read agrees) = (span, read)

          by_way : StagesOver t l so d kind content calls (when.At moment) m.0.step → StagedOver t l d calls place moment
          by_way (operations.over_reading it stage free stands base carries is) =
              let read = by_reading it stands in
              record {
                call = m.0;
                there = m.1;
                at = m.2.0.0;
                done = m.2.0.1;
                it = it;
                moment_is = sym (same_moment moment it.moment base);
                stage = stage;
                attempt = carries.attempt;
                is = is;
                span = read.0;
                read = read.1;
              }
          by_way (operations.over_own w x stage own restaged cas base carries is) = absurd (own_no_moment moment base)

  by_value : (d : List ℕ) (kind : OpKind) (v : Result Json ℕ) → Answered t l so (Writes d kind (content_of v)) calls (answer.Staged place (when.At moment)) → StagedOver t l d calls place moment
  by_value d kind (Ok value) told = by_staging_over d kind (Some value) told
  by_value d kind (Err part) told = absurd told

  pub staged_over : (o : Op) → Answered t l so (request_of so.bound o) calls (answer.Staged place (when.At moment)) → StagedOver t l (doc_of o) calls place moment
  staged_over (op.Get d name) told = absurd told
  staged_over (op.Insert d value) told = by_value d Insert (value_of so.bound value) told
  staged_over (op.Replace d value) told = by_value d Replace (value_of so.bound value) told
  staged_over (op.Remove d) told = by_staging_over d Remove None told
  staged_over (op.Need cond) told = absurd told

unsticks_written : (t : AttemptTerms) (so : Sofar) (q : List ℕ) (kind : OpKind) (content : Result (Option Json) ℕ) (calls : List Made) (m : Made) (d : List ℕ) (x : ℕ) → OpCalls t so (Writes q kind content) calls
    → In m calls → m.step ≡ step.Unstick d x → q ≡ d
unsticks_written t so q kind (Ok content) calls m d x may there is = sym (subst (λ st. MayWrite (write_terms t) q st) is (each_of (λ y. MayWrite (write_terms t) q y.step) calls m may.0.only there))
unsticks_written t so q kind (Err part) calls m d x may there is = absurd (in_empty m calls may there)

-- an operation unsticks its own document alone
unsticks_own_doc : (t : AttemptTerms) (so : Sofar) (o : Op) (calls : List Made) (m : Made) (d : List ℕ) (x : ℕ) → OpCalls t so (request_of so.bound o) calls → In m calls → m.step ≡ step.Unstick d x → doc_of o ≡ d
unsticks_own_doc t so (op.Get q name) calls m d x may there is = absurd (subst (λ st. MayGet q st) is (each_of (λ y. MayGet q y.step) calls m may.only there))
unsticks_own_doc t so (op.Insert q value) calls m d x may there is = unsticks_written t so q Insert (content_of (value_of so.bound value)) calls m d x may there is
unsticks_own_doc t so (op.Replace q value) calls m d x may there is = unsticks_written t so q Replace (content_of (value_of so.bound value)) calls m d x may there is
unsticks_own_doc t so (op.Remove q) calls m d x may there is = unsticks_written t so q Remove (Ok None) calls m d x may there is
unsticks_own_doc t so (op.Need cond) calls m d x may there is = absurd (in_empty m calls may there)

module _ (s0 : State) (h : List Event) (lawful : Lawful s0 h) where
  -- what a staging that took effect found
  pub data FoundThere (j : ℕ) (d : List ℕ) (o : Option ℕ) : Type 0 where
    nothing : o ≡ None → doc_then s0 h lawful j d ≡ None → FoundThere j d o
    a_document : (x : ℕ) (old : DocState) → o ≡ Some x → doc_then s0 h lawful j d ≡ Some old → old.cas ≡ x → FoundThere j d o

  pub found_there : (j : ℕ) (d : List ℕ) (o : Option ℕ) (e : Event) (stage : Stage) → TakesEffect s0 h j e → e.step ≡ step.Stage d (expected o) stage → FoundThere j d o
  found_there j d o e stage takes is = go o is (doc-at_effect s0 h j e d takes)
    where
      other : (st : Step) (p : Option ℕ) → e.step ≡ st → e.step ≡ step.Stage d (expected p) stage → st ≡ step.Stage d (expected p) stage
      other st p one two = sym one ∙ two

      new_cas : (d : List ℕ) (y : ℕ) (s w : Stage) → step.Stage d (expect.Cas y) s ≡ step.Stage d expect.New w → ⊥
      new_cas d y s w same = cc

      cas_new : (d : List ℕ) (y : ℕ) (s w : Stage) → step.Stage d expect.New s ≡ step.Stage d (expect.Cas y) w → ⊥
      cas_new d y s w same = cc

      cas_same : (d : List ℕ) (y z : ℕ) (s w : Stage) → step.Stage d (expect.Cas y) s ≡ step.Stage d (expect.Cas z) w → y ≡ z
      cas_same d y z s w same = cc

      not_publish : (d q : List ℕ) (y : ℕ) (body : Json) (ex : Expect) (w : Stage) → step.Publish q y body ≡ step.Stage d ex w → ⊥
      not_publish d q y body ex w same = cc

      not_delete : (d q : List ℕ) (y : ℕ) (ex : Expect) (w : Stage) → step.Delete q y ≡ step.Stage d ex w → ⊥
      not_delete d q y ex w same = cc

      not_unstick : (d q : List ℕ) (y : ℕ) (ex : Expect) (w : Stage) → step.Unstick q y ≡ step.Stage d ex w → ⊥
      not_unstick d q y ex w same = cc

      go : (p : Option ℕ) → e.step ≡ step.Stage d (expected p) stage → DocMove (after s0 h j) (clock_mutated (after s0 h j).last e.reading) e.step d (doc_at (after s0 h (suc j)) d) → FoundThere j d p
      go p st (moves.same apart same) = absurd (apart (ap touches_doc st))
      go None st (moves.staged_new w it at now) = nothing refl at
      go (Some x) st (moves.staged_new w it at now) = absurd (cas_new d x w stage (sym it ∙ st))
      go None st (moves.staged_over y w old it at cas now) = absurd (new_cas d y w stage (sym it ∙ st))
      go (Some x) st (moves.staged_over y w old it at cas now) = a_document x old refl at (cas ∙ cas_same d y x w stage (sym it ∙ st))
      go p st (moves.published y body old it at cas now) = absurd (not_publish d d y body (expected p) stage (sym it ∙ st))
      go p st (moves.deleted y old it at cas now) = absurd (not_delete d d y (expected p) stage (sym it ∙ st))
      go p st (moves.unstuck y old it at cas now) = absurd (not_unstick d d y (expected p) stage (sym it ∙ st))

  module _ (q r a : ℕ) (last : Entry) (last_is : entry_then s0 h lawful q (r, a) ≡ Some last) (pending : last.state ≡ Pending) where
    -- a document is staged by the attempt, whose entry was added before
    pub record Holds (d : List ℕ) (i : ℕ) : Type 0 where
      pub doc : DocState
      pub stage : Stage
      pub there : doc_then s0 h lawful i d ≡ Some doc
      pub staged : doc.stage ≡ Some stage
      pub attempt : stage.attempt ≡ a
      pub sent : ℕ
      pub entry : Entry
      pub before : sent ≤ i
      pub now : entry_then s0 h lawful sent (stage.atr, stage.attempt) ≡ Some entry

    -- until the decision that entry is pending
    pending_then : (d : List ℕ) (i : ℕ) (it : Holds d i) → i ≤ q → (e : Entry) × (entry_then s0 h lawful i (it.stage.atr, it.stage.attempt) ≡ Some e) × (e.state ≡ Pending)
    pending_then d i it low =
        let its : entry_then s0 h lawful q (r, it.stage.attempt) ≡ Some last = subst (λ b. entry_then s0 h lawful q (r, b) ≡ Some last) (sym it.attempt) last_is in
        let same : r ≡ it.stage.atr = one_record s0 h lawful q it.sent r it.stage.atr it.stage.attempt last it.entry its it.now in
        was_pending s0 h lawful it.sent i q (it.stage.atr, it.stage.attempt) it.entry last it.before low it.now
        (subst (λ k. entry_then s0 h lawful q (k, it.stage.attempt) ≡ Some last) same its) pending

    -- once staged it stays staged by the attempt, if that does not unstick it
    stays_next : (d : List ℕ) (i : ℕ) (it : Holds d i) → i ≤ q → ((e : Event) (x : ℕ) → TakesEffect s0 h i e → e.actor ≡ client_of a → e.step ≡ step.Unstick d x → ⊥)
        → DocGoes s0 h lawful d i → Holds d (suc i)
    stays_next d i it low none (stays same) =
        record { doc = it.doc; stage = it.stage; there = same ∙ it.there; staged = it.staged; attempt = it.attempt; sent = it.sent; entry = it.entry; before = (let b = it.before in omega arith); now = it.now }
    stays_next d i it low none (is_staged_new e w x takes is gone now cas put body) = absurd (none-some it.doc (sym gone ∙ it.there))
    stays_next d i it low none (is_staged e y w old x takes is at over now cas put body) = go (stands_over s0 h lawful i d e y w old takes.event is at over)
      where
        same : old.stage ≡ Some it.stage
        same = ap (λ (z : DocState). z.stage) (some_same (sym at ∙ it.there)) ∙ it.staged

        go : StandsOver s0 h lawful i old w → Holds d (suc i)
        go (unstaged free) = absurd (none-some it.stage (sym free ∙ same))
        go (own_staging v v_is own_one) =
            let sent = stager s0 h lawful i d e (expect.Cas y) w takes.event is in
            record {
              doc = x;
              stage = w;
              there = now;
              staged = put;
              attempt = sym own_one ∙ ap (λ (z : Stage). z.attempt) (some_same (sym v_is ∙ same)) ∙ it.attempt;
              sent = suc sent.place;
              entry = sent.entry;
              before = (let b = sent.before in omega arith);
              now = sent.now;
            }
        go (dead_staging v v_is gone) =
            let entry = pending_then d i it low in
            absurd (none-some entry.0 (sym (gone i it.stage.atr (omega arith)) ∙ ap (λ (z : Stage). entry_then s0 h lawful i (it.stage.atr, z.attempt)) (some_same (sym v_is ∙ same)) ∙ entry.1))
    stays_next d i it low none (is_unstaged e y old x takes off at over now cas free) = absurd (go (removes s0 h lawful i d y old x.body e takes.event off at over))
      where
        same : old.stage ≡ Some it.stage
        same = ap (λ (z : DocState). z.stage) (some_same (sym at ∙ it.there)) ∙ it.staged

        decided : (v : Stage) (lists : Lists) (state : EntryState) → old.stage ≡ Some v → WasDecided s0 h lawful v.atr v.attempt lists state i → state ≢ Pending → ⊥
        decided v lists state v_is was apart =
            let entry = pending_then d i it low in
            not_pending_later s0 h lawful it.stage.atr it.stage.attempt lists state i entry.0
            (subst (λ (z : Stage). WasDecided s0 h lawful z.atr z.attempt lists state i) (some_same (sym v_is ∙ same)) was) apart entry.1 entry.2

        go : Removes s0 h lawful i d y old x.body e → ⊥
        go (resolved v lists v_is becomes was) = decided v lists Committed v_is was (λ z. cc)
        go (undone v lists v_is becomes was) = decided v lists Aborted v_is was (λ z. cc)
        go (taken_back v v_is becomes owner is undecided was sent) =
            none e y takes (sym owner ∙ ap (λ (z : Stage). client_of z.attempt) (some_same (sym v_is ∙ same)) ∙ ap client_of it.attempt) is

    pub holds_from : (j i : ℕ) (d : List ℕ) → Holds d j → j ≤ i → i ≤ q
        → ((k x : ℕ) (e : Event) → j ≤ k → k < i → TakesEffect s0 h k e → e.actor ≡ client_of a → e.step ≡ step.Unstick d x → ⊥) → Holds d i
    holds_from j zero d it low high none = subst (λ n. Holds d n) (none_below j low) it
    holds_from j (suc i) d it low high none =
        ⊎_elim (λ (l : j < suc i).
        stays_next d i (holds_from j i d it (omega arith) (omega arith) (λ k x e from to. none k x e from (omega arith))) (omega arith)
        (λ e x takes by is. none i x e (omega arith) (omega arith) takes by is) (doc_goes s0 h lawful i d))
        (λ (s : j ≡ suc i). subst (λ n. Holds d n) s it) (below_next j (suc i) (omega arith))

    pub just_held : (j : ℕ) (d : List ℕ) (e : Event) (ex : Expect) (stage : Stage) → TakesEffect s0 h j e → e.step ≡ step.Stage d ex stage → stage.attempt ≡ a → Holds d (suc j)
    just_held j d e ex stage takes is own_one =
        let sent = stager s0 h lawful j d e ex stage takes.event is in
        let it = after_stage s0 h lawful j d e ex stage takes is in
        record {
          doc = it.doc;
          stage = stage;
          there = it.there;
          staged = it.staged;
          attempt = own_one;
          sent = suc sent.place;
          entry = sent.entry;
          before = (let b = sent.before in omega arith);
          now = sent.now;
        }

module _ (case : Case) (book : Book) (legal : IsLegalRun case book) (follow : LogsFollow case book) (lawful : Lawful book.kept.opening book.kept.history)
    (q r a : ℕ) (lists : Lists) (e : Event) (takes : TakesEffect book.kept.opening book.kept.history q e) (is : e.step ≡ step.Commit r a lists) (d : List ℕ) (t : ℕ)
    (over : WroteOver case book a d t) where
  abbrev s0 : State
  s0 = book.kept.opening

  abbrev h : List Event
  h = book.kept.history

  abbrev l : List Made
  l = own_of book (client_of a)

  abbrev answered_as : IsAnswer case book over.client over.txn over.try_no over.n over.op over.op_log over.sofar
  answered_as = over.staged

  -- the log of the attempt by its commit, and by its numbers
  mine : AttemptOf case book legal follow a
  mine = attempt_it case book legal follow lawful q r a lists e takes is

  log_same : mine.attempt ≡ answered_as.attempt
  log_same = same_log case book legal follow lawful over.client over.txn over.try_no over.log over.log_is a (sym over.id) mine ∙ some_same (sym over.log_is ∙ answered_as.attempt_is)

  a_is : a ≡ attempt_number over.client over.txn over.try_no
  a_is = sym over.id ∙ id_is case book legal follow lawful over.client over.txn over.try_no over.log over.log_is

  its : Decodes (attempt_number over.client over.txn over.try_no) over.client over.txn over.try_no
  its = numbers case book legal follow lawful over.client over.txn over.try_no over.log over.log_is

  plan_same : mine.t.plan ≡ answered_as.plan
  plan_same =
      mine.t_plan
      ∙ some_same (sym mine.plan_is ∙ ap (λ b. plan_of case.plans b) a_is ∙ ap (λ c. plan_at case.plans c (txn_of (attempt_number over.client over.txn over.try_no))) its.client_is
      ∙ ap (λ x. plan_at case.plans over.client x) its.txn_is ∙ answered_as.plan_is)

  -- the operation that staged
  index : (j : ℕ) × (over.n ≡ suc j) × (slice_get answered_as.plan.ops j ≡ Some over.op)
  index = from_one answered_as.plan.ops over.n over.op answered_as.op_is

  op_there : slice_get mine.t.plan.ops index.0 ≡ Some over.op
  op_there = ap (λ (x : TxnPlan). slice_get x.ops index.0) plan_same ∙ index.2

  log_there : slice_get mine.attempt.ops index.0 ≡ Some over.op_log
  log_there = ap (λ (x : AttemptLog). slice_get x.ops index.0) log_same ∙ ap (λ k. numbered answered_as.attempt.ops k) (sym index.1) ∙ answered_as.log_is

  done_at : OpAt mine.t l (ops_end mine.at (take index.0 mine.attempt.ops)) over.op over.op_log (walked (take index.0 mine.t.plan.ops) (take index.0 mine.attempt.ops) nothing_yet)
  done_at = op_at mine.t l mine.at 1 nothing_yet mine.t.plan.ops mine.attempt.ops index.0 over.op over.op_log mine.follows.ops op_there log_there

  abbrev span : Span
  span = over.op_log.span

  staged : StagedOver mine.t l d (during span l) over.place t
  staged =
      let so = walked (take index.0 mine.t.plan.ops) (take index.0 mine.attempt.ops) nothing_yet in
      subst (λ x. StagedOver mine.t l x (during span l) over.place t) over.doc
      (staged_over mine.t l so span over.place t over.op (subst (λ x. Answered mine.t l so (request_of so.bound over.op) (during span l) x) over.answered done_at.follows.answered))

  in_span : Within span staged.call l
  in_span = during_in span staged.call l staged.there

  -- its staging
  event : Member s0 h staged.call (client_of a) (length h)
  event = in_at s0 h staged.call (client_of a) (length h) in_span.there

  j_is : staged.call.answer.place ≡ event.place
  j_is = ap (λ (m : Made). m.answer.place) event.made

  stages : event.event.step ≡ step.Stage d (expected staged.it.cas) staged.stage
  stages = ap (λ (m : Made). m.step) (sym event.made) ∙ staged.is

  own_one : staged.stage.attempt ≡ a
  own_one = staged.attempt ∙ mine.id_is

  took : TakesEffect s0 h event.place event.event
  took =
      let done = done_is staged.call.answer.reply staged.done in
      (done_told s0 h event.place event.event done.0 event.is (ap (λ (m : Made). m.answer.reply) (sym event.made) ∙ done.1)).0

  here : Inside case book legal follow lawful a mine event.place event.event
  here = inside_of case book legal follow lawful event.place a event.event event.is (staging d (expected staged.it.cas) staged.stage stages own_one) mine

  -- no unstick of the document by the attempt between its staging and its commit
  not_taken_back : (k x : ℕ) (f : Event) → suc event.place ≤ k → k < q → TakesEffect s0 h k f → f.actor ≡ client_of a → f.step ≡ step.Unstick d x → ⊥
  unfolding mine
  not_taken_back k x f from to takes_too by unsticks = ⊎_elim early late (cases_lt k (ops_end mine.at mine.attempt.ops))
    where
      there : In (made_at s0 h k f) l
      there = owned_call case book legal follow lawful k a f takes_too.event by

      low : mine.at ≤ k
      low = let at = here.low in omega arith

      late : ops_end mine.at mine.attempt.ops ≤ k → ⊥
      late after_ops =
          let commits_here = commit_inside case book legal follow lawful q r a lists e takes is in
          (no_late_write case book legal follow lawful q r a lists e takes is k f takes_too.event by after_ops (let high = commits_here.high in omega arith)).1 d x unsticks

      early : k < ops_end mine.at mine.attempt.ops → ⊥
      early in_ops = by_order (order (suc index.0) (suc found.index))
        where
          found : OpIndex mine.t l nothing_yet mine.t.plan.ops mine.attempt.ops (made_at s0 h k f)
          found = op_index mine.t l mine.at 1 nothing_yet mine.t.plan.ops mine.attempt.ops (made_at s0 h k f) mine.follows.ops there low in_ops

          so : Sofar
          so = walked (take found.index mine.t.plan.ops) (take found.index mine.attempt.ops) nothing_yet

          about : doc_of found.op ≡ d
          about = unsticks_own_doc mine.t so found.op (during found.log.span l) (made_at s0 h k f) d x found.follows.calls found.inside unsticks

          told : found.log.answer ≡ answer.Unstaged k
          told =
              let done = done_in_ops case book legal follow lawful q r a lists e takes is k f there low in_ops takes_too in
              subst (λ st. StandsAt k found.log.answer st) unsticks
              (each_of (λ m. is_done m.answer.reply ≡ true → StandsAt m.answer.place found.log.answer m.step) (during found.log.span l) (made_at s0 h k f) found.follows.stands found.inside done)

          found_span : Within found.log.span (made_at s0 h k f) l
          found_span = during_in found.log.span (made_at s0 h k f) l found.inside

          answer_of : IsAnswer case book over.client over.txn over.try_no (suc found.index) found.op found.log so
          answer_of = record {
            plan = answered_as.plan;
            plan_is = answered_as.plan_is;
            attempt = answered_as.attempt;
            attempt_is = answered_as.attempt_is;
            op_is = ap (λ (p : TxnPlan). slice_get p.ops found.index) (sym plan_same) ∙ found.op_is;
            log_is = ap (λ (y : AttemptLog). slice_get y.ops found.index) (sym log_same) ∙ found.log_is;
            sofar_is = ap (λ n. walked (take n mine.t.plan.ops) (take n mine.attempt.ops) nothing_yet) (sym (minus_one found.index))
                ∙ ap (λ (p : TxnPlan). walked (take (suc found.index - 1) p.ops) (take (suc found.index - 1) mine.attempt.ops) nothing_yet) plan_same
                ∙ ap (λ (y : AttemptLog). walked (take (suc found.index - 1) answered_as.plan.ops) (take (suc found.index - 1) y.ops) nothing_yet) log_same;
          }

          by_order : Order (suc index.0) (suc found.index) → ⊥
          by_order (first after_it) = over.kept (suc found.index) found.op found.log so k (subst (λ n. n < suc found.index) (sym index.1) after_it) answer_of about told
          by_order (equal one) =
              let same : found.log ≡ over.op_log = some_same (sym found.log_is ∙ ap (λ n. slice_get mine.attempt.ops n) (same_before one) ∙ log_there) in
              staged_not over.place (when.At t) k (sym over.answered ∙ ap (λ (y : OpLog). y.answer) (sym same) ∙ told)
            where
              same_before : {m n : ℕ} → suc m ≡ suc n → n ≡ m
              same_before s = omega arith

              staged_not : (p : ℕ) (w : When) (n : ℕ) → answer.Staged p w ≡ answer.Unstaged n → ⊥
              staged_not p w n same = cc
          by_order (later_one before) =
              let ends = ends_before mine.t l mine.at 1 nothing_yet mine.t.plan.ops mine.attempt.ops found.index index.0 found.log over.op_log mine.follows.ops found.log_is log_there (omega arith) in
              absurd (too_early found.log.span.to over.op_log.span.from k event.place ends found_span.high (subst (λ n. over.op_log.span.from ≤ n) j_is in_span.low) from)
            where
              too_early : (a b k j : ℕ) → a ≤ b → k < a → b ≤ j → suc j ≤ k → ⊥
              too_early a b k j one two three four = omega arith

  -- what another attempt commits at a place was staged by that attempt
  module _ (p b : ℕ) (other : CommitsAt s0 h b p) (writes : write_set case.plans book.clients b d ≢ None) (apart : b ≢ a) (after_reading : t < p) (before : p < q) where
    sent : (s : ℕ) × (more : Lists) × (other.event.step ≡ step.Commit s b more)
    sent = commits_is other.event.step b other.is

    record StagedThere : Type 0 where
      pub doc : DocState
      pub stage : Stage
      pub there : doc_then s0 h lawful p d ≡ Some doc
      pub staged : doc.stage ≡ Some stage
      pub attempt : stage.attempt ≡ b

    its_own : StagedThere
    its_own = go (wrote_as case book legal follow lawful p sent.0 b sent.1 other.event other.takes sent.2 d)
      where
        go : Wrote case book legal follow lawful p sent.0 b sent.1 other.event other.takes sent.2 d → StagedThere
        go (wrote doc stage there staged attempt set) = record { doc = doc; stage = stage; there = there; staged = staged; attempt = attempt }
        go (wrote_not free none) = absurd (writes none)

    after_staging : event.place < p → ⊥
    after_staging low =
        let decision = at_decision s0 h lawful q r a e takes (is_commit lists is) in
        let it = holds_from s0 h lawful q r a decision.old decision.there decision.pending (suc event.place) p d
        (just_held s0 h lawful q r a decision.old decision.there decision.pending event.place d event.event (expected staged.it.cas) staged.stage took stages own_one) low (omega arith)
        (λ k x f from to. not_taken_back k x f from (omega arith)) in
        let doc_same : it.doc ≡ its_own.doc = some_same (sym it.there ∙ its_own.there) in
        apart (sym its_own.attempt ∙ ap (λ (w : Stage). w.attempt) (some_same (sym its_own.staged ∙ ap (λ (y : DocState). y.stage) (sym doc_same) ∙ it.staged)) ∙ it.attempt)

    at_staging : p ≡ event.place → ⊥
    at_staging same =
        let one = one_event h event.place event.event other.event event.is (subst (λ n. slice_get h n ≡ Some other.event) same other.takes.event) in
        stage_not d (expected staged.it.cas) staged.stage sent.0 b sent.1 (sym stages ∙ ap (λ (y : Event). y.step) one ∙ sent.2)
      where
        stage_not : (d : List ℕ) (ex : Expect) (w : Stage) (r b : ℕ) (lists : Lists) → step.Stage d ex w ≡ step.Commit r b lists → ⊥
        stage_not d ex w r b lists same = cc

    before_staging : p < event.place → ⊥
    before_staging low = go read.cas_is (found_there s0 h lawful event.place d staged.it.cas event.event staged.stage took stages)
      where
        reads_in : (m : Made) → In m (during staged.span l) → In m l
        reads_in m there = (filter_in (λ y. is_within staged.span y.answer.place) m l there).0

        falls : Descends (during staged.span l)
        falls = filter_descends (λ y. is_within staged.span y.answer.place) l (own_descends s0 h (client_of a) (length h))

        read : Resolves s0 h lawful (client_of a) (during staged.span l) reads_in falls d staged.it
        read = read_right s0 h lawful (client_of a) (during staged.span l) reads_in falls d staged.it staged.read

        moment_low : staged.it.moment ≤ p
        moment_low = let is_t = staged.moment_is in omega arith

        cas_missing : (x : ℕ) (c : Option ℕ) → c ≡ None → c ≡ Some x → ⊥
        cas_missing x c one two = none-some x (sym one ∙ two)

        standing_then : (x y : ℕ) (old now : DocState) → staged.it.cas ≡ Some x → staged.it.cas ≡ Some y → doc_then s0 h lawful staged.it.moment d ≡ Some now → now.cas ≡ x
            → doc_then s0 h lawful event.place d ≡ Some old → old.cas ≡ y → ⊥
        standing_then x y old now is_x is_y now_there now_cas old_there old_cas = by_over (stands_over s0 h lawful event.place d event.event y staged.stage old event.is (stages ∙ ap (λ c. step.Stage d (expected c) staged.stage) is_y) old_there old_cas)
          where
            cas_same : now.cas ≡ old.cas
            cas_same = now_cas ∙ some_same (sym is_x ∙ is_y) ∙ sym old_cas

            old_staged : old.stage ≡ Some its_own.stage
            old_staged =
                let at_p = same_between s0 h lawful staged.it.moment p event.place d now old moment_low (omega arith) now_there old_there cas_same in
                ap (λ (z : DocState). z.stage) (sym (same_at_cas s0 h lawful staged.it.moment event.place d now old now_there old_there cas_same) ∙ some_same (sym at_p ∙ its_own.there)) ∙ its_own.staged

            by_over : StandsOver s0 h lawful event.place old staged.stage → ⊥
            by_over (unstaged free) = none-some its_own.stage (sym free ∙ old_staged)
            by_over (own_staging v v_is own) =
                apart (sym its_own.attempt ∙ ap (λ (w : Stage). w.attempt) (some_same (sym old_staged ∙ v_is)) ∙ own ∙ own_one)
            by_over (dead_staging v v_is gone) =
                let closed = closed_at s0 h lawful p sent.0 b sent.1 other.event other.takes (commit sent.2) in
                let v_same : v.attempt ≡ b = ap (λ (w : Stage). w.attempt) (some_same (sym v_is ∙ old_staged)) ∙ its_own.attempt in
                gone_unstaged s0 h lawful (suc p) event.place sent.0 b d closed.entry old its_own.stage low closed.now
                (closed-decided s0 h lawful p sent.0 b sent.1 other.event.step closed) (subst (λ n. entry_then s0 h lawful event.place (sent.0, n) ≡ None) v_same (gone event.place sent.0 (omega arith)))
                old_there old_staged its_own.attempt

        go : HasCasAt s0 h lawful (client_of a) (during staged.span l) reads_in falls d staged.it → FoundThere s0 h lawful event.place d staged.it.cas → ⊥
        go (missing none gone) (nothing free at) =
            let on = doc_later s0 h lawful p event.place d its_own.doc (omega arith) its_own.there in
            none-some on.doc (sym at ∙ on.there)
        go (missing none gone) (a_document y old is_y at cas) = cas_missing y staged.it.cas none is_y
        go (standing x now is_x at cas) (nothing free gone) = cas_missing x staged.it.cas free is_x
        go (standing x now is_x now_there now_cas) (a_document y old is_y at cas) = standing_then x y old now is_x is_y now_there now_cas at cas

    pub none_between : ⊥
    none_between = go (order p event.place)
      where
        go : Order p event.place → ⊥
        go (first low) = before_staging low
        go (equal same) = at_staging same
        go (later_one after_it) = after_staging after_it

pub no_update_lost : (case : Case) (book : Book) (legal : IsLegalRun case book) (follow : LogsFollow case book) (lawful : Lawful book.kept.opening book.kept.history) → NoUpdateLost case book
no_update_lost case book legal follow lawful a b p q t d commit_a over commit_b apart writes after_reading before =
    let st = commits_is commit_a.event.step a commit_a.is in
    none_between case book legal follow lawful q st.0 a st.1 commit_a.event commit_a.takes st.2 d t over p b commit_b writes apart after_reading before
