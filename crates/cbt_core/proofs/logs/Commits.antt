-- At its commit an attempt's log and its stagings tell the same: the own writes are what it has staged.
use Rattle.std.proofs.Common.{◌≡◌, ◌≢◌, ℕ, suc, ◌<◌, ◌≤◌, true, inl, inr, ⊎_elim, List, [], ◌∷◌, length, drop, slice_get, Option, Some, None, refl, sym, ap, ◌∙◌, subst, arith, Ok, Err}
use Rattle.std.proofs.lemmas.Bool.{cases_lt}
use Rattle.std.proofs.lemmas.Option.{slice_get_within}
use Rattle.std.specs.Option.{option_map}
use Rattle.cbt_base.specs.Ids.{attempt_number}
use Rattle.cbt_expr.specs.declared.plans.Op.{Op}
use Rattle.cbt_model.specs.History.{own, made_at, is_done, commits, TakesEffect}
use Rattle.cbt_model.specs.Table.{touches_doc}
use Rattle.cbt_model.specs.declared.documents.DocState.{DocState}
use Rattle.cbt_model.specs.declared.documents.Stage.{Stage}
use Rattle.cbt_model.specs.declared.entries.Lists.{Lists}
use Rattle.cbt_model.specs.declared.events.Event.{Event}
use Rattle.cbt_model.specs.declared.events.Made.{Made}
use Rattle.cbt_model.specs.declared.states.State.{State}
use Rattle.cbt_model.specs.declared.steps.Expect.{Expect}
use Rattle.cbt_model.specs.declared.steps.Reply.TheVariants as reply
use Rattle.cbt_model.specs.declared.steps.Step.{Step}
use Rattle.cbt_model.specs.declared.steps.Step.TheVariants as step
use Rattle.cbt_book.specs.Licence.{IsListed, WritesFor}
use Rattle.cbt_book.specs.Licence as licence
use Rattle.cbt_book.specs.Numbers.{client_of}
use Rattle.cbt_book.specs.OwnLists.{Once, In}
use Rattle.cbt_book.specs.Shown.{adds, aborts}
use Rattle.cbt_book.specs.OwnLists.{during}
use Rattle.cbt_book.specs.Closing.{MayClose}
use Rattle.cbt_book.specs.Calls.{MayGet, MayWrite}
use Rattle.cbt_book.specs.declared.book.Book.{Book}
use Rattle.cbt_book.specs.declared.clients.AttemptLog.{AttemptLog}
use Rattle.cbt_core.specs.Attempts.{MayKeep, AttemptFollows, course_of}
use Rattle.cbt_core.specs.Invariant.{StagesEffectively, WritesNoMore}
use Rattle.cbt_core.specs.Walk.{AttemptTerms, Sofar, OwnWrite, Request, Reads, Writes, Tests, walked, nothing_yet, request_of}
use Rattle.cbt_core.specs.OpCalls.{OpCalls, write_terms}
use Rattle.cbt_core.specs.Operations.{ops_end}
use Rattle.cbt_core.specs.Runs.{IsLegalRun, LogsFollow, own_of}
use Rattle.cbt_core.specs.WriteSets.{log_of, write_set}
use Rattle.cbt_core.specs.declared.case.Case.{Case}
use Rattle.cbt_core.proofs.interleaving.Answers.{effect_told}
use Rattle.cbt_core.proofs.logs.Calls.{in_empty, each_of, some_call, call_once, own_in, after_gap}
use Rattle.cbt_core.proofs.interleaving.Decisions.{Closing, commit, abort, closer, closed_last, AtDecision, at_decision, is_commit}
use Rattle.cbt_core.proofs.interleaving.Documents.{doc_then, stamp, StagedBy, by_staging, from_first, staged_by}
use Rattle.cbt_core.proofs.logs.Find.{Home, none_failed}
use Rattle.cbt_core.proofs.interleaving.Held.{held}
use Rattle.cbt_core.proofs.runs.Lawful.{Lawful, may}
use Rattle.cbt_core.proofs.interleaving.Listed.{changes_it, done_is}
use Rattle.cbt_core.proofs.logs.Noted.{WritesDone, OwnWriteAt, TakenBack, IsNoted, noted_all, noted_none, ops_low}
use Rattle.cbt_core.proofs.logs.Owners.{ClientOf, adder, AttemptOf, home_of, attempt_of_home, Part, part_of, in_ops, in_cut, in_closing, writes_are}
use Rattle.cbt_core.proofs.runs.Past.{some_same, one_event, Order, first, equal, after as later_one, order, at_once, in_at, Member}
use Rattle.cbt_core.proofs.interleaving.Answers.{done_told, effect_row}
use Rattle.cbt_core.proofs.interleaving.Worth.{stager}

-- a step that is made for attempt a alone
pub data IsFor (a : ℕ) (st : Step) : Type 0 where
  adding : (r exp : ℕ) → st ≡ step.AddEntry r a exp → IsFor a st
  staging : (d : List ℕ) (ex : Expect) (stage : Stage) → st ≡ step.Stage d ex stage → stage.attempt ≡ a → IsFor a st
  closing_it : (r : ℕ) (lists : Lists) → Closing r a lists st → IsFor a st

-- a call of an operation is made for the attempt of the operation
op_for : (t : AttemptTerms) (so : Sofar) (r : Request) (calls : List Made) (m : Made) (a : ℕ) → OpCalls t so r calls → In m calls → IsFor a m.step → t.id ≡ a
op_for t so (Reads d name) calls m a may there (adding r exp is) = absurd (subst (λ st. MayGet d st) is (each_of (λ x. MayGet d x.step) calls m may.only there))
op_for t so (Reads d name) calls m a may there (staging q ex stage is own_one) = absurd (subst (λ st. MayGet d st) is (each_of (λ x. MayGet d x.step) calls m may.only there))
op_for t so (Reads d name) calls m a may there (closing_it r lists (commit is)) = absurd (subst (λ st. MayGet d st) is (each_of (λ x. MayGet d x.step) calls m may.only there))
op_for t so (Reads d name) calls m a may there (closing_it r lists (abort is)) = absurd (subst (λ st. MayGet d st) is (each_of (λ x. MayGet d x.step) calls m may.only there))
op_for t so (Writes d kind (Ok content)) calls m a may there (adding r exp is) = sym (subst (λ st. MayWrite (write_terms t) d st) is (each_of (λ x. MayWrite (write_terms t) d x.step) calls m may.0.only there)).0
op_for t so (Writes d kind (Ok content)) calls m a may there (staging q ex stage is own_one) = sym (subst (λ st. MayWrite (write_terms t) d st) is (each_of (λ x. MayWrite (write_terms t) d x.step) calls m may.0.only there)).1 ∙ own_one
op_for t so (Writes d kind (Ok content)) calls m a may there (closing_it r lists (commit is)) = absurd (subst (λ st. MayWrite (write_terms t) d st) is (each_of (λ x. MayWrite (write_terms t) d x.step) calls m may.0.only there))
op_for t so (Writes d kind (Ok content)) calls m a may there (closing_it r lists (abort is)) = absurd (subst (λ st. MayWrite (write_terms t) d st) is (each_of (λ x. MayWrite (write_terms t) d x.step) calls m may.0.only there))
op_for t so (Writes d kind (Err part)) calls m a may there is = absurd (in_empty m calls may there)
op_for t so (Tests truth) calls m a may there is = absurd (in_empty m calls may there)

close_for : (id : ℕ) (past : List Made) (st : Step) (a : ℕ) → MayClose id past st → IsFor a st → id ≡ a
close_for id past st a may (adding r exp is) = absurd (subst (λ x. MayClose id past x) is may)
close_for id past st a may (staging q ex stage is own_one) = absurd (subst (λ x. MayClose id past x) is may)
close_for id past st a may (closing_it r lists (commit is)) = sym (subst (λ x. MayClose id past x) is may).0
close_for id past st a may (closing_it r lists (abort is)) = sym (subst (λ x. MayClose id past x) is may).0

part_for : (t : AttemptTerms) (l : List Made) (at : ℕ) (log : AttemptLog) (follows : AttemptFollows t l at log) (m : Made) (a : ℕ) → Part t l at log follows m → IsFor a m.step → t.id ≡ a
part_for t l at log follows m a (in_ops home early) is = op_for t home.sofar (request_of home.sofar.bound home.op) (during home.log.span l) m a home.follows.calls home.inside is
part_for t l at log follows m a (in_cut so r calls next rest left may there late) is = op_for t so r calls m a may there is
part_for t l at log follows m a (in_closing past may before closes late) is = close_for t.id past m.step a may is

module _ (case : Case) (book : Book) (legal : IsLegalRun case book) (follow : LogsFollow case book) (lawful : Lawful book.kept.opening book.kept.history) where
  abbrev pub s0 : State
  s0 = book.kept.opening

  abbrev pub h : List Event
  h = book.kept.history

  -- the client of an attempt whose entry was sent
  client_by : (p r a exp : ℕ) (e : Event) → slice_get h p ≡ Some e → e.step ≡ step.AddEntry r a exp → ClientOf case book legal follow (client_of a)
  client_by p r a exp e at is = subst (λ c. ClientOf case book legal follow c) (sym (may s0 h lawful p e (step.AddEntry r a exp) at is).own) (adder case book legal follow p a e at (ap adds is))

  -- the owner of a step that is made for an attempt, and its client
  pub record Owner (a : ℕ) (e : Event) : Type 0 where
    pub actor : e.actor ≡ client_of a
    pub client : ClientOf case book legal follow (client_of a)

  pub owner_of : (p a : ℕ) (e : Event) → slice_get h p ≡ Some e → IsFor a e.step → Owner a e
  owner_of p a e at (adding r exp is) = record { actor = sym (may s0 h lawful p e (step.AddEntry r a exp) at is).own; client = client_by p r a exp e at is }
  owner_of p a e at (staging d ex stage is own_one) =
      let sent = stager s0 h lawful p d e ex stage at is in
      record { actor = sym sent.owner ∙ ap client_of own_one; client = subst (λ b. ClientOf case book legal follow (client_of b)) own_one (client_by sent.place stage.atr stage.attempt sent.exp sent.event sent.takes.event sent.is) }
  owner_of p a e at (closing_it r lists closing) =
      let sent = closer s0 h lawful p r a lists e at closing in
      record { actor = sym sent.owner; client = client_by sent.place r a sent.exp sent.event sent.at sent.is }

  -- the call of such an event in its owner's list
  pub owned_call : (p a : ℕ) (e : Event) → slice_get h p ≡ Some e → e.actor ≡ client_of a → In (made_at s0 h p e) (own_of book (client_of a))
  owned_call p a e at by = own_in s0 h (client_of a) (length h) p e (slice_get_within h p e at) at by

  -- the attempt's log, found by such an event
  pub attempt_by : (p a : ℕ) (e : Event) → slice_get h p ≡ Some e → IsFor a e.step → AttemptOf case book legal follow a
  attempt_by p a e at is =
      let owner = owner_of p a e at is in
      let m = made_at s0 h p e in
      let home = home_of case book legal follow (client_of a) owner.client m (owned_call p a e at owner.actor) in
      let part = part_of _ (own_of book (client_of a)) home.at home.attempt home.follows m (owned_call p a e at owner.actor) home.low home.high in
      subst (λ b. AttemptOf case book legal follow b) (part_for _ (own_of book (client_of a)) home.at home.attempt home.follows m a part is) (attempt_of_home case book legal follow (client_of a) owner.client m home)

  -- such an event lies among the attempt's calls
  pub record Inside (a : ℕ) (it : AttemptOf case book legal follow a) (p : ℕ) (e : Event) : Type 0 where
    pub there : In (made_at s0 h p e) (own_of book (client_of a))
    pub low : it.at ≤ p
    pub high : p < it.attempt.span.to

  pub inside_of : (p a : ℕ) (e : Event) → slice_get h p ≡ Some e → IsFor a e.step → (it : AttemptOf case book legal follow a) → Inside a it p e
  inside_of p a e at is it = record { there = there; low = low; high = subst (λ (x : AttemptLog). p < x.span.to) (sym same) home.high }
    where
      owner : Owner a e
      owner = owner_of p a e at is

      there : In (made_at s0 h p e) (own_of book (client_of a))
      there = owned_call p a e at owner.actor

      home : Home (client_of a) case.atrs owner.client.plan (own_of book (client_of a)) owner.client.log (made_at s0 h p e)
      home = home_of case book legal follow (client_of a) owner.client (made_at s0 h p e) there

      id_is : attempt_number (client_of a) home.txn home.try_no ≡ a
      id_is =
          part_for _ (own_of book (client_of a)) home.at home.attempt home.follows (made_at s0 h p e) a
          (part_of _ (own_of book (client_of a)) home.at home.attempt home.follows (made_at s0 h p e) there home.low home.high) is

      same : it.attempt ≡ home.attempt
      same =
          some_same (sym it.log_is ∙ ap (λ b. log_of book.clients b) (sym id_is) ∙ (attempt_of_home case book legal follow (client_of a) owner.client (made_at s0 h p e) home).log_is)

      low : it.at ≤ p
      low =
          let from_here = after_gap (own_of book (client_of a)) home.at home.attempt.span (made_at s0 h p e) home.follows.spanned there home.low in
          along it.follows.spanned.follows (ap (λ (x : AttemptLog). x.span.from) same) from_here
        where
          along : {a b c d : ℕ} → a ≤ b → b ≡ c → c ≤ d → a ≤ d
          along one two three = omega arith

  -- no own abort is made of an attempt that was committed
  pub never_aborted : (q r t a i : ℕ) (lists other : Lists) (e f : Event) → TakesEffect s0 h q e → e.step ≡ step.Commit r a lists → slice_get h i ≡ Some f → f.step ≡ step.Abort t a other → ⊥
  never_aborted q r t a i lists other e f takes is at its = go (order q i)
    where
      mine : f.actor ≡ e.actor
      mine = sym (closer s0 h lawful i t a other f at (abort its)).owner ∙ (closer s0 h lawful q r a lists e takes.event (commit is)).owner

      differ : step.Commit r a lists ≡ step.Abort t a other → ⊥
      differ same = apart r a lists t a other same
        where
          apart : (r a : ℕ) (l : Lists) (t b : ℕ) (m : Lists) → step.Commit r a l ≡ step.Abort t b m → ⊥
          apart r a l t b m same = cc

      go : Order q i → ⊥
      go (first l) = closed_last s0 h lawful q i r t a lists other e f l takes (commit is) at (abort its)
      go (equal s) = differ (sym is ∙ ap (λ (x : Event). x.step) (one_event h i e f (subst (λ n. slice_get h n ≡ Some e) s takes.event) at) ∙ its)
      go (later_one l) = (may s0 h lawful q e (step.Commit r a lists) takes.event is).unaborted (at_once s0 h (λ m _. aborts m.step ≡ Some a) e.actor q i f l at mine (ap aborts its))

  module _ (q r a : ℕ) (lists : Lists) (e : Event) (takes : TakesEffect s0 h q e) (is : e.step ≡ step.Commit r a lists) where
    pub it : AttemptOf case book legal follow a
    it = attempt_by q a e takes.event (closing_it r lists (commit is))

    abbrev pub l : List Made
    l = own_of book (client_of a)

    abbrev pub ops_to : ℕ
    ops_to = ops_end it.at it.attempt.ops

    abbrev pub so : Sofar
    so = walked it.t.plan.ops it.attempt.ops nothing_yet

    pub here : Inside a it q e
    here = inside_of q a e takes.event (closing_it r lists (commit is)) it

    not_op : (t : AttemptTerms) (before : Sofar) (req : Request) (calls : List Made) → OpCalls t before req calls → In (made_at s0 h q e) calls → ⊥
    not_op t before (Reads d name) calls may_call there = subst (λ st. MayGet d st) is (each_of (λ x. MayGet d x.step) calls (made_at s0 h q e) may_call.only there)
    not_op t before (Writes d kind (Ok content)) calls may_call there = subst (λ st. MayWrite (write_terms t) d st) is (each_of (λ x. MayWrite (write_terms t) d x.step) calls (made_at s0 h q e) may_call.0.only there)
    not_op t before (Writes d kind (Err part)) calls may_call there = in_empty (made_at s0 h q e) calls may_call there
    not_op t before (Tests truth) calls may_call there = in_empty (made_at s0 h q e) calls may_call there

    pub record Kept : Type 0 where
      pub late : ops_to ≤ q
      pub keeps : MayKeep it.t (course_of it.t it.attempt it.follows.cut it.follows.closing)

    pub kept : Kept
    kept = go (part_of it.t l it.at it.attempt it.follows (made_at s0 h q e) here.there here.low here.high)
      where
        go : Part it.t l it.at it.attempt it.follows (made_at s0 h q e) → Kept
        go (in_ops home early) = absurd (not_op it.t home.sofar (request_of home.sofar.bound home.op) (during home.log.span l) home.follows.calls home.inside)
        go (in_cut before req calls next rest left may_call there late) = absurd (not_op it.t before req calls may_call there)
        go (in_closing past may_call before closes late) = record {
          late = late;
          keeps = it.follows.may_commit (call_once (λ m. commits m.step ≡ Some it.t.id) it.follows.closing (made_at s0 h q e) closes (ap commits is ∙ ap (λ b. Some b) (sym it.id_is)));
        }

    -- after its operations a committed attempt writes no document by a staging or an unstick
    pub no_late_write : (k : ℕ) (w : Event) → slice_get h k ≡ Some w → w.actor ≡ client_of a → ops_to ≤ k → k < it.attempt.span.to → ((d : List ℕ) (ex : Expect) (stage : Stage) → w.step ≢ step.Stage d ex stage)
        × ((d : List ℕ) (x : ℕ) → w.step ≢ step.Unstick d x)
    no_late_write k w at by late high = (λ d ex stage st. absurd (stages d ex stage st), λ d x st. absurd (unsticks d x st))
      where
        there : In (made_at s0 h k w) l
        there = owned_call k a w at by

        nothing_left : (next : Op) (rest : List Op) → drop (length it.attempt.ops) it.t.plan.ops ≡ next ∷ rest → ⊥
        nothing_left next rest left = differ (sym kept.keeps.all ∙ left)
          where
            differ : {x : Op} {xs : List Op} → [] ≡ x ∷ xs → ⊥
            differ same = cc

        closing_of : (past : List Made) → ((past : List Made) → MayClose it.t.id past w.step → ((n : Made) → In n past → In n l) → ⊥) → Part it.t l it.at it.attempt it.follows (made_at s0 h k w) → ⊥
        closing_of past never (in_ops home early) = below late early
          where
            below : {m n : ℕ} → m ≤ n → n < m → ⊥
            below one two = omega arith
        closing_of past never (in_cut before req calls next rest left may_call in_calls late2) = nothing_left next rest left
        closing_of past never (in_closing before may_call from closes late2) = never before may_call from

        part : Part it.t l it.at it.attempt it.follows (made_at s0 h k w)
        part = part_of it.t l it.at it.attempt it.follows (made_at s0 h k w) there (low_enough it.at ops_to k (ops_after it) late) high
          where
            low_enough : (m n p : ℕ) → m ≤ n → n ≤ p → m ≤ p
            low_enough m n p one two = omega arith

            ops_after : (x : AttemptOf case book legal follow a) → x.at ≤ ops_end x.at x.attempt.ops
            ops_after x = ops_low x.t (own_of book (client_of a)) x.at 1 nothing_yet x.t.plan.ops x.attempt.ops x.follows.ops

        stages : (d : List ℕ) (ex : Expect) (stage : Stage) → w.step ≡ step.Stage d ex stage → ⊥
        stages d ex stage st = closing_of [] (λ past may_call from. subst (λ x. MayClose it.t.id past x) st may_call) part

        unsticks : (d : List ℕ) (x : ℕ) → w.step ≡ step.Unstick d x → ⊥
        unsticks d x st = closing_of [] (λ past may_call from. by_abort past (subst (λ y. MayClose it.t.id past y) st may_call).0 from) part
          where
            by_abort : (past : List Made) → Once (λ m _. (t : ℕ) × (other : Lists) × (m.step ≡ step.Abort t it.t.id other) × IsListed d other) past → ((n : Made) → In n past → In n l) → ⊥
            by_abort past once from =
                let m = some_call (λ n. (t : ℕ) × (other : Lists) × (n.step ≡ step.Abort t it.t.id other) × IsListed d other) past once in
                let member = in_at s0 h m.0 (client_of a) (length h) (from m.0 m.1) in
                never_aborted q r m.2.0 a member.place lists m.2.1 e member.event takes is member.is
                (ap (λ (n : Made). n.step) (sym member.made) ∙ m.2.2 ∙ ap (λ b. step.Abort m.2.0 b m.2.1) it.id_is)

    pub told : IsNoted it.t l it.at ops_to so
    told = noted_all it.t l it.at it.at 1 nothing_yet it.t.plan.ops it.attempt.ops it.follows.ops (omega arith) (noted_none it.t l it.at)

    -- a call of its operations that took effect was done
    pub done_in_ops : (k : ℕ) (w : Event) → In (made_at s0 h k w) l → it.at ≤ k → k < ops_to → TakesEffect s0 h k w → is_done (made_at s0 h k w).answer.reply ≡ true
    done_in_ops k w there low early takes2 =
        ⊎_elim (λ done. ap is_done done)
        (λ (failed : (made_at s0 h k w).answer.reply ≡ reply.Failed). absurd (none_failed it.t l it.at 1 nothing_yet it.t.plan.ops it.attempt.ops (made_at s0 h k w) it.follows.ops kept.keeps.good there low early failed))
        (effect_told s0 h k w takes2)

    -- a document with an own write is staged at the commit, with its content
    pub own_staged : (d : List ℕ) (w : OwnWrite) → so.own d ≡ Some w → (doc : DocState) × (stage : Stage) × (doc_then s0 h lawful q d ≡ Some doc) × (doc.stage ≡ Some stage) × (stage.attempt ≡ a) × (stage.content ≡ w.content) × (stage.kind ≡ w.kind)
    own_staged d w own_is =
        let it_is = held s0 h lawful q member.place r a (stamp s0 h lawful member.place member.event) d at.stages.stage decision.old decision.there decision.pending before stages (at.attempt ∙ it.id_is) no_more in
        (it_is.0, at.stages.stage, it_is.1, it_is.2, at.attempt ∙ it.id_is, at.content_is, at.kind_is)
      where
        at : OwnWriteAt it.t l it.at ops_to d w
        at = told.staged d w own_is

        member : Member s0 h at.call (client_of a) (length h)
        member = in_at s0 h at.call (client_of a) (length h) at.there

        place : at.call.answer.place ≡ member.place
        place = ap (λ (n : Made). n.answer.place) member.made

        before : member.place < q
        before = let p = place in let late = kept.late in let high = at.high in omega arith

        decision : AtDecision s0 h lawful q r a
        decision = at_decision s0 h lawful q r a e takes (is_commit lists is)

        stages : StagesEffectively s0 h member.place d at.stages.stage (stamp s0 h lawful member.place member.event)
        stages =
            let answer = ap (λ (n : Made). n.answer.reply) (sym member.made) in
            let done = done_is at.call.answer.reply at.stages.done in
            let takes2 = (done_told s0 h member.place member.event done.0 member.is (answer ∙ done.1)).0 in
            record { event = member.event; takes = takes2; expects = at.stages.expects; is = ap (λ (n : Made). n.step) (sym member.made) ∙ at.stages.is; cas = effect_row s0 h member.place member.event takes2 }

        writes_done : (k : ℕ) (f : Event) → WritesFor a d (made_at s0 h k f) (own s0 h f.actor k) → is_done (made_at s0 h k f).answer.reply ≡ true → WritesDone d (made_at s0 h k f)
        writes_done k f (licence.stages kind st) done = inl (record { expects = st.0; stage = st.1; is = st.2; done = done })
        writes_done k f (licence.unsticks_own x st was) done = inr (record { cas = x; is = st; done = done })

        late_none : (k : ℕ) (f : Event) → slice_get h k ≡ Some f → f.actor ≡ client_of a → ops_to ≤ k → k < it.attempt.span.to → WritesFor a d (made_at s0 h k f) (own s0 h f.actor k) → ⊥
        late_none k f at_k by late high (licence.stages kind st) = (no_late_write k f at_k by late high).0 d st.0 st.1 st.2
        late_none k f at_k by late high (licence.unsticks_own x st was) = (no_late_write k f at_k by late high).1 d x st

        no_more : WritesNoMore s0 h a d member.place q
        no_more k f from to takes2 by writes =
            let there = owned_call k a f takes2.event by in
            ⊎_elim (λ (early : k < ops_to).
            at.last (made_at s0 h k f) there (let p = place in omega arith) early (writes_done k f writes (done_in_ops k f there (let p = place in let low = at.low in omega arith) early takes2)))
            (λ (late : ops_to ≤ k). late_none k f takes2.event by late (let high = here.high in omega arith) writes) (cases_lt k ops_to)

    -- a document without one is not staged by the attempt
    pub not_own_unstaged : (d : List ℕ) (doc : DocState) (stage : Stage) → so.own d ≡ None → doc_then s0 h lawful q d ≡ Some doc → doc.stage ≡ Some stage → stage.attempt ≡ a → ⊥
    not_own_unstaged d doc stage free at staged own_one = go (staged_by s0 h lawful q d doc stage at staged)
      where
        go : StagedBy s0 h lawful d q doc stage → ⊥
        go (from_first since) =
            let sent = closer s0 h lawful q r a lists e takes.event (commit is) in
            lawful.fresh.no_staging sent.place a sent.event d doc stage sent.at (ap adds sent.is) (since 0 (omega arith)) staged own_one
        go (by_staging j g ex low takes2 st cas since) = ⊎_elim early late (cases_lt j ops_to)
          where
            inside : Inside a it j g
            inside = inside_of j a g takes2.event (staging d ex stage st own_one) it

            early : j < ops_to → ⊥
            early to =
                let done = done_in_ops j g inside.there inside.low to takes2 in
                let back = told.free d (made_at s0 h j g) free inside.there inside.low to (record { expects = ex; stage = stage; is = st; done = done }) in
                by_back back (in_at s0 h back.call (client_of a) (length h) back.there)
              where
                by_back : (back : TakenBack l ops_to d (made_at s0 h j g)) → Member s0 h back.call (client_of a) (length h) → ⊥
                by_back back member =
                    let place : back.call.answer.place ≡ member.place = ap (λ (n : Made). n.answer.place) member.made in
                    let after = back.after in let high = back.high in let late = kept.late in
                    let done = done_is back.call.answer.reply back.unsticks.done in
                    let takes3 = (done_told s0 h member.place member.event done.0 member.is (ap (λ (n : Made). n.answer.reply) (sym member.made) ∙ done.1)).0 in
                    changes_it s0 h lawful member.place d member.event doc takes3 (ap touches_doc (ap (λ (n : Made). n.step) (sym member.made) ∙ back.unsticks.is)) (since member.place (omega arith) (omega arith))
                    (since (suc member.place) (omega arith) (omega arith))

            late : ops_to ≤ j → ⊥
            late from = (no_late_write j g takes2.event (owner_of j a g takes2.event (staging d ex stage st own_one)).actor from inside.high).0 d ex stage st

    -- what a commit finds staged is what the log says that the attempt wrote
    pub data Wrote (d : List ℕ) : Type 0 where
      wrote : (doc : DocState) (stage : Stage) → doc_then s0 h lawful q d ≡ Some doc → doc.stage ≡ Some stage → stage.attempt ≡ a → write_set case.plans book.clients a d ≡ Some stage.content → Wrote d
      wrote_not : ((doc : DocState) (stage : Stage) → doc_then s0 h lawful q d ≡ Some doc → doc.stage ≡ Some stage → stage.attempt ≢ a) → write_set case.plans book.clients a d ≡ None → Wrote d

    pub wrote_as : (d : List ℕ) → Wrote d
    wrote_as d = go (so.own d) refl
      where
        set_is : (o : Option OwnWrite) → so.own d ≡ o → write_set case.plans book.clients a d ≡ option_map (λ w. w.content) o
        set_is o own_is = ap (λ x. option_map (λ (w : OwnWrite). w.content) x) (writes_are case book legal follow a it d ∙ own_is)

        go : (o : Option OwnWrite) → so.own d ≡ o → Wrote d
        go None own_is = wrote_not (λ doc stage at staged own_one. not_own_unstaged d doc stage own_is at staged own_one) (set_is None own_is)
        go (Some w) own_is = let x = own_staged d w own_is in wrote x.0 x.1 x.2 x.3 x.4 (set_is (Some w) own_is ∙ ap (λ c. Some c) (sym x.5))
