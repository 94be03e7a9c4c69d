-- A put that has ended has the answer that its calls give it.
use Rattle.std.proofs.Common.{◌≡◌, ◌≢◌, ℕ, ◌≤◌, Bool, true, false, inl, inr, ⊎_elim, List, [], ◌∷◌, ◌++◌, Option, Some, None, Result, Ok, Err, refl, sym, ap, ◌∙◌, subst}
use Rattle.std.proofs.lemmas.List.{append_assoc}
use Rattle.cbt_json.specs.declared.value.Json.{Json}
use Rattle.cbt_expr.specs.Values.{value_of}
use Rattle.cbt_expr.specs.declared.plans.Op.{Op}
use Rattle.cbt_expr.specs.declared.plans.Op.TheVariants as op
use Rattle.cbt_model.specs.Fitting.{fits}
use Rattle.cbt_model.specs.History.{is_done}
use Rattle.cbt_model.specs.declared.documents.OpKind.{OpKind}
use Rattle.cbt_model.specs.declared.documents.OpKind.TheVariants.{Insert, Replace, Remove}
use Rattle.cbt_model.specs.declared.events.Answer.{Answer}
use Rattle.cbt_model.specs.declared.events.Made.{Made}
use Rattle.cbt_model.specs.declared.steps.Reply.{Reply}
use Rattle.cbt_model.specs.declared.steps.Reply.TheVariants as reply
use Rattle.cbt_model.specs.declared.steps.Step.{Step}
use Rattle.cbt_model.specs.declared.steps.Step.TheVariants as step
use Rattle.cbt_book.specs.Calls.{GetCalls, MayGet, writes_doc}
use Rattle.cbt_book.specs.OwnLists.{Descends, Each, Once, during}
use Rattle.cbt_book.specs.Outcomes.{DoneAt, is_refusal, expected}
use Rattle.cbt_book.specs.ReadAt.{Reading, IsReadAt}
use Rattle.cbt_book.specs.ReadAt as read_at
use Rattle.cbt_book.specs.Spans.{past_of, span_of}
use Rattle.cbt_book.specs.declared.operations.OpAnswer.{OpAnswer}
use Rattle.cbt_book.specs.declared.operations.OpAnswer.TheVariants as answer
use Rattle.cbt_book.specs.declared.operations.When.{When}
use Rattle.cbt_book.specs.declared.operations.When.TheVariants as when
use Rattle.cbt_core.specs.OpAnswers.{Carries, HasCas, StagesOver, StandsOn, WriteAnswered, agrees, agrees_last}
use Rattle.cbt_core.specs.OpAnswers as answers
use Rattle.cbt_core.specs.OpCalls.{write_terms}
use Rattle.cbt_core.specs.Operations.{StandsAt, is_good}
use Rattle.cbt_core.specs.Walk.{AttemptTerms, LastRead, OwnWrite, Request, Sofar, Writes, content_of, kind_over, noted as noted_by, noted_as, own_kind, request_of}
use Rattle.cbt_attempt.specs.Notes.{stage_of}
use Rattle.cbt_attempt.specs.OwnWrites.{with_noted}
use Rattle.cbt_attempt.specs.declared.attempt.Attempt.{Attempt}
use Rattle.cbt_attempt.specs.declared.own.Own.{Own}
use Rattle.cbt_logs.specs.Operating.{IsAnswered, log_of, sofar}
use Rattle.cbt_logs.proofs.Lists.{descends_back, each_join, each_more, once_back}
use Rattle.cbt_stage.specs.Phases as phases
use Rattle.cbt_stage.specs.Standing as put
use Rattle.cbt_stage.specs.Tasks.{is_staging, record_added, stages}
use Rattle.cbt_stage.specs.declared.ends.PutEnd.{PutEnd}
use Rattle.cbt_stage.specs.declared.ends.PutEnd.TheVariants as put_end
use Rattle.cbt_stage.specs.declared.puts.Put.{Put}
use Rattle.cbt_stage.specs.declared.tasks.Task.{Task}
use Rattle.cbt_stage.proofs.Joining.{blocked_behind, failed_behind}
use Rattle.cbt_stage.proofs.Knowing.{ends_by}
use Rattle.cbt_stage.proofs.Stands as put_stands
use Rattle.cbt_txn.specs.Feeding.{with_sent}
use Rattle.cbt_txn.specs.Following.{Agrees, Answers, Goes, IsUnder, PutsOn, is_whole}
use Rattle.cbt_txn.specs.Works.{answer_of, put_noted, stamp_in, step_of, written}
use Rattle.cbt_txn.specs.declared.operations.Operations.{Operations}
use Rattle.cbt_txn.specs.declared.operations.Work.TheVariants as work
use Rattle.cbt_txn.proofs.Agreeing.{agrees_on, agrees_staged, during_on}
use Rattle.cbt_txn.proofs.FirstCalls.{clash}
use Rattle.cbt_txn.proofs.Machines.{is_last, put_fails, put_stands_at}
use Rattle.cbt_txn.proofs.Readings.{read_stands}
use Rattle.cbt_txn.proofs.Taken.{Stood, made_of, put_operates, stood_on, taken_in}
use Rattle.cbt_txn.proofs.Telling.{same_first}

-- what an operation writes is whole
abbrev Whole : Request → Type 0
Whole (Writes d kind (Ok content)) = is_whole kind content ≡ true
Whole _ = Unit {0}

insert_whole : (d : List ℕ) (r : Result Json ℕ) → Whole (Writes d Insert (content_of r))
insert_whole d (Ok v) = refl
insert_whole d (Err part) = tt

replace_whole : (d : List ℕ) (r : Result Json ℕ) → Whole (Writes d Replace (content_of r))
replace_whole d (Ok v) = refl
replace_whole d (Err part) = tt

whole_of : (bound : List ℕ → Option Json) (o : Op) → Whole (request_of bound o)
whole_of bound (op.Get d name) = tt
whole_of bound (op.Insert d value) = insert_whole d (value_of bound value)
whole_of bound (op.Replace d value) = replace_whole d (value_of bound value)
whole_of bound (op.Remove d) = refl
whole_of bound (op.Need test) = tt

pub asks_whole : (bound : List ℕ → Option Json) (o : Op) (d : List ℕ) (kind : OpKind) (content : Option Json) → request_of bound o ≡ Writes d kind (Ok content)
    → is_whole kind content ≡ true
asks_whole bound o d kind content is = subst Whole is (whole_of bound o)

-- a document was read so also where other calls came after
read_behind : (d : List ℕ) (it : Reading) (xs l : List Made) → IsReadAt d it l → IsReadAt d it (xs ++ l)
read_behind d it xs l (read_at.absent value cas by gone once) = read_at.absent value cas by gone (once_back _ xs l once)
read_behind d it xs l (read_at.unstaged x cas by gone once) = read_at.unstaged x cas by gone (once_back _ xs l once)
read_behind d it xs l (read_at.uncommitted x stage e cas by gone state once) = read_at.uncommitted x stage e cas by gone state (once_back _ xs l once)
read_behind d it xs l (read_at.committed x stage e cas by gone value state once) = read_at.committed x stage e cas by gone value state (once_back _ xs l once)
read_behind d it xs l (read_at.dead x stage cas by gone once) = read_at.dead x stage cas by gone (once_back _ xs l once)

stands_behind : (so : Sofar) (d : List ℕ) (kind : OpKind) (it : Reading) (older reads xs zs : List Made)
    → ((q : List ℕ) (last : LastRead) → so.read q ≡ Some last → last.span.to ≤ past_of older) → Descends ((xs ++ reads) ++ older)
    → StandsOn (reads ++ older) so d kind it reads → StandsOn ((xs ++ reads) ++ older) so d kind it (zs ++ reads)
stands_behind so d kind it older reads xs zs ends falls (answers.on_earlier last is agreed read value moment) =
    let split : Descends (xs ++ (reads ++ older)) = subst Descends (append_assoc xs reads older) falls in
    let low : last.span.to ≤ past_of older = ends d last is in
    let same : during last.span (reads ++ older) ≡ during last.span ((xs ++ reads) ++ older) =
    during_on last reads older (descends_back xs (reads ++ older) split) low ∙ sym (during_on last (xs ++ reads) older falls low) in
    answers.on_earlier last is agreed (subst (λ k. IsReadAt d it k) same read) value moment
stands_behind so d kind it older reads xs zs ends falls (answers.on_own other read agreed) = answers.on_own other (read_behind d it zs reads read) agreed

first_kind : (kind : OpKind) → kind_over kind None ≡ kind
first_kind Insert = refl
first_kind Replace = refl
first_kind Remove = refl

-- calls that write nothing
unwritten_step : (place : ℕ) (a : OpAnswer) (s : Step) → (writes_doc s ≡ true → ⊥) → StandsAt place a s
unwritten_step place a (step.Stage d e stage) none = absurd (none refl)
unwritten_step place a (step.Unstick d x) none = absurd (none refl)
unwritten_step place a _ none = tt

abbrev Stands : OpAnswer → Made → Type 0
Stands a m = is_done m.answer.reply ≡ true → StandsAt m.answer.place a m.step

unwritten_stand : (a : OpAnswer) (l : List Made) → ¬ Once (λ n _. writes_doc n.step ≡ true) l → Each (λ m _. Stands a m) l
unwritten_stand a [] none = tt
unwritten_stand a (m ∷ l) none =
    ((λ done. unwritten_step m.answer.place a m.step (λ is. none (inl is))), unwritten_stand a l (λ once. none (inr once)))

gets_stand : (a : OpAnswer) (d : List ℕ) (l : List Made) → GetCalls d l → Each (λ m _. Stands a m) l
gets_stand a d l gets = each_more (λ m. MayGet d m.step) (Stands a) l (λ m may done. read_stands m.answer.place a d m.step may) gets.only

pub done_is : (r : Reply) → is_done r ≡ true → (x : ℕ) × (r ≡ reply.Done x)
done_is (reply.Done x) done = (x, refl)
done_is _ done = absurd (clash done refl)

-- terms stay
pub under_sent : (t : AttemptTerms) (a : Attempt) (sent : Option ℕ) → IsUnder t a → IsUnder t (with_sent a sent)
under_sent t a None it = it
under_sent t a (Some r) it = record { id_is = it.id_is; atrs_is = it.atrs_is; hold_is = it.hold_is }

pub under_written : (t : AttemptTerms) (a : Attempt) (d : List ℕ) (write : Own) (end : PutEnd) (stamp : Option ℕ) → IsUnder t a
    → IsUnder t (written a d write end stamp)
under_written t a d write (put_end.Staged place base) stamp it = record { id_is = it.id_is; atrs_is = it.atrs_is; hold_is = it.hold_is }
under_written t a d write (put_end.Unstaged place) stamp it = record { id_is = it.id_is; atrs_is = it.atrs_is; hold_is = it.hold_is }
under_written t a d write (put_end.CallFailed place) stamp it = record { id_is = it.id_is; atrs_is = it.atrs_is; hold_is = it.hold_is }
under_written t a d write (put_end.Blocked by) stamp it = it
under_written t a d write put_end.Moved stamp it = it

pub under_noted : (t : AttemptTerms) (a : Attempt) (task : Task) (staging : Bool) (end : PutEnd) (stamp : Option ℕ) → IsUnder t a
    → IsUnder t (put_noted a task staging end stamp)
under_noted t a task true end stamp it = under_written t a task.doc task.write end stamp it
under_noted t a task false end stamp it = it

module _ (t : AttemptTerms) (c : Operations) (l0 told mine reads : List Made) (o : Op) (it : Put) (s : Step) (ans : Answer)
    (falls : Descends (((made_of s ans ∷ mine) ++ reads) ++ (told ++ l0))) (goes : Goes t c (told ++ l0) (mine ++ reads) o)
    (on : PutsOn t c (told ++ l0) it mine reads o) (going : phases.end_of it ≡ None) (asks : step_of (work.Put it) ≡ Some s) (fit : fits s ans.reply ≡ true)
    (timed : ans.now ≤ t.latest) (end : PutEnd) (ended : phases.end_in (phases.after it.task it.phase ans.place ans.reply) ≡ Some end) where
  abbrev calls : List Made
  calls = (made_of s ans ∷ mine) ++ reads

  abbrev whole_list : List Made
  whole_list = ((made_of s ans ∷ mine) ++ reads) ++ (told ++ l0)

  own_none : (sofar t c.logs).own it.task.doc ≡ None
  own_none = goes.agrees.own_none it.task.doc on.unwritten

  ends : put.EndsBy it.task end (made_of s ans ∷ mine)
  ends =
      let stands = put_stands.stands_on (write_terms t) it mine s ans asks fit on.stands in
      ends_by it.task (phases.after it.task it.phase ans.place ans.reply) (made_of s ans ∷ mine) end stands.knows ended

  task_stands : (zs : List Made) → StandsOn whole_list (sofar t c.logs) it.task.doc it.task.write.kind it.task.seen (zs ++ reads)
  task_stands zs =
      stands_behind (sofar t c.logs) it.task.doc it.task.write.kind it.task.seen (told ++ l0) reads (made_of s ans ∷ mine) zs goes.agrees.ended falls on.stands_on

  stages_over : s ≡ stages it.task
      → StagesOver t whole_list (sofar t c.logs) it.task.doc it.task.write.kind it.task.write.content calls (when.At it.task.seen.moment) s
  stages_over is =
      answers.over_reading it.task.seen (stage_of it.task.attempt it.task.atr it.task.write) own_none (task_stands (made_of s ans ∷ mine)) refl
      (record {
        attempt = on.of_attempt;
        kind_is = sym (ap (λ w. kind_over it.task.write.kind (own_kind w)) own_none ∙ first_kind it.task.write.kind);
        content_is = refl;
      }) is

  newest_is : (P : Made → Type 0) (e : put.EndsStaging it.task P (made_of s ans ∷ mine)) → made_of s ans ≡ e.newest
  newest_is P e = same_first (made_of s ans) e.newest mine e.older e.calls_are

  staged_by : (P : Made → Type 0) (e : put.EndsStaging it.task P (made_of s ans ∷ mine)) → s ≡ stages it.task
  staged_by P e = ap (λ (m : Made). m.step) (newest_is P e) ∙ e.stages_write

  answered_by : (P : Made → Type 0) (e : put.EndsStaging it.task P (made_of s ans ∷ mine)) → P (made_of s ans)
  answered_by P e = subst P (sym (newest_is P e)) e.answered

  right : (e : PutEnd) → put.EndsBy it.task e (made_of s ans ∷ mine)
      → WriteAnswered t whole_list (sofar t c.logs) it.task.doc it.task.write.kind it.task.write.content calls (answer_of e)
  right (put_end.Staged place base) by =
      inl (
        answered_by (DoneAt place) by.1,
        subst (λ b. StagesOver t whole_list (sofar t c.logs) it.task.doc it.task.write.kind it.task.write.content calls b s) (sym by.0)
            (stages_over (staged_by (DoneAt place) by.1)),
      )
  right (put_end.Unstaged place) by = absurd by
  right (put_end.Blocked who) by = record {
    own_none = own_none;
    it = it.task.seen;
    atr = by.atr;
    older = reads;
    asks = blocked_behind by.atr who (made_of s ans ∷ mine) reads by.asked;
    stands = task_stands [];
    staged_by = by.waits.staged_by;
    there = by.waits.there;
  }
  right put_end.Moved by = record {
    newest = made_of s ans;
    older = mine ++ reads;
    calls_are = refl;
    writes = inl (when.At it.task.seen.moment, stages_over (staged_by (λ m. is_refusal m.answer.reply ≡ true) by));
    refused = answered_by (λ m. is_refusal m.answer.reply ≡ true) by;
  }
  right (put_end.CallFailed place) by = failed_behind place (made_of s ans ∷ mine) reads by

  reads_stand : Each (λ m _. Stands (answer_of end) m) reads
  reads_stand =
      ⊎_elim (λ (empty : reads ≡ []). subst (λ k. Each (λ m _. Stands (answer_of end) m) k) (sym empty) tt)
      (λ (gets : GetCalls it.task.doc reads × (agrees_last it.task.write.kind ((sofar t c.logs).read it.task.doc) ≡ false)).
      gets_stand (answer_of end) it.task.doc reads gets.0) on.reads_are

  is_answered : IsAnswered t whole_list c.logs o calls (answer_of end)
  is_answered = record {
    answered = subst (λ r. answers.Answered t whole_list (sofar t c.logs) r calls (answer_of end)) (sym on.asks) (right end ends);
    bounded = put_operates t c (told ++ l0) s ans fit o it mine reads on own_none asks;
    stands = (
      (λ done. put_stands_at it.task it.phase ans.place s ans.reply end asks ended done),
      each_join (Stands (answer_of end)) mine reads (unwritten_stand (answer_of end) mine (on.stands.room.unwritten going)) reads_stand,
    );
    failed = (
      (λ is. ap answer_of (put_fails it.task it.phase ans.place s ans.reply end asks ended is)),
      each_more (λ m. (m.answer.now ≤ t.latest) × (m.answer.reply ≢ reply.Failed))
          (λ m. m.answer.reply ≡ reply.Failed → answer_of end ≡ answer.CallFailed m.answer.place) (mine ++ reads) (λ m fine is. absurd (fine.1 is)) goes.fine,
    );
    in_time = (
      timed,
      each_more (λ m. (m.answer.now ≤ t.latest) × (m.answer.reply ≢ reply.Failed)) (λ m. m.answer.now ≤ t.latest) (mine ++ reads)
          (λ m fine. fine.0) goes.fine,
    );
  }

  -- the attempt notes what was staged
  abbrev noting : Option Step → PutEnd → Attempt
  noting st e = put_noted (with_sent c.attempt (record_added st)) it.task (is_staging st) e (stamp_in ans.reply)

  abbrev AgreesBy : Attempt → PutEnd → Type 0
  AgreesBy a e = Agrees (noted_by o (log_of c.logs (told ++ l0) calls (answer_of e)) (sofar t c.logs)) a whole_list

  staged_agrees : (place : ℕ) (base : When) → put.EndsStaging it.task (DoneAt place) (made_of s ans ∷ mine)
      → AgreesBy (noting (Some (stages it.task)) (put_end.Staged place base)) (put_end.Staged place base)
  staged_agrees place base e =
      let so = sofar t c.logs in
      let d = it.task.doc in
      let kind = it.task.write.kind in
      let content = it.task.write.content in
      let is = staged_by (DoneAt place) e in
      let done = answered_by (DoneAt place) e in
      let cas = done_is ans.reply done.1 in
      let w : Own = record { kind = kind; content = content; cas = stamp_in ans.reply } in
      let v : OwnWrite = record { kind = kind_over kind (own_kind (so.own d)); content = content; place = place } in
      let last = is_last it.task it.phase (ap is_staging asks ∙ ap (λ k. is_staging (Some k)) is) in
      subst (λ r. Agrees (noted_as r (span_of (past_of (told ++ l0)) calls) (answer.Staged place base) so)
      (record c.attempt { writes = with_noted c.attempt.writes d w }) whole_list) (sym on.asks)
      (agrees_staged so c.attempt whole_list (agrees_on so c.attempt calls (told ++ l0) falls goes.agrees) d w v cas.0 (ap stamp_in cas.1)
      (ap (λ w. kind_over kind (own_kind w)) own_none ∙ first_kind kind) refl
      (inl (done.0, (stage_of it.task.attempt it.task.atr it.task.write, (expected it.task.seen.cas, is, cas.1)))) (on.sent last)
      (asks_whole so.bound o d kind content on.asks))

  agrees_by : (e : PutEnd) → put.EndsBy it.task e (made_of s ans ∷ mine) → is_good (answer_of e) ≡ true → AgreesBy (noting (phases.step_of it) e) e
  agrees_by (put_end.Staged place base) by good =
      subst (λ st. AgreesBy (noting st (put_end.Staged place base)) (put_end.Staged place base))
      (sym (asks ∙ ap Some (staged_by (DoneAt place) by.1))) (staged_agrees place base by.1)
  agrees_by (put_end.Unstaged place) by good = absurd by
  agrees_by (put_end.Blocked who) by good = absurd (clash good refl)
  agrees_by put_end.Moved by good = absurd (clash good refl)
  agrees_by (put_end.CallFailed place) by good = absurd (clash good refl)

  pub put_answers : IsUnder t c.attempt → Stood t c l0 told (mine ++ reads)
      → Answers t (taken_in c ans.place (noting (phases.step_of it) end)) l0 told calls (answer_of end)
  put_answers under stood =
      let stood = stood_on t c l0 told (mine ++ reads) s ans (noting (phases.step_of it) end) stood in
      record {
        op = o;
        next = goes.next;
        under = under_noted t (with_sent c.attempt (record_added (phases.step_of it))) it.task (is_staging (phases.step_of it)) end (stamp_in ans.reply)
            (under_sent t c.attempt (record_added (phases.step_of it)) under);
        first_is = stood.first_is;
        past_is = stood.past_is;
        tells = stood.tells;
        answered = is_answered;
        bound = goes.bound;
        agrees = agrees_by end ends;
      }
