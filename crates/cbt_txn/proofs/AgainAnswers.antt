-- A write over an own write has the answer that its one call gives it.
use Rattle.std.proofs.Common.{◌≡◌, ℕ, ◌≤◌, Bool, true, false, cond, inl, inr, List, [], ◌∷◌, ◌++◌, Option, Some, None, ◌⊎◌, refl, sym, ap, ◌∙◌, subst}
use Rattle.cbt_json.specs.declared.value.Json.{Json}
use Rattle.cbt_expr.specs.declared.plans.Op.{Op}
use Rattle.cbt_model.specs.Fitting.{fits}
use Rattle.cbt_model.specs.History.{is_done}
use Rattle.cbt_model.specs.declared.documents.OpKind.{OpKind}
use Rattle.cbt_model.specs.declared.documents.OpKind.TheVariants.{Insert, Replace, Remove}
use Rattle.cbt_model.specs.declared.events.Answer.{Answer}
use Rattle.cbt_model.specs.declared.events.Made.{Made}
use Rattle.cbt_model.specs.declared.steps.Expect.TheVariants as expect
use Rattle.cbt_model.specs.declared.steps.Reply.{Reply}
use Rattle.cbt_model.specs.declared.steps.Reply.TheVariants as reply
use Rattle.cbt_model.specs.declared.steps.Step.{Step}
use Rattle.cbt_model.specs.declared.steps.Step.TheVariants as step
use Rattle.cbt_book.specs.OwnLists.{Descends}
use Rattle.cbt_book.specs.Outcomes.{DoneAt, is_refusal}
use Rattle.cbt_book.specs.Spans.{past_of, span_of}
use Rattle.cbt_book.specs.declared.operations.OpAnswer.TheVariants as answer
use Rattle.cbt_book.specs.declared.operations.When.{When}
use Rattle.cbt_book.specs.declared.operations.When.TheVariants as when
use Rattle.cbt_core.specs.OpAnswers.{HasCas, StagesOver, TakesBack, WriteAnswered, is_restaged}
use Rattle.cbt_core.specs.OpAnswers as answers
use Rattle.cbt_core.specs.OpCalls.{OpCalls, write_terms}
use Rattle.cbt_core.specs.Operations.{StandsAt, is_good}
use Rattle.cbt_core.specs.Walk.{AttemptTerms, OwnWrite, kind_over as kind_with, noted as noted_by, noted_as, own_kind}
use Rattle.cbt_core.proofs.runs.Past.{some_same}
use Rattle.cbt_attempt.specs.Notes.{stage_of}
use Rattle.cbt_attempt.specs.OwnWrites.{with_noted}
use Rattle.cbt_attempt.specs.declared.own.Own.{Own}
use Rattle.cbt_logs.specs.Operating.{IsAnswered, asked, log_of, sofar}
use Rattle.cbt_logs.proofs.Lists.{once_back}
use Rattle.cbt_stage.specs.Rewrites.{call_of, done, ended, kind_over, needs_call, takes_back, written_over}
use Rattle.cbt_stage.specs.Rewriting.{EndsOnce, EndsWriting}
use Rattle.cbt_stage.specs.declared.agains.Again.{Again}
use Rattle.cbt_stage.specs.declared.ends.PutEnd.{PutEnd}
use Rattle.cbt_stage.specs.declared.ends.PutEnd.TheVariants as put_end
use Rattle.cbt_stage.specs.declared.rewrites.Rewrite.{Rewrite}
use Rattle.cbt_stage.proofs.Rewriting as again_stands
use Rattle.cbt_txn.specs.Following.{Agrees, Answers, Goes, IsUnder, WritesAgain, is_whole}
use Rattle.cbt_txn.specs.Works.{answer_of, stamp_in, step_of, written}
use Rattle.cbt_txn.specs.declared.operations.Operations.{Operations}
use Rattle.cbt_txn.specs.declared.operations.Work.TheVariants as work
use Rattle.cbt_txn.proofs.Agreeing.{agrees_on, agrees_staged, agrees_unstaged}
use Rattle.cbt_txn.proofs.FirstCalls.{clash}
use Rattle.cbt_txn.proofs.PutAnswers.{asks_whole, done_is, under_written}
use Rattle.cbt_txn.proofs.Rewritten.{RewriteIs, rewrite_is}
use Rattle.cbt_txn.proofs.Taken.{Stood, again_bounded, called, made_of, stood_on, taken_in}
use Rattle.cbt_txn.proofs.Telling.{same_first}

-- the kinds: a write over an own write stages again, or takes it back
restages : (kind own : OpKind) → needs_call kind own ≡ true → takes_back kind own ≡ false → is_restaged kind own ≡ true
restages Insert Insert needed not = absurd (clash needed refl)
restages Insert Replace needed not = absurd (clash needed refl)
restages Insert Remove needed not = refl
restages Replace Insert needed not = refl
restages Replace Replace needed not = refl
restages Replace Remove needed not = absurd (clash needed refl)
restages Remove Insert needed not = absurd (clash refl not)
restages Remove Replace needed not = refl
restages Remove Remove needed not = absurd (clash needed refl)

same_kind : (kind own : OpKind) → kind_over kind own ≡ kind_with kind (Some own)
same_kind Insert own = refl
same_kind Replace Insert = refl
same_kind Replace Replace = refl
same_kind Replace Remove = refl
same_kind Remove own = refl

back_removes : (kind own : OpKind) → takes_back kind own ≡ true → (kind ≡ Remove) × (own ≡ Insert)
back_removes Remove Insert back = (refl, refl)
back_removes Remove Replace back = absurd (clash back refl)
back_removes Remove Remove back = absurd (clash back refl)
back_removes Insert own back = absurd (clash back refl)
back_removes Replace own back = absurd (clash back refl)

written_again : (own : Own) (kind : OpKind) (content : Option Json) → takes_back kind own.kind ≡ false
    → ◌≡◌ {A = Own} (written_over own kind content) (record { kind = kind_over kind own.kind; content = content; cas = None })
written_again own kind content not = by_back (takes_back kind own.kind) not
  where
    by_back : (b : Bool) → b ≡ false
        → ◌≡◌ {A = Own} (cond b (record { kind = own.kind; content = own.content; cas = None }) (record { kind = kind_over kind own.kind; content = content; cas = None }))
        (record { kind = kind_over kind own.kind; content = content; cas = None })
    by_back true is = absurd (clash refl is)
    by_back false is = refl

-- the call
call_stages : (o : Rewrite) → o.back ≡ false → call_of o ≡ step.Stage o.doc (expect.Cas o.cas) (stage_of o.attempt o.atr o.write)
call_stages o not = ap (λ b. cond b (step.Unstick o.doc o.cas) (step.Stage o.doc (expect.Cas o.cas) (stage_of o.attempt o.atr o.write))) not

call_unsticks : (o : Rewrite) → o.back ≡ true → call_of o ≡ step.Unstick o.doc o.cas
call_unsticks o back = ap (λ b. cond b (step.Unstick o.doc o.cas) (step.Stage o.doc (expect.Cas o.cas) (stage_of o.attempt o.atr o.write))) back

-- what it staged or took back is its answer
done_stands : (o : Rewrite) (place : ℕ) (back : Bool) → StandsAt place (answer_of (done back place))
    (cond back (step.Unstick o.doc o.cas) (step.Stage o.doc (expect.Cas o.cas) (stage_of o.attempt o.atr o.write)))
done_stands o place true = refl
done_stands o place false = (when.Own, refl)

call_stands : (o : Rewrite) (place : ℕ) (r : Reply) → is_done r ≡ true → StandsAt place (answer_of (ended o.back place r)) (call_of o)
call_stands o place (reply.Done c) is = done_stands o place o.back
call_stands o place _ is = absurd (clash is refl)

call_failed : (o : Rewrite) (place : ℕ) (r : Reply) → r ≡ reply.Failed → answer_of (ended o.back place r) ≡ answer.CallFailed place
call_failed o place r is = ap (λ r. answer_of (ended o.back place r)) is

module _ (t : AttemptTerms) (c : Operations) (l0 told : List Made) (o : Op) (it : Again) (s : Step) (ans : Answer)
    (falls : Descends (made_of s ans ∷ (told ++ l0))) (goes : Goes t c (told ++ l0) [] o) (on : WritesAgain t c it [] o)
    (asks : step_of (work.Again it) ≡ Some s) (fit : fits s ans.reply ≡ true) (timed : ans.now ≤ t.latest) where
  abbrev calls : List Made
  calls = made_of s ans ∷ []

  abbrev whole_list : List Made
  whole_list = made_of s ans ∷ (told ++ l0)

  abbrev end : PutEnd
  end = ended it.task.back ans.place ans.reply

  task : RewriteIs c.attempt it.task.doc on.kind on.content on.own it.task
  task = rewrite_is c.attempt it.task.doc on.kind on.content on.own it.task on.own_is on.task_is

  -- the own write as the answers have it
  known : (v : OwnWrite) × ((sofar t c.logs).own it.task.doc ≡ Some v) × (v.kind ≡ on.own.kind) × HasCas whole_list it.task.doc v it.task.cas
  known =
      let own = goes.agrees.own_some it.task.doc on.own on.own_is in
      let cas : own.0 ≡ it.task.cas = some_same (sym own.2 ∙ task.cas_is) in
      (own.1, own.3, own.4, once_back _ (made_of s ans ∷ []) (told ++ l0) (subst (λ x. HasCas (told ++ l0) it.task.doc own.1 x) cas own.6))

  step_is : s ≡ call_of it.task
  step_is = called it s asks

  not_back : it.task.back ≡ false → takes_back on.kind on.own.kind ≡ false
  not_back not = sym task.back_is ∙ not

  written_is : it.task.back ≡ false → ◌≡◌ {A = Own} it.task.write (record { kind = kind_over on.kind on.own.kind; content = on.content; cas = None })
  written_is not = task.write_is ∙ written_again on.own on.kind on.content (not_back not)

  kind_is : it.task.back ≡ false → it.task.write.kind ≡ kind_with on.kind (own_kind ((sofar t c.logs).own it.task.doc))
  kind_is not =
      ap (λ (w : Own). w.kind) (written_is not) ∙ same_kind on.kind on.own.kind ∙ ap (λ k. kind_with on.kind (Some k)) (sym known.2)
      ∙ ap (λ w. kind_with on.kind (own_kind w)) (sym known.1)

  stages_over : it.task.back ≡ false → StagesOver t whole_list (sofar t c.logs) it.task.doc on.kind on.content calls when.Own s
  stages_over not =
      answers.over_own known.0 it.task.cas (stage_of it.task.attempt it.task.atr it.task.write) known.1
      (ap (λ k. is_restaged on.kind k) known.2 ∙ restages on.kind on.own.kind on.needed (not_back not)) known.3 refl
      (record { attempt = on.stands.id_is; kind_is = kind_is not; content_is = ap (λ (w : Own). w.content) (written_is not) })
      (step_is ∙ call_stages it.task not)

  takes : it.task.back ≡ true → TakesBack whole_list (sofar t c.logs) it.task.doc on.kind s
  takes back =
      let kinds = back_removes on.kind on.own.kind (sym task.back_is ∙ back) in
      record {
        removes = kinds.0;
        own = known.0;
        own_is = known.1;
        inserted = known.2 ∙ kinds.1;
        cas = it.task.cas;
        cas_is = known.3;
        unsticks = step_is ∙ call_unsticks it.task back;
      }

  answered_by : (P : Made → Type 0) (e : EndsWriting it.task P calls) → P (made_of s ans)
  answered_by P e = subst P (sym (same_first (made_of s ans) e.call [] [] e.calls_are)) e.answered

  ends : EndsOnce it.task end calls
  ends = (again_stands.stands_on (write_terms t) it [] s ans asks fit on.stands).knows

  by_back : (b : Bool) → it.task.back ≡ b
      → ((base : When) × StagesOver t whole_list (sofar t c.logs) it.task.doc on.kind on.content calls base s)
      ⊎ TakesBack whole_list (sofar t c.logs) it.task.doc on.kind s
  by_back true back = inr (takes back)
  by_back false not = inl (when.Own, stages_over not)

  right : (e : PutEnd) → EndsOnce it.task e calls
      → WriteAnswered t whole_list (sofar t c.logs) it.task.doc on.kind on.content calls (answer_of e)
  right (put_end.Staged place base) by =
      inl (
        answered_by (DoneAt place) by.2,
        subst (λ b. StagesOver t whole_list (sofar t c.logs) it.task.doc on.kind on.content calls b s) (sym by.1) (stages_over by.0),
      )
  right (put_end.Unstaged place) by = inl (answered_by (DoneAt place) by.1, takes by.0)
  right (put_end.Blocked who) by = absurd by
  right put_end.Moved by = record {
    newest = made_of s ans;
    older = [];
    calls_are = refl;
    writes = by_back it.task.back refl;
    refused = answered_by (λ m. is_refusal m.answer.reply ≡ true) by;
  }
  right (put_end.CallFailed place) by = again_stands.ends_failed it.task place calls by

  bounded : OpCalls t (sofar t c.logs) (asked t c.logs o) calls
  bounded =
      subst (λ r. OpCalls t (sofar t c.logs) r calls) (sym on.asks)
      (again_bounded (write_terms t) (sofar t c.logs) on.kind it s ans asks
      (again_stands.stands_on (write_terms t) it [] s ans asks fit on.stands).calls)

  is_answered : IsAnswered t whole_list c.logs o calls (answer_of end)
  is_answered = record {
    answered = subst (λ r. answers.Answered t whole_list (sofar t c.logs) r calls (answer_of end)) (sym on.asks) (right end ends);
    bounded = bounded;
    stands = ((λ is. subst (λ k. StandsAt ans.place (answer_of end) k) (sym step_is) (call_stands it.task ans.place ans.reply is)), tt);
    failed = ((λ is. call_failed it.task ans.place ans.reply is), tt);
    in_time = (timed, tt);
  }

  -- the attempt notes it
  abbrev AgreesBy : PutEnd → Type 0
  AgreesBy e = Agrees (noted_by o (log_of c.logs (told ++ l0) calls (answer_of e)) (sofar t c.logs))
      (written c.attempt it.task.doc it.task.write e (stamp_in ans.reply)) whole_list

  agrees_older : Agrees (sofar t c.logs) c.attempt whole_list
  agrees_older = agrees_on (sofar t c.logs) c.attempt (made_of s ans ∷ []) (told ++ l0) falls goes.agrees

  write_whole : (kind own : OpKind) (content : Option Json) → is_whole kind content ≡ true → needs_call kind own ≡ true → is_whole (kind_over kind own) content ≡ true
  write_whole Insert own content whole needed = whole
  write_whole Replace Insert content whole needed = whole
  write_whole Replace Replace content whole needed = whole
  write_whole Replace Remove content whole needed = whole
  write_whole Remove own content whole needed = whole

  staged_agrees : (place : ℕ) (base : When) → it.task.back ≡ false → EndsWriting it.task (DoneAt place) calls → AgreesBy (put_end.Staged place base)
  staged_agrees place base not e =
      let so = sofar t c.logs in
      let d = it.task.doc in
      let done = answered_by (DoneAt place) e in
      let cas = done_is ans.reply done.1 in
      let w : Own = record { kind = it.task.write.kind; content = it.task.write.content; cas = stamp_in ans.reply } in
      let v : OwnWrite = record { kind = kind_with on.kind (own_kind (so.own d)); content = on.content; place = place } in
      subst (λ r. Agrees (noted_as r (span_of (past_of (told ++ l0)) calls) (answer.Staged place base) so)
      (record c.attempt { writes = with_noted c.attempt.writes d w }) whole_list) (sym on.asks)
      (agrees_staged so c.attempt whole_list agrees_older d w v cas.0 (ap stamp_in cas.1) (sym (kind_is not))
      (sym (ap (λ (w : Own). w.content) (written_is not)))
      (inl (done.0, (stage_of it.task.attempt it.task.atr it.task.write, (expect.Cas it.task.cas, step_is ∙ call_stages it.task not, cas.1))))
      (goes.agrees.sent d on.own on.own_is)
      (subst (λ (w : Own). is_whole w.kind w.content ≡ true) (sym (written_is not))
      (write_whole on.kind on.own.kind on.content (asks_whole so.bound o d on.kind on.content on.asks) on.needed)))

  agrees_by : (e : PutEnd) → EndsOnce it.task e calls → is_good (answer_of e) ≡ true → AgreesBy e
  agrees_by (put_end.Staged place base) by good = staged_agrees place base by.0 by.2
  agrees_by (put_end.Unstaged place) by good =
      subst (λ r. Agrees (noted_as r (span_of (past_of (told ++ l0)) calls) (answer.Unstaged place) (sofar t c.logs))
      (written c.attempt it.task.doc it.task.write (put_end.Unstaged place) (stamp_in ans.reply)) whole_list) (sym on.asks)
      (agrees_unstaged (sofar t c.logs) c.attempt whole_list agrees_older it.task.doc)
  agrees_by (put_end.Blocked who) by good = absurd by
  agrees_by put_end.Moved by good = absurd (clash good refl)
  agrees_by (put_end.CallFailed place) by good = absurd (clash good refl)

  pub again_answers : IsUnder t c.attempt → Stood t c l0 told []
      → Answers t (taken_in c ans.place (written c.attempt it.task.doc it.task.write end (stamp_in ans.reply))) l0 told calls (answer_of end)
  again_answers under stood =
      let stood = stood_on t c l0 told [] s ans (written c.attempt it.task.doc it.task.write end (stamp_in ans.reply)) stood in
      record {
        op = o;
        next = goes.next;
        under = under_written t c.attempt it.task.doc it.task.write end (stamp_in ans.reply) under;
        first_is = stood.first_is;
        past_is = stood.past_is;
        tells = stood.tells;
        answered = is_answered;
        bound = goes.bound;
        agrees = agrees_by end ends;
      }
