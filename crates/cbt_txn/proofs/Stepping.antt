-- Operations begin one after another, and answers are taken in.
use Rattle.std.proofs.Common.{◌≡◌, ℕ, suc, ◌<◌, ◌≤◌, Bool, true, false, List, [], ◌∷◌, ◌++◌, length, drop, get_or, Option, Some, None, inr, Result, Ok, Err, IfOk, OnOk, OnErr, refl, sym, ap, ◌∙◌, subst}
use Rattle.std.proofs.Math.Seq.{drop-cons}
use Rattle.std.proofs.lemmas.List.{append_assoc}
use Rattle.std.proofs.lemmas.Option.{none-some}
use Rattle.cbt_json.specs.declared.value.Json.{Json}
use Rattle.cbt_expr.specs.declared.plans.Op.{Op}
use Rattle.cbt_model.specs.Fitting.{fits}
use Rattle.cbt_model.specs.declared.events.Answer.{Answer}
use Rattle.cbt_model.specs.declared.events.Made.{Made}
use Rattle.cbt_model.specs.declared.steps.Reply.{Reply}
use Rattle.cbt_model.specs.declared.steps.Step.{Step}
use Rattle.cbt_book.specs.OwnLists.{Descends}
use Rattle.cbt_book.specs.Spans.{past_of}
use Rattle.cbt_book.specs.declared.operations.OpAnswer.{OpAnswer}
use Rattle.cbt_book.specs.declared.operations.OpLog.{OpLog}
use Rattle.cbt_core.specs.Attempts.{all_good}
use Rattle.cbt_core.specs.Operations.{is_good}
use Rattle.cbt_core.specs.Walk.{AttemptTerms, Sofar, nothing_yet, walked}
use Rattle.cbt_attempt.specs.OwnWrites.{noted}
use Rattle.cbt_attempt.specs.declared.attempt.Attempt.{Attempt}
use Rattle.cbt_logs.specs.Operating.{ComesNext}
use Rattle.cbt_stage.specs.Phases as put
use Rattle.cbt_stage.specs.Rewrites as again
use Rattle.cbt_stage.specs.Tasks.{is_staging, record_added}
use Rattle.cbt_stage.specs.declared.ends.PutEnd.{PutEnd}
use Rattle.cbt_stage.specs.declared.tasks.Task.{Task}
use Rattle.cbt_txn.specs.Feeding.{fed, learnt, logged, went_on, with_sent, with_staging}
use Rattle.cbt_txn.specs.Following.{Agrees, Answers, Between, Fits, Follows, GoesOn, Halts, IsNew, IsUnder, NotedOnce}
use Rattle.cbt_txn.specs.Works.{stamp_in, step_of}
use Rattle.cbt_txn.specs.declared.operations.Fed.{Fed}
use Rattle.cbt_txn.specs.declared.operations.Operations.{Operations}
use Rattle.cbt_txn.specs.declared.operations.Work.{Work}
use Rattle.cbt_txn.specs.declared.operations.Work.TheVariants as work
use Rattle.cbt_txn.proofs.PutAnswers.{under_noted, under_sent, under_written}
use Rattle.cbt_txn.proofs.Taken.{Stood, late_follows, made_of, operates, taken_in}
use Rattle.cbt_txn.proofs.Takings.{taken}
use Rattle.cbt_txn.proofs.Telling.{TellsOn, answers_go_on, answers_refuse, answers_tell}

-- the operation at the next place
pub comes_next : (t : AttemptTerms) (logs : List OpLog) (ops : List Op) (at : ℕ) (o : Op) → t.plan.ops ≡ ops → length logs ≡ at → at < length ops
    → o ≡ get_or ops at o → all_good logs ≡ true → ComesNext t logs o
comes_next t logs ops at o same at_is within is good = record {
  rest = drop (suc at) ops;
  left = ap (λ n. drop n t.plan.ops) at_is ∙ ap (drop at) same ∙ drop-cons ops at o within ∙ ap (λ k. k ∷ drop (suc at) ops) (sym is);
  good = good;
}

-- what is so of any result
pub on_err_of : {A E : Type 0} (r : Result A E) (P : Type 0) → P → OnErr r P
on_err_of (Ok x) P it = tt
on_err_of (Err e) P it = it

pub on_ok_of : {A E : Type 0} (r : Result A E) (P : Type 0) → P → OnOk r P
on_ok_of (Ok x) P it = it
on_ok_of (Err e) P it = tt

pub on_err_more : {A E : Type 0} (r : Result A E) (P Q : Type 0) → (P → Q) → OnErr r P → OnErr r Q
on_err_more (Ok x) P Q more it = tt
on_err_more (Err e) P Q more it = more it

-- an answer is told, and the next operation begins where that was good
module _ (t : AttemptTerms) (c : Operations) (l0 told calls : List Made) (a : OpAnswer) (it : Answers t c l0 told calls a) (more : TellsOn t c l0 told calls a) where
  new_by : (ops : List Op) → t.plan.ops ≡ ops → (b : Bool) → is_good a ≡ b → (new : Operations) → new ≡ went_on (is_good a) (logged ops c a)
      → new ≡ went_on b (logged t.plan.ops c a)
  new_by ops same b is new new_is = new_is ∙ ap (λ b. went_on b (logged ops c a)) is ∙ ap (λ o. went_on b (logged o c a)) (sym same)

  pub goes_by : (ops : List Op) → t.plan.ops ≡ ops → (b : Bool) → is_good a ≡ b → (new : Operations) → new ≡ went_on (is_good a) (logged ops c a)
      → GoesOn b t new l0 (calls ++ told)
  goes_by ops same true is new new_is =
      subst (λ n. Between t n l0 (calls ++ told)) (sym (new_by ops same true is new new_is)) (answers_go_on t c l0 told calls a it more is)
  goes_by ops same false is new new_is =
      subst (λ n. Follows t n l0 (calls ++ told)) (sym (new_by ops same false is new new_is)) (answers_refuse t c l0 told calls a it more is)

  pub goes_if : (ops : List Op) → t.plan.ops ≡ ops → {E : Type 0} (r : Result Bool E) (new : Operations) → IfOk r (λ good. good ≡ is_good a)
      → OnOk r (new ≡ went_on (is_good a) (logged ops c a)) → IfOk r (λ on. GoesOn on t new l0 (calls ++ told))
  goes_if ops same (Ok good) new good_is new_is = goes_by ops same good (sym good_is) new new_is
  goes_if ops same (Err e) new good_is new_is = tt

-- the same where calls were made
pub closes_by : (t : AttemptTerms) (c : Operations) (l0 told calls : List Made) (a : OpAnswer) → Descends (calls ++ (told ++ l0)) → Answers t c l0 told calls a
    → (ops : List Op) → t.plan.ops ≡ ops → (good : Bool) (new : Operations) → good ≡ is_good a → new ≡ went_on (is_good a) (logged ops c a)
    → GoesOn good t new l0 (calls ++ told)
closes_by t c l0 told calls a falls it ops same good new good_is new_is =
    goes_by t c l0 told calls a it (answers_tell t c l0 told calls a falls it) ops same good (sym good_is) new new_is

-- terms stay
staged_under : (t : AttemptTerms) (a : Attempt) (task : Task) (staging : Bool) (end : Option PutEnd) (stamp : Option ℕ) → IsUnder t a
    → IsUnder t (with_staging a task staging end stamp)
staged_under t a task staging None stamp it = it
staged_under t a task staging (Some end) stamp it = under_noted t a task staging end stamp it

learnt_under : (t : AttemptTerms) (a : Attempt) (w : Work) (place : ℕ) (r : Reply) → IsUnder t a → IsUnder t (learnt a w place r)
learnt_under t a (work.Put it) place r under =
    staged_under t (with_sent a (record_added (put.step_of it))) it.task (is_staging (put.step_of it)) (put.end_in (put.after it.task it.phase place r)) (stamp_in r)
    (under_sent t a (record_added (put.step_of it)) under)
learnt_under t a (work.Again it) place r under = under_written t a it.task.doc it.task.write (again.ended it.task.back place r) (stamp_in r) under
learnt_under t a (work.Get it write) place r under = under
learnt_under t a work.Done place r under = under
learnt_under t a work.Refused place r under = under
learnt_under t a (work.Late now) place r under = under

-- an answer is learnt
module _ (t : AttemptTerms) (c : Operations) (l0 mine : List Made) (s : Step) (ans : Answer) (it : Follows t c l0 mine) (asks : step_of c.work ≡ Some s)
    (fit : fits s ans.reply ≡ true) (falls : Descends (made_of s ans ∷ (mine ++ l0))) where
  stood : Stood t c l0 it.told it.calls
  stood = record { first_is = it.first_is; past_is = it.past_is; tells = it.tells }

  pub falls_split : Descends ((made_of s ans ∷ it.calls) ++ (it.told ++ l0))
  falls_split =
      subst (λ k. Descends (made_of s ans ∷ k)) (append_assoc it.calls it.told l0) (subst (λ k. Descends (made_of s ans ∷ (k ++ l0))) it.mine_is falls)

  pub learns_halt : Halts t c.logs l0 (made_of s ans ∷ mine)
  learns_halt =
      subst (λ k. Halts t c.logs l0 (made_of s ans ∷ k)) (sym it.mine_is)
      (record {
        told = it.told;
        calls = made_of s ans ∷ it.calls;
        mine_is = refl;
        tells = it.tells;
        operates = inr (operates t c (it.told ++ l0) s ans fit it.calls c.work it.works asks);
      })

  pub learns_late : t.latest < ans.now → (new : Operations) → new ≡ taken_in c ans.place (learnt c.attempt c.work ans.place ans.reply)
      → Follows t (record new { work = work.Late ans.now }) l0 (made_of s ans ∷ mine)
  learns_late late new new_is =
      let a = learnt c.attempt c.work ans.place ans.reply in
      subst (λ k. Follows t (record new { work = work.Late ans.now }) l0 (made_of s ans ∷ k)) (sym it.mine_is)
      (subst (λ (n : Operations). Follows t (record n { work = work.Late ans.now }) l0 (made_of s ans ∷ (it.calls ++ it.told))) (sym new_is)
      (late_follows t c (it.told ++ l0) s ans fit l0 it.told it.calls c.work a refl stood it.works asks
      (learnt_under t c.attempt c.work ans.place ans.reply it.under) late))

  pub learns_fits : ans.now ≤ t.latest → (new : Operations) → new ≡ taken_in c ans.place (learnt c.attempt c.work ans.place ans.reply)
      → (f : Fed) → f ≡ fed c.work ans.place ans.reply → Fits t new l0 it.told (made_of s ans ∷ it.calls) f
  learns_fits timed new new_is f f_is =
      subst (λ f. Fits t new l0 it.told (made_of s ans ∷ it.calls) f) (sym f_is)
      (subst (λ n. Fits t n l0 it.told (made_of s ans ∷ it.calls) (fed c.work ans.place ans.reply)) (sym new_is)
      (taken t c l0 it.told it.calls s ans falls_split it.under stood fit timed c.work it.works asks))

-- nothing was done yet
sofar_none : (t : AttemptTerms) (ops : List Op) → walked ops [] nothing_yet ≡ nothing_yet
sofar_none t [] = refl
sofar_none t (o ∷ ops) = refl

nothing_noted : {X : Type 0} (notes : List (List ℕ × X)) (d : List ℕ) → notes ≡ [] → noted notes d ≡ None
nothing_noted {X} notes d none = ap (λ (k : List (List ℕ × X)). noted k d) none

once_none : {X : Type 0} (notes : List (List ℕ × X)) → notes ≡ [] → NotedOnce notes
once_none {X} notes none = subst (λ (k : List (List ℕ × X)). NotedOnce k) (sym none) tt

agrees_first : (a : Attempt) (l : List Made) → IsNew a → Agrees nothing_yet a l
agrees_first a l new = record {
  own_none = λ d none. refl;
  own_some = λ d w is. absurd (none-some w (sym (nothing_noted a.writes d new.unwritten) ∙ is));
  seen_none = λ d none. refl;
  seen_some = λ d it is. absurd (none-some it (sym (nothing_noted a.seen d new.unread) ∙ is));
  ended = λ d last is. absurd (none-some last is);
  sent = λ d w is. absurd (none-some w (sym (nothing_noted a.writes d new.unwritten) ∙ is));
  whole = λ d w is. absurd (none-some w (sym (nothing_noted a.writes d new.unwritten) ∙ is));
  written_once = once_none a.writes new.unwritten;
  read_once = once_none a.seen new.unread;
}

pub first_between : (t : AttemptTerms) (a : Attempt) (past : ℕ) (l0 : List Made) → IsUnder t a → IsNew a → past ≡ past_of l0
    → Between t (record { attempt = a; bound = []; logs = []; first = None; past = past; work = work.Done }) l0 []
first_between t a past l0 under new past_is = record {
  under = under;
  unbegun = refl;
  past_is = past_is;
  tells = record { follow = tt; reach = refl };
  good = refl;
  bound = ap (λ (so : Sofar). so.bound) (sofar_none t t.plan.ops);
  agrees = subst (λ so. Agrees so a l0) (sym (sofar_none t t.plan.ops)) (agrees_first a l0 new);
}

abbrev pub first_as : Attempt → ℕ → List (List ℕ × Option Json) → List OpLog → Operations
first_as a past bound logs = record { attempt = a; bound = bound; logs = logs; first = None; past = past; work = work.Done }

pub first_between_at : (t : AttemptTerms) (a : Attempt) (past : ℕ) (l0 : List Made) (bound : List (List ℕ × Option Json)) (logs : List OpLog) → IsUnder t a → IsNew a
    → past ≡ past_of l0 → bound ≡ [] → logs ≡ [] → Between t (first_as a past bound logs) l0 []
first_between_at t a past l0 bound logs under new past_is unbound untold =
    subst (λ b. Between t (first_as a past b logs) l0 []) (sym unbound)
    (subst (λ k. Between t (first_as a past [] k) l0 []) (sym untold) (first_between t a past l0 under new past_is))
