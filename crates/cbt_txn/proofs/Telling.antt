-- An operation that has its answer is told, and the next one may begin where that was good.
use Rattle.std.proofs.Common.{◌≡◌, ◌≢◌, ℕ, suc, ◌+◌, ◌<◌, ◌≤◌, Bool, true, false, ◌&&◌, nat_lt, nat_le, cond, inl, inr, List, [], ◌∷◌, ◌++◌, length, drop, slice_get, Option, Some, None, Result, Ok, Err, refl, sym, ap, ◌∙◌, subst, arith}
use Rattle.std.proofs.Math.Path.{fun_ext}
use Rattle.std.proofs.lemmas.Bool.{and_parts}
use Rattle.std.proofs.lemmas.Grind.{common_steps}
use Rattle.std.proofs.lemmas.List.{append_assoc}
use Rattle.std.specs.Ordering.{is_eq}
use Rattle.std.specs.Option.{option_flatten}
use Rattle.cbt_base.specs.Keyed.{at_key, with_pair}
use Rattle.cbt_base.proofs.Maps.{at_key-with_pair}
use Rattle.cbt_json.specs.declared.value.Json.{Json}
use Rattle.cbt_expr.specs.Answers.{bound_in}
use Rattle.cbt_expr.specs.Values.{value_of}
use Rattle.cbt_expr.specs.declared.plans.Op.{Op}
use Rattle.cbt_expr.specs.declared.plans.Op.TheVariants as op
use Rattle.cbt_model.specs.Keys.{doc_cmp}
use Rattle.cbt_model.specs.History.{is_done}
use Rattle.cbt_model.specs.declared.documents.OpKind.{OpKind}
use Rattle.cbt_model.specs.declared.documents.OpKind.TheVariants.{Insert, Replace, Remove}
use Rattle.cbt_model.specs.declared.events.Made.{Made}
use Rattle.cbt_model.specs.declared.steps.Reply.TheVariants as reply
use Rattle.cbt_model.proofs.Orders.{doc_order}
use Rattle.cbt_book.specs.Outcomes.{EndsFailed}
use Rattle.cbt_book.specs.OwnLists.{Descends, Each, In, during}
use Rattle.cbt_book.specs.Spans.{past_of, span_of}
use Rattle.cbt_book.specs.Spans as spans_of
use Rattle.cbt_book.specs.declared.operations.OpAnswer.{OpAnswer}
use Rattle.cbt_book.specs.declared.operations.OpAnswer.TheVariants as answer
use Rattle.cbt_book.specs.declared.operations.OpLog.{OpLog}
use Rattle.cbt_book.specs.declared.operations.Span.{Span}
use Rattle.cbt_book.specs.declared.operations.When.TheVariants as when
use Rattle.cbt_core.specs.Attempts.{LastIs, all_good}
use Rattle.cbt_core.specs.OpAnswers.{Answered}
use Rattle.cbt_core.specs.OpCalls.{OpCalls}
use Rattle.cbt_core.specs.Operations.{OpFollows, StandsAt, is_good}
use Rattle.cbt_core.specs.Walk.{AttemptTerms, Reads, Request, Sofar, Tests, Writes, content_of, noted as noted_by, noted_as, nothing_yet, request_of, with_value}
use Rattle.cbt_core.proofs.logs.Calls.{each_of}
use Rattle.cbt_logs.specs.Operating.{AreFine, AreFineBefore, Operates, Told, asked, log_of, sofar}
use Rattle.cbt_logs.proofs.Closed.{told_more}
use Rattle.cbt_logs.proofs.Lists.{descends_front, each_in}
use Rattle.cbt_logs.proofs.Snoc.{nil_cons, one_more, ops_end_snoc, ops_snoc, walked_snoc}
use Rattle.cbt_txn.specs.Feeding.{from_of, log_for, logged, rebound}
use Rattle.cbt_txn.specs.Following.{Agrees, Answers, Between, Follows, Halts, first_place}
use Rattle.cbt_txn.specs.Following as following
use Rattle.cbt_txn.specs.declared.operations.Operations.{Operations}
use Rattle.cbt_txn.specs.declared.operations.Work.TheVariants as work

-- the span of the operation's calls
spans : (calls older : List Made)
    → ◌≡◌ {A = Span} (record { from = from_of (first_place calls) (past_of (calls ++ older)); to = past_of (calls ++ older) }) (span_of (past_of older) calls)
spans [] older = refl
spans (m ∷ past) older = refl

abbrev told_as : ℕ → Span → OpAnswer → OpLog
told_as n span a = record { op = n; span = span; answer = a }

-- the operation that comes next
pub next_op : (ops : List Op) (logs : List OpLog) (o : Op) (rest : List Op) → drop (length logs) ops ≡ o ∷ rest → slice_get ops (length logs) ≡ Some o
next_op ops [] o rest left = subst (λ q. slice_get q 0 ≡ Some o) (sym left) refl
next_op [] (x ∷ logs) o rest left = absurd (nil_cons left)
next_op (p ∷ ops) (x ∷ logs) o rest left = next_op ops logs o rest left

-- what is bound
flat_by : (b : Bool) (value : Option Json) (x : Option (Option Json)) → option_flatten (cond b (Some value) x) ≡ cond b value (option_flatten x)
flat_by true value x = refl
flat_by false value x = refl

bound_set : (name : List ℕ) (value : Option Json) (bound : List (List ℕ × Option Json))
    → with_value name value (bound_in bound) ≡ bound_in (with_pair doc_cmp bound name value)
bound_set name value bound =
    fun_ext (λ q. sym (ap option_flatten (at_key-with_pair doc_cmp doc_order.total bound name value q)
    ∙ flat_by (is_eq (doc_cmp q name)) value (at_key doc_cmp bound q)))

module _ (span : Span) (so : Sofar) (bound : List (List ℕ × Option Json)) (same : so.bound ≡ bound_in bound) where
  bound_get : (d name : List ℕ) (a : OpAnswer) → (noted_as (Reads d name) span a so).bound ≡ bound_in (rebound (Some (op.Get d name)) a bound)
  bound_get d name (answer.Value value when.Own) = ap (with_value name value) same ∙ bound_set name value bound
  bound_get d name (answer.Value value (when.At moment)) = ap (with_value name value) same ∙ bound_set name value bound
  bound_get d name _ = same

  bound_write : (d : List ℕ) (kind : OpKind) (content : Result (Option Json) ℕ) (a : OpAnswer) → (noted_as (Writes d kind content) span a so).bound ≡ bound_in bound
  bound_write d kind (Ok content) (answer.Staged place base) = same
  bound_write d kind (Ok content) (answer.Unstaged place) = same
  bound_write d kind (Ok content) _ = same
  bound_write d kind (Err part) a = same

  bound_is : (o : Op) (a : OpAnswer) → (noted_as (request_of so.bound o) span a so).bound ≡ bound_in (rebound (Some o) a bound)
  bound_is (op.Get d name) a = bound_get d name a
  bound_is (op.Insert d value) a = bound_write d Insert (content_of (value_of so.bound value)) a
  bound_is (op.Replace d value) a = bound_write d Replace (content_of (value_of so.bound value)) a
  bound_is (op.Remove d) a = bound_write d Remove (Ok None) a
  bound_is (op.Need test) a = same

both_true : {a b : Bool} → a ≡ true → b ≡ true → (a && b) ≡ true
both_true {a} {b} one two = ap (λ x. x && b) one ∙ two

good_more : (logs : List OpLog) (log : OpLog) → all_good logs ≡ true → is_good log.answer ≡ true → all_good (logs ++ log ∷ []) ≡ true
good_more [] log all good = both_true good refl
good_more (x ∷ logs) log all good = let both = and_parts (is_good x.answer) (all_good logs) all in both_true both.0 (good_more logs log both.1 good)

last_more : (P : OpLog → Type 0) (logs : List OpLog) (log : OpLog) → P log → LastIs P (logs ++ log ∷ [])
last_more P [] log it = it
last_more P (x ∷ []) log it = it
last_more P (x ∷ y ∷ logs) log it = last_more P (y ∷ logs) log it

-- a call that failed is the newest
ends_failed : (t : AttemptTerms) (l : List Made) (so : Sofar) (r : Request) (calls : List Made) (place : ℕ) → Answered t l so r calls (answer.CallFailed place)
    → EndsFailed place calls
ends_failed t l so (Reads d name) calls place it = it
ends_failed t l so (Writes d kind (Ok content)) calls place it = it
ends_failed t l so (Writes d kind (Err part)) calls place it = absurd it
ends_failed t l so (Tests truth) calls place it = absurd it

pub same_first : (n m : Made) (xs ys : List Made) → n ∷ xs ≡ m ∷ ys → n ≡ m
same_first n m xs ys same = cc

-- it is told
abbrev pub TellsOn : AttemptTerms → Operations → List Made → List Made → List Made → OpAnswer → Type 0
TellsOn t c l0 told calls a = Told t l0 (calls ++ told) (c.logs ++ log_of c.logs (told ++ l0) calls a ∷ [])

-- without calls it is told on any list
none_within : (place at : ℕ) → (nat_le at place && nat_lt place at) ≡ false
none_within place at = grind (arith, common_steps)

during_none : (at : ℕ) (l : List Made) → during (record { from = at; to = at }) l ≡ []
during_none at [] = refl
during_none at (m ∷ l) =
    ap (λ b. cond b (m ∷ during (record { from = at; to = at }) l) (during (record { from = at; to = at }) l)) (none_within m.answer.place at) ∙ during_none at l

pub answers_tell_now : (t : AttemptTerms) (c : Operations) (l0 told : List Made) (a : OpAnswer) → Answers t c l0 told [] a → TellsOn t c l0 told [] a
answers_tell_now t c l0 told a it =
    let l = told ++ l0 in
    let at = past_of l in
    let log = log_of c.logs l [] a in
    let none : [] ≡ during log.span l = sym (during_none at l) in
    let here : OpFollows t l at (suc (length c.logs)) (sofar t c.logs) it.op log = record {
      counted = refl;
      spanned = record { follows = omega arith; next = during_none at l; ends = spans_of.without_calls refl refl };
      answered = subst (λ k. Answered t l (sofar t c.logs) (asked t c.logs it.op) k a) none it.answered.answered;
      calls = subst (λ k. OpCalls t (sofar t c.logs) (asked t c.logs it.op) k) none it.answered.bounded;
      stands = subst (λ k. Each (λ m _. is_done m.answer.reply ≡ true → StandsAt m.answer.place a m.step) k) none tt;
      failed = subst (λ k. Each (λ m _. m.answer.reply ≡ reply.Failed → a ≡ answer.CallFailed m.answer.place) k) none tt;
      in_time = subst (λ k. Each (λ m _. m.answer.now ≤ t.latest) k) none tt;
    } in
    record {
      follow = ops_snoc t l (past_of l0) 1 nothing_yet t.plan.ops c.logs it.op it.next.rest log it.tells.follow it.next.good it.next.left
          (subst (λ k. OpFollows t l k (1 + length c.logs) (sofar t c.logs) it.op log) (sym it.tells.reach)
          (subst (λ n. OpFollows t l at n (sofar t c.logs) it.op log) (one_more (length c.logs)) here));
      reach = ops_end_snoc (past_of l0) c.logs log;
    }

module _ (t : AttemptTerms) (c : Operations) (l0 told calls : List Made) (a : OpAnswer) (falls : Descends (calls ++ (told ++ l0))) (it : Answers t c l0 told calls a) where
  fine_older : (newest : Made) (older : List Made) → calls ≡ newest ∷ older → AreFine t older
  fine_older newest older same = each_in (λ m. (m.answer.now ≤ t.latest) × (m.answer.reply ≢ reply.Failed)) older fine
    where
      own : Descends (newest ∷ older)
      own = subst Descends same (descends_front calls (told ++ l0) falls)

      fine : (m : Made) → In m older → (m.answer.now ≤ t.latest) × (m.answer.reply ≢ reply.Failed)
      fine m there = (each_of (λ m. m.answer.now ≤ t.latest) older m timed.1 there, failed)
        where
          timed : Each (λ m _. m.answer.now ≤ t.latest) (newest ∷ older)
          timed = subst (λ k. Each (λ m _. m.answer.now ≤ t.latest) k) same it.answered.in_time

          tells : Each (λ m _. m.answer.reply ≡ reply.Failed → a ≡ answer.CallFailed m.answer.place) (newest ∷ older)
          tells = subst (λ k. Each (λ m _. m.answer.reply ≡ reply.Failed → a ≡ answer.CallFailed m.answer.place) k) same it.answered.failed

          failed : m.answer.reply ≢ reply.Failed
          failed is =
              let why = each_of (λ m. m.answer.reply ≡ reply.Failed → a ≡ answer.CallFailed m.answer.place) older m tells.1 there is in
              let last = ends_failed t (calls ++ (told ++ l0)) (sofar t c.logs) (asked t c.logs it.op) calls m.answer.place
              (subst (λ a. Answered t (calls ++ (told ++ l0)) (sofar t c.logs) (asked t c.logs it.op) calls a) why it.answered.answered) in
              let first : newest ≡ last.newest = same_first newest last.newest older last.older (sym same ∙ last.calls_are) in
              let place : newest.answer.place ≡ m.answer.place = ap (λ (m : Made). m.answer.place) first ∙ last.place_is in
              let low : m.answer.place < newest.answer.place = own.0 m there in
              absurd (omega arith)

  fine_before : (k : List Made) → calls ≡ k → AreFineBefore t k
  fine_before [] same = tt
  fine_before (newest ∷ older) same = fine_older newest older same

  pub answers_operate : Operates t c.logs calls
  answers_operate = record { op = it.op; next = it.next; bounded = it.answered.bounded; fine = fine_before calls refl }

  pub answers_halt : Halts t c.logs l0 (calls ++ told)
  answers_halt = record { told = told; calls = calls; mine_is = refl; tells = it.tells; operates = inr answers_operate }

  pub answers_tell : TellsOn t c l0 told calls a
  answers_tell = told_more t l0 told calls c.logs it.op a falls it.tells it.next it.answered

module _ (t : AttemptTerms) (c : Operations) (l0 told calls : List Made) (a : OpAnswer) (it : Answers t c l0 told calls a) (more : TellsOn t c l0 told calls a) where
  log_is : log_for c a ≡ log_of c.logs (told ++ l0) calls a
  log_is =
      let n : length c.logs + 1 ≡ suc (length c.logs) = omega arith in
      ap (λ n. told_as n (record { from = from_of c.first c.past; to = c.past }) a) n
      ∙ ap (λ f. told_as (suc (length c.logs)) (record { from = from_of f c.past; to = c.past }) a) it.first_is
      ∙ ap (λ p. told_as (suc (length c.logs)) (record { from = from_of (first_place calls) p; to = p }) a) it.past_is
      ∙ ap (λ s. told_as (suc (length c.logs)) s a) (spans calls (told ++ l0))

  tells_on : Told t l0 (calls ++ told) (c.logs ++ log_for c a ∷ [])
  tells_on = subst (λ log. Told t l0 (calls ++ told) (c.logs ++ log ∷ [])) (sym log_is) more

  sofar_on : sofar t (c.logs ++ log_for c a ∷ []) ≡ noted_by it.op (log_for c a) (sofar t c.logs)
  sofar_on = walked_snoc t.plan.ops c.logs nothing_yet it.op it.next.rest (log_for c a) it.next.left

  bound_on : (sofar t (c.logs ++ log_for c a ∷ [])).bound ≡ bound_in (rebound (slice_get t.plan.ops (length c.logs)) a c.bound)
  bound_on =
      ap (λ (so : Sofar). so.bound) sofar_on ∙ bound_is (log_for c a).span (sofar t c.logs) c.bound it.bound it.op a
      ∙ ap (λ o. bound_in (rebound o a c.bound)) (sym (next_op t.plan.ops c.logs it.op it.next.rest it.next.left))

  agrees_on : is_good a ≡ true → Agrees (sofar t (c.logs ++ log_for c a ∷ [])) c.attempt ((calls ++ told) ++ l0)
  agrees_on good =
      subst (λ l. Agrees (sofar t (c.logs ++ log_for c a ∷ [])) c.attempt l) (sym (append_assoc calls told l0))
      (subst (λ so. Agrees so c.attempt (calls ++ (told ++ l0))) (sym (sofar_on ∙ ap (λ log. noted_by it.op log (sofar t c.logs)) log_is)) (it.agrees good))

  past_on : c.past ≡ past_of ((calls ++ told) ++ l0)
  past_on = it.past_is ∙ ap past_of (sym (append_assoc calls told l0))

  pub answers_go_on : is_good a ≡ true → Between t (logged t.plan.ops c a) l0 (calls ++ told)
  answers_go_on good = record {
    under = it.under;
    unbegun = refl;
    past_is = past_on;
    tells = tells_on;
    good = good_more c.logs (log_for c a) it.next.good good;
    bound = bound_on;
    agrees = agrees_on good;
  }

  pub answers_refuse : is_good a ≡ false → Follows t (record (logged t.plan.ops c a) { work = work.Refused }) l0 (calls ++ told)
  answers_refuse bad = record {
    told = calls ++ told;
    calls = [];
    mine_is = refl;
    under = it.under;
    first_is = refl;
    past_is = past_on;
    tells = tells_on;
    works = following.refused refl (last_more (λ log. is_good log.answer ≡ false) c.logs (log_for c a) bad);
  }

module _ (t : AttemptTerms) (c : Operations) (l0 told : List Made) (it : Between t c l0 told) where
  pub between_halts : Halts t c.logs l0 told
  between_halts = record { told = told; calls = []; mine_is = refl; tells = it.tells; operates = inl refl }

  pub between_done : drop (length c.logs) t.plan.ops ≡ [] → Follows t (record c { work = work.Done }) l0 told
  between_done none = record {
    told = told;
    calls = [];
    mine_is = refl;
    under = it.under;
    first_is = it.unbegun;
    past_is = it.past_is;
    tells = it.tells;
    works = following.done refl it.good none;
  }
