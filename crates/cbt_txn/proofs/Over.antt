-- What stands of a try once no operation goes on, and how its log follows from what closes it.
use Rattle.std.proofs.Common.{◌≡◌, ◌≢◌, ℕ, ◌<◌, ◌≤◌, true, false, inl, List, [], ◌∷◌, ◌++◌, length, drop, refl, sym, ap, ◌∙◌, subst}
use Rattle.std.proofs.lemmas.List.{append_assoc}
use Rattle.cbt_model.specs.declared.events.Made.{Made}
use Rattle.cbt_model.specs.declared.steps.Reply.TheVariants as reply
use Rattle.cbt_book.specs.OwnLists.{Descends, Each}
use Rattle.cbt_book.specs.Spans.{past_of, span_of}
use Rattle.cbt_book.specs.declared.clients.AttemptLog.{AttemptLog}
use Rattle.cbt_core.specs.Attempts as attempts
use Rattle.cbt_core.specs.Attempts.{AttemptFollows, CutFollows, Ends, IsCut, LastIs, MayRollBack, all_good, course_of}
use Rattle.cbt_core.specs.Operations.{is_good}
use Rattle.cbt_core.specs.Walk.{AttemptTerms}
use Rattle.cbt_logs.specs.Closing.{ClosesWell}
use Rattle.cbt_logs.specs.Operating.{AreFine, Operates, Told}
use Rattle.cbt_logs.proofs.Closed.{attempt_closed}
use Rattle.cbt_txn.specs.Deciding.{IsOver, is_kept}
use Rattle.cbt_txn.specs.Following as following
use Rattle.cbt_txn.specs.Following.{Follows, Works}
use Rattle.cbt_txn.specs.declared.operations.Operations.{Operations}
use Rattle.cbt_txn.specs.declared.operations.Work.{Work}
use Rattle.cbt_txn.specs.declared.operations.Work.TheVariants as work

-- the log of a try by its parts
pub log_follows : (t : AttemptTerms) (log : AttemptLog) (l0 told cut closing mine : List Made) → mine ≡ closing ++ (cut ++ told) → Descends (mine ++ l0)
    → Told t l0 told log.ops → log.id ≡ t.id → log.span ≡ span_of (past_of l0) mine → ClosesWell t log closing cut
    → Ends t (course_of t log cut closing) mine log.end → AttemptFollows t (mine ++ l0) (past_of l0) log
log_follows t log l0 told cut closing mine is falls told_so id spans well ends =
    let parts : mine ≡ (closing ++ cut) ++ told = is ∙ sym (append_assoc closing cut told) in
    let same : mine ++ l0 ≡ (closing ++ cut) ++ (told ++ l0) = ap (λ k. k ++ l0) parts ∙ append_assoc (closing ++ cut) told l0 in
    subst (λ k. AttemptFollows t k (past_of l0) log) (sym same)
    (attempt_closed t l0 told closing cut log (subst Descends same falls) told_so id (spans ∙ ap (λ k. span_of (past_of l0) k) parts) well
    (subst (λ k. Ends t (course_of t log cut closing) k log.end) parts ends))

-- all operations were answered
pub record AllDone (t : AttemptTerms) (c : Operations) (l0 ops : List Made) : Type 0 where
  pub tells : Told t l0 ops c.logs
  pub good : all_good c.logs ≡ true
  pub all : drop (length c.logs) t.plan.ops ≡ []

-- the last one lets the try go no further
pub record LastRefused (t : AttemptTerms) (c : Operations) (l0 ops : List Made) : Type 0 where
  pub tells : Told t l0 ops c.logs
  pub refused : LastIs (λ log. is_good log.answer ≡ false) c.logs

-- the one under way was cut off
pub record WasCut (t : AttemptTerms) (c : Operations) (now : ℕ) (l0 ops : List Made) : Type 0 where
  pub told : List Made
  pub newest : Made
  pub before : List Made
  pub ops_are : ops ≡ (newest ∷ before) ++ told
  pub tells : Told t l0 told c.logs
  pub now_is : newest.answer.now ≡ now
  pub late : t.latest < newest.answer.now
  pub operates : Operates t c.logs (newest ∷ before)

-- calls that came back in time and did not fail
in_time : (t : AttemptTerms) (calls : List Made) → AreFine t calls → Each (λ m _. m.answer.now ≤ t.latest) calls
in_time t [] fine = tt
in_time t (m ∷ calls) fine = (fine.0.0, in_time t calls fine.1)

unfailed : (t : AttemptTerms) (calls : List Made) → AreFine t calls → Each (λ m _. m.answer.reply ≢ reply.Failed) calls
unfailed t [] fine = tt
unfailed t (m ∷ calls) fine = (fine.0.1, unfailed t calls fine.1)

-- an operation that was under way is cut off by a late answer
cut_late : (t : AttemptTerms) (log : AttemptLog) (newest : Made) (before closing : List Made) → Operates t log.ops (newest ∷ before)
    → t.latest < newest.answer.now → IsCut t (course_of t log (newest ∷ before) closing) newest before
cut_late t log newest before closing it late = record {
  next = it.op;
  rest = it.next.rest;
  left_is = it.next.left;
  good = it.next.good;
  calls = it.bounded;
  in_time = in_time t before it.fine;
  answered = unfailed t before it.fine;
  why = inl late;
}

cons_some : (m : Made) (l : List Made) → m ∷ l ≢ []
cons_some m l is = cc

-- the calls of a try's operations, as its log tells them: those of one that was cut off, and those of the answered ones
pub record IsToldBy (t : AttemptTerms) (c : Operations) (l0 ops : List Made) (log : AttemptLog) : Type 0 where
  pub told : List Made
  pub cut : List Made
  pub ops_are : ops ≡ cut ++ told
  pub tells : Told t l0 told log.ops
  pub follows : (closing : List Made) → CutFollows t (course_of t log cut closing) cut
  pub ended : (closing : List Made) → attempts.HasEnded (course_of t log cut closing)
  pub may : (closing : List Made) → is_kept t.plan.keep c.work ≡ false → MayRollBack t (course_of t log cut closing)

module _ (t : AttemptTerms) (c : Operations) (l0 ops : List Made) (it : Follows t c l0 ops) where
  -- without calls of an operation under way, all are told
  all_told : it.calls ≡ [] → Told t l0 ops c.logs
  all_told none = subst (λ k. Told t l0 k c.logs) (sym (it.mine_is ∙ ap (λ k. k ++ it.told) none)) it.tells

  pub when_done : c.work ≡ work.Done → AllDone t c l0 ops
  when_done is = by c.work it.works is
    where
      by : (w : Work) → Works t c (it.told ++ l0) it.calls w → w ≡ work.Done → AllDone t c l0 ops
      by _ (following.gets o get name goes asks unwritten stands going) is = cc
      by _ (following.reads o get write goes reads stands going) is = cc
      by _ (following.puts o put mine reads goes calls on going) is = cc
      by _ (following.agains o again goes writes going) is = cc
      by _ (following.done none good all) is = record { tells = all_told none; good = good; all = all }
      by _ (following.refused none refused) is = cc
      by _ (following.late newest before calls late operates) is = cc

  pub when_refused : c.work ≡ work.Refused → LastRefused t c l0 ops
  when_refused is = by c.work it.works is
    where
      by : (w : Work) → Works t c (it.told ++ l0) it.calls w → w ≡ work.Refused → LastRefused t c l0 ops
      by _ (following.gets o get name goes asks unwritten stands going) is = cc
      by _ (following.reads o get write goes reads stands going) is = cc
      by _ (following.puts o put mine reads goes calls on going) is = cc
      by _ (following.agains o again goes writes going) is = cc
      by _ (following.done none good all) is = cc
      by _ (following.refused none refused) is = record { tells = all_told none; refused = refused }
      by _ (following.late newest before calls late operates) is = cc

  pub when_late : (now : ℕ) → c.work ≡ work.Late now → WasCut t c now l0 ops
  when_late now is = by c.work it.works is
    where
      by : (w : Work) → Works t c (it.told ++ l0) it.calls w → w ≡ work.Late now → WasCut t c now l0 ops
      by _ (following.gets o get name goes asks unwritten stands going) is = cc
      by _ (following.reads o get write goes reads stands going) is = cc
      by _ (following.puts o put mine reads goes calls on going) is = cc
      by _ (following.agains o again goes writes going) is = cc
      by _ (following.done none good all) is = cc
      by _ (following.refused none refused) is = cc
      by _ (following.late newest before calls late operates) is = record {
        told = it.told;
        newest = newest;
        before = before;
        ops_are = it.mine_is ∙ ap (λ k. k ++ it.told) calls;
        tells = it.tells;
        now_is = cc;
        late = late;
        operates = subst (λ k. Operates t c.logs k) calls operates;
      }

  module _ (log : AttemptLog) (logs : log.ops ≡ c.logs) where
    done_told : c.work ≡ work.Done → AllDone t c l0 ops → IsToldBy t c l0 ops log
    done_told is all = record {
      told = ops;
      cut = [];
      ops_are = refl;
      tells = subst (λ k. Told t l0 ops k) (sym logs) all.tells;
      follows = λ closing. tt;
      ended = λ closing. attempts.all_answered (left ∙ all.all);
      may = λ closing unkept. attempts.for_plan (left ∙ all.all) (ap all_good logs ∙ all.good) (sym (ap (λ w. is_kept t.plan.keep w) is) ∙ unkept);
    }
      where
        left : drop (length log.ops) t.plan.ops ≡ drop (length c.logs) t.plan.ops
        left = ap (λ k. drop (length k) t.plan.ops) logs

    refused_told : LastRefused t c l0 ops → IsToldBy t c l0 ops log
    refused_told last = record {
      told = ops;
      cut = [];
      ops_are = refl;
      tells = subst (λ k. Told t l0 ops k) (sym logs) last.tells;
      follows = λ closing. tt;
      ended = λ closing. attempts.last_refused refused;
      may = λ closing unkept. attempts.for_answer refused;
    }
      where
        refused : LastIs (λ entry. is_good entry.answer ≡ false) log.ops
        refused = subst (λ k. LastIs (λ entry. is_good entry.answer ≡ false) k) (sym logs) last.refused

    late_told : (now : ℕ) → WasCut t c now l0 ops → IsToldBy t c l0 ops log
    late_told now was = record {
      told = was.told;
      cut = was.newest ∷ was.before;
      ops_are = was.ops_are;
      tells = subst (λ k. Told t l0 was.told k) (sym logs) was.tells;
      follows = λ closing. cut_late t log was.newest was.before closing
          (subst (λ k. Operates t k (was.newest ∷ was.before)) (sym logs) was.operates) was.late;
      ended = λ closing. attempts.cut_off (cons_some was.newest was.before);
      may = λ closing unkept. attempts.for_time was.late;
    }

    -- no operation goes on
    pub told_by : IsOver c.work → IsToldBy t c l0 ops log
    told_by over = by c.work refl over
      where
        by : (w : Work) → c.work ≡ w → IsOver w → IsToldBy t c l0 ops log
        by work.Done is w_over = done_told is (when_done is)
        by work.Refused is w_over = refused_told (when_refused is)
        by (work.Late now) is w_over = late_told now (when_late now is)
        by (work.Get get write) is w_over = cc
        by (work.Put put) is w_over = cc
        by (work.Again again) is w_over = cc
