-- A try goes on following its plan: over its operations, its commit and its rollback.
use Rattle.std.proofs.Common.{◌≡◌, ◌≢◌, ℕ, ◌<◌, ◌⊎◌, Bool, true, false, inl, inr, ⊎_elim, List, [], ◌∷◌, ◌++◌, Option, Some, None, refl, sym, ap, ◌∙◌, subst}
use Rattle.std.proofs.lemmas.Option.{none-some}
use Rattle.cbt_model.specs.History.{commits}
use Rattle.cbt_model.specs.declared.events.Made.{Made}
use Rattle.cbt_model.specs.declared.steps.Reply.TheVariants as reply
use Rattle.cbt_model.specs.declared.steps.Step.{Step}
use Rattle.cbt_model.specs.declared.steps.Step.TheVariants as step
use Rattle.cbt_book.specs.Closing.{HasAborted, MayClose, Settles, ThirdInVain}
use Rattle.cbt_book.specs.Closing as book
use Rattle.cbt_book.specs.OwnLists.{Descends, Each, Once, during}
use Rattle.cbt_book.specs.Shown.{adds, decides}
use Rattle.cbt_book.specs.Spans.{past_of, span_of}
use Rattle.cbt_book.specs.declared.clients.AttemptEnd.{AttemptEnd}
use Rattle.cbt_book.specs.declared.clients.AttemptEnd.TheVariants as attempt_end
use Rattle.cbt_book.specs.declared.clients.AttemptLog.{AttemptLog}
use Rattle.cbt_core.specs.Attempts as attempts
use Rattle.cbt_core.specs.Attempts.{AttemptFollows, CutFollows, Ends, LastIs, MayKeep, MayRollBack, all_good, course_of}
use Rattle.cbt_core.specs.Transactions as transactions
use Rattle.cbt_core.specs.Walk.{AttemptTerms, nothing_yet}
use Rattle.cbt_attempt.specs.OwnWrites.{noted}
use Rattle.cbt_attempt.specs.declared.own.Own.{Own}
use Rattle.cbt_commit.specs.Ends.{LosesEntry, OnlySettles, StaysUnknown}
use Rattle.cbt_commit.specs.Phases as finish
use Rattle.cbt_commit.specs.Standing as finish_stands
use Rattle.cbt_commit.specs.declared.finishes.Finish.{Finish}
use Rattle.cbt_commit.specs.declared.phases.FinishEnd.{FinishEnd}
use Rattle.cbt_commit.specs.declared.phases.FinishEnd.TheVariants as finish_end
use Rattle.cbt_commit.proofs.ClosingCalls.{all_close}
use Rattle.cbt_commit.proofs.Knowing.{ends_by}
use Rattle.cbt_logs.specs.Closing.{ClosesWell}
use Rattle.cbt_logs.specs.Operating.{Told}
use Rattle.cbt_logs.proofs.Spans.{during_span}
use Rattle.cbt_rollback.specs.Commits.{AreCommits, rolls_back}
use Rattle.cbt_rollback.specs.Phases as undo
use Rattle.cbt_rollback.specs.Ready as undo_ready
use Rattle.cbt_rollback.specs.Standing as undo_stands
use Rattle.cbt_rollback.specs.declared.phases.UndoEnd.{UndoEnd}
use Rattle.cbt_rollback.specs.declared.phases.UndoEnd.TheVariants as undo_end
use Rattle.cbt_rollback.specs.declared.undos.Undo.{Undo}
use Rattle.cbt_rollback.proofs.Ends.{undone_after, fine_after, failed_after}
use Rattle.cbt_txn.specs.Closings.{Closes, IsRight, IsRolledBack, TryFollows, TryHalts, end_in, log_of}
use Rattle.cbt_txn.specs.Closings as closings
use Rattle.cbt_txn.specs.Deciding.{BeginsFinish, BeginsUndo, Closed, Commits, Finished, IsOver, RollsBack, ended_by, is_in_vain, is_kept, is_over, undone, undone_by, undone_in, vain_end}
use Rattle.cbt_txn.specs.Deciding as deciding
use Rattle.cbt_txn.specs.Following.{Follows, first_place}
use Rattle.cbt_txn.specs.Tries.{after_end, after_rollback, outcome, outcome_in}
use Rattle.cbt_txn.specs.declared.operations.Work.{Work}
use Rattle.cbt_txn.specs.declared.operations.Work.TheVariants as work
use Rattle.cbt_txn.specs.declared.tries.Closing.{Closing}
use Rattle.cbt_txn.specs.declared.tries.Closing.TheVariants as closing
use Rattle.cbt_txn.specs.declared.tries.Try.{Try}
use Rattle.cbt_txn.proofs.ClosingsOpen.{commit_goes_on, vain_passes}
use Rattle.cbt_txn.proofs.Closings.{span_so_far, commit_closes, operations_close, commits_close}
use Rattle.cbt_txn.proofs.Ending.{few_answered, ends_committed, ends_empty, ends_failed_call, ends_late, ends_rolled_back, ends_unknown, right_refused}
use Rattle.cbt_txn.proofs.Over.{AllDone, log_follows, told_by, when_done, when_late, when_refused}

some_same : {X : Type 0} {x y : X} → Some x ≡ Some y → x ≡ y
some_same both = cc

true-false : {b : Bool} → b ≡ true → b ≡ false → ⊥
true-false one two = cc

-- what is kept: all operations were answered, and the plan keeps what they wrote
pub kept_done : (keep : Bool) (w : Work) → is_kept keep w ≡ true → (w ≡ work.Done) × (keep ≡ true)
kept_done keep work.Done kept = (refl, kept)
kept_done keep work.Refused kept = cc
kept_done keep (work.Late now) kept = cc
kept_done keep (work.Get get write) kept = cc
kept_done keep (work.Put put) kept = cc
kept_done keep (work.Again again) kept = cc

once_behind : (P : Made → List Made → Type 0) (xs l : List Made) → Once P l → Once P (xs ++ l)
once_behind P [] l once = once
once_behind P (x ∷ xs) l once = inr (once_behind P xs l once)

-- calls that settle a commit are no rollback's
settles_not : (a : ℕ) (s : Step) → (commits s ≡ Some a) ⊎ ((r : ℕ) × (s ≡ step.ReadEntry r a)) → rolls_back s ≡ false
settles_not a s settles = ⊎_elim (λ is. by s is) (λ read. ap rolls_back read.1) settles
  where
    by : (q : Step) → commits q ≡ Some a → rolls_back q ≡ false
    by (step.Commit r b lists) is = refl
    by (step.ReadDoc d) is = absurd (none-some a is)
    by (step.Unstick d x) is = absurd (none-some a is)
    by (step.Abort r b lists) is = absurd (none-some a is)
    by (step.DropEntry r b guarded) is = absurd (none-some a is)
    by (step.Stage d e stage) is = absurd (none-some a is)
    by (step.Publish d x body) is = absurd (none-some a is)
    by (step.Delete d x) is = absurd (none-some a is)
    by (step.ReadEntry r b) is = absurd (none-some a is)
    by (step.AddEntry r b exp) is = absurd (none-some a is)
    by (step.ReadAtr r) is = absurd (none-some a is)
    by step.ReadClients is = absurd (none-some a is)
    by (step.Beat me expires num_atrs gone) is = absurd (none-some a is)

only_commits : (a : ℕ) (calls : List Made) → OnlySettles a calls → AreCommits calls
only_commits a [] only = tt
only_commits a (m ∷ calls) only = (settles_not a m.step only.0, only_commits a calls only.1)

module _ (t : AttemptTerms) (it : Try) (l0 mine : List Made) (id : it.operations.attempt.id ≡ t.id) (falls : Descends (mine ++ l0))
    (first_is : it.first ≡ first_place mine) (past_is : it.past ≡ past_of (mine ++ l0)) where
  abbrev log : AttemptLog
  log = log_of it

  spans : log.span ≡ span_of (past_of l0) mine
  spans = span_so_far it.first it.past l0 mine first_is past_is

  own_span : during log.span (mine ++ l0) ≡ mine
  own_span = ap (λ s. during s (mine ++ l0)) spans ∙ during_span mine l0 falls

  -- how it has ended tells what follows
  right : (end : AttemptEnd) → it.closing ≡ closing.Ended end → IsRight t (mine ++ l0) log (Some (after_end it end)) → IsRight t (mine ++ l0) log (outcome it)
  right end is it_is = subst (λ o. IsRight t (mine ++ l0) log o) (sym (ap (λ k. outcome_in it k) is)) it_is

  end_is : (end : AttemptEnd) → it.closing ≡ closing.Ended end → log.end ≡ end
  end_is end is = ap end_in is

  -- what follows a try that was rolled back for its operations
  right_for_operations : (ops closed : List Made) → mine ≡ closed ++ ops → Follows t it.operations l0 ops → is_over it.operations.work ≡ true
      → is_kept t.plan.keep it.operations.work ≡ false → ¬ Once (λ m _. decides m.step ≡ Some t.id) ops → log.end ≡ attempt_end.RolledBack
      → IsRight t (mine ++ l0) log (Some (after_rollback false it.operations.work it.operations.logs))
  right_for_operations ops closed parts fol over unkept undecided ended = by it.operations.work refl over
    where
      by : (w : Work) → it.operations.work ≡ w → is_over w ≡ true → IsRight t (mine ++ l0) log (Some (after_rollback false w it.operations.logs))
      by work.Done is w_over =
          let all = when_done t it.operations l0 ops fol is in
          ends_rolled_back t (mine ++ l0) log ended
          (few_answered t (ops ++ l0) (past_of l0) 1 nothing_yet t.plan.ops it.operations.logs all.tells.follow all.all) all.good
          (sym (ap (λ w. is_kept t.plan.keep w) is) ∙ unkept)
      by work.Refused is w_over = right_refused t (mine ++ l0) log ended (when_refused t it.operations l0 ops fol is).refused
      by (work.Late now) is w_over =
          let was = when_late t it.operations l0 ops fol now is in
          let cut : ops ≡ was.newest ∷ (was.before ++ was.told) = was.ops_are in
          ends_late t (mine ++ l0) log now ended
          (subst (λ k. Once (λ m before. (m.answer.now ≡ now) × (t.latest < now) × (¬ Once (λ n _. decides n.step ≡ Some log.id) (m ∷ before))) k)
          (sym (own_span ∙ parts ∙ ap (λ k. closed ++ k) cut))
          (once_behind _ closed (was.newest ∷ (was.before ++ was.told))
          (inl (
            was.now_is,
            subst (λ n. t.latest < n) was.now_is was.late,
            λ once. undecided (subst (λ k. Once (λ m _. decides m.step ≡ Some t.id) k) (sym cut)
                (subst (λ a. Once (λ m _. decides m.step ≡ Some a) (was.newest ∷ (was.before ++ was.told))) id once)),
          ))))
      by (work.Get get write) is w_over = cc
      by (work.Put put) is w_over = cc
      by (work.Again again) is w_over = cc

  -- ---- its operations are over

  module _ (unset : it.not_committed ≡ false) (fol : Follows t it.operations l0 mine) (undecided : ¬ Once (λ m _. decides m.step ≡ Some t.id) mine)
      (unsent : it.operations.attempt.sent ≡ None → Each (λ m _. adds m.step ≢ Some t.id) mine) where
    -- an attempt that wrote nothing is committed without a call
    empty : it.closing ≡ closing.Ended attempt_end.Empty → it.operations.work ≡ work.Done → t.plan.keep ≡ true → it.operations.attempt.sent ≡ None
        → Closes t it l0 mine (closing.Ended attempt_end.Empty)
    empty is done keep none =
        let all = when_done t it.operations l0 mine fol done in
        let may : MayKeep t (course_of t log [] []) = record { all = all.all; good = all.good; keep = keep } in
        let well : ClosesWell t log [] [] = record {
          cut_follows = tt;
          ended = attempts.all_answered all.all;
          closes = tt;
          may_commit = λ once. absurd once;
          may_abort = λ once. absurd once;
          third = (λ set. absurd (true-false set unset), λ vain. absurd vain);
        } in
        closings.ended attempt_end.Empty (λ stopped. cc)
        (log_follows t log l0 mine [] [] mine refl falls all.tells id spans well
        (subst (λ e. Ends t (course_of t log [] []) mine e) (sym (end_is attempt_end.Empty is)) (may, refl, unsent none)))
        (right attempt_end.Empty is (ends_empty t (mine ++ l0) log (end_is attempt_end.Empty is)))

    -- and rolled back so
    nothing_back : it.closing ≡ closing.Ended attempt_end.RolledBack → is_over it.operations.work ≡ true → is_kept t.plan.keep it.operations.work ≡ false
        → it.operations.attempt.sent ≡ None → Closes t it l0 mine (closing.Ended attempt_end.RolledBack)
    nothing_back is over unkept none =
        let told = told_by t it.operations l0 mine fol log refl over in
        let well : ClosesWell t log [] told.cut = record {
          cut_follows = told.follows [];
          ended = told.ended [];
          closes = tt;
          may_commit = λ once. absurd once;
          may_abort = λ once. absurd once;
          third = (λ set. absurd (true-false set unset), λ vain. absurd vain);
        } in
        closings.ended attempt_end.RolledBack (λ stopped. cc)
        (log_follows t log l0 told.told told.cut [] mine told.ops_are falls told.tells id spans well
        (subst (λ e. Ends t (course_of t log told.cut []) mine e) (sym (end_is attempt_end.RolledBack is))
        (told.may [] unkept, book.unsent (unsent none) refl, tt)))
        (right attempt_end.RolledBack is
        (subst (λ b. IsRight t (mine ++ l0) log (Some (after_rollback b it.operations.work it.operations.logs))) (sym unset)
        (right_for_operations mine [] refl fol over unkept undecided (end_is attempt_end.RolledBack is))))

    pub closed_follows : Closed t.plan.keep it.operations it.closing → TryFollows t it l0 mine
    closed_follows closed = record { first_is = first_is; past_is = past_is; closes = by it.closing refl closed }
      where
        by_commit : (cl : Closing) → it.closing ≡ cl → (it.operations.work ≡ work.Done) × (t.plan.keep ≡ true) → Commits it.operations.attempt cl → Closes t it l0 mine cl
        by_commit _ is kept (deciding.nothing none) = empty is kept.0 kept.1 none
        by_commit _ is kept (deciding.finishes f begins) =
            closings.finishes f [] mine refl unset fol kept.0 kept.1 (begins.attempt ∙ id) begins.stands begins.going

        by_rollback : (cl : Closing) → it.closing ≡ cl → is_over it.operations.work ≡ true → is_kept t.plan.keep it.operations.work ≡ false
            → RollsBack it.operations.attempt cl → Closes t it l0 mine cl
        by_rollback _ is over unkept (deciding.nothing none) = nothing_back is over unkept none
        by_rollback _ is over unkept (deciding.undoes u begins) =
            closings.undoes u (noted it.operations.attempt.writes) [] [] mine refl fol (closings.for_operations refl unset over unkept undecided)
            (begins.attempt ∙ id) begins.own begins.stands begins.going

        by : (cl : Closing) → it.closing ≡ cl → Closed t.plan.keep it.operations cl → Closes t it l0 mine cl
        by _ is (deciding.open_yet going) = closings.open_yet unset going fol
        by cl is (deciding.commits _ kept how) = by_commit cl is (kept_done t.plan.keep it.operations.work kept) how
        by cl is (deciding.rolls_back _ over unkept how) = by_rollback cl is over unkept how

  -- ---- its commit goes on, or has ended

  module _ (f : Finish) (calls ops : List Made) (parts : mine ≡ calls ++ ops) (vain : it.not_committed ≡ is_in_vain f) (fol : Follows t it.operations l0 ops)
      (done : it.operations.work ≡ work.Done) (keep : t.plan.keep ≡ true) (attempt : f.attempt ≡ t.id) (stands : finish_stands.StandsFor f calls) where
    all : AllDone t it.operations l0 ops
    all = when_done t it.operations l0 ops fol done

    may_keep : (closing_calls : List Made) → MayKeep t (course_of t log [] closing_calls)
    may_keep closing_calls = record { all = all.all; good = all.good; keep = keep }

    not_vain : (end : FinishEnd) → finish.end_of f ≡ Some end → is_in_vain f ≡ false → (place : ℕ) → finish.end_of f ≢ Some (finish_end.NotCommitted place)
    not_vain end ended unvain place is = true-false (ap vain_end is) unvain

    commit_well : is_in_vain f ≡ false → ¬ ThirdInVain f.attempt calls → ClosesWell t log calls []
    commit_well unvain third = commit_closes t log all.all all.good f calls keep attempt stands (vain ∙ unvain) third

    -- a commit that ended otherwise than in vain
    over : (end : AttemptEnd) → end ≢ attempt_end.Stopped → it.closing ≡ closing.Ended end → is_in_vain f ≡ false → ¬ ThirdInVain f.attempt calls
        → Ends t (course_of t log [] calls) mine end → IsRight t (mine ++ l0) log (Some (after_end it end)) → Closes t it l0 mine (closing.Ended end)
    over end unstopped is unvain third ends follows =
        closings.ended end unstopped
        (log_follows t log l0 ops [] calls mine parts falls all.tells id spans (commit_well unvain third)
        (subst (λ e. Ends t (course_of t log [] calls) mine e) (sym (end_is end is)) ends))
        (right end is follows)

    ended : (end : FinishEnd) → finish.end_of f ≡ Some end → is_in_vain f ≡ false → it.closing ≡ closing.Ended (ended_by end)
        → Closes t it l0 mine (closing.Ended (ended_by end))
    ended (finish_end.Committed place complete) ends unvain is =
        let so = ends_by (finish.task_of f) f.phase calls (finish_end.Committed place complete) stands.runs ends in
        over (attempt_end.Committed place complete) (λ stopped. cc) is unvain so.2
        (may_keep calls, subst (λ a. book.CommitHolds a place calls) attempt so.0, subst (λ a. book.IsFinished a calls complete) attempt so.1)
        (ends_committed t (mine ++ l0) log place complete (end_is (attempt_end.Committed place complete) is))
    ended (finish_end.EntryLost place) ends unvain is =
        let so = ends_by (finish.task_of f) f.phase calls (finish_end.EntryLost place) stands.runs ends in
        over (attempt_end.EntryLost place) (λ stopped. cc) is unvain so.1 (may_keep calls, subst (λ a. LosesEntry a place calls) attempt so.0)
        (transactions.after_loss place (end_is (attempt_end.EntryLost place) is))
    ended (finish_end.Unknown commit reading) ends unvain is =
        let so = ends_by (finish.task_of f) f.phase calls (finish_end.Unknown commit reading) stands.runs ends in
        over (attempt_end.Unknown commit reading) (λ stopped. cc) is unvain so.1 (may_keep calls, subst (λ a. StaysUnknown a commit reading calls) attempt so.0)
        (ends_unknown t (mine ++ l0) log commit reading (end_is (attempt_end.Unknown commit reading) is))
    ended (finish_end.NotCommitted place) ends unvain is = absurd (not_vain (finish_end.NotCommitted place) ends unvain place ends)

    -- the third commit was in vain
    which : (end : Option FinishEnd) → vain_end end ≡ true → (place : ℕ) × (end ≡ Some (finish_end.NotCommitted place))
    which (Some (finish_end.NotCommitted place)) is = (place, refl)
    which (Some (finish_end.Committed place complete)) is = cc
    which (Some (finish_end.EntryLost place)) is = cc
    which (Some (finish_end.Unknown commit reading)) is = cc
    which None is = cc

    back : (u : Undo) → is_in_vain f ≡ true → BeginsUndo it.operations.attempt u → Closes t it l0 mine (closing.Undo u)
    back u is begins =
        let place = which (finish.end_of f) is in
        let so = ends_by (finish.task_of f) f.phase calls (finish_end.NotCommitted place.0) stands.runs place.1 in
        closings.undoes u (noted it.operations.attempt.writes) [] calls ops parts fol
        (closings.for_commits (vain ∙ is) done keep (subst (λ a. ThirdInVain a calls) attempt so.third) (only_commits f.attempt calls so.only)
        (subst (λ a. Each (λ m past. MayClose a past m.step) calls) attempt (all_close (finish.task_of f) f.phase calls stands.listed stands.runs))
        (commit_goes_on (finish.task_of f) f.phase calls stands.runs (vain_passes f.phase place.0 place.1)))
        (begins.attempt ∙ id) begins.own begins.stands begins.going

    pub finished_follows : (r : ℕ) → it.operations.attempt.sent ≡ Some r → Finished it.operations.attempt f it.closing → TryFollows t it l0 mine
    finished_follows r sent finished = record { first_is = first_is; past_is = past_is; closes = by it.closing refl finished }
      where
        by_rollback : (cl : Closing) → is_in_vain f ≡ true → RollsBack it.operations.attempt cl → Closes t it l0 mine cl
        by_rollback _ is (deciding.nothing none) = absurd (none-some r (sym none ∙ sent))
        by_rollback _ is (deciding.undoes u begins) = back u is begins

        by : (cl : Closing) → it.closing ≡ cl → Finished it.operations.attempt f cl → Closes t it l0 mine cl
        by _ is (deciding.goes_on going) =
            closings.finishes f calls ops parts (vain ∙ ap vain_end going) fol done keep attempt stands going
        by _ is (deciding.ended end ends unvain) = ended end ends unvain is
        by cl is (deciding.in_vain _ in_vain how) = by_rollback cl in_vain how

    -- it may be told as one that was stopped, also where no memory was found for its rollback
    pub commit_stops : ¬ ThirdInVain f.attempt calls → is_in_vain f ≡ false → log.end ≡ attempt_end.Stopped → AttemptFollows t (mine ++ l0) (past_of l0) log
    commit_stops third unvain stopped =
        log_follows t log l0 ops [] calls mine parts falls all.tells id spans (commit_well unvain third)
        (subst (λ e. Ends t (course_of t log [] calls) mine e) (sym stopped) tt)

    pub vain_stops : is_in_vain f ≡ true → log.end ≡ attempt_end.Stopped → AttemptFollows t (mine ++ l0) (past_of l0) log
    vain_stops is stopped =
        let place = which (finish.end_of f) is in
        let so = ends_by (finish.task_of f) f.phase calls (finish_end.NotCommitted place.0) stands.runs place.1 in
        let third : ThirdInVain t.id calls = subst (λ a. ThirdInVain a calls) attempt so.third in
        log_follows t log l0 ops [] calls mine parts falls all.tells id spans
        (record {
          cut_follows = tt;
          ended = attempts.all_answered all.all;
          closes = subst (λ a. Each (λ m past. MayClose a past m.step) calls) attempt (all_close (finish.task_of f) f.phase calls stands.listed stands.runs);
          may_commit = λ once. may_keep calls;
          may_abort = λ once. attempts.for_commits (vain ∙ is);
          third = (λ set. third, λ so_it_is. vain ∙ is);
        })
        (subst (λ e. Ends t (course_of t log [] calls) mine e) (sym stopped) tt)

  -- ---- its rollback goes on, or has ended

  module _ (u : Undo) (own : List ℕ → Option Own) (calls commits_before ops : List Made) (parts : mine ≡ (calls ++ commits_before) ++ ops)
      (fol : Follows t it.operations l0 ops) (why : IsRolledBack t it commits_before ops) (attempt : u.attempt ≡ t.id)
      (is_of : undo_ready.IsOf own (undo.task_of u)) (stands : undo_stands.StandsFor u calls) where
    -- the calls of the operation that was cut off, and why the try may be rolled back
    pub record IsClosed : Type 0 where
      pub told : List Made
      pub cut : List Made
      pub parts_are : mine ≡ (calls ++ commits_before) ++ (cut ++ told)
      pub tells : Told t l0 told log.ops
      pub well : ClosesWell t log (calls ++ commits_before) cut
      pub may : MayRollBack t (course_of t log cut (calls ++ commits_before))
      pub before : AreCommits commits_before

    pub closed : IsClosed
    closed = by why
      where
        by : IsRolledBack t it commits_before ops → IsClosed
        by (closings.for_operations none unset over unkept undecided) =
            let told = told_by t it.operations l0 ops fol log refl over in
            let same : calls ++ [] ≡ calls ++ commits_before = ap (λ k. calls ++ k) (sym none) in
            record {
              told = told.told;
              cut = told.cut;
              parts_are = parts ∙ ap (λ k. (calls ++ commits_before) ++ k) told.ops_are;
              tells = told.tells;
              well = subst (λ k. ClosesWell t log k told.cut) same
                  (operations_close t log u own attempt is_of calls stands told.cut unset (told.follows (calls ++ [])) (told.ended (calls ++ [])) (told.may (calls ++ []) unkept));
              may = told.may (calls ++ commits_before) unkept;
              before = subst AreCommits (sym none) tt;
            }
        by (closings.for_commits set done keep third are each on_way) =
            let all = when_done t it.operations l0 ops fol done in
            record {
              told = ops;
              cut = [];
              parts_are = parts;
              tells = all.tells;
              well = commits_close t log u own attempt is_of calls stands commits_before set all.all all.good keep third are each;
              may = attempts.for_commits set;
              before = are;
            }

    ends_so : (end : AttemptEnd) → it.closing ≡ closing.Ended end → Ends t (course_of t log closed.cut (calls ++ commits_before)) mine end
        → AttemptFollows t (mine ++ l0) (past_of l0) log
    ends_so end is ends =
        log_follows t log l0 closed.told closed.cut (calls ++ commits_before) mine closed.parts_are falls closed.tells id spans closed.well
        (subst (λ e. Ends t (course_of t log closed.cut (calls ++ commits_before)) mine e) (sym (end_is end is)) ends)

    right_back : log.end ≡ attempt_end.RolledBack
        → IsRight t (mine ++ l0) log (Some (after_rollback it.not_committed it.operations.work it.operations.logs))
    right_back ended = by why
      where
        by : IsRolledBack t it commits_before ops → IsRight t (mine ++ l0) log (Some (after_rollback it.not_committed it.operations.work it.operations.logs))
        by (closings.for_operations none unset over unkept undecided) =
            subst (λ b. IsRight t (mine ++ l0) log (Some (after_rollback b it.operations.work it.operations.logs))) (sym unset)
            (right_for_operations ops (calls ++ commits_before) parts fol over unkept undecided ended)
        by (closings.for_commits set done keep third are each on_way) =
            subst (λ b. IsRight t (mine ++ l0) log (Some (after_rollback b it.operations.work it.operations.logs))) (sym set)
            (transactions.after_commits ended set)

    rolled : undo.end_of u ≡ Some undo_end.RolledBack → it.closing ≡ closing.Ended attempt_end.RolledBack → Closes t it l0 mine (closing.Ended attempt_end.RolledBack)
    rolled ends is =
        let a = (undo.task_of u).attempt in
        closings.ended attempt_end.RolledBack (λ stopped. cc)
        (ends_so attempt_end.RolledBack is (
          closed.may,
          subst (λ k. book.IsUndone k mine (calls ++ commits_before)) attempt
              (undone_after (undo.task_of u) u.phase calls stands commits_before mine ends),
          subst (λ k. Each (λ m before. HasAborted k (m ∷ before) → m.answer.reply ≢ reply.Failed) (calls ++ commits_before)) attempt
              (fine_after (undo.task_of u) u.phase calls stands commits_before closed.before ends),
        ))
        (right attempt_end.RolledBack is (right_back (end_is attempt_end.RolledBack is)))

    failed : (place : ℕ) → undo.end_of u ≡ Some (undo_end.Incomplete place) → it.closing ≡ closing.Ended (attempt_end.Incomplete place)
        → Closes t it l0 mine (closing.Ended (attempt_end.Incomplete place))
    failed place ends is =
        closings.ended (attempt_end.Incomplete place) (λ stopped. cc)
        (ends_so (attempt_end.Incomplete place) is (
          closed.may,
          subst (λ k. Once (λ m before. (m.answer.place ≡ place) × (m.answer.reply ≡ reply.Failed) × HasAborted k (m ∷ before)) (calls ++ commits_before)) attempt
              (failed_after (undo.task_of u) u.phase calls stands commits_before place ends),
        ))
        (right (attempt_end.Incomplete place) is (ends_failed_call t (mine ++ l0) log place (end_is (attempt_end.Incomplete place) is)))

    pub undone_follows : it.closing ≡ undone u → TryFollows t it l0 mine
    undone_follows is = record { first_is = first_is; past_is = past_is; closes = by (undo.end_of u) refl }
      where
        by : (end : Option UndoEnd) → undo.end_of u ≡ end → Closes t it l0 mine it.closing
        by None going =
            subst (λ k. Closes t it l0 mine k) (sym (is ∙ ap (undone_in u) going))
            (closings.undoes u own calls commits_before ops parts fol why attempt is_of stands going)
        by (Some undo_end.RolledBack) ends =
            let here : it.closing ≡ closing.Ended attempt_end.RolledBack = is ∙ ap (undone_in u) ends in
            subst (λ k. Closes t it l0 mine k) (sym here) (rolled ends here)
        by (Some (undo_end.Incomplete place)) ends =
            let here : it.closing ≡ closing.Ended (attempt_end.Incomplete place) = is ∙ ap (undone_in u) ends in
            subst (λ k. Closes t it l0 mine k) (sym here) (failed place ends here)

    pub rollback_stops : log.end ≡ attempt_end.Stopped → AttemptFollows t (mine ++ l0) (past_of l0) log
    rollback_stops stopped =
        log_follows t log l0 closed.told closed.cut (calls ++ commits_before) mine closed.parts_are falls closed.tells id spans closed.well
        (subst (λ e. Ends t (course_of t log closed.cut (calls ++ commits_before)) mine e) (sym stopped) tt)
