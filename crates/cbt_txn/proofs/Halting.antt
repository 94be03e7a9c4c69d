-- A try may be told at any moment as one that was stopped.
use Rattle.std.proofs.Common.{◌≡◌, ◌⊎◌, Bool, true, false, inl, inr, ⊎_elim, List, [], ◌∷◌, ◌++◌, Option, Some, None, refl, sym, ap, ◌∙◌, subst}
use Rattle.cbt_model.specs.declared.events.Made.{Made}
use Rattle.cbt_book.specs.OwnLists.{Descends}
use Rattle.cbt_book.specs.Spans.{past_of, span_of}
use Rattle.cbt_book.specs.declared.clients.AttemptEnd.TheVariants as attempt_end
use Rattle.cbt_book.specs.declared.clients.AttemptLog.{AttemptLog}
use Rattle.cbt_core.specs.Attempts as attempts
use Rattle.cbt_core.specs.Attempts.{AttemptFollows, Ends, course_of}
use Rattle.cbt_core.specs.OpCalls as op_calls
use Rattle.cbt_core.specs.OpCalls.{OpCalls, write_terms}
use Rattle.cbt_core.specs.Walk.{AttemptTerms}
use Rattle.cbt_commit.specs.Phases as finish
use Rattle.cbt_commit.proofs.Knowing.{third_by}
use Rattle.cbt_logs.specs.Closing.{ClosesWell}
use Rattle.cbt_logs.specs.Operating.{AreFine, AreFineBefore, Operates, asked, sofar}
use Rattle.cbt_logs.proofs.Closed.{closed_by_stop}
use Rattle.cbt_stage.proofs.Counting.{put_calls}
use Rattle.cbt_stage.specs.Rewriting.{KnowsOnce}
use Rattle.cbt_stage.specs.declared.ends.PutEnd.{PutEnd}
use Rattle.cbt_txn.specs.Closings.{Closes, TryFollows, TryHalts, end_in, log_of}
use Rattle.cbt_txn.specs.Closings as closings
use Rattle.cbt_txn.specs.Deciding.{is_over, vain_end}
use Rattle.cbt_txn.specs.Following as following
use Rattle.cbt_txn.specs.Following.{Follows, Halts, Works, first_place}
use Rattle.cbt_txn.specs.declared.operations.Operations.{Operations}
use Rattle.cbt_txn.specs.declared.operations.Work.{Work}
use Rattle.cbt_txn.specs.declared.tries.Closing.{Closing}
use Rattle.cbt_txn.specs.declared.tries.Closing.TheVariants as closing
use Rattle.cbt_txn.specs.declared.tries.Try.{Try}
use Rattle.cbt_txn.proofs.Closings.{span_so_far}
use Rattle.cbt_txn.proofs.FirstCalls.{no_calls}
use Rattle.cbt_txn.proofs.Following.{commit_stops, rollback_stops}
use Rattle.cbt_txn.proofs.Over.{log_follows}
use Rattle.cbt_txn.proofs.Readings.{get_writes}
use Rattle.cbt_txn.proofs.Taken.{put_bounded}

true-false : {b : Bool} → b ≡ true → b ≡ false → ⊥
true-false one two = cc

fine_before : (t : AttemptTerms) (calls : List Made) → AreFine t calls → AreFineBefore t calls
fine_before t [] fine = tt
fine_before t (m ∷ calls) fine = fine.1

-- a write over an own write that has not ended has made no call
pub uncalled : (o : _) (end : Option PutEnd) (calls : List Made) → KnowsOnce o end calls → end ≡ None → calls ≡ []
uncalled o None calls knows is = knows
uncalled o (Some end) calls knows is = cc

module _ (t : AttemptTerms) (c : Operations) (older calls : List Made) where
  -- an operation is under way while the work goes on
  pub works_operate : (w : Work) → Works t c older calls w → is_over w ≡ false → Operates t c.logs calls
  works_operate _ (following.gets o it name goes asks unwritten stands going) unended = record {
    op = o;
    next = goes.next;
    bounded = subst (λ r. OpCalls t (sofar t c.logs) r calls) (sym asks) stands.bounded;
    fine = fine_before t calls goes.fine;
  }
  works_operate _ (following.reads o it write goes for stands going) unended = record {
    op = o;
    next = goes.next;
    bounded = subst (λ r. OpCalls t (sofar t c.logs) r calls) (sym for.asks)
        (get_writes (write_terms t) it.doc calls stands.bounded, op_calls.unserved (goes.agrees.own_none it.doc for.unwritten) for.unserved);
    fine = fine_before t calls goes.fine;
  }
  works_operate _ (following.puts o it mine reads goes same on going) unended = record {
    op = o;
    next = goes.next;
    bounded = subst (λ k. OpCalls t (sofar t c.logs) (asked t c.logs o) k) (sym same)
        (subst (λ r. OpCalls t (sofar t c.logs) r (mine ++ reads)) (sym on.asks)
        (put_bounded (write_terms t) (sofar t c.logs) it.task.doc it.task.write.kind mine reads (goes.agrees.own_none it.task.doc on.unwritten)
        (put_calls (write_terms t) it.task.doc it.phase mine on.stands.room) on.reads_are));
    fine = fine_before t calls goes.fine;
  }
  works_operate _ (following.agains o it goes again going) unended = record {
    op = o;
    next = goes.next;
    bounded = subst (λ k. OpCalls t (sofar t c.logs) (asked t c.logs o) k) (sym (uncalled it.task it.end calls again.stands.knows going))
        (no_calls t (sofar t c.logs) (asked t c.logs o));
    fine = fine_before t calls goes.fine;
  }
  works_operate _ (following.done none good all) unended = cc
  works_operate _ (following.refused none refused) unended = cc
  works_operate _ (following.late newest before calls_are late operates) unended = cc

module _ (t : AttemptTerms) (c : Operations) (l0 mine : List Made) (it : Follows t c l0 mine) where
  -- what follows may be cut off
  under_way : (w : Work) → Works t c (it.told ++ l0) it.calls w → is_over w ≡ false → Operates t c.logs it.calls
  under_way w works unended = works_operate t c (it.told ++ l0) it.calls w works unended

  pub follows_halt : Halts t c.logs l0 mine
  follows_halt = record { told = it.told; calls = it.calls; mine_is = it.mine_is; tells = it.tells; operates = by c.work it.works }
    where
      by : (w : Work) → Works t c (it.told ++ l0) it.calls w → (it.calls ≡ []) ⊎ Operates t c.logs it.calls
      by _ (following.done none good all) = inl none
      by _ (following.refused none refused) = inl none
      by _ (following.late newest before calls_are late operates) = inr operates
      by _ (following.gets o get name goes asks unwritten stands going) = inr (under_way _ (following.gets o get name goes asks unwritten stands going) refl)
      by _ (following.reads o get write goes for stands going) = inr (under_way _ (following.reads o get write goes for stands going) refl)
      by _ (following.puts o put own reads goes same on going) = inr (under_way _ (following.puts o put own reads goes same on going) refl)
      by _ (following.agains o again goes writes going) = inr (under_way _ (following.agains o again goes writes going) refl)

-- a try that was cut off in its operations
pub halts_follow : (t : AttemptTerms) (log : AttemptLog) (l0 mine : List Made) → Descends (mine ++ l0) → Halts t log.ops l0 mine → log.id ≡ t.id
    → log.span ≡ span_of (past_of l0) mine → log.not_committed ≡ false → log.end ≡ attempt_end.Stopped → AttemptFollows t (mine ++ l0) (past_of l0) log
halts_follow t log l0 mine falls it id spans unset stopped =
    log_follows t log l0 it.told it.calls [] mine it.mine_is falls it.tells id spans well
    (subst (λ e. Ends t (course_of t log it.calls []) mine e) (sym stopped) tt)
  where
    none : ClosesWell t log [] []
    none = record {
      cut_follows = tt;
      ended = attempts.stopped stopped;
      closes = tt;
      may_commit = λ once. absurd once;
      may_abort = λ once. absurd once;
      third = (λ set. absurd (true-false set unset), λ vain. absurd vain);
    }

    well : ClosesWell t log [] it.calls
    well = ⊎_elim (λ empty. subst (λ k. ClosesWell t log [] k) (sym empty) none) (λ operates. closed_by_stop t log it.calls operates stopped unset) it.operates

-- ---- at any moment

module _ (t : AttemptTerms) (it : Try) (l0 mine : List Made) (falls : Descends (mine ++ l0)) (id : it.operations.attempt.id ≡ t.id) (fol : TryFollows t it l0 mine) where
  stopped_log : (cl : Closing) → it.closing ≡ cl → end_in cl ≡ attempt_end.Stopped → (log_of it).end ≡ attempt_end.Stopped
  stopped_log cl is stopped = ap end_in is ∙ stopped

  stops_in : (cl : Closing) → it.closing ≡ cl → Closes t it l0 mine cl → AttemptFollows t (mine ++ l0) (past_of l0) (log_of it)
  stops_in _ is (closings.open_yet unset going ops) =
      halts_follow t (log_of it) l0 mine falls (follows_halt t it.operations l0 mine ops) id (span_so_far it.first it.past l0 mine fol.first_is fol.past_is) unset
      (stopped_log closing.Open is refl)
  stops_in _ is (closings.finishes f calls ops parts unset follows done keep attempt stands going) =
      commit_stops t it l0 mine id falls fol.first_is fol.past_is f calls ops parts (unset ∙ sym (ap vain_end going)) follows done keep attempt stands
      (third_by (finish.task_of f) f.phase calls stands.runs (λ place ended. none-some-end (sym going ∙ ended))) (ap vain_end going)
      (stopped_log (closing.Finish f) is refl)
    where
      none-some-end : {X : Type 0} {x : X} → None ≡ Some x → ⊥
      none-some-end both = cc
  stops_in _ is (closings.undoes u own calls commits ops parts follows why attempt is_of stands going) =
      rollback_stops t it l0 mine id falls fol.first_is fol.past_is u own calls commits ops parts follows why attempt is_of stands (stopped_log (closing.Undo u) is refl)
  stops_in _ is (closings.ended end unstopped follows right) = follows

  pub try_halts : TryHalts t it l0 mine
  try_halts = record { past_is = fol.past_is; follows = stops_in it.closing refl fol.closes }
