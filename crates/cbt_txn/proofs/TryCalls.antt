-- A try that goes on has a call to make, and no end but that it was stopped.
use Rattle.std.proofs.Common.{◌≡◌, ◌≢◌, ℕ, ◌⊎◌, Bool, true, false, inl, inr, ⊎_elim, List, [], ◌∷◌, ◌++◌, length, drop, Option, Some, None, refl, sym, ap, ◌∙◌, subst, arith}
use Rattle.std.proofs.lemmas.Bool.{and_parts}
use Rattle.std.proofs.lemmas.List.{append_assoc}
use Rattle.cbt_model.specs.declared.events.Made.{Made}
use Rattle.cbt_model.specs.declared.steps.Reply.TheVariants as reply
use Rattle.cbt_model.specs.declared.steps.Step.{Step}
use Rattle.cbt_model.specs.declared.steps.Step.TheVariants as step
use Rattle.cbt_book.specs.Numbers.{Identity}
use Rattle.cbt_book.specs.OwnLists.{Descends, Each, Once, during}
use Rattle.cbt_book.specs.Shown.{aborts, adds}
use Rattle.cbt_book.specs.Spans.{past_of, span_of}
use Rattle.cbt_book.specs.declared.clients.AttemptEnd.{AttemptEnd}
use Rattle.cbt_book.specs.declared.clients.AttemptEnd.TheVariants as attempt_end
use Rattle.cbt_book.specs.declared.clients.AttemptLog.{AttemptLog}
use Rattle.cbt_book.specs.declared.operations.OpLog.{OpLog}
use Rattle.cbt_core.specs.Attempts as attempts
use Rattle.cbt_core.specs.Attempts.{AttemptFollows, Ends, IsLate, LastIs, MayKeep, MayRollBack, all_good, course_of}
use Rattle.cbt_core.specs.Operations.{is_good}
use Rattle.cbt_core.specs.Staying.{StaysAsShown}
use Rattle.cbt_core.specs.Stops.{Asks, HasCall}
use Rattle.cbt_core.specs.Stops as stops
use Rattle.cbt_core.specs.Walk.{AttemptTerms}
use Rattle.cbt_attempt.specs.declared.own.Own.{Own}
use Rattle.cbt_commit.specs.Phases as finish
use Rattle.cbt_commit.specs.Standing as finish_stands
use Rattle.cbt_commit.specs.declared.finishes.Finish.{Finish}
use Rattle.cbt_commit.proofs.Knowing.{third_by}
use Rattle.cbt_commit.proofs.Licensing.{none_aborts}
use Rattle.cbt_logs.specs.Closing.{ClosesWell}
use Rattle.cbt_logs.specs.Operating.{AreFine, Operates, Told}
use Rattle.cbt_logs.proofs.Closed.{attempt_parts, closed_by_stop}
use Rattle.cbt_logs.proofs.Lists.{each_join, once_back}
use Rattle.cbt_logs.proofs.Spans.{during_span}
use Rattle.cbt_rollback.specs.Commits.{rolls_back}
use Rattle.cbt_rollback.specs.Phases as undo
use Rattle.cbt_rollback.specs.Ready as undo_ready
use Rattle.cbt_rollback.specs.Standing as undo_stands
use Rattle.cbt_rollback.specs.declared.undos.Undo.{Undo}
use Rattle.cbt_txn.specs.Closings.{Closes, GoesOnAfter, IsRolledBack, MayCloseOn, TryFollows, TryMayGoOn, end_in, log_of}
use Rattle.cbt_txn.specs.Closings as closings
use Rattle.cbt_txn.specs.Deciding.{is_over}
use Rattle.cbt_txn.specs.Following as following
use Rattle.cbt_txn.specs.Following.{Follows, Works}
use Rattle.cbt_txn.specs.Tries.{outcome, outcome_in}
use Rattle.cbt_txn.specs.declared.operations.Operations.{Operations}
use Rattle.cbt_txn.specs.declared.operations.Work.{Work}
use Rattle.cbt_txn.specs.declared.operations.Work.TheVariants as work
use Rattle.cbt_txn.specs.declared.tries.Closing.{Closing}
use Rattle.cbt_txn.specs.declared.tries.Closing.TheVariants as closing
use Rattle.cbt_txn.specs.declared.tries.Try.{Try}
use Rattle.cbt_txn.proofs.Closings.{commit_closes, span_so_far}
use Rattle.cbt_txn.proofs.ClosingsOpen.{commit_goes_on, none_aborted, open_passes, still_closing, undo_goes_on}
use Rattle.cbt_txn.proofs.Following.{closed}
use Rattle.cbt_txn.proofs.GetsOpen.{each_so}
use Rattle.cbt_txn.proofs.Halting.{works_operate}
use Rattle.cbt_txn.proofs.OpsOpen.{works_unanswered}
use Rattle.cbt_txn.proofs.Over.{when_done}
use Rattle.cbt_txn.proofs.ReadOnce.{past_front}

true-false : {b : Bool} → b ≡ true → b ≡ false → ⊥
true-false one two = cc

none-some-end : {X : Type 0} {x : X} → None ≡ Some x → ⊥
none-some-end both = cc

cons_none : {X : Type 0} {x : X} {xs : List X} → x ∷ xs ≡ [] → ⊥
cons_none both = cc

-- ---- by its parts

pub has_call_by : (t : AttemptTerms) (log : AttemptLog) (l0 told cut closing_calls mine : List Made) → mine ≡ closing_calls ++ (cut ++ told) → Descends (mine ++ l0)
    → Told t l0 told log.ops → log.id ≡ t.id → log.span ≡ span_of (past_of l0) mine → ClosesWell t log closing_calls cut → log.end ≡ attempt_end.Stopped
    → ((e : AttemptEnd) → Ends t (course_of t log cut closing_calls) mine e → e ≡ attempt_end.Stopped)
    → Asks t ((closing_calls ++ cut) ++ (told ++ l0)) (course_of t log cut closing_calls) → HasCall t (mine ++ l0) (past_of l0) log
has_call_by t log l0 told cut closing_calls mine is falls tells id spans well stopped unended asks =
    let parts : mine ≡ (closing_calls ++ cut) ++ told = is ∙ sym (append_assoc closing_calls cut told) in
    let same : mine ++ l0 ≡ (closing_calls ++ cut) ++ (told ++ l0) = ap (λ k. k ++ l0) parts ∙ append_assoc (closing_calls ++ cut) told l0 in
    let own : during log.span ((closing_calls ++ cut) ++ (told ++ l0)) ≡ mine =
    ap (λ k. during log.span k) (sym same) ∙ ap (λ s. during s (mine ++ l0)) spans ∙ during_span mine l0 falls in
    let so =
    attempt_parts t l0 told closing_calls cut log (subst Descends same falls) tells id (spans ∙ ap (λ k. span_of (past_of l0) k) parts) well
    (subst (λ e. Ends t (course_of t log cut closing_calls) ((closing_calls ++ cut) ++ told) e) (sym stopped) tt) in
    subst (λ k. HasCall t k (past_of l0) log) (sym same)
    (record {
      stopped = stopped;
      follows = so.0;
      unended = λ e ends.
          unended e (subst (λ k. Ends t (course_of t log cut closing_calls) k e) own
          (subst (λ k. Ends t (course_of t log k closing_calls) (during log.span ((closing_calls ++ cut) ++ (told ++ l0))) e) so.1
          (subst (λ k. Ends t (course_of t log so.0.cut k) (during log.span ((closing_calls ++ cut) ++ (told ++ l0))) e) so.2 ends)));
      asks = subst (λ k. Asks t ((closing_calls ++ cut) ++ (told ++ l0)) (course_of t log so.0.cut k)) (sym so.2)
          (subst (λ k. Asks t ((closing_calls ++ cut) ++ (told ++ l0)) (course_of t log k closing_calls)) (sym so.1) asks);
    })

-- ---- while an operation is under way

last_good : (logs : List OpLog) → all_good logs ≡ true → LastIs (λ log. is_good log.answer ≡ false) logs → ⊥
last_good [] good last = last
last_good (log ∷ []) good last = true-false (and_parts (is_good log.answer) (all_good []) good).0 last
last_good (log ∷ next ∷ logs) good last = last_good (next ∷ logs) (and_parts (is_good log.answer) (all_good (next ∷ logs)) good).1 last

works_fine : (t : AttemptTerms) (c : Operations) (older calls : List Made) (w : Work) → Works t c older calls w → is_over w ≡ false → AreFine t calls
works_fine t c older calls _ (following.gets o it name goes asks unwritten stands going) unended = goes.fine
works_fine t c older calls _ (following.reads o it write goes for stands going) unended = goes.fine
works_fine t c older calls _ (following.puts o it mine reads goes same on going) unended = goes.fine
works_fine t c older calls _ (following.agains o it goes writes going) unended = goes.fine
works_fine t c older calls _ (following.done none good all) unended = cc
works_fine t c older calls _ (following.refused none refused) unended = cc
works_fine t c older calls _ (following.late newest before calls_are late operates) unended = cc

in_time : (t : AttemptTerms) (calls : List Made) → AreFine t calls → IsLate t calls → ⊥
in_time t [] fine late = late
in_time t (m ∷ calls) fine late = omega (arith, fine.0.0, late)

module _ (t : AttemptTerms) (log : AttemptLog) (mine calls : List Made) (it : Operates t log.ops calls) (fine : AreFine t calls) (unset : log.not_committed ≡ false) where
  not_kept : MayKeep t (course_of t log calls []) → ⊥
  not_kept may = cons_none (sym it.next.left ∙ may.all)

  not_back : MayRollBack t (course_of t log calls []) → ⊥
  not_back (attempts.for_answer last) = last_good log.ops it.next.good last
  not_back (attempts.for_time late) = in_time t calls fine late
  not_back (attempts.for_plan all good keep) = cons_none (sym it.next.left ∙ all)
  not_back (attempts.for_commits set) = true-false set unset

  pub open_unended : (e : AttemptEnd) → Ends t (course_of t log calls []) mine e → e ≡ attempt_end.Stopped
  open_unended (attempt_end.Committed place complete) ends = absurd (not_kept ends.0)
  open_unended attempt_end.Empty ends = absurd (not_kept ends.0)
  open_unended attempt_end.RolledBack ends = absurd (not_back ends.0)
  open_unended (attempt_end.EntryLost place) ends = absurd (not_kept ends.0)
  open_unended (attempt_end.Unknown commit reading) ends = absurd (not_kept ends.0)
  open_unended (attempt_end.Incomplete place) ends = absurd (not_back ends.0)
  open_unended attempt_end.Stopped ends = refl

-- ---- a try that closes has sent its entry

front_or_back : (P : Made → Type 0) (xs ys : List Made) → Once (λ m _. P m) (xs ++ ys) → Once (λ m _. P m) xs ⊎ Once (λ m _. P m) ys
front_or_back P [] ys met = inr met
front_or_back P (x ∷ xs) ys met =
    ⊎_elim (λ (here : P x). inl (inl here))
    (λ (past : Once (λ m _. P m) (xs ++ ys)). ⊎_elim (λ front. inl (inr front)) (λ back. inr back) (front_or_back P xs ys past)) met

abbrev is_closing : Closing → Bool
is_closing (closing.Finish f) = true
is_closing (closing.Undo u) = true
is_closing _ = false

added : (r a : ℕ) (l : List Made) → Once (λ m _. (exp : ℕ) × (m.step ≡ step.AddEntry r a exp)) l → Once (λ m _. adds m.step ≡ Some a) l
added r a [] met = met
added r a (m ∷ l) met =
    ⊎_elim (λ (here : (exp : ℕ) × (m.step ≡ step.AddEntry r a exp)). inl (ap adds here.1))
    (λ (past : Once (λ m _. (exp : ℕ) × (m.step ≡ step.AddEntry r a exp)) l). inr (added r a l past)) met

was_sent : (who : Identity) (it : Try) (l : List Made) (cl : Closing) → MayCloseOn who it l cl → is_closing cl ≡ true
    → Once (λ m _. adds m.step ≡ Some it.operations.attempt.id) l
was_sent who it l _ (closings.open_yet may) is = absurd (true-false is refl)
was_sent who it l _ (closings.finishes f calls older l_is stands ready owns attempt sent) is =
    subst (λ k. Once (λ m _. adds m.step ≡ Some it.operations.attempt.id) k) (sym l_is)
    (once_back _ calls older (added f.atr it.operations.attempt.id older (owns.sent f.atr sent)))
was_sent who it l _ (closings.undoes u calls older l_is stands ready attempt) is =
    subst (λ k. Once (λ m _. adds m.step ≡ Some it.operations.attempt.id) k) (sym l_is)
    (once_back _ calls older (subst (λ a. Once (λ m _. adds m.step ≡ Some a) older) attempt (added u.atr u.attempt older ready.abortable.sent)))
was_sent who it l _ (closings.ended end) is = absurd (true-false is refl)

commits_abort_not : (m : Made) → rolls_back m.step ≡ false → aborts m.step ≡ None
commits_abort_not m is = by m.step is
  where
    by : (s : Step) → rolls_back s ≡ false → aborts s ≡ None
    by (step.Abort r a lists) is = cc
    by _ is = refl

-- ---- a try that goes on

module _ (t : AttemptTerms) (it : Try) (l0 mine : List Made) (who : Identity) (falls : Descends (mine ++ l0)) (id : it.operations.attempt.id ≡ t.id)
    (fol : TryFollows t it l0 mine) (stays : StaysAsShown (mine ++ l0)) (may : TryMayGoOn who it (mine ++ l0)) (unsent : ¬ Once (λ m _. adds m.step ≡ Some t.id) l0) where
  abbrev log : AttemptLog
  log = log_of it

  spans : log.span ≡ span_of (past_of l0) mine
  spans = span_so_far it.first it.past l0 mine fol.first_is fol.past_is

  sent : (cl : Closing) → it.closing ≡ cl → is_closing cl ≡ true → Once (λ m _. adds m.step ≡ Some t.id) mine
  sent cl is closes =
      ⊎_elim (λ front. front) (λ back. absurd (unsent back))
      (front_or_back (λ m. adds m.step ≡ Some t.id) mine l0
      (subst (λ a. Once (λ m _. adds m.step ≡ Some a) (mine ++ l0)) id
      (was_sent who it (mine ++ l0) cl (subst (λ k. MayCloseOn who it (mine ++ l0) k) is may) closes)))

  open_call : it.closing ≡ closing.Open → it.not_committed ≡ false → is_over it.operations.work ≡ false → Follows t it.operations l0 mine → HasCall t (mine ++ l0) (past_of l0) log
  open_call is unset unended ops =
      let operates = works_operate t it.operations (ops.told ++ l0) ops.calls it.operations.work ops.works unended in
      let same : mine ++ l0 ≡ ops.calls ++ (ops.told ++ l0) = ap (λ k. k ++ l0) ops.mine_is ∙ append_assoc ops.calls ops.told l0 in
      let none =
      works_unanswered t it.operations (ops.told ++ l0) ops.calls (subst (λ k. StaysAsShown k) same stays) it.operations.work ops.works unended in
      has_call_by t log l0 ops.told ops.calls [] mine ops.mine_is falls ops.tells id spans (closed_by_stop t log ops.calls operates (ap end_in is) unset) (ap end_in is)
      (open_unended t log mine ops.calls operates (works_fine t it.operations (ops.told ++ l0) ops.calls it.operations.work ops.works unended) unset)
      (stops.unanswered none.op none.next.rest none.next.left none.next.good none.none)

  finish_call : (f : Finish) (calls ops : List Made) → it.closing ≡ closing.Finish f → mine ≡ calls ++ ops → it.not_committed ≡ false → Follows t it.operations l0 ops
      → it.operations.work ≡ work.Done → t.plan.keep ≡ true → f.attempt ≡ t.id
      → finish_stands.StandsFor f calls → finish.end_of f ≡ None → HasCall t (mine ++ l0) (past_of l0) log
  finish_call f calls ops is parts unset follows done keep attempt stands going =
      let all = when_done t it.operations l0 ops follows done in
      has_call_by t log l0 ops [] calls mine parts falls all.tells id spans
      (commit_closes t log all.all all.good f calls keep attempt stands unset
      (third_by (finish.task_of f) f.phase calls stands.runs (λ place ended. none-some-end (sym going ∙ ended)))) (ap end_in is)
      (still_closing t (course_of t log [] calls) mine (commit_goes_on (finish.task_of f) f.phase calls stands.runs (open_passes f.phase going))
      (sent (closing.Finish f) is refl) (λ place. none_aborted t.id place calls (none_aborts (finish.task_of f) f.phase calls stands.runs)))
      (stops.all_answered all.all)

  undo_call : (u : Undo) (own : List ℕ → Option Own) (calls tried ops : List Made) → it.closing ≡ closing.Undo u → mine ≡ (calls ++ tried) ++ ops → Follows t it.operations l0 ops
      → IsRolledBack t it tried ops → u.attempt ≡ t.id → undo_ready.IsOf own (undo.task_of u) → undo_stands.StandsFor u calls
      → undo.end_of u ≡ None → HasCall t (mine ++ l0) (past_of l0) log
  undo_call u own calls tried ops is parts follows why attempt is_of stands going =
      let so = closed t it l0 mine id falls fol.first_is fol.past_is u own calls tried ops parts follows why attempt is_of stands in
      let goes = undo_goes_on (undo.task_of u) u.phase calls stands going in
      has_call_by t log l0 so.told so.cut (calls ++ tried) mine so.parts_are falls so.tells id spans so.well (ap end_in is)
      (still_closing t (course_of t log so.cut (calls ++ tried)) mine
      (each_join GoesOnAfter calls tried (each_so (λ m. GoesOnAfter m × (m.answer.reply ≢ reply.Failed)) GoesOnAfter calls (λ m it. it.0) goes) (tried_goes why))
      (sent (closing.Undo u) is refl)
      (λ place met. none_aborted t.id place tried (each_so (λ m. rolls_back m.step ≡ false) (λ m. aborts m.step ≡ None) tried commits_abort_not so.before)
      (past_front (λ m. m.answer.reply ≢ reply.Failed) _ calls tried (λ m past unfailed it. unfailed it.1)
      (each_so (λ m. GoesOnAfter m × (m.answer.reply ≢ reply.Failed)) (λ m. m.answer.reply ≢ reply.Failed) calls (λ m it. it.1) goes) met)))
      (asks (((calls ++ tried) ++ so.cut) ++ (so.told ++ l0)) so.cut so.may)
    where
      tried_goes : IsRolledBack t it tried ops → Each (λ m _. GoesOnAfter m) tried
      tried_goes (closings.for_operations none unset over unkept undecided) = subst (λ k. Each (λ m _. GoesOnAfter m) k) (sym none) tt
      tried_goes (closings.for_commits set done keep third are each on_way) = on_way

      vain : it.not_committed ≡ true → IsRolledBack t it tried ops → drop (length log.ops) t.plan.ops ≡ []
      vain set (closings.for_operations none unset over unkept undecided) = absurd (true-false set unset)
      vain set (closings.for_commits is_set done keep third are each on_way) = (when_done t it.operations l0 ops follows done).all

      asks : (k cut : List Made) → MayRollBack t (course_of t log cut (calls ++ tried)) → Asks t k (course_of t log cut (calls ++ tried))
      asks k cut (attempts.for_answer last) = stops.refused last
      asks k cut (attempts.for_time late) = stops.late late
      asks k cut (attempts.for_plan all good keep) = stops.all_answered all
      asks k cut (attempts.for_commits set) = stops.all_answered (vain set why)

  pub try_has_call : outcome it ≡ None → HasCall t (mine ++ l0) (past_of l0) log
  try_has_call going = by it.closing refl fol.closes going
    where
      by : (cl : Closing) → it.closing ≡ cl → Closes t it l0 mine cl → outcome_in it cl ≡ None → HasCall t (mine ++ l0) (past_of l0) log
      by _ is (closings.open_yet unset unended ops) open_yet = open_call is unset unended ops
      by _ is (closings.finishes f calls ops parts unset follows done keep attempt stands unended) open_yet =
          finish_call f calls ops is parts unset follows done keep attempt stands unended
      by _ is (closings.undoes u own calls tried ops parts follows why attempt is_of stands unended) open_yet =
          undo_call u own calls tried ops is parts follows why attempt is_of stands unended
      by _ is (closings.ended end unstopped follows right) open_yet = absurd (cc)
