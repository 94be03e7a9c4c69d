-- What closes a try goes on with licensed calls.
use Rattle.std.proofs.Common.{◌≡◌, ℕ, Bool, true, inl, inr, ⊎_elim, List, [], ◌∷◌, ◌++◌, Option, Some, None, refl, sym, ◌∙◌, subst}
use Rattle.std.proofs.lemmas.Option.{none-some}
use Rattle.cbt_model.specs.History.{commits}
use Rattle.cbt_model.specs.declared.events.Made.{Made}
use Rattle.cbt_model.specs.declared.steps.Step.{Step}
use Rattle.cbt_model.specs.declared.steps.Step.TheVariants as step
use Rattle.cbt_book.specs.Licence.{CommitsUnsettled}
use Rattle.cbt_book.specs.Numbers.{Identity}
use Rattle.cbt_book.specs.OwnLists.{Each, Once}
use Rattle.cbt_book.specs.Shown.{aborts, decides}
use Rattle.cbt_attempt.specs.Notes.{IsNoStaging, IsQuiet, NotesWrites}
use Rattle.cbt_attempt.specs.OwnWrites.{noted}
use Rattle.cbt_attempt.specs.declared.own.Own.{Own}
use Rattle.cbt_attempt.proofs.Notes.{writes_unstaged}
use Rattle.cbt_commit.specs.Phases as finish
use Rattle.cbt_commit.specs.Ready as finish_ready
use Rattle.cbt_commit.specs.Standing as finish_stands
use Rattle.cbt_commit.specs.declared.finishes.Finish.{Finish}
use Rattle.cbt_commit.specs.declared.phases.FinishEnd.{FinishEnd}
use Rattle.cbt_commit.specs.declared.phases.FinishEnd.TheVariants as finish_end
use Rattle.cbt_commit.proofs.Licensing.{all_quiet_calls, none_aborts, unsettled}
use Rattle.cbt_rollback.specs.Phases as undo
use Rattle.cbt_rollback.specs.Ready as undo_ready
use Rattle.cbt_rollback.specs.Standing as undo_stands
use Rattle.cbt_rollback.specs.declared.phases.UndoEnd.{UndoEnd}
use Rattle.cbt_rollback.specs.declared.undos.Undo.{Undo}
use Rattle.cbt_txn.specs.Closings.{MayCloseOn}
use Rattle.cbt_txn.specs.Closings as closings
use Rattle.cbt_txn.specs.Deciding.{BeginsFinish, BeginsUndo, Closed, Commits, Finished, RollsBack, is_in_vain, is_kept, undone, undone_in, vain_end}
use Rattle.cbt_txn.specs.Deciding as deciding
use Rattle.cbt_txn.specs.Licensing.{GoesWell, MayGoOn, MayWork, Owns}
use Rattle.cbt_txn.specs.Licensing as licensing
use Rattle.cbt_txn.specs.declared.operations.Operations.{Operations}
use Rattle.cbt_txn.specs.declared.operations.Work.{Work}
use Rattle.cbt_txn.specs.declared.operations.Work.TheVariants as work
use Rattle.cbt_txn.specs.declared.tries.Closing.{Closing}
use Rattle.cbt_txn.specs.declared.tries.Try.{Try}
use Rattle.cbt_txn.proofs.Following.{kept_done}

once_behind : (P : Made → List Made → Type 0) (xs l : List Made) → Once P l → Once P (xs ++ l)
once_behind P [] l once = once
once_behind P (x ∷ xs) l once = inr (once_behind P xs l once)

-- what is met nowhere in front is met behind
never_front : (P Q : Made → Type 0) (xs l : List Made) → ((m : Made) → P m → Q m → ⊥) → Each (λ m _. P m) xs → Once (λ m _. Q m) (xs ++ l) → Once (λ m _. Q m) l
never_front P Q [] l apart each once = once
never_front P Q (x ∷ xs) l apart each once = ⊎_elim (λ here. absurd (apart x each.0 here)) (λ later. never_front P Q xs l apart each.1 later) once

once_weaker : (P Q : Made → Type 0) (l : List Made) → ((m : Made) → P m → Q m) → Once (λ m _. P m) l → Once (λ m _. Q m) l
once_weaker P Q [] weaker once = absurd once
once_weaker P Q (m ∷ l) weaker once = ⊎_elim (λ here. inl (weaker m here)) (λ later. inr (once_weaker P Q l weaker later)) once

-- a commit and an abort decide
abort_decides : (s : Step) (a : ℕ) → aborts s ≡ Some a → decides s ≡ Some a
abort_decides (step.Abort r b lists) a is = is
abort_decides _ a is = absurd (none-some a is)

commit_decides : (s : Step) (a : ℕ) → commits s ≡ Some a → decides s ≡ Some a
commit_decides (step.Commit r b lists) a is = is
commit_decides _ a is = absurd (none-some a is)

module _ (who : Identity) (c : Operations) (l : List Made) (owns : Owns who c.attempt l) where
  unaborted : ¬ Once (λ m _. aborts m.step ≡ Some c.attempt.id) l
  unaborted once = owns.undecided (once_weaker _ (λ m. decides m.step ≡ Some c.attempt.id) l (λ m is. abort_decides m.step c.attempt.id is) once)

  uncommitted : ¬ Once (λ m _. commits m.step ≡ Some c.attempt.id) l
  uncommitted once = owns.undecided (once_weaker _ (λ m. decides m.step ≡ Some c.attempt.id) l (λ m is. commit_decides m.step c.attempt.id is) once)

  never_committed : (r : ℕ) → CommitsUnsettled l r c.attempt.id
  never_committed r = record {
    unanswered = λ once. uncommitted (once_weaker _ (λ m. commits m.step ≡ Some c.attempt.id) l (λ m is. is.0) once);
    read = λ once. absurd (uncommitted once);
  }

  abortable : (r : ℕ) → c.attempt.sent ≡ Some r → undo_ready.IsAbortable c.attempt.id r (noted c.attempt.writes) l
  abortable r sent = record { notes = owns.writes r sent; sent = owns.sent r sent; unaborted = unaborted; unsettled = never_committed r }

  going_well : (w : Work) → MayWork who c.attempt l w → w ≡ work.Done → GoesWell c.attempt l
  going_well _ (licensing.gets get write mine older well parts stands) is = cc
  going_well _ (licensing.puts put mine older well parts stands ready record_is unstamped) is = cc
  going_well _ (licensing.agains again d kind content well going task) is = cc
  going_well _ (licensing.done well) is = well
  going_well _ licensing.refused is = cc
  going_well _ (licensing.late now) is = cc

  ready_to_commit : (f : Finish) → BeginsFinish c.attempt f → GoesWell c.attempt l → finish_ready.IsReady (finish.task_of f) l
  ready_to_commit f begins well =
      begins.ready l (subst (λ a. finish_ready.GoesWell (noted c.attempt.writes) f.atr a l) (sym begins.attempt)
      (record { notes = well.notes f.atr begins.sent; added = well.added f.atr begins.sent; unaborted = unaborted; uncommitted = uncommitted }))

module _ (who : Identity) (it : Try) (l : List Made) (may : MayGoOn who it.operations l) (keep : Bool) where
  by_commit : (cl : Closing) → it.operations.work ≡ work.Done → Commits it.operations.attempt cl → MayCloseOn who it l cl
  by_commit _ done (deciding.nothing none) = closings.ended _
  by_commit _ done (deciding.finishes f begins) =
      closings.finishes f [] l refl begins.stands
      (ready_to_commit who it.operations l may.owns f begins (going_well who it.operations l may.owns it.operations.work may.works done)) may.owns begins.attempt begins.sent

  by_rollback : (cl : Closing) → RollsBack it.operations.attempt cl → MayCloseOn who it l cl
  by_rollback _ (deciding.nothing none) = closings.ended _
  by_rollback _ (deciding.undoes u begins) =
      closings.undoes u [] l refl begins.stands (begins.ready l (abortable who it.operations l may.owns u.atr begins.sent)) begins.attempt

  -- operations are followed by licensed calls
  pub closed_licensed : (cl : Closing) → Closed keep it.operations cl → MayCloseOn who it l cl
  closed_licensed _ (deciding.open_yet going) = closings.open_yet may
  closed_licensed _ (deciding.commits cl kept how) = by_commit cl (kept_done keep it.operations.work kept).0 how
  closed_licensed _ (deciding.rolls_back cl over unkept how) = by_rollback cl how

module _ (who : Identity) (it : Try) (f : Finish) (calls older : List Made) (stands : finish_stands.StandsFor f calls)
    (ready : finish_ready.IsReady (finish.task_of f) older) (owns : Owns who it.operations.attempt older) (attempt : f.attempt ≡ it.operations.attempt.id)
    (sent : it.operations.attempt.sent ≡ Some f.atr) where
  a : ℕ
  a = it.operations.attempt.id

  notes_behind : (own : List ℕ → Option Own) (xs : List Made) → Each (λ m _. IsQuiet it.operations.attempt.id m.step) xs
      → NotesWrites it.operations.attempt.id f.atr own older → NotesWrites it.operations.attempt.id f.atr own (xs ++ older)
  notes_behind own [] quiet notes = notes
  notes_behind own (m ∷ xs) quiet notes =
      writes_unstaged it.operations.attempt.id f.atr own (xs ++ older) m (quiet_stages it.operations.attempt.id m.step quiet.0) (notes_behind own xs quiet.1 notes)
    where
      quiet_stages : (b : ℕ) (s : Step) → IsQuiet b s → IsNoStaging b s
      quiet_stages b (step.Stage d e stage) q = q
      quiet_stages b (step.Unstick d x) q = tt
      quiet_stages b _ q = tt

  which : (end : Option FinishEnd) → vain_end end ≡ true → (place : ℕ) × (end ≡ Some (finish_end.NotCommitted place))
  which (Some (finish_end.NotCommitted place)) is = (place, refl)
  which (Some (finish_end.Committed place complete)) is = cc
  which (Some (finish_end.EntryLost place)) is = cc
  which (Some (finish_end.Unknown commit reading)) is = cc
  which None is = cc

  back : is_in_vain f ≡ true → undo_ready.IsAbortable it.operations.attempt.id f.atr (noted it.operations.attempt.writes) (calls ++ older)
  back is =
      let place = which (finish.end_of f) is in
      record {
        notes = notes_behind (noted it.operations.attempt.writes) calls
            (subst (λ b. Each (λ m _. IsQuiet b m.step) calls) attempt (all_quiet_calls (finish.task_of f) f.phase calls stands.runs)) (owns.writes f.atr sent);
        sent = once_behind _ calls older (owns.sent f.atr sent);
        unaborted = λ once. unaborted who it.operations older owns
            (never_front (λ m. aborts m.step ≡ None) (λ m. aborts m.step ≡ Some it.operations.attempt.id) calls older
            (λ m none some. none-some it.operations.attempt.id (sym none ∙ some)) (none_aborts (finish.task_of f) f.phase calls stands.runs) once);
        unsettled = subst (λ b. CommitsUnsettled (calls ++ older) f.atr b) attempt
            (unsettled (finish.task_of f) older calls f.phase place.0 ready stands.runs place.1);
      }

  by_vain : (cl : Closing) → is_in_vain f ≡ true → RollsBack it.operations.attempt cl → MayCloseOn who it (calls ++ older) cl
  by_vain _ is (deciding.nothing none) = absurd (none-some f.atr (sym none ∙ sent))
  by_vain _ is (deciding.undoes u begins) =
      closings.undoes u [] (calls ++ older) refl begins.stands
      (begins.ready (calls ++ older) (subst (λ r. undo_ready.IsAbortable it.operations.attempt.id r (noted it.operations.attempt.writes) (calls ++ older))
      (same_record (sym sent ∙ begins.sent)) (back is))) begins.attempt
    where
      same_record : {x y : ℕ} → Some x ≡ Some y → x ≡ y
      same_record both = cc

  -- a commit is followed by licensed calls
  pub finished_licensed : (cl : Closing) → Finished it.operations.attempt f cl → MayCloseOn who it (calls ++ older) cl
  finished_licensed _ (deciding.goes_on going) = closings.finishes f calls older refl stands ready owns attempt sent
  finished_licensed _ (deciding.ended end ends unvain) = closings.ended _
  finished_licensed _ (deciding.in_vain cl is how) = by_vain cl is how

-- a rollback is followed by licensed calls
pub undone_licensed : (who : Identity) (it : Try) (u : Undo) (calls older : List Made) → undo_stands.StandsFor u calls → undo_ready.IsReady (undo.task_of u) older
    → u.attempt ≡ it.operations.attempt.id → MayCloseOn who it (calls ++ older) (undone u)
undone_licensed who it u calls older stands ready attempt = by (undo.end_of u)
  where
    by : (end : Option UndoEnd) → MayCloseOn who it (calls ++ older) (undone_in u end)
    by None = closings.undoes u calls older refl stands ready attempt
    by (Some end) = closings.ended _
