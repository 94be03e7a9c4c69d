-- Each call of a try is licensed, and names no attempt but its own.
use Rattle.std.proofs.Common.{◌≡◌, ℕ, Bool, true, false, cond, List, slice_get, Option, Some, None, sym, subst}
use Rattle.std.proofs.lemmas.Option.{none-some}
use Rattle.cbt_json.specs.declared.value.Json.{Json}
use Rattle.cbt_model.specs.declared.events.Made.{Made}
use Rattle.cbt_model.specs.declared.steps.Expect.TheVariants as expect
use Rattle.cbt_model.specs.declared.steps.Step.{Step}
use Rattle.cbt_model.specs.declared.steps.Step.TheVariants as step
use Rattle.cbt_book.specs.Licence.{MayTake}
use Rattle.cbt_book.specs.Numbers.{Identity}
use Rattle.cbt_attempt.specs.Notes.{stage_of}
use Rattle.cbt_attempt.specs.declared.attempt.Attempt.{Attempt}
use Rattle.cbt_commit.specs.Phases as finish
use Rattle.cbt_commit.specs.Written.{Written}
use Rattle.cbt_commit.specs.declared.phases.Phase as finish_phase
use Rattle.cbt_commit.specs.declared.phases.Phase.TheVariants as finish_phases
use Rattle.cbt_commit.proofs.Licensing.{licensed as finish_licensed}
use Rattle.cbt_read.specs.Phases as get
use Rattle.cbt_read.specs.declared.phases.Phase as get_phase
use Rattle.cbt_read.specs.declared.phases.Phase.TheVariants as get_phases
use Rattle.cbt_rollback.specs.Phases as undo
use Rattle.cbt_rollback.specs.declared.phases.Phase as undo_phase
use Rattle.cbt_rollback.specs.declared.phases.Phase.TheVariants as undo_phases
use Rattle.cbt_rollback.proofs.Licensed.{licensed as undo_licensed}
use Rattle.cbt_stage.specs.Phases as put
use Rattle.cbt_stage.specs.Rewrites.{asked_for}
use Rattle.cbt_stage.specs.declared.ends.PutEnd.{PutEnd}
use Rattle.cbt_stage.specs.declared.phases.Phase as put_phase
use Rattle.cbt_stage.specs.declared.phases.Phase.TheVariants as put_phases
use Rattle.cbt_stage.specs.declared.rewrites.Rewrite.{Rewrite}
use Rattle.cbt_stage.specs.declared.tasks.Task.{Task}
use Rattle.cbt_txn.specs.Closings.{MayCloseOn, open_yet, finishes, undoes, ended, NamesOnly}
use Rattle.cbt_txn.specs.Licensing.{MayWork, gets, puts, agains, done, refused, late}
use Rattle.cbt_txn.specs.Tries.{step_in}
use Rattle.cbt_txn.specs.Works.{step_of}
use Rattle.cbt_txn.specs.declared.operations.Work.{Work}
use Rattle.cbt_txn.specs.declared.tries.Closing.{Closing}
use Rattle.cbt_txn.specs.declared.tries.Try.{Try}
use Rattle.cbt_txn.proofs.Licensing.{is_over, work_licensed}

some_same : {X : Type 0} {x y : X} → Some x ≡ Some y → x ≡ y
some_same both = cc

pub try_licensed : (who : Identity) (it : Try) (l : List Made) (w : Closing) (s : Step) → MayCloseOn who it l w → step_in it.operations w ≡ Some s → MayTake who l s
try_licensed who it l _ s (open_yet may) asked = work_licensed who it.operations.attempt l it.operations.work s may.owns may.works asked
try_licensed who it l _ s (finishes f calls older is stands ready owns id_is sent_is) asked =
    subst (λ k. MayTake who k s) (sym is) (finish_licensed (finish.task_of f) who older calls f.phase s ready stands.runs asked)
try_licensed who it l _ s (undoes u calls older is stands ready id_is) asked =
    subst (λ k. MayTake who k s) (sym is) (undo_licensed who (undo.task_of u) older ready u.phase calls s stands asked)
try_licensed who it l _ s (ended end) asked = absurd (none-some s asked)

-- ---- which attempt a call names

read_names : (a : ℕ) (d : List ℕ) (p : get_phase.Phase) (s : Step) → get.step_for d p ≡ Some s → NamesOnly a s
read_names a d get_phases.Begun s asked = subst (NamesOnly a) (some_same asked) tt
read_names a d (get_phases.Asking staged left) s asked = subst (NamesOnly a) (some_same asked) tt
read_names a d (get_phases.Again staged gone place left) s asked = subst (NamesOnly a) (some_same asked) tt
read_names a d (get_phases.Ended end) s asked = absurd (none-some s asked)

put_names : (a : ℕ) (o : Task) (p : put_phase.Phase) (s : Step) → o.attempt ≡ a → put.step_for o p ≡ Some s → NamesOnly a s
put_names a o (put_phases.Asking r by left) s is asked = subst (NamesOnly a) (some_same asked) tt
put_names a o put_phases.Adding s is asked = subst (NamesOnly a) (some_same asked) is
put_names a o put_phases.Staging s is asked = subst (NamesOnly a) (some_same asked) is
put_names a o (put_phases.Ended end) s is asked = absurd (none-some s asked)

again_names : (a : ℕ) (o : Rewrite) (end : Option PutEnd) (s : Step) → o.attempt ≡ a → asked_for o end ≡ Some s → NamesOnly a s
again_names a o None s is asked = subst (NamesOnly a) (some_same asked) (by o.back)
  where
    by : (b : Bool) → NamesOnly a (cond b (step.Unstick o.doc o.cas) (step.Stage o.doc (expect.Cas o.cas) (stage_of o.attempt o.atr o.write)))
    by true = tt
    by false = is
again_names a o (Some end) s is asked = absurd (none-some s asked)

work_names : (who : Identity) (a : Attempt) (l : List Made) (w : Work) (s : Step) → MayWork who a l w → step_of w ≡ Some s → NamesOnly a.id s
work_names who a l _ s (gets it write mine older well is stands) asked = read_names a.id it.doc it.phase s asked
work_names who a l _ s (puts it mine older well is stands ready record_is unstamped) asked = put_names a.id it.task it.phase s stands.under.id_is asked
work_names who a l _ s (agains it d kind content well going is) asked =
    again_names a.id it.task it.end s (is_over a d kind content it.task is).attempt_is asked
work_names who a l _ s (done well) asked = absurd (none-some s asked)
work_names who a l _ s refused asked = absurd (none-some s asked)
work_names who a l _ s (late now) asked = absurd (none-some s asked)

module _ (a : ℕ) (t : finish.Task) (is : t.attempt ≡ a) where
  publishes_none : (d : List ℕ) (x : ℕ) (content : Option Json) → NamesOnly a (finish.unstage_with d x content)
  publishes_none d x None = tt
  publishes_none d x (Some body) = tt

  going_names : (w : Option (List ℕ × Written)) → NamesOnly a (finish.going_step t w)
  going_names None = tt
  going_names (Some w) = publishes_none w.0 w.1.cas w.1.content

  finish_names : (p : finish_phase.Phase) (s : Step) → finish.step_for t p ≡ Some s → NamesOnly a s
  finish_names (finish_phases.Sending left) s asked = subst (NamesOnly a) (some_same asked) is
  finish_names (finish_phases.Reading left commit) s asked = subst (NamesOnly a) (some_same asked) tt
  finish_names (finish_phases.Going commit at) s asked = subst (NamesOnly a) (some_same asked) (going_names (slice_get t.works at))
  finish_names (finish_phases.Ended end) s asked = absurd (none-some s asked)

module _ (a : ℕ) (t : undo.Task) (is : t.attempt ≡ a) where
  takes_off_none : (d : List ℕ) (x : Option ℕ) → NamesOnly a (undo.take_off d x)
  takes_off_none d None = tt
  takes_off_none d (Some x) = tt

  undoing_names : (w : Option undo.Work) → NamesOnly a (undo.going_step t w)
  undoing_names None = tt
  undoing_names (Some w) = takes_off_none w.0 w.1

  taking_names : (x : ℕ) (w : Option undo.Work) (s : Step) → undo.taking_step x w ≡ Some s → NamesOnly a s
  taking_names x None s asked = absurd (none-some s asked)
  taking_names x (Some w) s asked = subst (NamesOnly a) (some_same asked) tt

  undo_names : (p : undo_phase.Phase) (s : Step) → undo.step_for t p ≡ Some s → NamesOnly a s
  undo_names undo_phases.Aborting s asked = subst (NamesOnly a) (some_same asked) is
  undo_names (undo_phases.Going at) s asked = subst (NamesOnly a) (some_same asked) (undoing_names (slice_get t.works at))
  undo_names (undo_phases.Taking at x) s asked = taking_names x (slice_get t.works at) s asked
  undo_names (undo_phases.Ended end) s asked = absurd (none-some s asked)

pub try_names : (who : Identity) (it : Try) (l : List Made) (w : Closing) (s : Step) → MayCloseOn who it l w → step_in it.operations w ≡ Some s
    → NamesOnly it.operations.attempt.id s
try_names who it l _ s (open_yet may) asked = work_names who it.operations.attempt l it.operations.work s may.works asked
try_names who it l _ s (finishes f calls older is stands ready owns id_is sent_is) asked =
    finish_names it.operations.attempt.id (finish.task_of f) id_is f.phase s asked
try_names who it l _ s (undoes u calls older is stands ready id_is) asked = undo_names it.operations.attempt.id (undo.task_of u) id_is u.phase s asked
try_names who it l _ s (ended end) asked = absurd (none-some s asked)
