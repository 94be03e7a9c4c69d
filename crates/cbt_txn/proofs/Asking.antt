-- A try that has not ended asks for a call.
use Rattle.std.proofs.Common.{◌≡◌, ◌≢◌, ℕ, false, List, ◌++◌, Option, Some, None}
use Rattle.cbt_model.specs.declared.events.Made.{Made}
use Rattle.cbt_core.specs.Walk.{AttemptTerms}
use Rattle.cbt_commit.specs.Phases as finish
use Rattle.cbt_commit.specs.declared.phases.Phase as finish_phase
use Rattle.cbt_commit.specs.declared.phases.Phase.TheVariants as finish_phases
use Rattle.cbt_read.specs.Phases as get
use Rattle.cbt_read.specs.declared.phases.Phase as get_phase
use Rattle.cbt_read.specs.declared.phases.Phase.TheVariants as get_phases
use Rattle.cbt_rollback.specs.Phases as undo
use Rattle.cbt_rollback.proofs.Ends.{goes_on_asking}
use Rattle.cbt_stage.specs.Phases as put
use Rattle.cbt_stage.specs.Rewrites as again
use Rattle.cbt_stage.specs.declared.ends.PutEnd.{PutEnd}
use Rattle.cbt_stage.specs.declared.phases.Phase as put_phase
use Rattle.cbt_stage.specs.declared.phases.Phase.TheVariants as put_phases
use Rattle.cbt_stage.specs.declared.rewrites.Rewrite.{Rewrite}
use Rattle.cbt_stage.specs.declared.tasks.Task.{Task}
use Rattle.cbt_txn.specs.Closings.{Closes, TryFollows}
use Rattle.cbt_txn.specs.Closings as closings
use Rattle.cbt_txn.specs.Deciding.{is_over}
use Rattle.cbt_txn.specs.Following as following
use Rattle.cbt_txn.specs.Following.{Works}
use Rattle.cbt_txn.specs.Tries.{outcome, outcome_in, step_in, step_now}
use Rattle.cbt_txn.specs.Works.{step_of}
use Rattle.cbt_txn.specs.declared.operations.Operations.{Operations}
use Rattle.cbt_txn.specs.declared.operations.Work.{Work}
use Rattle.cbt_txn.specs.declared.tries.Closing.{Closing}
use Rattle.cbt_txn.specs.declared.tries.Try.{Try}

some_none : {X : Type 0} {x : X} → Some x ≡ None → ⊥
some_none both = cc

get_asks : (d : List ℕ) (p : get_phase.Phase) → get.end_in p ≡ None → get.step_for d p ≢ None
get_asks d get_phases.Begun going none = some_none none
get_asks d (get_phases.Asking staged left) going none = some_none none
get_asks d (get_phases.Again staged gone place left) going none = some_none none
get_asks d (get_phases.Ended end) going none = some_none going

put_asks : (o : Task) (p : put_phase.Phase) → put.end_in p ≡ None → put.step_for o p ≢ None
put_asks o (put_phases.Asking r by left) going none = some_none none
put_asks o put_phases.Adding going none = some_none none
put_asks o put_phases.Staging going none = some_none none
put_asks o (put_phases.Ended end) going none = some_none going

again_asks : (o : Rewrite) (end : Option PutEnd) → end ≡ None → again.asked_for o end ≢ None
again_asks o None going none = some_none none
again_asks o (Some end) going none = some_none going

finish_asks : (o : finish.Task) (p : finish_phase.Phase) → finish.end_in p ≡ None → finish.step_for o p ≢ None
finish_asks o (finish_phases.Sending left) going none = some_none none
finish_asks o (finish_phases.Reading left commit) going none = some_none none
finish_asks o (finish_phases.Going commit at) going none = some_none none
finish_asks o (finish_phases.Ended end) going none = some_none going

works_ask : (t : AttemptTerms) (c : Operations) (older calls : List Made) (w : Work) → Works t c older calls w → is_over w ≡ false → step_of w ≢ None
works_ask t c older calls _ (following.gets o it name goes asks unwritten stands going) unended = get_asks it.doc it.phase going
works_ask t c older calls _ (following.reads o it write goes for stands going) unended = get_asks it.doc it.phase going
works_ask t c older calls _ (following.puts o it mine reads goes same on going) unended = put_asks it.task it.phase going
works_ask t c older calls _ (following.agains o it goes writes going) unended = again_asks it.task it.end going
works_ask t c older calls _ (following.done none good all) unended = λ asked. cc
works_ask t c older calls _ (following.refused none refused) unended = λ asked. cc
works_ask t c older calls _ (following.late newest before calls_are late operates) unended = λ asked. cc

pub try_asks : (t : AttemptTerms) (it : Try) (l0 mine : List Made) → TryFollows t it l0 mine → outcome it ≡ None → step_now it ≢ None
try_asks t it l0 mine fol going = by it.closing fol.closes going
  where
    by : (cl : Closing) → Closes t it l0 mine cl → outcome_in it cl ≡ None → step_in it.operations cl ≢ None
    by _ (closings.open_yet unset unended ops) open_yet = works_ask t it.operations (ops.told ++ l0) ops.calls it.operations.work ops.works unended
    by _ (closings.finishes f calls ops parts unset follows done keep attempt stands unended) open_yet = finish_asks (finish.task_of f) f.phase unended
    by _ (closings.undoes u own calls commits ops parts follows why attempt is_of stands unended) open_yet = goes_on_asking (undo.task_of u) u.phase calls stands unended
    by _ (closings.ended end unstopped follows right) open_yet = λ none. some_none open_yet
