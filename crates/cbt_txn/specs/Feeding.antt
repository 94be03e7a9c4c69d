-- What becomes of the work of an operation, and of what its attempt has noted, with the answer to its call.
use Rattle.std.specs.Prelude.{ℕ, ◌+◌, Bool, true, false, List, [], ◌∷◌, ◌++◌, length, slice_get, Option, Some, None}
use Rattle.std.specs.Cmp.Lexicographic.{slice_cmp}
use Rattle.std.specs.Ordering.{nat_cmp}
use Rattle.cbt_base.specs.Keyed.{with_pair}
use Rattle.cbt_json.specs.declared.value.Json.{Json}
use Rattle.cbt_expr.specs.declared.plans.Op.{Op}
use Rattle.cbt_expr.specs.declared.plans.Op.TheVariants as op
use Rattle.cbt_model.specs.declared.steps.Reply.{Reply}
use Rattle.cbt_book.specs.declared.operations.OpAnswer.{OpAnswer}
use Rattle.cbt_book.specs.declared.operations.OpAnswer.TheVariants as answer
use Rattle.cbt_book.specs.declared.operations.OpLog.{OpLog}
use Rattle.cbt_attempt.specs.declared.attempt.Attempt.{Attempt}
use Rattle.cbt_attempt.specs.declared.own.Own.{Own}
use Rattle.cbt_read.specs.Phases as get
use Rattle.cbt_read.specs.declared.phases.Phase as get_phase
use Rattle.cbt_read.specs.declared.phases.Phase.TheVariants.{Ended}
use Rattle.cbt_stage.specs.Phases as put
use Rattle.cbt_stage.specs.Rewrites as again
use Rattle.cbt_stage.specs.Tasks.{is_staging, record_added}
use Rattle.cbt_stage.specs.declared.ends.PutEnd.{PutEnd}
use Rattle.cbt_stage.specs.declared.agains.Again.{Again}
use Rattle.cbt_stage.specs.declared.puts.Put.{Put}
use Rattle.cbt_stage.specs.declared.rewrites.Rewrite.{Rewrite}
use Rattle.cbt_stage.specs.declared.tasks.Task.{Task}
use Rattle.cbt_txn.specs.Works.{put_noted, stamp_in, written}
use Rattle.cbt_txn.specs.declared.operations.Fed.{Fed}
use Rattle.cbt_txn.specs.declared.operations.Fed.TheVariants.{Going, Read, Written}
use Rattle.cbt_txn.specs.declared.operations.Operations.{Operations}
use Rattle.cbt_txn.specs.declared.operations.Work.{Work}
use Rattle.cbt_txn.specs.declared.operations.Work.TheVariants as work

-- a read that came to this phase
abbrev pub fed_read : List ℕ → Option Own → get_phase.Phase → Fed
fed_read d write (Ended end) = Read d write end
fed_read d write p = Going (work.Get (record { doc = d; phase = p }) write)

-- a put that came to an end, or goes on
abbrev pub fed_put : Put → Option PutEnd → Fed
fed_put it None = Going (work.Put it)
fed_put it (Some end) = Written end

-- so a write over an own write
abbrev pub fed_again : Again → Option PutEnd → Fed
fed_again it None = Going (work.Again it)
fed_again it (Some end) = Written end

-- the work whose call had this reply at this place
abbrev pub fed : Work → ℕ → Reply → Fed
fed (work.Get it write) place r = fed_read it.doc write (get.after it.phase place r)
fed (work.Put it) place r = fed_put (record it { phase = put.after it.task it.phase place r }) (put.end_in (put.after it.task it.phase place r))
fed (work.Again it) place r = Written (again.ended it.task.back place r)
fed w place r = Going w

-- an entry that is sent is noted
abbrev pub with_sent : Attempt → Option ℕ → Attempt
with_sent a None = a
with_sent a (Some r) = record a { sent = Some r }

-- a staging that was sent is noted
abbrev pub with_staging : Attempt → Task → Bool → Option PutEnd → Option ℕ → Attempt
with_staging a task staging None stamp = a
with_staging a task staging (Some end) stamp = put_noted a task staging end stamp

-- what became of a write over an own write is noted
abbrev pub with_rewrite : Attempt → Rewrite → Option PutEnd → Option ℕ → Attempt
with_rewrite a task None stamp = a
with_rewrite a task (Some end) stamp = written a task.doc task.write end stamp

-- an attempt whose call had this reply at this place
abbrev pub learnt : Attempt → Work → ℕ → Reply → Attempt
learnt a (work.Put it) place r =
    with_staging (with_sent a (record_added (put.step_of it))) it.task (is_staging (put.step_of it)) (put.end_in (put.after it.task it.phase place r))
    (stamp_in r)
learnt a (work.Again it) place r = with_rewrite a it.task (Some (again.ended it.task.back place r)) (stamp_in r)
learnt a w place r = a

-- the place of the first call, with this one
abbrev pub first_with : Option ℕ → ℕ → Option ℕ
first_with None place = Some place
first_with (Some first) place = Some first

-- the answer at this place was taken in
abbrev pub marked : Operations → ℕ → Operations
marked c place = record c { first = first_with c.first place; past = place + 1 }

abbrev pub from_of : Option ℕ → ℕ → ℕ
from_of None past = past
from_of (Some first) past = first

-- the log of the operation under way
abbrev pub log_for : Operations → OpAnswer → OpLog
log_for c a = record { op = length c.logs + 1; span = record { from = from_of c.first c.past; to = c.past }; answer = a }

-- what is bound after an answer: the value of a get to its name
abbrev pub rebound : Option Op → OpAnswer → List (List ℕ × Option Json) → List (List ℕ × Option Json)
rebound (Some (op.Get d name)) (answer.Value value read) bound = with_pair (slice_cmp nat_cmp) bound name value
rebound _ a bound = bound

-- the operation under way is told with this answer
abbrev pub logged : List Op → Operations → OpAnswer → Operations
logged ops c a = record c { logs = c.logs ++ log_for c a ∷ []; first = None; bound = rebound (slice_get ops (length c.logs)) a c.bound }

-- where the answer lets the try go no further, its work is over
abbrev pub went_on : Bool → Operations → Operations
went_on true c = c
went_on false c = record c { work = work.Refused }
