-- The operations of a try have fewer calls left after each answer.
use Rattle.std.proofs.Common.{◌≡◌, ℕ, suc, ◌+◌, ◌-◌, ◌*◌, ◌≤◌, ◌<◌, Bool, true, false, cond, List, [], ◌∷◌, ◌++◌, length, Option, Some, None, is_some, IsSome, Result, Ok, Err, IfOk, OnOk, bytes_eq, refl, sym, ap, ◌∙◌, subst, arith}
use Rattle.std.specs.Map.{remove_entry}
use Rattle.std.proofs.lemmas.Option.{none-some}
use Rattle.indexmap.specs.IndexMap.{insert_entry}
use Rattle.cbt_expr.specs.declared.plans.Op.{Op}
use Rattle.cbt_model.specs.declared.events.Answer.{Answer}
use Rattle.cbt_model.specs.declared.steps.Reply.{Reply}
use Rattle.cbt_model.specs.declared.steps.Step.{Step}
use Rattle.cbt_book.specs.ReadAt.{Reading}
use Rattle.cbt_book.specs.declared.operations.OpAnswer.{OpAnswer}
use Rattle.cbt_attempt.specs.declared.attempt.Attempt.{Attempt}
use Rattle.cbt_attempt.specs.declared.own.Own.{Own}
use Rattle.cbt_read.specs.Phases as get
use Rattle.cbt_read.specs.declared.gets.Get.{Get}
use Rattle.cbt_read.specs.declared.phases.Phase as get_phase
use Rattle.cbt_read.specs.declared.phases.Phase.TheVariants as get_phases
use Rattle.cbt_read.proofs.Counting as get_counting
use Rattle.cbt_stage.specs.Phases as put
use Rattle.cbt_stage.specs.Rewrites as again
use Rattle.cbt_stage.specs.declared.agains.Again.{Again}
use Rattle.cbt_stage.specs.declared.ends.PutEnd.{PutEnd}
use Rattle.cbt_stage.specs.declared.ends.PutEnd.TheVariants as put_end
use Rattle.cbt_stage.specs.declared.phases.Phase as put_phase
use Rattle.cbt_stage.specs.declared.puts.Put.{Put}
use Rattle.cbt_stage.specs.Tasks.{is_staging, record_added}
use Rattle.cbt_stage.specs.declared.tasks.Task.{Task}
use Rattle.cbt_stage.proofs.Counting as put_counting
use Rattle.cbt_txn.specs.Beginnings.{Begins}
use Rattle.cbt_txn.specs.Bounds.{work_left, fed_left, left_for, rest_left, due_left, open_left}
use Rattle.cbt_txn.specs.Feeding.{fed, fed_read, fed_put, learnt, logged, log_for, marked, went_on, with_sent, with_staging}
use Rattle.cbt_txn.specs.Works.{put_noted, step_of, stamp_in, written}
use Rattle.cbt_txn.specs.declared.operations.Fed.{Fed}
use Rattle.cbt_txn.specs.declared.operations.Fed.TheVariants as fed_it
use Rattle.cbt_txn.specs.declared.operations.Operations.{Operations}
use Rattle.cbt_txn.specs.declared.operations.Work.{Work}
use Rattle.cbt_txn.specs.declared.operations.Work.TheVariants as work
use Rattle.cbt_txn.specs.declared.starts.Beginning.{Beginning}
use Rattle.cbt_txn.specs.declared.starts.Beginning.TheVariants as beginning

-- ---- an answer notes one own write more at most

note_adds : {V : Type 0} (notes : List (List ℕ × V)) (d : List ℕ) (v : V) → length (insert_entry bytes_eq notes d v) ≤ length notes + 1
note_adds [] d v = omega arith
note_adds (n ∷ notes) d v = by (bytes_eq d n.0) (note_adds notes d v)
  where
    by : (b : Bool) → length (insert_entry bytes_eq notes d v) ≤ length notes + 1
        → length (cond b ((n.0, v) ∷ notes) (n ∷ insert_entry bytes_eq notes d v)) ≤ suc (length notes) + 1
    by true few = omega arith
    by false few = omega arith

note_goes : {V : Type 0} (notes : List (List ℕ × V)) (d : List ℕ) → length (remove_entry (bytes_eq d) notes) ≤ length notes
note_goes [] d = omega arith
note_goes (n ∷ notes) d = by (bytes_eq d n.0) (note_goes notes d)
  where
    by : (b : Bool) → length (remove_entry (bytes_eq d) notes) ≤ length notes
        → length (cond b notes (n ∷ remove_entry (bytes_eq d) notes)) ≤ suc (length notes)
    by true few = omega arith
    by false few = omega arith

one_written : (a : Attempt) (d : List ℕ) (write : Own) (end : PutEnd) (stamp : Option ℕ) → length (written a d write end stamp).writes ≤ length a.writes + 1
one_written a d write (put_end.Staged place base) stamp = note_adds a.writes d (record { kind = write.kind; content = write.content; cas = stamp })
one_written a d write (put_end.Unstaged place) stamp = let fewer = note_goes a.writes d in omega arith
one_written a d write (put_end.CallFailed place) stamp = note_adds a.writes d write
one_written a d write (put_end.Blocked by) stamp = omega arith
one_written a d write put_end.Moved stamp = omega arith

one_put : (a : Attempt) (task : Task) (staging : Bool) (end : PutEnd) (stamp : Option ℕ) → length (put_noted a task staging end stamp).writes ≤ length a.writes + 1
one_put a task true end stamp = one_written a task.doc task.write end stamp
one_put a task false end stamp = omega arith

sent_alike : (a : Attempt) (o : Option ℕ) → (with_sent a o).writes ≡ a.writes
sent_alike a None = refl
sent_alike a (Some r) = refl

-- ---- the work takes an answer in

less_by : (n m k : ℕ) → n < m → n + k < m + k
less_by n m k less = omega arith

fed_read_fewer : (d : List ℕ) (write : Option Own) (p : get_phase.Phase) (old : Get) → get.left_in p < get.calls_left old
    → fed_left (fed_read d write p) < work_left (work.Get old write)
fed_read_fewer d None (get_phases.Ended end) old less = less
fed_read_fewer d None get_phases.Begun old less = less
fed_read_fewer d None (get_phases.Asking staged left) old less = less
fed_read_fewer d None (get_phases.Again staged gone place left) old less = less
fed_read_fewer d (Some write) (get_phases.Ended end) old less = less_by 0 (get.calls_left old) 8 less
fed_read_fewer d (Some write) get_phases.Begun old less = less_by (get.left_in get_phases.Begun) (get.calls_left old) 8 less
fed_read_fewer d (Some write) (get_phases.Asking staged left) old less = less_by (get.left_in (get_phases.Asking staged left)) (get.calls_left old) 8 less
fed_read_fewer d (Some write) (get_phases.Again staged gone place left) old less =
    less_by (get.left_in (get_phases.Again staged gone place left)) (get.calls_left old) 8 less

-- a put that goes on has fewer calls left, and one that has ended had one at least
fed_put_fewer : (a : Attempt) (it : Put) (old : ℕ) (task : Task) (staging : Bool) (end : Option PutEnd) (stamp : Option ℕ) → put.calls_left it < old
    → fed_left (fed_put it end) + 2 * length (with_staging a task staging end stamp).writes < old + 2 + 2 * length a.writes
fed_put_fewer a it old task staging None stamp less = going (put.calls_left it) (length a.writes) less
  where
    going : (n w : ℕ) → n < old → n + 2 + 2 * w < old + 2 + 2 * w
    going n w less = omega arith
fed_put_fewer a it old task staging (Some end) stamp less =
    ended (put.calls_left it) (length (put_noted a task staging end stamp).writes) (length a.writes) less (one_put a task staging end stamp)
  where
    ended : (n w v : ℕ) → n < old → w ≤ v + 1 → 0 + 2 * w < old + 2 + 2 * v
    ended n w v less few = omega arith

again_fewer : (a : Attempt) (it : Again) (w : ℕ) (s : Step) → again.asked_by it ≡ Some s → w ≤ length a.writes + 1
    → 0 + 2 * w < again.call_left it + 2 + 2 * length a.writes
again_fewer a it w s asked few = by it.end asked
  where
    by : (end : Option PutEnd) → again.asked_for it.task end ≡ Some s → 0 + 2 * w < again.left_for end + 2 + 2 * length a.writes
    by None asked = omega arith
    by (Some end) asked = absurd (none-some s asked)

fed_fewer : (a : Attempt) (w : Work) (s : Step) (place : ℕ) (r : Reply) → step_of w ≡ Some s
    → fed_left (fed w place r) + 2 * length (learnt a w place r).writes < work_left w + 2 * length a.writes
fed_fewer a (work.Get it write) s place r asked =
    less_by (fed_left (fed (work.Get it write) place r)) (work_left (work.Get it write)) (2 * length a.writes)
    (fed_read_fewer it.doc write (get.after it.phase place r) it (get_counting.fewer_left it.doc it.phase s place r asked))
fed_fewer a (work.Put it) s place r asked =
    let p : put_phase.Phase = put.after it.task it.phase place r in
    let sent : Attempt = with_sent a (record_added (put.step_of it)) in
    subst (λ k. fed_left (fed (work.Put it) place r) + 2 * length (learnt a (work.Put it) place r).writes < put.calls_left it + 2 + 2 * length k)
    (sent_alike a (record_added (put.step_of it)))
    (fed_put_fewer sent (record it { phase = p }) (put.calls_left it) it.task (is_staging (put.step_of it)) (put.end_in p) (stamp_in r)
    (put_counting.fewer_left it.task it.phase place r (ap is_some asked)))
fed_fewer a (work.Again it) s place r asked =
    again_fewer a it (length (written a it.task.doc it.task.write (again.ended it.task.back place r) (stamp_in r)).writes) s asked
    (one_written a it.task.doc it.task.write (again.ended it.task.back place r) (stamp_in r))
fed_fewer a work.Done s place r asked = absurd (none-some s asked)
fed_fewer a work.Refused s place r asked = absurd (none-some s asked)
fed_fewer a (work.Late now) s place r asked = absurd (none-some s asked)

abbrev taken_on : Operations → Answer → Operations
taken_on n answer = record n { attempt = learnt n.attempt n.work answer.place answer.reply; work = work.Done }

-- the answer to a call was taken in, and the rest is as it was
took_fewer : (ops : List Op) (s : Step) (answer : Answer) (old mark took : Operations) (it : Fed) → step_of old.work ≡ Some s → mark ≡ marked old answer.place
    → took ≡ record mark { attempt = learnt mark.attempt mark.work answer.place answer.reply; work = work.Done } → it ≡ fed mark.work answer.place answer.reply
    → fed_left it + rest_left ops took < open_left ops old
took_fewer ops s answer old mark took it asked marked_is took_is it_is =
    let new = took_is ∙ ap (λ (n : Operations). taken_on n answer) marked_is in
    let is = it_is ∙ ap (λ (n : Operations). fed n.work answer.place answer.reply) marked_is in
    subst (λ k. fed_left k + rest_left ops took < open_left ops old) (sym is)
    (subst (λ k. fed_left (fed old.work answer.place answer.reply) + rest_left ops k < open_left ops old) (sym new)
    (joined (fed_left (fed old.work answer.place answer.reply)) (length (learnt old.attempt old.work answer.place answer.reply).writes) (work_left old.work)
    (length old.attempt.writes) (length ops - suc (length old.logs)) (fed_fewer old.attempt old.work s answer.place answer.reply asked)))
  where
    joined : (f w n v due : ℕ) → f + 2 * w < n + 2 * v → f + left_for due w < n + left_for due v
    joined f w n v due less = omega arith

pub took_in_fewer : (ops : List Op) (answer : Answer) (old mark took : Operations) (it : Fed) → IsSome (step_of old.work) → mark ≡ marked old answer.place
    → took ≡ record mark { attempt = learnt mark.attempt mark.work answer.place answer.reply; work = work.Done } → it ≡ fed mark.work answer.place answer.reply
    → fed_left it + rest_left ops took < open_left ops old
took_in_fewer ops answer old mark took it asked marked_is took_is it_is = by (step_of old.work) refl asked
  where
    by : (o : Option Step) → step_of old.work ≡ o → IsSome o → fed_left it + rest_left ops took < open_left ops old
    by None is some = absurd (cc)
    by (Some s) is some = took_fewer ops s answer old mark took it is marked_is took_is it_is

-- an answer that came back late ends the operations
pub late_fewer : (ops : List Op) (most now : ℕ) (took new : Operations) (it : Fed) → new ≡ record took { work = work.Late now }
    → fed_left it + rest_left ops took < most → open_left ops new < most
late_fewer ops most now took new it is less = subst (λ n. open_left ops n < most) (sym is) (fewer (fed_left it) (rest_left ops took) less)
  where
    fewer : (n rest : ℕ) → n + rest < most → 0 + rest < most
    fewer n rest less = omega arith

-- ---- what follows an answer

-- the work was turned to
pub turned_few : (ops : List Op) (c new : Operations) (w : Work) (most : ℕ) → new ≡ record c { work = w } → work_left w ≤ most
    → open_left ops new ≤ most + rest_left ops c
turned_few ops c new w most is few = subst (λ n. open_left ops n ≤ most + rest_left ops c) (sym is) (more (work_left w) (rest_left ops c) few)
  where
    more : (n rest : ℕ) → n ≤ most → n + rest ≤ most + rest
    more n rest few = omega arith

pub few_more : (n rest most : ℕ) → n ≤ rest → n ≤ most + rest
few_more n rest most few = omega arith

pub at_most : (n k most : ℕ) → n ≤ k → k ≤ most → n ≤ most
at_most n k most less few = omega arith

pub below : (n k most : ℕ) → n ≤ k → k < most → n < most
below n k most less few = omega arith

pub put_few : (n : ℕ) → n ≤ 6 → n + 2 ≤ 8
put_few n few = omega arith

-- the work goes on as it was taken in
pub fed_turned : (ops : List Op) (c new : Operations) (it : Fed) (w : Work) → new ≡ record c { work = w } → it ≡ fed_it.Going w
    → open_left ops new ≤ fed_left it + rest_left ops c
fed_turned ops c new it w is it_is =
    subst (λ n. open_left ops n ≤ fed_left it + rest_left ops c) (sym is)
    (subst (λ k. work_left w + rest_left ops c ≤ fed_left k + rest_left ops c) (sym it_is) (alike (work_left w + rest_left ops c)))
  where
    alike : (n : ℕ) → n ≤ n
    alike n = omega arith

-- a reading was noted, which is no own write
pub noted_few : (ops : List Op) (c : Operations) (a : Attempt) (n most : ℕ) (seen : List (List ℕ × Reading)) → a ≡ record c.attempt { seen = seen }
    → n ≤ rest_left ops (record c { attempt = a }) → n ≤ most + rest_left ops c
noted_few ops c a n most seen is few =
    few_more n (rest_left ops c) most (subst (λ (k : Attempt). n ≤ rest_left ops (record c { attempt = k })) is few)

one_log : {X : Type 0} (logs : List X) (log : X) → length (logs ++ log ∷ []) ≡ suc (length logs)
one_log [] log = refl
one_log (l ∷ logs) log = ap (λ n. suc n) (one_log logs log)

-- the operation under way is told, and the next one is to begin
pub told_few : (ops : List Op) (c new : Operations) (a : OpAnswer) (good : Bool) → new ≡ went_on good (logged ops c a) → due_left ops new ≤ rest_left ops c
told_few ops c new a good is = subst (λ n. due_left ops n ≤ rest_left ops c) (sym is) (by good)
  where
    alike : (n : ℕ) → n ≡ suc (length c.logs) → left_for (length ops - n) (length c.attempt.writes) ≤ rest_left ops c
    alike n is = omega arith

    by : (good : Bool) → due_left ops (went_on good (logged ops c a)) ≤ rest_left ops c
    by true = alike (length (c.logs ++ log_for c a ∷ [])) (one_log c.logs (log_for c a))
    by false = alike (length (c.logs ++ log_for c a ∷ [])) (one_log c.logs (log_for c a))

-- where no other begins since the answer lets the try go no further
pub refused_few : (ops : List Op) (c new : Operations) (a : OpAnswer) (good : Bool) → good ≡ false → new ≡ went_on good (logged ops c a)
    → open_left ops new ≤ rest_left ops c
refused_few ops c new a true never is = absurd (cc)
refused_few ops c new a false none is =
    at_most (open_left ops new) (due_left ops new) (rest_left ops c) (subst (λ n. open_left ops n ≤ due_left ops n) (sym is) over) (told_few ops c new a false is)
  where
    over : open_left ops (went_on false (logged ops c a)) ≤ due_left ops (went_on false (logged ops c a))
    over = omega arith

pub answered_few : {E : Type 0} (ops : List Op) (c new : Operations) (a : OpAnswer) (good : Bool) (r : Result Bool E) → IfOk r (λ on. on ≡ good)
    → OnOk r (new ≡ went_on good (logged ops c a)) → IfOk r (λ on. on ≡ false → open_left ops new ≤ 25 + rest_left ops c)
answered_few ops c new a good (Ok on) told is = λ never. few_more (open_left ops new) (rest_left ops c) 25 (refused_few ops c new a good (sym told ∙ never) is)
answered_few ops c new a good (Err e) told is = tt

-- ---- the next operation begins

again_few : (it : Again) → it.end ≡ None → again.call_left it ≤ 1
again_few it none = subst (λ end. again.left_for end ≤ 1) (sym none) (omega arith)

pub begun_few : (a : Attempt) (b : Beginning) (w : Work) → Begins a b w → work_left w ≤ 25
begun_few a (beginning.Get d) w is = subst (λ k. work_left k ≤ 25) (sym is) (omega arith)
begun_few a (beginning.Read d write) w is = subst (λ k. work_left k ≤ 25) (sym is) (omega arith)
begun_few a (beginning.Put d write it) w (made, is, begins) = subst (λ k. work_left k ≤ 25) (sym is) (within (put.calls_left made) begins.stands.few)
  where
    within : (n : ℕ) → 0 + n ≤ 6 → n + 2 ≤ 25
    within n few = omega arith
begun_few a (beginning.Again d write) w (made, is, begins) =
    subst (λ k. work_left k ≤ 25) (sym is) (within (again.call_left made) (again_few made begins.going))
  where
    within : (n : ℕ) → n ≤ 1 → n + 2 ≤ 25
    within n few = omega arith

-- the operation at this place begins, behind those from an earlier one
pub begins_at : (ops : List Op) (first here : Operations) (at n : ℕ) → length here.logs ≡ at → at < length ops → length first.logs ≤ at
    → here.attempt ≡ first.attempt → n ≤ 25 + rest_left ops here → n ≤ due_left ops first
begins_at ops first here at n here_is within behind same few =
    fewer (length here.logs) (length first.logs) (length here.attempt.writes) (length first.attempt.writes) here_is behind (ap (λ (a : Attempt). length a.writes) same) few
  where
    fewer : (h f v w : ℕ) → h ≡ at → f ≤ at → v ≡ w → n ≤ 25 + left_for (length ops - suc h) v → n ≤ left_for (length ops - f) w
    fewer h f v w h_is behind same few = omega arith

-- none is left that is to begin
pub ends_at : (ops : List Op) (first here new : Operations) → new ≡ record here { work = work.Done } → length first.logs ≤ length here.logs
    → here.attempt ≡ first.attempt → open_left ops new ≤ due_left ops first
ends_at ops first here new is behind same =
    subst (λ n. open_left ops n ≤ due_left ops first) (sym is)
    (fewer (length here.logs) (length first.logs) (length here.attempt.writes) (length first.attempt.writes) behind (ap (λ (a : Attempt). length a.writes) same))
  where
    fewer : (h f v w : ℕ) → f ≤ h → v ≡ w → 0 + left_for (length ops - suc h) v ≤ left_for (length ops - f) w
    fewer h f v w behind same = omega arith

-- before the first one
pub first_few : (ops : List Op) (c : Operations) (a : Attempt) (n : ℕ) → c.logs ≡ [] → c.attempt ≡ a → n ≤ due_left ops c
    → n ≤ 25 * length ops + 2 * length a.writes + 8
first_few ops c a n none same few =
    fewer (length c.logs) (length c.attempt.writes) (length a.writes) (ap length none) (ap (λ (k : Attempt). length k.writes) same) few
  where
    fewer : (h v w : ℕ) → h ≡ 0 → v ≡ w → n ≤ left_for (length ops - h) v → n ≤ 25 * length ops + 2 * w + 8
    fewer h v w none same few = omega arith
