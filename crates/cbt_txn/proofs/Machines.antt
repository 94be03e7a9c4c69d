-- What the answer to its call makes of a read and of a put.
use Rattle.std.proofs.Common.{◌≡◌, ◌≢◌, ℕ, zero, suc, Bool, true, false, List, Some, None, is_some, refl, sym, ap, ◌∙◌, subst}
use Rattle.std.proofs.lemmas.Option.{none-some}
use Rattle.cbt_model.specs.History.{is_done}
use Rattle.cbt_model.specs.declared.steps.Reply.{Reply}
use Rattle.cbt_model.specs.declared.steps.Reply.TheVariants as reply
use Rattle.cbt_model.specs.declared.steps.Step.{Step}
use Rattle.cbt_book.specs.declared.operations.When.TheVariants as when
use Rattle.cbt_core.specs.Operations.{StandsAt}
use Rattle.cbt_core.proofs.runs.Past.{some_same}
use Rattle.cbt_attempt.specs.declared.attempt.Attempt.{Attempt}
use Rattle.cbt_read.specs.Phases as get
use Rattle.cbt_read.specs.declared.ends.GetEnd.TheVariants as get_end
use Rattle.cbt_read.specs.declared.phases.Phase.TheVariants as get_phase
use Rattle.cbt_read.specs.declared.phases.Phase as get_phases
use Rattle.cbt_stage.specs.Phases as put
use Rattle.cbt_stage.specs.Tasks.{is_staging, record_added, stages}
use Rattle.cbt_stage.specs.declared.ends.PutEnd.{PutEnd}
use Rattle.cbt_stage.specs.declared.ends.PutEnd.TheVariants as put_end
use Rattle.cbt_stage.specs.declared.phases.Phase.{Phase}
use Rattle.cbt_stage.specs.declared.phases.Phase.TheVariants as put_phase
use Rattle.cbt_stage.specs.declared.tasks.Task.{Task}
use Rattle.cbt_txn.specs.Feeding.{with_sent}
use Rattle.cbt_txn.specs.Works.{answer_of}

clash : {b : Bool} → b ≡ true → b ≡ false → ⊥
clash one two = cc

-- a call that failed ends a read
pub get_failed : (d : List ℕ) (p : get_phases.Phase) (place : ℕ) (s : Step) → get.step_for d p ≡ Some s
    → get.after p place reply.Failed ≡ get_phase.Ended (get_end.CallFailed place)
get_failed d get_phase.Begun place s asked = refl
get_failed d (get_phase.Asking staged left) place s asked = refl
get_failed d (get_phase.Again staged gone at left) place s asked = refl
get_failed d (get_phase.Ended end) place s asked = absurd (none-some s asked)

pub get_open : (d : List ℕ) (p : get_phases.Phase) (place : ℕ) (s : Step) (r : Reply) → get.step_for d p ≡ Some s → get.end_in (get.after p place r) ≡ None
    → r ≢ reply.Failed
get_open d p place s r asked going same =
    none-some (get_end.CallFailed place) (sym going ∙ ap (λ r. get.end_in (get.after p place r)) same ∙ ap get.end_in (get_failed d p place s asked))

-- and a put
pub put_failed : (o : Task) (p : Phase) (place : ℕ) (s : Step) → put.step_for o p ≡ Some s
    → put.after o p place reply.Failed ≡ put_phase.Ended (put_end.CallFailed place)
put_failed o (put_phase.Asking r by left) place s asked = refl
put_failed o put_phase.Adding place s asked = refl
put_failed o put_phase.Staging place s asked = refl
put_failed o (put_phase.Ended end) place s asked = absurd (none-some s asked)

pub put_open : (o : Task) (p : Phase) (place : ℕ) (s : Step) (r : Reply) → put.step_for o p ≡ Some s → put.end_in (put.after o p place r) ≡ None
    → r ≢ reply.Failed
put_open o p place s r asked going same =
    none-some (put_end.CallFailed place) (sym going ∙ ap (λ r. put.end_in (put.after o p place r)) same ∙ ap put.end_in (put_failed o p place s asked))

pub put_fails : (o : Task) (p : Phase) (place : ℕ) (s : Step) (r : Reply) (end : PutEnd) → put.step_for o p ≡ Some s
    → put.end_in (put.after o p place r) ≡ Some end → r ≡ reply.Failed → end ≡ put_end.CallFailed place
put_fails o p place s r end asked ended same =
    some_same (sym ended ∙ ap (λ r. put.end_in (put.after o p place r)) same ∙ ap put.end_in (put_failed o p place s asked))

-- what a put staged by its last call is its answer
staging_stands : (o : Task) (place : ℕ) (r : Reply) (end : PutEnd) → put.end_in (put.after_staging o place r) ≡ Some end → is_done r ≡ true
    → StandsAt place (answer_of end) (stages o)
staging_stands o place (reply.Done c) end ended done =
    subst (λ end. StandsAt place (answer_of end) (stages o)) (some_same ended) (when.At o.seen.moment, refl)
staging_stands o place _ end ended done = absurd (clash done refl)

pub put_stands_at : (o : Task) (p : Phase) (place : ℕ) (s : Step) (r : Reply) (end : PutEnd) → put.step_for o p ≡ Some s
    → put.end_in (put.after o p place r) ≡ Some end → is_done r ≡ true → StandsAt place (answer_of end) s
put_stands_at o (put_phase.Asking n by left) place s r end asked ended done = subst (λ s. StandsAt place (answer_of end) s) (some_same asked) tt
put_stands_at o put_phase.Adding place s r end asked ended done = subst (λ s. StandsAt place (answer_of end) s) (some_same asked) tt
put_stands_at o put_phase.Staging place s r end asked ended done =
    subst (λ s. StandsAt place (answer_of end) s) (some_same asked) (staging_stands o place r end ended done)
put_stands_at o (put_phase.Ended e) place s r end asked ended done = absurd (none-some s asked)

-- a put that stages is in its last phase
pub is_last : (o : Task) (p : Phase) → is_staging (put.step_for o p) ≡ true → p ≡ put_phase.Staging
is_last o (put_phase.Asking r by left) is = absurd (clash is refl)
is_last o put_phase.Adding is = absurd (clash is refl)
is_last o put_phase.Staging is = refl
is_last o (put_phase.Ended end) is = absurd (clash is refl)

-- the entry is sent before the write is staged
entered_staging : (sent : Bool) → put.entered sent ≡ put_phase.Staging → sent ≡ true
entered_staging true is = refl
entered_staging false is = absurd (cc)

again_staging : (r by left : ℕ) → put.again r by left ≡ put_phase.Staging → ⊥
again_staging r by left is = by_left left is
  where
    by_left : (left : ℕ) → put.again r by left ≡ put_phase.Staging → ⊥
    by_left zero is = cc
    by_left (suc left) is = cc

ended_staging : {end : PutEnd} → put_phase.Ended end ≡ put_phase.Staging → ⊥
ended_staging same = cc

after_staging : (o : Task) (place : ℕ) (r : Reply) → put.after_staging o place r ≡ put_phase.Staging → ⊥
after_staging o place (reply.Done c) is = ended_staging is
after_staging o place reply.Failed is = ended_staging is
after_staging o place _ is = ended_staging is

entry_staging : (o : Task) (r by left place : ℕ) (answer : Reply) → put.after_entry o r by left place answer ≡ put_phase.Staging → o.sent ≡ true
entry_staging o r by left place reply.NoEntry is = entered_staging o.sent is
entry_staging o r by left place (reply.Entry e) is = absurd (again_staging r by left is)
entry_staging o r by left place _ is = absurd (ended_staging is)

pub sent_on : (o : Task) (p : Phase) (place : ℕ) (s : Step) (r : Reply) (a : Attempt) → put.step_for o p ≡ Some s → (o.sent ≡ true → is_some a.sent ≡ true)
    → put.after o p place r ≡ put_phase.Staging → is_some (with_sent a (record_added (put.step_for o p))).sent ≡ true
sent_on o (put_phase.Asking n by left) place s r a asked before is = before (entry_staging o n by left place r is)
sent_on o put_phase.Adding place s r a asked before is = refl
sent_on o put_phase.Staging place s r a asked before is = absurd (after_staging o place r is)
sent_on o (put_phase.Ended e) place s r a asked before is = absurd (none-some s asked)
