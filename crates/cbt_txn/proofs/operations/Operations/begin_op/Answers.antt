use Rattle.std.proofs.Common.{◌≡◌, [], sym, ◌∙◌, subst}
use Rattle.cbt_expr.specs.Answers.{bound_in}
use Rattle.cbt_core.specs.Walk.{request_of}
use Rattle.cbt_txn.specs.Feeding.{logged}
use Rattle.cbt_txn.specs.Following.{Follows, Halts}
use Rattle.cbt_txn.proofs.FirstCalls.{begins_follow, can_begin}
use Rattle.cbt_txn.proofs.OwnAnswers.{begins_answered}
use Rattle.cbt_txn.proofs.Stepping.{goes_if, on_err_more, on_err_of}
use Rattle.cbt_txn.proofs.Telling.{answers_tell_now, between_halts}
use Rattle.cbt_core.specs.Operations.{is_good}
use Rattle.cbt_txn.proofs.Begun.{work_begun}
use Rattle.cbt_txn.proofs.Steps.{turned, answered_at_once}
use Rattle.cbt_txn.proofs.operations.Operations.begin_op.Goals as goal
use Rattle.cbt_txn.proofs.BoundsOpen.{answered_few, begun_few, turned_few}

pub returns-in_err-beginning-clause-halts : goal.returns-in_err-beginning-clause-halts
returns-in_err-beginning-clause-halts c t l0 told it = on_err_of c.from_residual.result _ (between_halts t c.args.self.now l0 told it)

pub begin_work-requires-clause-can : goal.begin_work-requires-clause-can
begin_work-requires-clause-can c =
    can_begin c.args.self.now.attempt (request_of (bound_in c.args.self.now.bound) c.args.op.now) c.in-Calls.beginning
    (sym c.in_ok-beginning.ensures ∙ c.in-Calls.is)

pub returns-in_err-work-in-Calls-clause-halts : goal.returns-in_err-work-in-Calls-clause-halts
returns-in_err-work-in-Calls-clause-halts c t l0 told it =
    on_err_of c.from_residual-in_err-work-in-Calls.result _ (between_halts t c.args.self.now l0 told it)

pub returns-in_ok-work-in-Calls-clause-follows : goal.returns-in_ok-work-in-Calls-clause-follows
returns-in_ok-work-in-Calls-clause-follows c t l0 told same next it =
    subst (λ n. Follows t n l0 told) (sym c.set_work.ensures)
    (begins_follow t c.args.self.now l0 told c.args.op.now c.in-Calls.beginning c.in_ok-work-in-Calls.work it next
    (sym c.in_ok-beginning.ensures ∙ c.in-Calls.is) c.in_ok-work-in-Calls.ensures)

pub returns-in-Answered-clause-follows : goal.returns-in-Answered-clause-follows
returns-in-Answered-clause-follows c t l0 told same next it =
    let answers = begins_answered t c.args.self.now l0 told c.args.op.now c.in-Answered.answer it next (sym c.in_ok-beginning.ensures ∙ c.in-Answered.is) in
    goes_if t c.args.self.now l0 told [] c.in-Answered.answer answers (answers_tell_now t c.args.self.now l0 told c.in-Answered.answer answers)
    c.args.ops.now same c.log_on.result c.log_on.new.self c.log_on.ensures.good c.log_on.ensures.ok

pub returns-in-Answered-clause-halts : goal.returns-in-Answered-clause-halts
returns-in-Answered-clause-halts c t l0 told it =
    on_err_more c.log_on.result (c.log_on.new.self.logs ≡ c.args.self.now.logs) (Halts t c.log_on.new.self.logs l0 told)
    (λ same. subst (λ k. Halts t k l0 told) (sym same) (between_halts t c.args.self.now l0 told it)) c.log_on.ensures.logs

pub returns-in_ok-work-in-Calls-clause-licensed : goal.returns-in_ok-work-in-Calls-clause-licensed
returns-in_ok-work-in-Calls-clause-licensed c who l owns well same =
    turned who l c.args.self.now c.set_work.new.self c.in_ok-work-in-Calls.work c.set_work.ensures owns
    (work_begun who c.args.self.now.attempt l owns well (request_of (bound_in c.args.self.now.bound) c.args.op.now) c.in-Calls.beginning
    c.in_ok-work-in-Calls.work (sym c.in_ok-beginning.ensures ∙ c.in-Calls.is) c.in_ok-work-in-Calls.ensures)

pub returns-in-Answered-clause-licensed : goal.returns-in-Answered-clause-licensed
returns-in-Answered-clause-licensed c who l owns well =
    answered_at_once who l (logged c.args.ops.now c.args.self.now c.in-Answered.answer) c.log_on.new.self (is_good c.in-Answered.answer) c.log_on.result
    c.log_on.ensures.good c.log_on.ensures.ok owns

pub returns-in_ok-work-in-Calls-clause-few : goal.returns-in_ok-work-in-Calls-clause-few
returns-in_ok-work-in-Calls-clause-few c same =
    turned_few c.args.ops.now c.args.self.now c.set_work.new.self c.in_ok-work-in-Calls.work 25 c.set_work.ensures
    (begun_few c.args.self.now.attempt c.in-Calls.beginning c.in_ok-work-in-Calls.work c.in_ok-work-in-Calls.ensures)

pub returns-in-Answered-clause-few : goal.returns-in-Answered-clause-few
returns-in-Answered-clause-few c =
    answered_few c.args.ops.now c.args.self.now c.log_on.new.self c.in-Answered.answer (is_good c.in-Answered.answer) c.log_on.result c.log_on.ensures.good
    c.log_on.ensures.ok
