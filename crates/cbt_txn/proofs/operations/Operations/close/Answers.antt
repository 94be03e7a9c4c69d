use Rattle.std.proofs.Common.{◌++◌, sym, subst, ◌∙◌}
use Rattle.cbt_core.specs.Operations.{is_good}
use Rattle.cbt_txn.specs.Following.{GoesOn, Halts}
use Rattle.cbt_txn.proofs.Stepping.{closes_by, on_err_of}
use Rattle.cbt_txn.proofs.Telling.{answers_halt}
use Rattle.cbt_txn.specs.Feeding.{logged}
use Rattle.cbt_txn.proofs.Steps.{went_no_further}
use Rattle.cbt_txn.proofs.operations.Operations.close.Goals as goal
use Rattle.cbt_txn.proofs.BoundsOpen.{at_most, refused_few, told_few}
use Rattle.cbt_txn.proofs.Outcomes.{ok_of}

pub returns-in_err-log_on-clause-halts : goal.returns-in_err-log_on-clause-halts
returns-in_err-log_on-clause-halts c t l0 told calls same falls it =
    on_err_of c.from_residual.result _
    (subst (λ logs. Halts t logs l0 (calls ++ told)) (sym c.in_err-log_on.ensures.logs) (answers_halt t c.args.self.now l0 told calls c.args.answer falls it))

pub returns-then-branch-clause-follows : goal.returns-then-branch-clause-follows
returns-then-branch-clause-follows c t l0 told calls same falls it =
    c.advance.ensures.follows t l0 (calls ++ told) same
    (subst (λ b. GoesOn b t c.log_on.new.self l0 (calls ++ told)) c.if-branch.true
    (closes_by t c.args.self.now l0 told calls c.args.answer falls it c.args.ops.now same c.in_ok-log_on.field-0 c.log_on.new.self c.in_ok-log_on.ensures.good
    c.in_ok-log_on.ensures.ok))

pub returns-then-branch-clause-halts : goal.returns-then-branch-clause-halts
returns-then-branch-clause-halts c t l0 told calls same falls it =
    c.advance.ensures.halts t l0 (calls ++ told) same
    (subst (λ b. GoesOn b t c.log_on.new.self l0 (calls ++ told)) c.if-branch.true
    (closes_by t c.args.self.now l0 told calls c.args.answer falls it c.args.ops.now same c.in_ok-log_on.field-0 c.log_on.new.self c.in_ok-log_on.ensures.good
    c.in_ok-log_on.ensures.ok))

pub returns-else-branch-clause-follows : goal.returns-else-branch-clause-follows
returns-else-branch-clause-follows c t l0 told calls same falls it =
    subst (λ b. GoesOn b t c.log_on.new.self l0 (calls ++ told)) c.if-branch.false
    (closes_by t c.args.self.now l0 told calls c.args.answer falls it c.args.ops.now same c.in_ok-log_on.field-0 c.log_on.new.self c.in_ok-log_on.ensures.good
    c.in_ok-log_on.ensures.ok)

pub returns-else-branch-clause-licensed : goal.returns-else-branch-clause-licensed
returns-else-branch-clause-licensed c who l owns well =
    went_no_further who l (logged c.args.ops.now c.args.self.now c.args.answer) c.log_on.new.self (is_good c.args.answer)
    (sym c.in_ok-log_on.ensures.good ∙ c.if-branch.false) c.in_ok-log_on.ensures.ok owns

pub returns-then-branch-clause-few : goal.returns-then-branch-clause-few
returns-then-branch-clause-few c =
    ok_of c.advance.result _ _
    (λ few. at_most _ _ _ few (told_few c.args.ops.now c.args.self.now c.log_on.new.self c.args.answer (is_good c.args.answer) c.in_ok-log_on.ensures.ok))
    c.advance.ensures.few

pub returns-else-branch-clause-few : goal.returns-else-branch-clause-few
returns-else-branch-clause-few c =
    refused_few c.args.ops.now c.args.self.now c.log_on.new.self c.args.answer (is_good c.args.answer) (sym c.in_ok-log_on.ensures.good ∙ c.if-branch.false)
    c.in_ok-log_on.ensures.ok
