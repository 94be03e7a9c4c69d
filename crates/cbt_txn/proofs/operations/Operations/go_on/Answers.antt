use Rattle.std.proofs.Common.{◌+◌, ◌≤◌, OnOk, ap, sym, ◌∙◌, subst, ◌++◌}
use Rattle.cbt_core.specs.Operations.{is_good}
use Rattle.cbt_txn.specs.Licensing.{MayCome}
use Rattle.cbt_txn.proofs.Steps.{turned}
use Rattle.cbt_txn.proofs.operations.Operations.go_on.Goals as goal
use Rattle.cbt_txn.specs.Following.{Answers, Fits, Follows}
use Rattle.cbt_txn.specs.Bounds.{fed_left, open_left, rest_left}
use Rattle.cbt_txn.proofs.BoundsOpen.{few_more, fed_turned}
use Rattle.cbt_txn.proofs.Outcomes.{ok_of}

pub returns-in-Going-clause-follows : goal.returns-in-Going-clause-follows
returns-in-Going-clause-follows c t l0 told calls same falls it =
    subst (λ n. Follows t n l0 (calls ++ told)) (sym c.set_work.ensures) (subst (λ f. Fits t c.args.self.now l0 told calls f) c.in-Going.is it)

pub returns-in-Read-clause-follows : goal.returns-in-Read-clause-follows
returns-in-Read-clause-follows c t l0 told calls same falls it =
    c.got.ensures.follows t l0 told calls same falls (subst (λ f. Fits t c.args.self.now l0 told calls f) c.in-Read.is it)

pub returns-in-Read-clause-halts : goal.returns-in-Read-clause-halts
returns-in-Read-clause-halts c t l0 told calls same falls it =
    c.got.ensures.halts t l0 told calls same falls (subst (λ f. Fits t c.args.self.now l0 told calls f) c.in-Read.is it)

pub returns-in-Written-clause-follows : goal.returns-in-Written-clause-follows
returns-in-Written-clause-follows c t l0 told calls same falls it =
    c.close.ensures.follows t l0 told calls same falls
    (subst (λ a. Answers t c.args.self.now l0 told calls a) (sym c.answer_of.ensures) (subst (λ f. Fits t c.args.self.now l0 told calls f) c.in-Written.is it))

pub returns-in-Written-clause-halts : goal.returns-in-Written-clause-halts
returns-in-Written-clause-halts c t l0 told calls same falls it =
    c.close.ensures.halts t l0 told calls same falls
    (subst (λ a. Answers t c.args.self.now l0 told calls a) (sym c.answer_of.ensures) (subst (λ f. Fits t c.args.self.now l0 told calls f) c.in-Written.is it))

pub returns-in-Going-clause-licensed : goal.returns-in-Going-clause-licensed
returns-in-Going-clause-licensed c who l owns may =
    turned who l c.args.self.now c.set_work.new.self c.in-Going.work c.set_work.ensures owns
    (subst (λ it. MayCome who c.args.self.now.attempt l it) c.in-Going.is may)

pub returns-in-Read-clause-licensed : goal.returns-in-Read-clause-licensed
returns-in-Read-clause-licensed c who l owns may =
    let it = subst (λ it. MayCome who c.args.self.now.attempt l it) c.in-Read.is may in
    c.got.ensures.licensed who l owns it.0 it.1

pub returns-in-Written-clause-licensed : goal.returns-in-Written-clause-licensed
returns-in-Written-clause-licensed c who l owns may =
    let it = subst (λ it. MayCome who c.args.self.now.attempt l it) c.in-Written.is may in
    c.close.ensures.licensed who l owns (λ good. it (ap is_good (sym c.answer_of.ensures) ∙ good))

pub returns-in-Going-clause-few : goal.returns-in-Going-clause-few
returns-in-Going-clause-few c =
    fed_turned c.args.ops.now c.args.self.now c.set_work.new.self c.args.fed c.in-Going.work c.set_work.ensures c.in-Going.is

pub returns-in-Read-clause-few : goal.returns-in-Read-clause-few
returns-in-Read-clause-few c =
    subst (λ f. OnOk c.got.result (open_left c.args.ops.now c.got.new.self ≤ fed_left f + rest_left c.args.ops.now c.args.self.now)) (sym c.in-Read.is)
    c.got.ensures.few

pub returns-in-Written-clause-few : goal.returns-in-Written-clause-few
returns-in-Written-clause-few c =
    ok_of c.close.result _ _ (λ few. few_more _ (rest_left c.args.ops.now c.args.self.now) (fed_left c.args.fed) few) c.close.ensures.few
