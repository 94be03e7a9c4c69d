use Rattle.cbt_txn.proofs.Stepping.{first_between_at}
use Rattle.std.proofs.Common.{[], None, refl}
use Rattle.cbt_txn.proofs.operations.Operations.begin.Goals as goal
use Rattle.cbt_txn.specs.declared.operations.Operations.{Operations}
use Rattle.cbt_txn.specs.declared.operations.Work.TheVariants as work
use Rattle.cbt_txn.proofs.BoundsOpen.{first_few}

pub returns-clause-follows : goal.returns-clause-follows
returns-clause-follows c t l0 same under new past_is =
    c.in_ok-advance.ensures.follows t l0 [] same
    (first_between_at t c.args.attempt c.args.past l0 c.new.result c.new-2.result under new past_is c.new.ensures c.new-2.ensures)

pub returns-clause-few : goal.returns-clause-few
returns-clause-few c =
    let first : Operations = record { attempt = c.args.attempt; bound = c.new.result; logs = c.new-2.result; first = None; past = c.args.past; work = work.Done } in
    first_few c.args.ops.now first c.args.attempt _ c.new-2.ensures refl c.in_ok-advance.ensures.few
