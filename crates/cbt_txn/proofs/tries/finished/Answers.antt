use Rattle.std.proofs.Common.{rules, ◌≡◌, true, false, None, Some, sym, subst}
use Rattle.cbt_commit.specs.Phases as finish
use Rattle.cbt_txn.specs.Deciding as deciding
use Rattle.cbt_txn.specs.Deciding.{Finished, is_in_vain}
use Rattle.cbt_txn.specs.declared.tries.Closing.TheVariants as closing
use Rattle.cbt_txn.proofs.tries.finished.Goals as goal

pub returns-in_default-clause-ok : goal.returns-in_default-clause-ok
returns-in_default-clause-ok c =
    let going : finish.end_of c.args.finish ≡ None = search rules in
    deciding.goes_on going

pub returns-then-is_in_vain-clause-ok : goal.returns-then-is_in_vain-clause-ok
returns-then-is_in_vain-clause-ok c =
    let vain : is_in_vain c.args.finish ≡ true = search rules in
    deciding.in_vain c.in_ok-next.next vain c.in_ok-next.ensures

pub returns-clause-ok : goal.returns-clause-ok
returns-clause-ok c =
    let ends : finish.end_of c.args.finish ≡ Some c.in-Some.end = search rules in
    let unvain : is_in_vain c.args.finish ≡ false = search rules in
    subst (λ e. Finished c.args.attempt.now c.args.finish (closing.Ended e)) (sym c.ended_by.ensures) (deciding.ended c.in-Some.end ends unvain)
