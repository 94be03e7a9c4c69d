use Rattle.std.proofs.Common.{rules, ◌≡◌, true, false}
use Rattle.cbt_txn.specs.Deciding as deciding
use Rattle.cbt_txn.specs.Deciding.{is_kept, is_over}
use Rattle.cbt_txn.proofs.tries.closed.Goals as goal

pub returns-then-not-is_over : goal.returns-then-not-is_over
returns-then-not-is_over c =
    let going : is_over c.args.operations.now.work ≡ false = search rules in
    deciding.open_yet going

pub returns-then-is_kept : goal.returns-then-is_kept
returns-then-is_kept c =
    let kept : is_kept c.args.keep c.args.operations.now.work ≡ true = search rules in
    deciding.commits c.in_ok-next.next kept c.in_ok-next.ensures

pub returns : goal.returns
returns c =
    let over : is_over c.args.operations.now.work ≡ true = search rules in
    let unkept : is_kept c.args.keep c.args.operations.now.work ≡ false = search rules in
    deciding.rolls_back c.in_ok-next-2.next over unkept c.in_ok-next-2.ensures
