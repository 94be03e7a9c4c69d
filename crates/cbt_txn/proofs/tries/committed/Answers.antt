use Rattle.std.proofs.Common.{rules, ◌≡◌, None, sym, ap}
use Rattle.cbt_commit.specs.Phases as finish
use Rattle.cbt_txn.specs.Deciding as deciding
use Rattle.cbt_txn.proofs.tries.committed.Goals as goal

pub returns-then-is_none : goal.returns-then-is_none
returns-then-is_none c =
    let none : c.args.attempt.now.sent ≡ None = search rules in
    deciding.nothing none

pub returns : goal.returns
returns c =
    let it = c.in_ok-finish.ensures in
    deciding.finishes c.in_ok-finish.finish (record {
      attempt = it.attempt;
      sent = sym it.atr;
      going = ap finish.end_in it.phase;
      few = it.few;
      stands = it.stands;
      ready = it.ready;
    })
