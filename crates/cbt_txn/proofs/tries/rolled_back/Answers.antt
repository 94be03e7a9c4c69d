use Rattle.std.proofs.Common.{rules, ◌≡◌, [], None, refl, sym}
use Rattle.cbt_rollback.specs.Phases as undo
use Rattle.cbt_txn.specs.Deciding as deciding
use Rattle.cbt_txn.proofs.Beginnings.{undo_goes}
use Rattle.cbt_txn.proofs.tries.rolled_back.Goals as goal

pub returns-then-is_none : goal.returns-then-is_none
returns-then-is_none c =
    let none : c.args.attempt.now.sent ≡ None = search rules in
    deciding.nothing none

pub returns : goal.returns
returns c =
    let it = c.in_ok-undo.ensures in
    deciding.undoes c.in_ok-undo.undo (record {
      attempt = it.attempt;
      sent = sym it.atr;
      going = undo_goes (undo.task_of c.in_ok-undo.undo) c.in_ok-undo.undo.phase [] it.stands refl;
      own = it.own;
      few = it.few;
      stands = it.stands;
      ready = λ l abortable. it.ready l c.in_ok-undo.undo.atr (sym it.atr) abortable;
    })
