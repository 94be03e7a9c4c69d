use Rattle.std.proofs.Common.{sym}
use Rattle.cbt_subdoc.proofs.Seats.{seat-Ok, seat-Err}
use Rattle.cbt_subdoc.proofs.members.member_at.Goals as goal

pub returns-in-Ok : goal.returns-in-Ok
returns-in-Ok c = sym ((seat-Ok c.args.name.now c.args.members.now _ (sym c.in-Ok.ensures.seat)).found c.index-members-at.result)

pub returns-in-Err : goal.returns-in-Err
returns-in-Err c = sym (seat-Err c.args.name.now c.args.members.now _ (sym c.in-Err.ensures.seat)).none
