use Rattle.std.proofs.Common.{◌≡◌, drop}
use Rattle.cbt_subdoc.specs.Members.{seat}
use Rattle.cbt_subdoc.proofs.Seats.{from_place}
use Rattle.cbt_subdoc.proofs.members.seat_of.Given as goal

abbrev pub invariant-loop-at : goal.invariant-loop-at
invariant-loop-at l = from_place l.at (seat l.name (drop l.at l.members)) ≡ seat l.name l.members
