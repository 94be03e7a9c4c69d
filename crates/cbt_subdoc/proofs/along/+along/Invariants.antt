use Rattle.std.proofs.Common.{◌+◌, ◌*◌, length}
use Rattle.cbt_subdoc.proofs.along.+along.Given as goal

abbrev pub decreases-change_tree : goal.decreases-change_tree
decreases-change_tree l = 3 * length l.path.now + 1

abbrev pub decreases-change_slot : goal.decreases-change_slot
decreases-change_slot l = 3 * length l.path.now + 2

abbrev pub decreases-change_member : goal.decreases-change_member
decreases-change_member l = 3 * length l.path.now + 3

abbrev pub decreases-change_item : goal.decreases-change_item
decreases-change_item l = 3 * length l.path.now + 3
