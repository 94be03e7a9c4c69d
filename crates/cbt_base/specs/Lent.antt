-- How a list takes back what was lent from it.
use Rattle.std.specs.Prelude.{ℕ, List, slice_set}
use Rattle.std.specs.Borrow.{Lends, MutBor, Fml}
use denote.RattleType.{RattleType}
use Rattle.cbt_base.specs.contracts.list.List.{the_row}

-- the list ends with the item at this place set to the last value behind r
abbrev pub lends_item : (T : RattleType) → MutBor (List T.Denot) → ℕ → MutBor T.Denot → Fml
lends_item T l at r = Lends (the_row T) T l r (slice_set l.now at)
