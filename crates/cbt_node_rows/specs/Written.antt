-- An order written out by hand, on which the order of turns is tried.
use Rattle.std.specs.Prelude.{ℕ, ◌==◌, if◌then◌else◌, List, [], ◌∷◌}
use Rattle.std.specs.List.{range_with_len}
use Rattle.cbt_model.specs.declared.events.Item.{Item}
use Rattle.cbt_model.specs.declared.events.Item.TheVariants as item

-- four actors
abbrev pub actors : List ℕ
actors = range_with_len 1 4

-- the first makes three calls, the second four, the third two, and the fourth none
abbrev pub counts : ℕ → ℕ
counts a = if a == 1 then 3 else (if a == 2 then 4 else (if a == 3 then 2 else 0))

-- the second begins, the first makes all its calls, one item is of no actor, and two are of actors without calls left
abbrev pub order : List Item
order =
    item.Ahead 10 ∷ item.Calls 2 2 ∷ item.Ahead 20 ∷ item.All 1 ∷ item.Calls 9 3 ∷ item.Calls 1 1 ∷ item.All 4 ∷ item.Ahead 30 ∷ []
