-- The order of turns: which actor makes which call, by an order's items and the number of calls that each actor makes.
use Rattle.std.specs.Prelude.{◌≡◌, ℕ, zero, suc, ◌-◌, min, Bool, false, ◌==◌, nat_lt, List, [], ◌∷◌, ◌++◌, length, map, filter, sum_by, count_by, replicate}
use Rattle.cbt_model.specs.declared.events.Event.{Event}
use Rattle.cbt_model.specs.declared.events.Item.{Item}
use Rattle.cbt_model.specs.declared.events.Item.TheVariants as item
use Rattle.cbt_model.specs.declared.events.Mark.{Mark}

-- the actors of a history's calls, in order
abbrev pub callers : List Event → List ℕ
callers history = map (λ e. e.actor) history

-- how many of these calls are an actor's
abbrev pub calls_of : List ℕ → ℕ → ℕ
calls_of calls actor = count_by (λ a. a == actor) calls

-- how many of its n calls an actor has left after these
abbrev pub left_after : (ℕ → ℕ) → List ℕ → ℕ → ℕ
left_after n calls actor = n actor - calls_of calls actor

-- the calls that an item makes, cut to what its actor has left
abbrev pub item_calls : (ℕ → ℕ) → Item → List ℕ
item_calls left (item.Calls actor k) = replicate (min k (left actor)) actor
item_calls left (item.All actor) = replicate (left actor) actor
item_calls left (item.Ahead ms) = []

-- the calls once these items are followed too
abbrev pub after_items : (ℕ → ℕ) → List Item → List ℕ → List ℕ
after_items n [] calls = calls
after_items n (item ∷ items) calls = after_items n items (calls ++ item_calls (left_after n calls) item)

-- the mark of an item, behind so many calls
abbrev pub item_marks : ℕ → Item → List Mark
item_marks place (item.Ahead ms) = record { place = place; ms = ms } ∷ []
item_marks place _ = []

-- the marks of items, each at the length reached
abbrev pub marks_of : (ℕ → ℕ) → List Item → List ℕ → List Mark
marks_of n [] calls = []
marks_of n (item ∷ items) calls = item_marks (length calls) item ++ marks_of n items (calls ++ item_calls (left_after n calls) item)

-- round r, from 0: one call of each actor that has more than r left, in this order
abbrev pub round : (ℕ → ℕ) → List ℕ → ℕ → List ℕ
round left actors r = filter (λ a. nat_lt r (left a)) actors

-- the first r rounds
abbrev pub rounds : (ℕ → ℕ) → List ℕ → ℕ → List ℕ
rounds left actors zero = []
rounds left actors (suc r) = rounds left actors r ++ round left actors r

-- the calls of an order's items, and then one call each in turn until none has any left; n says how many calls each
-- actor makes, and the first calls were made before
abbrev pub turns : (ℕ → ℕ) → List ℕ → List Item → List ℕ → List ℕ
turns n actors order calls =
    let ordered = after_items n order calls in
    let left = left_after n ordered in
    ordered ++ rounds left actors (sum_by left actors)

-- some of these marks, in their order
pub data AreAmong : List Mark → List Mark → Type 0 where
  none : AreAmong [] []
  taken : (m : Mark) (some all : List Mark) → AreAmong some all → AreAmong (m ∷ some) (m ∷ all)
  missed : (m : Mark) (some all : List Mark) → AreAmong some all → AreAmong some (m ∷ all)

-- marks more: of those that are due some may be missing, and only where memory was refused
pub record AddsMarks (refused : Bool) (due old new : List Mark) : Type 0 where
  pub added : List Mark
  pub grown : new ≡ old ++ added
  pub among : AreAmong added due
  pub all : refused ≡ false → added ≡ due
