-- Words on an actor's own list: the steps that it made with their answers, newest first. "Later" is nearer to the head. Each
-- word sees a step together with what was made before it.
use Rattle.std.specs.Prelude.{◌≡◌, ℕ, ◌<◌, ◌⊎◌, Bool, ◌&&◌, nat_lt, nat_le, List, [], ◌∷◌, filter}
use Rattle.cbt_model.specs.declared.events.Made.{Made}
use Rattle.cbt_book.specs.declared.operations.Span.{Span}

-- P is so of some step
abbrev pub Once : (Made → List Made → Type 0) → List Made → Type 0
Once P [] = ⊥
Once P (m ∷ past) = P m past ⊎ Once P past

-- P is so of some step, and U of no later one
abbrev pub Kept : (Made → List Made → Type 0) → (Made → List Made → Type 0) → List Made → Type 0
Kept P U [] = ⊥
Kept P U (m ∷ past) = P m past ⊎ ((¬ U m past) × Kept P U past)

-- P is so of each step
abbrev pub Each : (Made → List Made → Type 0) → List Made → Type 0
Each P [] = Unit {0}
Each P (m ∷ past) = P m past × Each P past

-- x stands in the list
abbrev pub In : {X : Type 0} → X → List X → Type 0
In x [] = ⊥
In x (y ∷ ys) = (x ≡ y) ⊎ In x ys

-- the places of the calls fall towards the end of the list, as those of an own list do
abbrev pub Descends : List Made → Type 0
Descends [] = Unit {0}
Descends (m ∷ past) = ((n : Made) → In n past → n.answer.place < m.answer.place) × Descends past

-- the place lies in the span
abbrev pub is_within : Span → ℕ → Bool
is_within span place = nat_le span.from place && nat_lt place span.to

-- the calls of a list whose places lie in a span
abbrev pub during : Span → List Made → List Made
during span l = filter (λ m. is_within span m.answer.place) l
