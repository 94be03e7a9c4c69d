-- The spans of operations, attempts, rounds and passes. `at` is one past the actor's last place before the part, or 0.
use Rattle.std.specs.Prelude.{◌≡◌, ℕ, suc, ◌≤◌, List, [], ◌∷◌}
use Rattle.cbt_model.specs.declared.events.Made.{Made}
use Rattle.cbt_book.specs.OwnLists.{In, during}
use Rattle.cbt_book.specs.declared.operations.Span.{Span}

-- one past the newest place of an own list
abbrev pub past_of : List Made → ℕ
past_of [] = 0
past_of (m ∷ past) = suc m.answer.place

-- the oldest of these calls
abbrev pub oldest : Made → List Made → Made
oldest m [] = m
oldest m (n ∷ past) = oldest n past

-- the span of these calls, behind this place
abbrev pub span_of : ℕ → List Made → Span
span_of at [] = record { from = at; to = at }
span_of at (m ∷ past) = record { from = (oldest m past).answer.place; to = suc m.answer.place }

-- the ends of a span of calls
pub data HasEnds (at : ℕ) (span : Span) (calls : List Made) : Type 0 where
  -- without calls both are one past the last place before
  without_calls : span.from ≡ at → span.to ≡ at → HasEnds at span calls
  -- it begins at the place of a call and ends one past that of a call
  with_calls : (first last : Made) → In first calls → In last calls → span.from ≡ first.answer.place → span.to ≡ suc last.answer.place → HasEnds at span calls

-- a part of an actor's calls has this span, and follows what was before with no own call in between
pub record IsSpan (l : List Made) (at : ℕ) (span : Span) : Type 0 where
  pub follows : at ≤ span.from
  pub next : during (record { from = at; to = span.from }) l ≡ []
  pub ends : HasEnds at span (during span l)
