-- Positions of actors: 0 stands before the first of a list, and p for the one at place p - 1.
use Rattle.std.specs.Prelude.{◌≡◌, ◌≢◌, ℕ, ◌+◌, ◌<◌, ◌≤◌, Bool, false, List, length, slice_get, unwrap_or}

-- the position after one, by a table that may be short
abbrev pub next_of : List ℕ → ℕ → ℕ
next_of next at = unwrap_or (slice_get next at) (at + 1)

-- the table leads over actors that have ended alone
pub record LeadsOn (first count : ℕ) (next : List ℕ) (asking : ℕ → Bool) : Type 0 where
  pub further : (at : ℕ) → at ≤ count → (at < next_of next at) × (next_of next at ≤ count + 1)
  pub over : (at place : ℕ) → at ≤ count → at ≤ place → place + 1 < next_of next at → asking (first + place) ≡ false

-- from one position on another is passed over, where the table is long enough
pub record PassesOver (before at : ℕ) (old new : List ℕ) : Type 0 where
  pub here : before < length old → next_of new before ≡ next_of old at
  pub short : length old ≤ before → new ≡ old
  pub others : (i : ℕ) → i ≢ before → next_of new i ≡ next_of old i
