-- The clock of a node, and sequences of readings. A stamp counts nanoseconds; its low 16 bits are logical.
use Rattle.std.specs.Prelude.{ℕ, ◌≡◌, ◌+◌, ◌*◌, ◌/◌, ◌^◌, ◌-◌, min, max, List, [], ◌∷◌, length, slice_index}

-- the stamp of a reading in milliseconds: its nanoseconds, with the low 16 bits cleared
unfoldable pub clock_of : ℕ → ℕ
clock_of r = min r (2 ^ 43 - 1) * 1000000 / 65536 * 65536

-- the clock after a call at a reading that changes nothing
abbrev pub clock_read : ℕ → ℕ → ℕ
clock_read last r = max last (clock_of r)

-- the clock after a call at a reading that changes something, which is the stamp of that change
abbrev pub clock_mutated : ℕ → ℕ → ℕ
clock_mutated last r = max (last + 1) (clock_of r)

-- the milliseconds of a stamp, rounded up over what clearing the low 16 bits took away
abbrev pub ms_of : ℕ → ℕ
ms_of cas = (cas + 65535) / 1000000

-- a call on the clock, at a reading
pub data ClockCall : Type 0 where
  Reads : (reading : ℕ) → ClockCall
  Mutates : (reading : ℕ) → ClockCall

-- the clock after calls, from the one that stood at `last`
abbrev pub clock_after : ℕ → List ClockCall → ℕ
clock_after last [] = last
clock_after last (Reads r ∷ calls) = clock_after (clock_read last r) calls
clock_after last (Mutates r ∷ calls) = clock_after (clock_mutated last r) calls

-- a sum that is held at the largest number of 64 bits
abbrev pub held : ℕ → ℕ
held n = min n (2 ^ 64 - 1)

-- the readings f begin at `next` and rise by `step`
abbrev pub RisesBy : ℕ → ℕ → (ℕ → ℕ) → Type 0
RisesBy next step f = (k : ℕ) → f k ≡ held (next + k * step)

-- the reading at a place of a list: the last one past the end, and 0 where there is none
abbrev pub reading_at : List ℕ → ℕ → ℕ
reading_at readings place = slice_index readings (min place (length readings - 1))

-- the readings f are those of the list from a place on
abbrev pub RunsAlong : List ℕ → ℕ → (ℕ → ℕ) → Type 0
RunsAlong readings at f = (k : ℕ) → f k ≡ reading_at readings (at + k)

-- of the readings f that were due, the first was given, and the rest is due
pub record ReadsNext (f : ℕ → ℕ) (reading : ℕ) (due : (ℕ → ℕ) → Type 0) : Type 0 where
  pub first : f 0 ≡ reading
  pub rest : due (λ k. f (k + 1))
