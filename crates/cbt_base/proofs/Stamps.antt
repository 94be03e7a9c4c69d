-- Lemmas on the clock: how far it leads, that it never falls, and what `ms` gives back.
use Rattle.std.proofs.Common.{◌≡◌, ℕ, ◌+◌, ◌^◌, ◌<◌, ◌≤◌, max, List, [], ◌∷◌, arith}
use Rattle.cbt_base.specs.Clock.{clock_of, clock_read, clock_mutated, ms_of, ClockCall, Reads, Mutates, clock_after}

-- no reading leads past 2^63
pub clock_of-le : (r : ℕ) → clock_of r ≤ 2 ^ 63
unfolding clock_of
clock_of-le r = omega arith

-- a later reading has no lower stamp
pub clock_of-mono : (r s : ℕ) → r ≤ s → clock_of r ≤ clock_of s
unfolding clock_of
clock_of-mono r s le = omega arith

-- clearing the low 16 bits of a reading within the limit is made good by rounding up
pub ms_of-clock_of : (r : ℕ) → r < 2 ^ 43 → ms_of (clock_of r) ≡ r
unfolding clock_of
ms_of-clock_of r below = omega arith

-- a later stamp has no lower milliseconds
pub ms_of-mono : (a b : ℕ) → a ≤ b → ms_of a ≤ ms_of b
ms_of-mono a b le = omega arith

-- the clock never falls
pub clock_after-above : (last : ℕ) (calls : List ClockCall) → last ≤ clock_after last calls
clock_after-above last [] = omega arith
clock_after-above last (Reads r ∷ calls) = omega (arith, clock_after-above (clock_read last r) calls)
clock_after-above last (Mutates r ∷ calls) = omega (arith, clock_after-above (clock_mutated last r) calls)

-- a reading that leads the clock is what a call that changes nothing leaves
pub ms_of-clock_read : (last r : ℕ) → r < 2 ^ 43 → last ≤ clock_of r → ms_of (clock_read last r) ≡ r
ms_of-clock_read last r below leads =
    let same : clock_read last r ≡ clock_of r = omega arith in
    rw same (ms_of-clock_of r below)

-- a reading that leads the clock is the time of a change made at it
pub ms_of-clock_mutated : (last r : ℕ) → r < 2 ^ 43 → last < clock_of r → ms_of (clock_mutated last r) ≡ r
ms_of-clock_mutated last r below leads =
    let same : clock_mutated last r ≡ clock_of r = omega arith in
    rw same (ms_of-clock_of r below)

-- a call lifts the clock above its readings by at most one
pub clock_read-le : (last r : ℕ) → clock_read last r ≤ max (last + 1) (2 ^ 63)
clock_read-le last r = omega (arith, clock_of-le r)

pub clock_mutated-le : (last r : ℕ) → clock_mutated last r ≤ max (last + 1) (2 ^ 63)
clock_mutated-le last r = omega (arith, clock_of-le r)
