-- Lemmas on counts of faults that are held at the end of 64 bits.
use Rattle.std.proofs.Common.{◌≡◌, ℕ, ◌-◌, ◌^◌, ◌<◌, ◌≤◌, ◌⊎◌, ◌↔◌, inl, inr, arith}
use Rattle.std.proofs.lemmas.Bool.{cases_lt}
use Rattle.cbt_streams.specs.Causes.{Rose}

-- a count rose exactly where it is larger than before, or stands at its end
pub Rose-iff : (before now : ℕ) → now < 2 ^ 64 → Rose before now ↔ ((before < now) ⊎ (now ≡ 2 ^ 64 - 1))
Rose-iff before now fits = (λ rose. larger rose (cases_lt before now), λ c. elim c [ inl above ↦ omega arith | inr full ↦ omega arith ])
  where
    larger : Rose before now → (before < now) ⊎ (now ≤ before) → (before < now) ⊎ (now ≡ 2 ^ 64 - 1)
    larger rose (inl above) = inl above
    larger rose (inr below) = inr (omega arith)
