-- What is drawn from the stream of a seed.
use Rattle.std.specs.Prelude.{ℕ, zero, suc, ◌+◌, ◌%◌, List, [], ◌∷◌, ◌++◌}
use Rattle.rand_pcg.specs.Lcg.{Lcg, started, increment_of}
use Rattle.rand_pcg.specs.Pcg.{multiplier_64, pcg32}

-- the words that follow on a seed
unfoldable pub stream_of : ℕ → Lcg
stream_of seed = started 64 multiplier_64 seed (increment_of 64 54)

-- a value that is drawn from a stream, with the stream behind it
abbrev pub Drawn : Type 0 → Type 0
Drawn A = Lcg → A × Lcg

-- a number below m: the next word modulo m
unfoldable pub draw : ℕ → Drawn ℕ
draw m stream = ((pcg32 stream).0 % m, (pcg32 stream).1)

-- what takes nothing from the stream
abbrev pub give : {A : Type 0} → A → Drawn A
give x = λ stream. (x, stream)

-- one draw after another
infixl 10 ◌>>=◌
abbrev pub ◌>>=◌ : {A B : Type 0} → Drawn A → (A → Drawn B) → Drawn B
drawn >>= next = λ stream. next (drawn stream).0 (drawn stream).1

-- so many values one after another, by their numbers from 1
unfoldable pub many : {A : Type 0} → ℕ → (ℕ → Drawn A) → Drawn (List A)
many zero next = give []
many (suc n) next = do
  before ← many n next
  last ← next (n + 1)
  give (before ++ last ∷ [])
