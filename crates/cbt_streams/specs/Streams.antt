-- What is read from a source and written to a sink. `None` stands for bytes that are not told.
use Rattle.std.specs.Prelude.{ℕ, ◌≡◌, ◌≤◌, ◌+◌, ◌↔◌, ⊤, List, [], ◌++◌, length, Option, None, Some}
use Rattle.std.specs.Io.KnownBytes.{Consumes, Appends, IsAtEnd}

-- a read answers 0 bytes exactly where none are left
abbrev pub EndsExactly : Option (List ℕ) → ℕ → Type 0
EndsExactly None k = ⊤
EndsExactly (Some left) k = (k ≡ 0) ↔ (left ≡ [])

-- these bytes were taken, and they were all that was left
pub record ReadWhole (before after : Option (List ℕ)) (bytes : List ℕ) : Type 0 where
  pub taken : Consumes before after bytes
  pub ended : IsAtEnd after

-- at most so many bytes were taken
pub record ReadUpTo (before after : Option (List ℕ)) (most : ℕ) : Type 0 where
  pub bytes : List ℕ
  pub taken : Consumes before after bytes
  pub few : length bytes ≤ most

-- one byte more than the limit was taken
pub record ReadPast (before after : Option (List ℕ)) (limit : ℕ) : Type 0 where
  pub bytes : List ℕ
  pub taken : Consumes before after bytes
  pub past : length bytes ≡ limit + 1

-- a front of the bytes was written, and nothing else
pub record WrotePart (before after : Option (List ℕ)) (all : List ℕ) : Type 0 where
  pub part : List ℕ
  pub rest : List ℕ
  pub whole : all ≡ part ++ rest
  pub written : Appends before after part
