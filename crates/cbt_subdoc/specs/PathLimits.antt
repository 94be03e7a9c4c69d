-- How many parts a path has.
use Rattle.std.specs.Prelude.{ℕ, ◌≤◌, List, length}
use Rattle.cbt_subdoc.specs.declared.path.Part.{Part}

-- the most parts
abbrev pub max_parts : ℕ
max_parts = 32

-- the parts of a path: 1 to 32
abbrev pub IsPath : List Part → Type 0
IsPath parts = (1 ≤ length parts) × (length parts ≤ max_parts)
