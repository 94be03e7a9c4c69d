-- How much room a text leaves.
use Rattle.std.specs.Prelude.{ℕ, ◌-◌, nat_le, if◌then◌else◌, Option, Some, None}

-- what is left of `room` behind `len` bytes, where these fit
abbrev pub left_of : ℕ → ℕ → Option ℕ
left_of room len = if nat_le len room then Some (room - len) else None
