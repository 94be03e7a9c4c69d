-- The cleaners that are gone, as many as one row removes.
use Rattle.std.specs.Prelude.{ℕ, ◌==◌, ◌&&◌, not, if◌then◌else◌, nat_lt, List, [], ◌∷◌, ◌++◌, length}
use Rattle.cbt_model.specs.declared.entries.ClientRow.{ClientRow}
use Rattle.cbt_book.specs.Shares.{is_active}

-- these, and the one of this row, where it is gone and there is room for it
abbrev pub gone_with : List ℕ → ℕ × ClientRow → ℕ → ℕ → List ℕ
gone_with gone row me now = if nat_lt (length gone) 12 && (not (is_active now row.1) && not (row.0 == me)) then gone ++ row.0 ∷ [] else gone
