-- How the active cleaners share the transaction records.
use Rattle.std.specs.Prelude.{ℕ, ◌+◌, ◌%◌, ◌==◌, Bool, ◌&&◌, not, nat_lt, nat_le, suc, List, length, map, filter, count_by}
use Rattle.cbt_base.specs.Clock.{ms_of}
use Rattle.cbt_model.specs.declared.entries.ClientRow.{ClientRow}
use Rattle.cbt_book.specs.declared.cleaners.Share.{Share}

-- a row counts as active so long after its last beat
abbrev pub is_active : ℕ → ClientRow → Bool
is_active now row = nat_le now (ms_of row.heartbeat + row.expires)

-- the other cleaners that are active at this time; `me` always is
abbrev pub others_active : List (ℕ × ClientRow) → ℕ → ℕ → List ℕ
others_active rows me now = map (λ r. r.0) (filter (λ r. is_active now r.1 && not (r.0 == me)) rows)

-- the cleaners that are not active any more
abbrev pub inactive : List (ℕ × ClientRow) → ℕ → ℕ → List ℕ
inactive rows me now = map (λ r. r.0) (filter (λ r. not (is_active now r.1) && not (r.0 == me)) rows)

-- the share of `me`: `of` counts the active cleaners, and `index` those of them below `me`
abbrev pub share_of : List (ℕ × ClientRow) → ℕ → ℕ → Share
share_of rows me now = record { index = count_by (λ id. nat_lt id me) (others_active rows me now); of = suc (length (others_active rows me now)) }

-- whether a transaction record belongs to a share
abbrev pub has_record : Share → ℕ → Bool
has_record share atr = not (share.of == 0) && atr % share.of == share.index
