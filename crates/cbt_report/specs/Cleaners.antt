-- How the rounds of a cleaner are told.
use Rattle.std.specs.Prelude.{ℕ, zero, suc, ◌+◌, ◌-◌, Bool, true, false, if◌then◌else◌, List, [], ◌∷◌, ◌++◌, length, take, codes, decimal, sum_by, count_by, is_none}
use Rattle.cbt_base.specs.Clock.{held}
use Rattle.cbt_book.specs.declared.cleaners.CleanerLog.{CleanerLog}
use Rattle.cbt_book.specs.declared.cleaners.PassEnd.{PassEnd}
use Rattle.cbt_book.specs.declared.cleaners.PassEnd.TheVariants as pass_end
use Rattle.cbt_book.specs.declared.cleaners.RoundLog.{RoundLog}

-- how many attempts a pass treated, where it ended Ok
abbrev pub covered_by : PassEnd → ℕ
covered_by (pass_end.Ok covered) = length covered
covered_by (pass_end.CallFailed place) = 0

abbrev pub has_failed : PassEnd → Bool
has_failed (pass_end.Ok covered) = false
has_failed (pass_end.CallFailed place) = true

abbrev pub round_covered : RoundLog → ℕ
round_covered round = sum_by (λ pass. covered_by pass.end) round.passes

abbrev pub failed_passes : RoundLog → ℕ
failed_passes round = count_by (λ pass. has_failed pass.end) round.passes

-- the rounds that ended: the last one of a cleaner that was stopped did not
abbrev pub ended_rounds : CleanerLog → List RoundLog
ended_rounds log = take (if log.stopped then length log.rounds - 1 else length log.rounds) log.rounds

-- how many rounds ended without a share, since the client record was not read or not written
abbrev pub unshared_rounds : CleanerLog → ℕ
unshared_rounds log = count_by (λ round. is_none round.share) (ended_rounds log)

-- a cleaner's rounds, the attempts that they covered, and what failed; numbers of more than 64 bits are told as the largest one
abbrev pub cleaner_line : List ℕ → CleanerLog → List ℕ
cleaner_line name log =
    codes "cleaner " ++ name ++ codes " rounds " ++ decimal (length log.rounds)
    ++ codes " covered " ++ decimal (held (sum_by round_covered log.rounds))
    ++ codes " failed " ++ decimal (held (unshared_rounds log + sum_by failed_passes log.rounds)) ++ codes "\n"

-- the name of the cleaner at a place; behind those of the script stands the sweep
abbrev pub name_at : List (List ℕ × ℕ) → ℕ → List ℕ
name_at [] k = codes "sweep"
name_at (cleaner ∷ cleaners) zero = cleaner.0
name_at (cleaner ∷ cleaners) (suc k) = name_at cleaners k

-- the cleaners, which stand by name in the same order as their logs, and last the sweep
abbrev pub cleaner_lines : List (List ℕ × ℕ) → List CleanerLog → List ℕ
cleaner_lines cleaners [] = []
cleaner_lines [] (log ∷ logs) = cleaner_line (codes "sweep") log ++ cleaner_lines [] logs
cleaner_lines (cleaner ∷ cleaners) (log ∷ logs) = cleaner_line cleaner.0 log ++ cleaner_lines cleaners logs
