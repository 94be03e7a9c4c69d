-- What a cleaner is on its own list.
use Rattle.std.specs.Prelude.{◌≡◌, ℕ, suc, ◌+◌, ◌-◌, ◌*◌, ◌<◌, ◌≤◌, ◌^◌, Bool, true, false, ◌&&◌, if◌then◌else◌, nat_lt, nat_le, List, [], ◌∷◌, ◌++◌, length, take, slice_set, Option, Some, None, refl}
use Rattle.std.proofs.Common.{suc-ne-zero}
use Rattle.cbt_model.specs.declared.events.Made.{Made}
use Rattle.cbt_model.specs.declared.steps.Step.{Step}
use Rattle.cbt_model.specs.declared.steps.Step.TheVariants as step
use Rattle.cbt_book.specs.Cleaners.{CleanerPlan, Whole, rounds_end}
use Rattle.cbt_book.specs.Licence.{IsLicensed}
use Rattle.cbt_book.specs.Numbers.{Identity}
use Rattle.cbt_book.specs.OwnLists.{Each, Descends}
use Rattle.cbt_book.specs.Spans.{past_of}
use Rattle.cbt_book.specs.declared.cleaners.CleanerLog.{CleanerLog}
use Rattle.cbt_book.specs.declared.cleaners.RoundLog.{RoundLog}
use Rattle.cbt_clean.specs.Ready.{cleans}
use Rattle.cbt_lost.specs.Rounds.{is_over, log_of, plan_of, round_left, round_step, whole_round, IsCut, IsRound, Stands}
use Rattle.cbt_lost.specs.declared.cleaners.Cleaner.{Cleaner}
use Rattle.cbt_lost.specs.declared.rounds.Round.{Round}
use Rattle.cbt_lost.specs.declared.rounds.Work.TheVariants.{Reading}

-- the call that a cleaner asks for
abbrev pub step_now : Cleaner → Option Step
step_now c = if c.stopped then None else (if nat_lt c.at (length c.logs) then round_step c.terms c.round else None)

-- whether all its rounds have ended
abbrev pub has_ended : Cleaner → Bool
has_ended c = nat_le (length c.logs) c.at

-- the calls that are left at most, whatever the answers: of the round under way, and of those behind it
abbrev pub running_left : Cleaner → ℕ
running_left c = round_left c.terms.atrs c.round + (length c.logs - (c.at + 1)) * whole_round c.terms.atrs

-- none where it asks for none
abbrev pub asked_left : Option Step → ℕ → ℕ
asked_left None left = 0
asked_left (Some s) left = suc left

-- how many calls a cleaner has left at most
abbrev pub calls_left : Cleaner → ℕ
calls_left c = asked_left (step_now c) (running_left c)

-- so it asks for a call just where one is left
pub none_asked : (asked : Option Step) (left : ℕ) → asked_left asked left ≡ 0 → asked ≡ None
none_asked None left none = refl
none_asked (Some s) left none = absurd (suc-ne-zero left none)

-- the next round is to begin behind this place
abbrev pub next_round : ℕ → Round
next_round past = record { span = record { from = past; to = past }; none = []; work = Reading }

-- the round under way is told
abbrev pub told : ℕ → Cleaner → Cleaner
told past c = record c { logs = slice_set c.logs c.at (log_of c.round); at = c.at + 1; round = next_round past }

-- it is told where it is over
abbrev pub settled : ℕ → Cleaner → Cleaner
settled past c = if is_over c.round.work && nat_lt c.at (length c.logs) then told past c else c

-- the logs of the rounds that have ended, and of the one behind them, if there is one
abbrev pub rounds_told : List RoundLog → ℕ → Round → List RoundLog
rounds_told logs at round = if nat_lt at (length logs) then take (at + 1) (slice_set logs at (log_of round)) else logs

-- the log of a cleaner
abbrev pub cleaner_log_of : Cleaner → CleanerLog
cleaner_log_of c = record { id = c.terms.id; rounds = rounds_told c.logs c.at c.round; stopped = nat_lt c.at (length c.logs); calls = c.calls }

-- the calls that a cleaner makes
abbrev pub is_cleaners : Step → Bool
is_cleaners step.ReadClients = true
is_cleaners (step.Beat me expires num_atrs gone) = true
is_cleaners s = cleans s

-- whole rounds follow one another
abbrev pub AreRounds : CleanerPlan → Bool → List Made → ℕ → List RoundLog → Type 0
AreRounds plan sweep l at [] = Unit {0}
AreRounds plan sweep l at (log ∷ logs) = IsRound plan sweep l Whole at log × AreRounds plan sweep l log.span.to logs

-- these rounds made the calls `before`
abbrev pub HasTold : CleanerPlan → Bool → List Made → List RoundLog → Type 0
HasTold plan sweep before logs = Descends before → AreRounds plan sweep before 0 logs × (rounds_end 0 logs ≡ past_of before)

-- the round under way goes on, or was cut off
abbrev pub IsUnderWay : CleanerPlan → Bool → Bool → Round → List Made → List Made → Type 0
IsUnderWay plan sweep false round before mine = Stands plan sweep round before mine × (is_over round.work ≡ false)
IsUnderWay plan sweep true round before mine = IsCut plan sweep round before mine

-- the rounds that have ended made the calls `before`, and the one under way the calls `mine`
pub record Comes (plan : CleanerPlan) (c : Cleaner) (l : List Made) : Type 0 where
  pub before : List Made
  pub mine : List Made
  pub l_is : l ≡ mine ++ before
  pub told_so : HasTold plan c.terms.sweep before (take c.at c.logs)
  pub way : c.at < length c.logs → IsUnderWay plan c.terms.sweep c.stopped c.round before mine
  pub done : length c.logs ≤ c.at → mine ≡ []

-- the cleaner's own list, newest call first, is this one
pub record StandsFor (c : Cleaner) (l : List Made) : Type 0 where
  pub counted : c.calls ≡ length l
  pub few : c.stopped ≡ false → length l < 2 ^ 62
  pub within : c.at ≤ length c.logs
  pub once : c.terms.sweep ≡ true → length c.logs ≡ 1
  pub kept : Each (λ m _. is_cleaners m.step ≡ true) l
  pub licensed : (who : Identity) → who.cleaner ≡ c.terms.id → IsLicensed who l
  pub comes : (stop : Option ℕ) → Comes (plan_of c.terms (length c.logs) stop) c l
