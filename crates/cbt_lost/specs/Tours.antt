-- How the passes of a round go over the records of its share.
use Rattle.std.specs.Prelude.{◌≡◌, ℕ, ◌+◌, ◌-◌, ◌*◌, ◌==◌, if◌then◌else◌, List, ◌∷◌, ◌++◌, length, map, filter, take, Option, Some, None}
use Rattle.std.specs.List.{range_with_len}
use Rattle.cbt_model.specs.declared.events.Made.{Made}
use Rattle.cbt_model.specs.declared.steps.Step.{Step}
use Rattle.cbt_book.specs.Cleaners.{StandBehind, Cut}
use Rattle.cbt_book.specs.OwnLists.{Descends}
use Rattle.cbt_book.specs.Passes.{PassesFollow, passes_end}
use Rattle.cbt_book.specs.Shares.{has_record}
use Rattle.cbt_book.specs.Spans.{past_of, span_of}
use Rattle.cbt_book.specs.declared.cleaners.PassEnd.{PassEnd}
use Rattle.cbt_book.specs.declared.cleaners.PassLog.{PassLog}
use Rattle.cbt_book.specs.declared.cleaners.Share.{Share}
use Rattle.cbt_book.specs.declared.operations.Span.{Span}
use Rattle.cbt_clean.specs.Phases.{calls_left, end_of, left_in, step_of}
use Rattle.cbt_clean.specs.Standing.{StandsFor}
use Rattle.cbt_clean.specs.declared.phases.Phase.TheVariants.{Begun}
use Rattle.cbt_lost.specs.declared.tours.Tour.{Tour}
use Rattle.cbt_lost.specs.declared.tours.Under.{Under}

-- a span once a call at this place was added; without calls its ends are the same
abbrev pub grown : Span → ℕ → Span
grown span place = record { from = if span.from == span.to then place else span.from; to = place + 1 }

-- the records of a share from this number on
abbrev pub due : Share → ℕ → ℕ → List ℕ
due share from atrs = filter (has_record share) (range_with_len from (atrs - from))

-- the call that a pass under way asks for
abbrev pub step_in : Option Under → Option Step
step_in None = None
step_in (Some u) = step_of u.pass

-- the call that a tour asks for
abbrev pub tour_step : Tour → Option Step
tour_step t = step_in t.under

-- how many calls a pass makes at most, whatever the answers
abbrev pub whole_pass : ℕ
whole_pass = left_in Begun

abbrev pub under_left : Option Under → ℕ
under_left None = 0
under_left (Some u) = calls_left u.pass

-- how many calls a tour over so many records leaves at most, whatever the answers
abbrev pub tour_left : ℕ → Tour → ℕ
tour_left atrs t = (atrs - t.next) * whole_pass + under_left t.under

-- the log of a pass that has ended
abbrev pub pass_log : Under → PassEnd → PassLog
pass_log u end = record { atr = u.pass.atr; span = u.span; end = end }

-- the logs of the passes that have ended
abbrev pub told_by : Tour → List PassLog
told_by t = take t.ended t.passes

-- the records that they went over
abbrev pub records_of : List PassLog → List ℕ
records_of logs = map (λ log. log.atr) logs

-- these passes follow one another in the calls `told`, the newest first, which came behind the calls `base`
abbrev pub Tells : List Made → List Made → List PassLog → Type 0
Tells base told logs = Descends (told ++ base) → PassesFollow (told ++ base) (past_of base) logs × (passes_end (past_of base) logs ≡ past_of (told ++ base))

-- the next pass is to begin: the tour's calls were `mine`, behind the calls `base`
pub record AtNext (atrs : ℕ) (t : Tour) (base mine : List Made) : Type 0 where
  pub full : length t.passes ≡ t.ended
  pub tells : Tells base mine (told_by t)
  pub records : records_of (told_by t) ++ due t.share t.next atrs ≡ due t.share 0 atrs

-- a pass is under way, with the calls `calls`
pub record GoesIn (atrs : ℕ) (t : Tour) (base mine : List Made) (u : Under) : Type 0 where
  pub calls : List Made
  pub told : List Made
  pub mine_is : mine ≡ calls ++ told
  pub room : length t.passes ≡ t.ended + 1
  pub tells : Tells base told (told_by t)
  pub records : records_of (told_by t) ++ u.pass.atr ∷ due t.share t.next atrs ≡ due t.share 0 atrs
  pub stands : StandsFor u.pass calls
  pub going : end_of u.pass ≡ None
  pub spanned : Descends (calls ++ (told ++ base)) → u.span ≡ span_of (past_of (told ++ base)) calls

-- all passes have ended
pub record IsOver (atrs : ℕ) (t : Tour) (base mine : List Made) : Type 0 where
  pub tells : Tells base mine (told_by t)
  pub records : records_of (told_by t) ≡ due t.share 0 atrs

abbrev pub GoesWith : ℕ → Tour → List Made → List Made → Option Under → Type 0
GoesWith atrs t base mine None = IsOver atrs t base mine
GoesWith atrs t base mine (Some u) = GoesIn atrs t base mine u

-- a tour over so many records goes on, or is over
abbrev pub Goes : ℕ → Tour → List Made → List Made → Type 0
Goes atrs t base mine = GoesWith atrs t base mine t.under

-- it was cut off, before or in the pass over the record `first`
pub record IsCutOff (atrs : ℕ) (t : Tour) (base mine : List Made) : Type 0 where
  pub calls : List Made
  pub told : List Made
  pub mine_is : mine ≡ calls ++ told
  pub tells : Tells base told (told_by t)
  pub first : ℕ
  pub more : List ℕ
  pub records : records_of (told_by t) ++ first ∷ more ≡ due t.share 0 atrs
  pub behind : StandBehind Cut (first ∷ more) calls
