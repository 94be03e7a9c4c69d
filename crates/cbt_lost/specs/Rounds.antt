-- What a cleaner's round is on its calls.
use Rattle.std.specs.Prelude.{◌≡◌, ◌≢◌, ℕ, ◌+◌, ◌*◌, Bool, true, false, if◌then◌else◌, nat_le, List, [], ◌∷◌, ◌++◌, length, take, Option, Some, None}
use Rattle.std.specs.List.{range_with_len}
use Rattle.cbt_model.specs.Fitting.{ids_rise}
use Rattle.cbt_model.specs.declared.entries.ClientRow.{ClientRow}
use Rattle.cbt_model.specs.declared.events.Made.{Made}
use Rattle.cbt_model.specs.declared.steps.Reply.{Reply}
use Rattle.cbt_model.specs.declared.steps.Reply.TheVariants as reply
use Rattle.cbt_model.specs.declared.steps.Step.{Step}
use Rattle.cbt_model.specs.declared.steps.Step.TheVariants as step
use Rattle.cbt_book.specs.Cleaners.{CleanerPlan, Course, Whole, Cut, EndsEarly, HasNext, PassesGo, RoundFollows}
use Rattle.cbt_book.specs.OwnLists.{Descends}
use Rattle.cbt_book.specs.Shares.{inactive, share_of}
use Rattle.cbt_book.specs.Spans.{IsSpan, past_of, span_of}
use Rattle.cbt_book.specs.declared.cleaners.PassLog.{PassLog}
use Rattle.cbt_book.specs.declared.cleaners.RoundLog.{RoundLog}
use Rattle.cbt_book.specs.declared.cleaners.Share.{Share}
use Rattle.cbt_lost.specs.Tours.{told_by, tour_left, tour_step, whole_pass, Goes, IsCutOff}
use Rattle.cbt_lost.specs.declared.rounds.Round.{Round}
use Rattle.cbt_lost.specs.declared.rounds.Terms.{Terms}
use Rattle.cbt_lost.specs.declared.rounds.Work.{Work}
use Rattle.cbt_lost.specs.declared.rounds.Work.TheVariants.{Reading, Beating, Touring, Over}
use Rattle.cbt_lost.specs.declared.tours.Tour.{Tour}
use Rattle.cbt_lost.specs.declared.tours.Under.{Under}

-- the plan of a cleaner with these terms
abbrev pub plan_of : Terms → ℕ → Option ℕ → CleanerPlan
plan_of terms rounds stop = record { id = terms.id; rounds = rounds; atrs = terms.atrs; lapse = terms.lapse; stop = stop }

-- the row is written, where no more than twelve are to be removed with it
abbrev pub beat_step : Terms → List ℕ → Option Step
beat_step terms gone = if nat_le (length gone) 12 then Some (step.Beat terms.id terms.lapse terms.atrs gone) else None

abbrev pub work_step : Terms → Work → Option Step
work_step terms Reading = Some step.ReadClients
work_step terms (Beating share gone) = beat_step terms gone
work_step terms (Touring tour) = tour_step tour
work_step terms Over = None

-- the call that a round asks for
abbrev pub round_step : Terms → Round → Option Step
round_step terms round = work_step terms round.work

abbrev pub is_idle : Option Under → Bool
is_idle None = true
is_idle (Some under) = false

-- whether a round is over
abbrev pub is_over : Work → Bool
is_over Reading = false
is_over (Beating share gone) = false
is_over (Touring tour) = is_idle tour.under
is_over Over = true

abbrev pub share_in : Work → Option Share
share_in (Touring tour) = Some tour.share
share_in _ = None

-- the logs of its passes that have ended; without a share `none`
abbrev pub passes_in : List PassLog → Work → List PassLog
passes_in none (Touring tour) = told_by tour
passes_in none _ = none

-- the log of a round, as far as it has come
abbrev pub log_of : Round → RoundLog
log_of round = record { span = round.span; share = share_in round.work; passes = passes_in round.none round.work }

-- how many calls a round over so many records makes at most, whatever the answers
abbrev pub whole_round : ℕ → ℕ
whole_round atrs = atrs * whole_pass + 2

abbrev pub work_left : ℕ → Work → ℕ
work_left atrs Reading = whole_round atrs
work_left atrs (Beating share gone) = atrs * whole_pass + 1
work_left atrs (Touring tour) = tour_left atrs tour
work_left atrs Over = 0

-- how many it leaves
abbrev pub round_left : ℕ → Round → ℕ
round_left atrs round = work_left atrs round.work

-- what follows the reading of the client record
abbrev pub after_reading : Terms → ℕ → Reply → Work
after_reading terms now (reply.Clients rows) = Beating (share_of rows terms.id now) (take 12 (inactive rows terms.id now))
after_reading terms now _ = Over

-- the answer shows the client record
abbrev pub ShowsRows : Reply → Type 0
ShowsRows r = (rows : List (ℕ × ClientRow)) × (r ≡ reply.Clients rows)

-- the passes over this share are to be made behind the calls `base`: they go on, or are over
abbrev pub Begins : ℕ → Share → List Made → Work → Type 0
Begins atrs share base (Touring tour) = (tour.share ≡ share) × Goes atrs tour base []
Begins atrs share base _ = ⊥

-- or they were cut off
abbrev pub Halts : ℕ → Share → List Made → Work → Type 0
Halts atrs share base (Touring tour) = (tour.share ≡ share) × IsCutOff atrs tour base []
Halts atrs share base _ = ⊥

-- the log of a round that is a cleaner's, or a sweep's
abbrev pub IsRound : CleanerPlan → Bool → List Made → Course → ℕ → RoundLog → Type 0
IsRound plan false l course at log = RoundFollows plan l course at log
IsRound plan true l course at log = IsSpan l at log.span × (log.share ≡ Some (record { index = 0; of = 1 })) × PassesGo l course at (range_with_len 0 plan.atrs) log

-- a cleaner's round has a call to make
abbrev pub MayCall : CleanerPlan → Bool → List Made → RoundLog → Type 0
MayCall plan false l log = HasNext plan l log
MayCall plan true l log = Unit {0}

-- the client record was read, and shows this share and these ids
pub record HasRead (plan : CleanerPlan) (share : Share) (gone : List ℕ) (mine : List Made) : Type 0 where
  pub read : Made
  pub rows : List (ℕ × ClientRow)
  pub mine_is : mine ≡ read ∷ []
  pub reads : read.step ≡ step.ReadClients
  pub shown : read.answer.reply ≡ reply.Clients rows
  pub rise : ids_rise rows ≡ true
  pub share_is : share ≡ share_of rows plan.id read.answer.now
  pub gone_is : gone ≡ take 12 (inactive rows plan.id read.answer.now)

-- and then the own row was written
pub record HasBeaten (plan : CleanerPlan) (share : Share) (head : List Made) : Type 0 where
  pub beat : Made
  pub read : Made
  pub rows : List (ℕ × ClientRow)
  pub head_is : head ≡ beat ∷ read ∷ []
  pub reads : read.step ≡ step.ReadClients
  pub shown : read.answer.reply ≡ reply.Clients rows
  pub beats : beat.step ≡ step.Beat plan.id plan.lapse plan.atrs (take 12 (inactive rows plan.id read.answer.now))
  pub beaten : beat.answer.reply ≢ reply.Failed
  pub share_is : share ≡ share_of rows plan.id read.answer.now

-- the calls of a round before its passes
abbrev pub Opens : CleanerPlan → Bool → Share → List Made → Type 0
Opens plan false share head = HasBeaten plan share head
Opens plan true share head = (head ≡ []) × (share ≡ record { index = 0; of = 1 })

-- the passes of a round are under way, or over
pub record IsTouring (plan : CleanerPlan) (sweep : Bool) (tour : Tour) (before mine : List Made) : Type 0 where
  pub head : List Made
  pub toured : List Made
  pub mine_is : mine ≡ toured ++ head
  pub opens : Opens plan sweep tour.share head
  pub goes : Goes plan.atrs tour (head ++ before) toured

-- how far a round has come by its calls `mine`, behind the calls `before`
abbrev pub ComesTo : CleanerPlan → Bool → Work → List Made → List Made → Type 0
ComesTo plan sweep Reading before mine = (sweep ≡ false) × (mine ≡ [])
ComesTo plan sweep (Beating share gone) before mine = (sweep ≡ false) × HasRead plan share gone mine
ComesTo plan sweep (Touring tour) before mine = IsTouring plan sweep tour before mine
ComesTo plan sweep Over before mine = (sweep ≡ false) × EndsEarly plan Whole mine

-- a round goes on, or is over
pub record Stands (plan : CleanerPlan) (sweep : Bool) (round : Round) (before mine : List Made) : Type 0 where
  pub spanned : Descends (mine ++ before) → round.span ≡ span_of (past_of before) mine
  pub bare : round.none ≡ []
  pub comes : ComesTo plan sweep round.work before mine

-- it was cut off, and had a call to make
pub record HasStopped (plan : CleanerPlan) (sweep : Bool) (log : RoundLog) (before mine : List Made) : Type 0 where
  pub spanned : log.span ≡ span_of (past_of before) mine
  pub cut : IsRound plan sweep (mine ++ before) Cut (past_of before) log
  pub next : MayCall plan sweep (mine ++ before) log

abbrev pub IsCut : CleanerPlan → Bool → Round → List Made → List Made → Type 0
IsCut plan sweep round before mine = Descends (mine ++ before) → HasStopped plan sweep (log_of round) before mine
