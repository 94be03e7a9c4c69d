-- What it is that a cleaner's log follows its plan, by the cleaner's own list.
use Rattle.std.specs.Prelude.{◌≡◌, ◌≢◌, ℕ, suc, ◌<◌, ◌≤◌, ◌⊎◌, Bool, true, false, List, [], ◌∷◌, ◌++◌, length, map, filter, take, drop, Option, Some, None}
use Rattle.std.specs.List.{range_with_len}
use Rattle.cbt_model.specs.declared.entries.ClientRow.{ClientRow}
use Rattle.cbt_model.specs.declared.events.Made.{Made}
use Rattle.cbt_model.specs.declared.steps.Reply.TheVariants as reply
use Rattle.cbt_model.specs.declared.steps.Step.TheVariants as step
use Rattle.cbt_book.specs.OwnLists.{Each, during}
use Rattle.cbt_book.specs.Passes.{PassCalls, PassesFollow, EndsPass, passes_end}
use Rattle.cbt_book.specs.Shares.{share_of, inactive, has_record}
use Rattle.cbt_book.specs.Shown.{adds}
use Rattle.cbt_book.specs.Spans.{IsSpan}
use Rattle.cbt_book.specs.declared.cleaners.CleanerLog.{CleanerLog}
use Rattle.cbt_book.specs.declared.cleaners.PassEnd.{PassEnd}
use Rattle.cbt_book.specs.declared.cleaners.PassLog.{PassLog}
use Rattle.cbt_book.specs.declared.cleaners.RoundLog.{RoundLog}
use Rattle.cbt_book.specs.declared.cleaners.Share.{Share}

-- what a cleaner is to do
pub record CleanerPlan : Type 0 where
  pub id : ℕ
  pub rounds : ℕ
  pub atrs : ℕ
  pub lapse : ℕ
  -- after so many calls the script stops it
  pub stop : Option ℕ

-- whether a round was cut off by a stop
pub data Course : Type 0 where
  Whole : Course
  Cut : Course

-- passes go over records in this order: over all of them, or where they were cut off over the first of them
abbrev pub GoOver : Course → List ℕ → List PassLog → Type 0
GoOver Whole records logs = map (λ log. log.atr) logs ≡ records
GoOver Cut records logs = (left : List ℕ) × (map (λ log. log.atr) logs ++ left ≡ records)

-- the calls of a round behind its last pass that is logged, before it came to these records: there are none, or the round was cut
-- off, and they are of a pass over the next record, which has not ended
pub data StandBehind (course : Course) (left : List ℕ) (calls : List Made) : Type 0 where
  none : calls ≡ [] → StandBehind course left calls
  unfinished : (r : ℕ) (more : List ℕ) (first : Made) (later : List Made) → course ≡ Cut → left ≡ r ∷ more → calls ≡ later ++ first ∷ [] → PassCalls r first later
      → ((end : PassEnd) → ¬ EndsPass r first calls end) → StandBehind course left calls

-- the passes of a round go over these records, and hold all its calls from `at` on, but for those of a pass that was cut off
pub record PassesGo (l : List Made) (course : Course) (at : ℕ) (records : List ℕ) (log : RoundLog) : Type 0 where
  pub over : GoOver course records log.passes
  pub follow : PassesFollow l at log.passes
  pub inside : passes_end at log.passes ≤ log.span.to
  pub behind : StandBehind course (drop (length log.passes) records) (during (record { from = passes_end at log.passes; to = log.span.to }) l)

-- the round read the client record and then wrote its row: it takes its share of the records by that reading
pub record Shared (plan : CleanerPlan) (l : List Made) (course : Course) (log : RoundLog) : Type 0 where
  pub rows : List (ℕ × ClientRow)
  pub later : List Made
  pub beat : Made
  pub read : Made
  pub calls : during log.span l ≡ later ++ beat ∷ read ∷ []
  pub reads : read.step ≡ step.ReadClients
  pub shown : read.answer.reply ≡ reply.Clients rows
  pub beats : beat.step ≡ step.Beat plan.id plan.lapse plan.atrs (take 12 (inactive rows plan.id read.answer.now))
  pub beaten : beat.answer.reply ≢ reply.Failed
  pub share : log.share ≡ Some (share_of rows plan.id read.answer.now)
  pub passes : PassesGo l course (suc beat.answer.place) (filter (has_record (share_of rows plan.id read.answer.now)) (range_with_len 0 plan.atrs)) log

-- the round did not get as far as to a share
pub data EndsEarly (plan : CleanerPlan) (course : Course) (calls : List Made) : Type 0 where
  -- it was stopped before its first call
  unbegun : course ≡ Cut → calls ≡ [] → EndsEarly plan course calls
  -- the client record was not read, or the round was stopped after that
  unread : (read : Made) → calls ≡ read ∷ [] → read.step ≡ step.ReadClients → (read.answer.reply ≡ reply.Failed) ⊎ (course ≡ Cut) → EndsEarly plan course calls
  -- its row was not written
  unbeaten : (read beat : Made) (rows : List (ℕ × ClientRow)) → calls ≡ beat ∷ read ∷ [] → read.step ≡ step.ReadClients → read.answer.reply ≡ reply.Clients rows
      → beat.step ≡ step.Beat plan.id plan.lapse plan.atrs (take 12 (inactive rows plan.id read.answer.now)) → beat.answer.reply ≡ reply.Failed
      → EndsEarly plan course calls

-- such a round has no share and no pass
pub record Unshared (plan : CleanerPlan) (l : List Made) (course : Course) (log : RoundLog) : Type 0 where
  pub early : EndsEarly plan course (during log.span l)
  pub share : log.share ≡ None
  pub passes : log.passes ≡ []

-- the log of a round
pub record RoundFollows (plan : CleanerPlan) (l : List Made) (course : Course) (at : ℕ) (log : RoundLog) : Type 0 where
  pub spanned : IsSpan l at log.span
  pub goes : Shared plan l course log ⊎ Unshared plan l course log

-- one past the last place of rounds that begin at `at`
abbrev pub rounds_end : ℕ → List RoundLog → ℕ
rounds_end at [] = at
rounds_end at (log ∷ logs) = rounds_end log.span.to logs

-- the course of a round with these rounds after it: only a stopped cleaner's last round may be cut off
abbrev pub course_of : Bool → List RoundLog → Course
course_of true [] = Cut
course_of true (log ∷ logs) = Whole
course_of false logs = Whole

-- rounds follow one another
abbrev pub RoundsFollow : CleanerPlan → List Made → Bool → ℕ → List RoundLog → Type 0
RoundsFollow plan l stopped at [] = Unit {0}
RoundsFollow plan l stopped at (log ∷ logs) = RoundFollows plan l (course_of stopped logs) at log × RoundsFollow plan l stopped log.span.to logs

-- what every cleaner's log says of its calls: they lie in its rounds, are counted, and none adds an entry
pub record CallsKept (l : List Made) (log : CleanerLog) : Type 0 where
  pub inside : Each (λ m _. m.answer.place < rounds_end 0 log.rounds) l
  pub counted : log.calls ≡ length l
  pub adds_none : Each (λ m _. adds m.step ≡ None) l

-- the last round is so
abbrev pub AtLast : (RoundLog → Type 0) → List RoundLog → Type 0
AtLast P [] = ⊥
AtLast P (log ∷ []) = P log
AtLast P (log ∷ next ∷ logs) = AtLast P (next ∷ logs)

-- the round has a call to make: its first, the writing of its row, or one of a pass that is not logged
pub data HasNext (plan : CleanerPlan) (l : List Made) (log : RoundLog) : Type 0 where
  to_read : during log.span l ≡ [] → HasNext plan l log
  to_beat : (read : Made) (rows : List (ℕ × ClientRow)) → during log.span l ≡ read ∷ [] → read.answer.reply ≡ reply.Clients rows → HasNext plan l log
  to_pass : (share : Share) → log.share ≡ Some share → length log.passes < length (filter (has_record share) (range_with_len 0 plan.atrs)) → HasNext plan l log

-- a cleaner makes its rounds, or where it is stopped the first of them
pub record CleanerFollows (plan : CleanerPlan) (l : List Made) (log : CleanerLog) : Type 0 where
  pub id : log.id ≡ plan.id
  pub kept : CallsKept l log
  pub rounds : RoundsFollow plan l log.stopped 0 log.rounds
  pub at_most : length log.rounds ≤ plan.rounds
  pub whole : log.stopped ≡ false → length log.rounds ≡ plan.rounds
  -- where the script stopped it, the last round is the one whose next call was to be made then
  pub stopped : plan.stop ≡ Some log.calls → log.stopped ≡ true → AtLast (HasNext plan l) log.rounds

-- a sweep makes one round over all records, without the client record
pub record SweepFollows (plan : CleanerPlan) (l : List Made) (log : CleanerLog) : Type 0 where
  pub id : log.id ≡ plan.id
  pub kept : CallsKept l log
  pub round : RoundLog
  pub one : log.rounds ≡ round ∷ []
  pub spanned : IsSpan l 0 round.span
  pub share : round.share ≡ Some (record { index = 0; of = 1 })
  pub passes : PassesGo l (course_of log.stopped []) 0 (range_with_len 0 plan.atrs) round
