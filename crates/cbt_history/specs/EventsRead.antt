-- The event that a line is.
use Rattle.std.specs.Prelude.{ℕ, ◌-◌, ◌^◌, ◌==◌, ◌&&◌, if◌then◌else◌, List, length, Option, Some, None, codes, bytes_eq}
use Rattle.std.specs.Str.{is_utf8}
use Rattle.cbt_model.specs.declared.events.Event.{Event}
use Rattle.cbt_model.specs.declared.events.Fate.{Fate}
use Rattle.cbt_model.specs.declared.events.Fate.TheVariants.{Plain, Lost, Late}
use Rattle.cbt_model.specs.declared.steps.Step.{Step}
use Rattle.cbt_history.specs.Fields.{word_field, last_cut, number_field}
use Rattle.cbt_history.specs.Readings.{◌>>=◌, require}
use Rattle.cbt_history.specs.RepliesRead.{answers}
use Rattle.cbt_history.specs.StepsRead.{max_64, step_in}

abbrev pub max_32 : ℕ
max_32 = 2 ^ 32 - 1

-- what stands on either side of the last ` = `
unfoldable pub sides : List ℕ → Option (List ℕ × List ℕ)
sides line = do
  cut ← last_cut 61 line
  left ← last_cut 32 cut.0
  right ← word_field cut.1
  _ ← require ((length left.1 == 0) && (length right.0 == 0))
  Some (left.0, right.1)

-- the number of an event's place, which is this one
unfoldable pub place_field : ℕ → List ℕ → Option (List ℕ)
place_field place text = do
  n ← number_field max_64 text
  _ ← require (n.0 == place)
  Some n.1

abbrev pub fate_in : List ℕ → Option Fate
fate_in word =
    if bytes_eq word (codes "plain") then Some Plain
    else (if bytes_eq word (codes "lost") then Some Lost
    else (if bytes_eq word (codes "late") then Some Late
    else None))

unfoldable pub fate_field : List ℕ → Option (Fate × List ℕ)
fate_field text = do
  word ← word_field text
  fate ← fate_in word.0
  Some (fate, word.1)

-- a step behind which a reply may stand
unfoldable pub answered_step : List ℕ → List ℕ → Option Step
answered_step text reply = do
  step ← step_in text
  _ ← require (answers step reply)
  Some step

-- the event at a place, as text
unfoldable pub event_in : ℕ → List ℕ → Option Event
event_in place text = do
  side ← sides text
  rest ← place_field place side.0
  actor ← number_field max_32 rest
  reading ← number_field max_64 actor.1
  fate ← fate_field reading.1
  step ← answered_step fate.1 side.1
  Some (record { actor = actor.0; step = step; fate = fate.0; reading = reading.0 })

-- the event at a place that a line's bytes are
abbrev pub event_at : ℕ → List ℕ → Option Event
event_at place line = if is_utf8 line then event_in place line else None
