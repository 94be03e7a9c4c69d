-- The line of an event.
use Rattle.std.specs.Prelude.{ℕ, ◌+◌, List, [], ◌∷◌, ◌++◌, codes, decimal}
use Rattle.cbt_model.specs.History.{happens, outcome}
use Rattle.cbt_model.specs.declared.events.Event.{Event}
use Rattle.cbt_model.specs.declared.events.Fate.{Fate}
use Rattle.cbt_model.specs.declared.events.Fate.TheVariants.{Plain, Lost, Late}
use Rattle.cbt_model.specs.declared.states.State.{State}
use Rattle.cbt_model.specs.declared.steps.Reply.{Reply}
use Rattle.cbt_history.specs.Replies.{reply_text}
use Rattle.cbt_history.specs.Steps.{step_text}

abbrev pub fate_word : Fate → List ℕ
fate_word Plain = codes "plain"
fate_word Lost = codes "lost"
fate_word Late = codes "late"

-- when an event came, by whom, and what became of it
abbrev pub head_text : ℕ → Event → List ℕ
head_text place e = decimal place ++ codes " " ++ decimal e.actor ++ codes " " ++ decimal e.reading ++ codes " " ++ fate_word e.fate

-- the event at a place, and what it was answered
abbrev pub event_line : ℕ → Event → Reply → List ℕ
event_line place e reply = head_text place e ++ codes " " ++ step_text e.step ++ codes " = " ++ reply_text reply

-- the events from a place on, the first of which meets this state
abbrev pub event_lines : ℕ → State → List Event → List (List ℕ)
event_lines place s [] = []
event_lines place s (e ∷ events) = event_line place e (outcome s e).reply ∷ event_lines (place + 1) (happens s e) events
