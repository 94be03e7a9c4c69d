-- Which bytes are a history text, which script and which events they tell, and for others the first bad line.
use Rattle.std.specs.Prelude.{◌≡◌, ℕ, ◌+◌, ◌==◌, if◌then◌else◌, List, [], ◌∷◌, length, take, drop, position, Option, Some, None, Result, Ok, Err, codes, bytes_eq}
use Rattle.cbt_lex.specs.Lines.{lined}
use Rattle.cbt_lex.specs.Pieces.{pieces}
use Rattle.cbt_model.specs.declared.events.Event.{Event}
use Rattle.cbt_script.specs.declared.script.Script.{Script}
use Rattle.cbt_history.specs.declared.faults.HistoryFault.{HistoryFault}
use Rattle.cbt_history.specs.declared.faults.HistoryFault.TheVariants.{BadLine, NoMemory}
use Rattle.cbt_history.specs.EventsRead.{event_at}
use Rattle.cbt_history.specs.ScriptsRead.{script_in}

abbrev pub Read : Type 0
Read = Result (Script × List Event) HistoryFault

-- the first line of a text that has a line feed, and what stands behind it
abbrev pub cut_at : Option ℕ → List ℕ → Option (List ℕ × List ℕ)
cut_at (Some k) text = Some (take k text, drop (k + 1) text)
cut_at None text = None

abbrev pub ended_line : List ℕ → Option (List ℕ × List ℕ)
ended_line text = cut_at (position (λ b. b == 10) text) text

-- ---- events

-- what a line was read as: its event, or that it is the bad one, unless memory ran out
abbrev pub TellsLine : ℕ → Result Event HistoryFault → Option Event → Type 0
TellsLine n (Ok e) read = read ≡ Some e
TellsLine n (Err (BadLine m)) read = (read ≡ None) × (m ≡ n)
TellsLine n (Err NoMemory) read = Unit {0}

abbrev pub with_event : Option Event → ℕ → Result (List Event) HistoryFault → Result (List Event) HistoryFault
with_event None n more = Err (BadLine n)
with_event (Some e) n (Ok events) = Ok (e ∷ events)
with_event (Some e) n (Err fault) = Err fault

-- the events of lines from the n-th on, which are at places from this one on; behind the last line feed nothing stands
abbrev pub events_in : ℕ → ℕ → List (List ℕ) → Result (List Event) HistoryFault
events_in n place [] = Ok []
events_in n place (rest ∷ []) = if length rest == 0 then Ok [] else Err (BadLine n)
events_in n place (line ∷ next ∷ more) = with_event (event_at place line) n (events_in (n + 1) (place + 1) (next ∷ more))

-- ---- the whole

-- the lines before the line `events`, and what stands behind it, where it is there
pub record Parts : Type 0 where
  pub script : List (List ℕ)
  pub events : Option (List (List ℕ))

abbrev pub with_line : List ℕ → Parts → Parts
with_line line parts = record { script = line ∷ parts.script; events = parts.events }

abbrev pub parts_of : List (List ℕ) → Parts
parts_of (line ∷ next ∷ more) =
    if bytes_eq line (codes "events") then record { script = []; events = Some (next ∷ more) } else with_line line (parts_of (next ∷ more))
parts_of _ = record { script = []; events = None }

abbrev pub with_script : Result Script HistoryFault → Result (List Event) HistoryFault → Read
with_script (Err fault) events = Err fault
with_script (Ok s) (Err fault) = Err fault
with_script (Ok s) (Ok events) = Ok (s, events)

-- where the line `events` is missing, the line at its place is the bad one
abbrev pub events_of : ℕ → Option (List (List ℕ)) → Result (List Event) HistoryFault
events_of n (Some lines) = events_in (n + 1) 0 lines
events_of n None = Err (BadLine n)

abbrev pub parts_read : Parts → Read
parts_read parts = with_script (script_in (lined parts.script)) (events_of (length parts.script + 2) parts.events)

abbrev pub behind_first : Option (List ℕ × List ℕ) → Read
behind_first None = Err (BadLine 1)
behind_first (Some cut) = if bytes_eq cut.0 (codes "script") then parts_read (parts_of (pieces 10 cut.1)) else Err (BadLine 1)

-- the script and the events that bytes tell, or the first line with which no history text goes on
unfoldable pub history_of_text : List ℕ → Read
history_of_text bytes = behind_first (ended_line bytes)
