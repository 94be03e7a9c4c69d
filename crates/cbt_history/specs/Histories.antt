-- The history text of a run.
use Rattle.std.specs.Prelude.{ℕ, List, ◌∷◌, ◌++◌, codes}
use Rattle.cbt_book.specs.declared.book.Book.{Book}
use Rattle.cbt_lex.specs.Lines.{lined}
use Rattle.cbt_script.specs.declared.script.Script.{Script}
use Rattle.cbt_script.specs.Printed.{script_lines, script_text}
use Rattle.cbt_history.specs.Events.{event_lines}

-- the script's canonical text, and the events that were kept, each with what it was answered
abbrev pub history_text : Script → Book → List ℕ
history_text script book =
    codes "script\n" ++ script_text script ++ codes "events\n" ++ lined (event_lines 0 book.kept.opening book.kept.history)

-- its lines
abbrev pub history_lines : Script → Book → List (List ℕ)
history_lines script book = codes "script" ∷ (script_lines script ++ codes "events" ∷ event_lines 0 book.kept.opening book.kept.history)
