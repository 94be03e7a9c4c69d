-- How a run ends, by its status.
use Rattle.std.specs.Prelude.{◌≡◌, ℕ, true, ◌⊎◌, List, ◌++◌, Option, Some, None, Ok, Err, codes, decimal}
use Rattle.std.specs.Io.KnownBytes.{Appends}
use Rattle.cbt_streams.specs.Causes.{Rose}
use Rattle.cbt_streams.specs.Streams.{ReadWhole, WrotePart}
use Rattle.cbt_book.specs.declared.book.Book.{Book}
use Rattle.cbt_gen.specs.Generated.{generated}
use Rattle.cbt_script.specs.declared.script.Script.{Script}
use Rattle.cbt_script.specs.Causes.{cause_word}
use Rattle.cbt_script.specs.Printed.{script_text}
use Rattle.cbt_script.specs.Reading.{script_of}
use Rattle.cbt_script.specs.declared.cause.Bad.{Bad}
use Rattle.cbt_script.specs.declared.cause.ScriptFault.TheVariants as fault
use Rattle.cbt_words.specs.declared.command.Command.{Command}
use Rattle.cbt_words.specs.declared.command.Command.TheVariants.{Sim, Run, Gen}
use Rattle.cbtx.specs.Commands.{hands_back, is_usage, reads, runs, told_text}

-- the most bytes that an input has
abbrev pub max_input : ℕ
max_input = 4194304

-- what is written where the input is no script: its first bad line, and the cause
abbrev pub bad_line : Bad → List ℕ
bad_line bad = codes "script refused: line " ++ decimal bad.line ++ codes ": " ++ cause_word bad.why ++ codes "\n"

-- what is written where the words are no command
abbrev pub usage_line : List ℕ
usage_line = codes "usage: cbtx sim [--history] | run [--history] | gen --seed N [--clients N] [--accounts N] [--transfers N] [--sim]\n"

-- a text was written whole, the sink failed, or memory ran out before
abbrev pub IsEnd : ℕ → ℕ → Type 0
IsEnd status whole = (status ≡ whole) ⊎ (status ≡ 4) ⊎ (status ≡ 5)

-- the input was read to its end and is no script, and this text is the line on it
pub record Refuses (left left' : Option (List ℕ)) (text : List ℕ) : Type 0 where
  pub input : List ℕ
  pub read : ReadWhole left left' input
  pub bad : Bad
  pub is : script_of input ≡ Err (fault.Bad bad)
  pub line : text ≡ bad_line bad

-- the line on a refused input was written
pub record IsRefused (left left' taken taken' : Option (List ℕ)) : Type 0 where
  pub text : List ℕ
  pub refused : Refuses left left' text
  pub written : Appends taken taken' text

-- the bytes that were read are this script
pub record IsScriptRead (left left' : Option (List ℕ)) (script : Script) : Type 0 where
  pub input : List ℕ
  pub read : ReadWhole left left' input
  pub is : script_of input ≡ Ok script

-- the script is the one that a command is about: the one that was read, or the one that is drawn
abbrev pub IsScriptOf : Option Command → (left left' : Option (List ℕ)) → Script → Type 0
IsScriptOf None left left' script = ⊥
IsScriptOf (Some (Run history)) left left' script = ⊥
IsScriptOf (Some (Sim history)) left left' script = IsScriptRead left left' script
IsScriptOf (Some (Gen seed clients accounts transfers sim)) left left' script = script ≡ generated seed clients accounts transfers

-- the script ran, and what the command tells of its run was written
pub record IsReported (command : Option Command) (taken taken' : Option (List ℕ)) (script : Option Script) (book : Option Book) : Type 0 where
  pub the_script : Script
  pub the_book : Book
  pub script_is : script ≡ Some the_script
  pub book_is : book ≡ Some the_book
  pub written : Appends taken taken' (told_text command the_script the_book)

-- the script was drawn, and its text was written
pub record IsDrawn (taken taken' : Option (List ℕ)) (script : Option Script) : Type 0 where
  pub the_script : Script
  pub script_is : script ≡ Some the_script
  pub written : Appends taken taken' (script_text the_script)

-- the text that is due: the usage line on words that are no command, what a command tells of a run, a script that was drawn, and else the
-- line on a refused input
pub data IsDue (command : Option Command) (left left' : Option (List ℕ)) (script : Option Script) (book : Option Book) (text : List ℕ) : Type 0 where
  is_usage_line : is_usage command ≡ true → text ≡ usage_line → IsDue command left left' script book text
  is_told : runs command ≡ true → (s : Script) → (b : Book) → script ≡ Some s → book ≡ Some b → text ≡ told_text command s b
      → IsDue command left left' script book text
  is_script : hands_back command ≡ true → (s : Script) → script ≡ Some s → text ≡ script_text s → IsDue command left left' script book text
  is_refusal : reads command ≡ true → script ≡ None → Refuses left left' text → IsDue command left left' script book text

-- the sink failed, and a front of the text was written
pub record IsCut (taken taken' : Option (List ℕ)) (faults faults' : ℕ) (text : List ℕ) : Type 0 where
  pub part : WrotePart taken taken' text
  pub rose : Rose faults faults'

-- the sink failed, and a front of the text that was due was written
pub record IsCutOff (command : Option Command) (left left' taken taken' : Option (List ℕ)) (faults faults' : ℕ) (script : Option Script) (book : Option Book) : Type 0 where
  pub text : List ℕ
  pub due : IsDue command left left' script book text
  pub cut : IsCut taken taken' faults faults' text
