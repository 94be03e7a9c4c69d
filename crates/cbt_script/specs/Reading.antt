-- Which bytes are a script, which script they are, and for others the first bad line and its cause.
use Rattle.std.specs.Prelude.{◌≡◌, ℕ, ◌+◌, Bool, true, ◌==◌, if◌then◌else◌, List, [], ◌∷◌, Option, Some, None, Result, Ok, Err}
use Rattle.std.specs.Str.{is_utf8}
use Rattle.cbt_lex.specs.Lines.{trimmed, lines_of}
use Rattle.cbt_lex.specs.Words.{word_and_rest}
use Rattle.cbt_script.specs.declared.cause.Cause.{Cause}
use Rattle.cbt_script.specs.declared.cause.Cause.TheVariants.{NotUtf8, Word, Unended}
use Rattle.cbt_script.specs.declared.cause.ScriptFault.{ScriptFault}
use Rattle.cbt_script.specs.declared.cause.ScriptFault.TheVariants.{Bad, NoMemory}
use Rattle.cbt_script.specs.declared.draft.Draft.{Draft}
use Rattle.cbt_script.specs.declared.keywords.Keyword.{Keyword}
use Rattle.cbt_script.specs.declared.script.Script.{Script}
use Rattle.cbt_script.specs.Causes.{◌>>=◌}
use Rattle.cbt_script.specs.Clients.{is_inside}
use Rattle.cbt_script.specs.Drafts.{start, take_keyword, script_from}
use Rattle.cbt_script.specs.Keywords.{keyword_of}

-- the text that a line's bytes are
abbrev pub text_field : List ℕ → Result (List ℕ) Cause
text_field line = if is_utf8 line then Ok line else Err NotUtf8

-- empty lines and comments are passed over
abbrev pub is_passed_over : List ℕ → Bool
is_passed_over [] = true
is_passed_over (b ∷ bs) = b == 35

abbrev pub by_keyword : Option Keyword → Draft → List ℕ → Result Draft Cause
by_keyword (Some keyword) d rest = take_keyword keyword d rest
by_keyword None d rest = Err Word

-- what a line without the spaces around it makes of a draft
abbrev pub taken : Draft → List ℕ → Result Draft Cause
taken d text = if is_passed_over text then Ok d else by_keyword (keyword_of (word_and_rest text).0) d (word_and_rest text).1

-- what a line makes of a draft
unfoldable pub line_step : Draft → List ℕ → Result Draft Cause
line_step d line = do
  text ← text_field (trimmed line)
  taken d text

-- a cause, at the line with this number
abbrev pub at_line : {A : Type 0} → ℕ → Result A Cause → Result A ScriptFault
at_line n (Ok x) = Ok x
at_line n (Err why) = Err (Bad (record { line = n; why = why }))

-- the script behind the last line, where no transaction is under way; the next line has this number
abbrev pub finished : ℕ → Draft → Result Script ScriptFault
finished n d = if is_inside d.clients then Err (Bad (record { line = n; why = Unended })) else Ok (script_from d)

abbrev pub read_on : {A B : Type 0} → (A → Result B ScriptFault) → Result A ScriptFault → Result B ScriptFault
read_on next (Ok x) = next x
read_on next (Err fault) = Err fault

-- lines from the n-th on
abbrev pub read_lines : ℕ → Draft → List (List ℕ) → Result Script ScriptFault
read_lines n d [] = finished n d
read_lines n d (line ∷ lines) = read_on (λ e. read_lines (n + 1) e lines) (at_line n (line_step d line))

-- the script that bytes are, or the first bad line and its cause
unfoldable pub script_of : List ℕ → Result Script ScriptFault
script_of bytes = read_lines 1 start (lines_of bytes)

-- a draft that was changed in place is what the definition makes of it, unless memory ran out
abbrev pub Ends : Result (Unit {0}) ScriptFault → Draft → Result Draft ScriptFault → Type 0
Ends (Ok x) new read = read ≡ Ok new
Ends (Err (Bad bad)) new read = read ≡ Err (Bad bad)
Ends (Err NoMemory) new read = Unit {0}
