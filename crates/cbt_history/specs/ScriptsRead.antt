-- Which script a text is the canonical one of, and for others the first line with which no such text goes on.
use Rattle.std.specs.Prelude.{◌≡◌, ℕ, ◌+◌, Bool, if◌then◌else◌, List, [], ◌∷◌, ◌++◌, Option, Some, None, is_some, Result, Ok, Err, codes, bytes_eq}
use Rattle.std.specs.List.{list_any}
use Rattle.cbt_lex.specs.Pieces.{pieces}
use Rattle.cbt_script.specs.Printed.{script_text}
use Rattle.cbt_script.specs.Reading.{script_of}
use Rattle.cbt_script.specs.Rules.{IsScript}
use Rattle.cbt_script.specs.declared.cause.ScriptFault.{ScriptFault}
use Rattle.cbt_script.specs.declared.script.Script.{Script}
use Rattle.cbt_history.specs.declared.faults.HistoryFault.{HistoryFault}
use Rattle.cbt_history.specs.declared.faults.HistoryFault.TheVariants.{BadLine}

abbrev pub if_same : List ℕ → Result Script ScriptFault → Option Script
if_same text (Ok s) = if bytes_eq text (script_text s) then Some s else None
if_same text (Err fault) = None

-- the script whose canonical text this is
unfoldable pub canonical : List ℕ → Option Script
canonical text = if_same text (script_of text)

-- what the first lines of a canonical text may need behind them to be one themselves: nothing, the end of the transaction under way,
-- or the settings that each script has
abbrev pub closings : List (List ℕ)
closings = [] ∷ codes "commit\n" ∷ codes "lapse 1\n" ∷ codes "tries 1\nlapse 1\n" ∷ codes "expiry 1\ntries 1\nlapse 1\n"
    ∷ codes "atrs 1\nexpiry 1\ntries 1\nlapse 1\n" ∷ []

-- some canonical text begins with these lines
unfoldable pub goes_on : List ℕ → Bool
goes_on text = list_any (λ closing. is_some (canonical (text ++ closing))) closings

-- the canonical text of a script that keeps the rules begins with this text
pub record BeginsScript (text : List ℕ) : Type 0 where
  pub script : Script
  pub is : IsScript script
  pub behind : List ℕ
  pub whole : script_text script ≡ text ++ behind

-- the first line, from the n-th on and behind these, with which no canonical text goes on, or the one behind all of them; behind
-- the last line feed there is no line
abbrev pub bad_line : ℕ → List ℕ → List (List ℕ) → ℕ
bad_line n before (line ∷ next ∷ more) =
    if goes_on (before ++ (line ++ 10 ∷ [])) then bad_line (n + 1) (before ++ (line ++ 10 ∷ [])) (next ∷ more) else n
bad_line n before _ = n

abbrev pub or_bad_line : List ℕ → Option Script → Result Script HistoryFault
or_bad_line text (Some s) = Ok s
or_bad_line text None = Err (BadLine (bad_line 2 [] (pieces 10 text)))

-- the script whose canonical text this is; its first line is the second of the history text
abbrev pub script_in : List ℕ → Result Script HistoryFault
script_in text = or_bad_line text (canonical text)
