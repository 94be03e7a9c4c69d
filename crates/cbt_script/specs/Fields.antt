-- The fields of a line, each with what is left behind it.
use Rattle.std.specs.Prelude.{ℕ, Bool, ◌==◌, ◌&&◌, not, is_none, nat_le, if◌then◌else◌, List, length, Option, Some, None, Result, Ok, Err, codes, bytes_eq}
use Rattle.cbt_base.specs.Ids.{id_fault}
use Rattle.cbt_json.specs.declared.fault.JsonFault.{JsonFault}
use Rattle.cbt_json.specs.declared.fault.JsonFault.TheVariants as json_fault
use Rattle.cbt_json.specs.declared.tree.Tree.{Tree}
use Rattle.cbt_json.specs.Reading.{json_of}
use Rattle.cbt_json.specs.Rules.{max_body_bytes, max_body_levels}
use Rattle.cbt_json.specs.Trees.{text_of, levels}
use Rattle.cbt_lex.specs.Decimals.{number_of}
use Rattle.cbt_lex.specs.Names.{is_name}
use Rattle.cbt_lex.specs.Words.{word_and_rest}
use Rattle.cbt_script.specs.declared.cause.Cause.{Cause}
use Rattle.cbt_script.specs.declared.cause.Cause.TheVariants.{Form, Name, Id, Number, NotJson, NotWhole, Big}
use Rattle.cbt_script.specs.Causes.{◌>>=◌, require}

-- the next word
abbrev pub word_field : List ℕ → Result (List ℕ × List ℕ) Cause
word_field text = if length text == 0 then Err Form else Ok (word_and_rest text)

-- a name
unfoldable pub name_field : List ℕ → Result (List ℕ × List ℕ) Cause
name_field text = do
  word ← word_field text
  _ ← require (is_name word.0) Name
  Ok word

-- a name that an actor may have
unfoldable pub actor_field : List ℕ → Result (List ℕ × List ℕ) Cause
actor_field text = do
  name ← name_field text
  _ ← require (not (bytes_eq name.0 (codes "sweep"))) Name
  Ok name

abbrev pub within : ℕ → ℕ → Option ℕ → Result ℕ Cause
within least most (Some n) = if nat_le least n && nat_le n most then Ok n else Err Number
within least most None = Err Number

-- the number within two limits that a word is
abbrev pub number_in : ℕ → ℕ → List ℕ → Result ℕ Cause
number_in least most word = within least most (number_of word)

-- a number within two limits
unfoldable pub number_field : ℕ → ℕ → List ℕ → Result (ℕ × List ℕ) Cause
number_field least most text = do
  word ← word_field text
  n ← number_in least most word.0
  Ok (n, word.1)

-- a number from 1 behind a word of its own, where that word stands next, and otherwise a default
abbrev pub option_field : List ℕ → ℕ → ℕ → List ℕ → Result (ℕ × List ℕ) Cause
option_field name most default text =
    if bytes_eq (word_and_rest text).0 name then number_field 1 most (word_and_rest text).1 else Ok (default, text)

-- a word that has to stand next
unfoldable pub fixed_field : List ℕ → List ℕ → Result (List ℕ) Cause
fixed_field wanted text = do
  word ← word_field text
  _ ← require (bytes_eq word.0 wanted) Form
  Ok word.1

-- the end of the line
abbrev pub end_field : List ℕ → Result (Unit {0}) Cause
end_field text = require (length text == 0) Form

-- a document's identifier
unfoldable pub id_field : List ℕ → Result (List ℕ × List ℕ) Cause
id_field text = do
  word ← word_field text
  _ ← require (is_none (id_fault word.0)) Id
  Ok word

-- whether a value may be a body
abbrev pub fits_body : Tree → Bool
fits_body tree = nat_le (length (text_of tree)) max_body_bytes && nat_le (levels tree) max_body_levels

abbrev pub fit_body : Result Tree JsonFault → Result Tree Cause
fit_body (Ok tree) = if fits_body tree then Ok tree else Err Big
fit_body (Err json_fault.NotWhole) = Err NotWhole
fit_body (Err fault) = Err NotJson

-- a JSON that may be a body: the rest of the line
abbrev pub body_field : List ℕ → Result Tree Cause
body_field text = if length text == 0 then Err Form else fit_body (json_of text)
