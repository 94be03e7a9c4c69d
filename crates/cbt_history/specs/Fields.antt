-- The fields of an event's line.
use Rattle.std.specs.Prelude.{ℕ, ◌^◌, ◌==◌, ◌&&◌, nat_lt, nat_le, is_none, if◌then◌else◌, List, [], ◌∷◌, Option, Some, None, Result, Ok, Err, bytes_eq}
use Rattle.std.specs.Int.{from_be_bytes, w128}
use Rattle.std.specs.List.{before_first, after_first}
use Rattle.uuid.specs.Text.{parsed}
use Rattle.cbt_base.specs.Ids.{id_fault, id_text}
use Rattle.cbt_json.specs.declared.fault.JsonFault.{JsonFault}
use Rattle.cbt_json.specs.declared.tree.Tree.{Tree}
use Rattle.cbt_json.specs.Reading.{json_of}
use Rattle.cbt_json.specs.Trees.{text_of}
use Rattle.cbt_lex.specs.Decimals.{number_of}
use Rattle.cbt_lex.specs.Words.{has_space}
use Rattle.cbt_model.specs.Bodies.{body_fits_of}
use Rattle.cbt_history.specs.Readings.{◌>>=◌, require}

-- the word before the next space, and what stands behind that
abbrev pub word_field : List ℕ → Option (List ℕ × List ℕ)
word_field text =
    if has_space text then Some (before_first (λ b. b == 32) text, after_first (λ b. b == 32) text) else None

-- a byte in front of what stands before a cut, or the cut at it where there is none behind
abbrev pub cut_here : ℕ → ℕ → List ℕ → Option (List ℕ × List ℕ) → Option (List ℕ × List ℕ)
cut_here c b bs (Some cut) = Some (b ∷ cut.0, cut.1)
cut_here c b bs None = if b == c then Some ([], bs) else None

-- the text before the last byte c, and behind it
abbrev pub last_cut : ℕ → List ℕ → Option (List ℕ × List ℕ)
last_cut c [] = None
last_cut c (b ∷ bs) = cut_here c b bs (last_cut c bs)

-- ---- numbers

abbrev pub up_to : ℕ → Option ℕ → Option ℕ
up_to most (Some n) = if nat_le n most then Some n else None
up_to most None = None

-- the number up to a limit that a word is
abbrev pub number_in : ℕ → List ℕ → Option ℕ
number_in most word = up_to most (number_of word)

-- a number up to a limit, before the next space
unfoldable pub number_field : ℕ → List ℕ → Option (ℕ × List ℕ)
number_field most text = do
  word ← word_field text
  n ← number_in most word.0
  Some (n, word.1)

-- ---- names

-- a number of 128 bits whose text this is
abbrev pub with_text : List ℕ → Option (List ℕ) → Option ℕ
with_text text (Some bytes) =
    if nat_lt (from_be_bytes w128 bytes) (2 ^ 128) && bytes_eq text (id_text (from_be_bytes w128 bytes)) then Some (from_be_bytes w128 bytes) else None
with_text text None = None

-- the identifier that has this text
abbrev pub id_in : List ℕ → Option ℕ
id_in word = with_text word (parsed word)

-- an identifier, before the next space
unfoldable pub id_field : List ℕ → Option (ℕ × List ℕ)
id_field text = do
  word ← word_field text
  id ← id_in word.0
  Some (id, word.1)

-- the document that has this identifier
abbrev pub doc_in : List ℕ → Option (List ℕ)
doc_in word = if is_none (id_fault word) then Some word else None

-- a document, before the next space
unfoldable pub doc_field : List ℕ → Option (List ℕ × List ℕ)
doc_field text = do
  word ← word_field text
  doc ← doc_in word.0
  Some (doc, word.1)

-- ---- JSON

abbrev pub with_canonical_text : List ℕ → Result Tree JsonFault → Option Tree
with_canonical_text text (Ok tree) = if bytes_eq (text_of tree) text then Some tree else None
with_canonical_text text (Err fault) = None

-- the JSON whose canonical text this is
abbrev pub json_in : List ℕ → Option Tree
json_in text = with_canonical_text text (json_of text)

-- a JSON that may be a body
unfoldable pub body_in : List ℕ → Option Tree
body_in text = do
  body ← json_in text
  _ ← require (body_fits_of body)
  Some body
