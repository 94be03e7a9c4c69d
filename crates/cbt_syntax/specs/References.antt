-- References: a name, and a path into what is bound to it.
use Rattle.std.specs.Prelude.{ℕ, ◌+◌, Bool, false, not, ◌==◌, ◌&&◌, ◌||◌, nat_le, if◌then◌else◌, List, [], ◌∷◌, take, drop, Option, Some, None, Result, Ok, Err}
use Rattle.std.specs.List.{prefix_len}
use Rattle.cbt_lex.specs.Names.{is_name, is_name_byte}
use Rattle.cbt_subdoc.specs.declared.path.Part.{Part}
use Rattle.cbt_subdoc.specs.declared.path.PathFault.{PathFault}
use Rattle.cbt_subdoc.specs.Paths.{path_of}
use Rattle.cbt_syntax.specs.declared.fault.SyntaxFault.TheVariants.{Malformed, Unbound}
use Rattle.cbt_syntax.specs.declared.references.Within.{Within}
use Rattle.cbt_syntax.specs.declared.references.Within.TheVariants.{Steps, Ticks, Brackets}
use Rattle.cbt_syntax.specs.Readings.{Outcome, Read, ◌>>=◌}

-- a byte of a word: an ASCII letter, a digit or an underscore
abbrev pub is_word_byte : ℕ → Bool
is_word_byte b = is_name_byte b || (nat_le 65 b && nat_le b 90)

-- ---- how far the text of a path goes

-- a byte with which the text of a path does not go on: outside of backticks and brackets all but dots, words, and
-- what opens those
abbrev pub stops : Within → ℕ → Bool
stops Steps b = not ((b == 46) || (b == 91) || (b == 96) || is_word_byte b)
stops Ticks b = false
stops Brackets b = false

-- where the next byte stands
abbrev pub led_to : Within → ℕ → Within
led_to Steps b = if b == 96 then Ticks else (if b == 91 then Brackets else Steps)
led_to Ticks b = if b == 96 then Steps else Ticks
led_to Brackets b = if b == 93 then Steps else Brackets

-- the place of the first byte, from `at` on, with which the text of a path does not go on
abbrev pub path_end : ℕ → Within → List ℕ → ℕ
path_end at within [] = at
path_end at within (b ∷ bs) = if stops within b then at else path_end (at + 1) (led_to within b) bs

-- ---- the path

-- each fault of a path is a fault of form
abbrev pub as_path : Result (List Part) PathFault → Outcome (Option (List Part))
as_path (Ok parts) = Ok (Some parts)
as_path (Err fault) = Err Malformed

-- a path whose first part is a name, behind its dot
abbrev pub named_path : List ℕ → Outcome (Option (List Part))
named_path [] = Err Malformed
named_path (b ∷ bs) = if b == 91 then Err Malformed else as_path (path_of (b ∷ bs))

-- the path that the text behind a name is; it begins with a place or a dot
abbrev pub path_in : List ℕ → Outcome (Option (List Part))
path_in [] = Ok None
path_in (b ∷ bs) =
    if b == 46 then named_path bs
    else (if b == 91 then as_path (path_of (b ∷ bs))
    else Err Malformed)

-- a path at the front, or none
abbrev pub path_at : List ℕ → Read (Option (List Part))
path_at text = do
  path ← path_in (take (path_end 0 Steps text) text)
  Ok (path, drop (path_end 0 Steps text) text)

-- ---- names

-- a name of so many bytes, which has to be bound
abbrev pub name_of : (List ℕ → Bool) → ℕ → List ℕ → Read (List ℕ)
name_of bound len text =
    if not (is_name (take len text)) then Err Malformed
    else (if bound (take len text) then Ok (take len text, drop len text)
    else Err Unbound)

-- the name at the front: all bytes that may stand in one
abbrev pub name_at : (List ℕ → Bool) → List ℕ → Read (List ℕ)
name_at bound text = name_of bound (prefix_len is_name_byte text) text
